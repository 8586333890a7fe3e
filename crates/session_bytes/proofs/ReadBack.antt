-- Bytes of a session are read back as that session. Whatever is read at a place is read alike after a list of so many bytes, so that each
-- piece is read as if it stood first.
use Prim.Native.Nat.{ℕ, zero, suc, ◌+◌, ◌/◌, ◌%◌, ◌^◌, ◌<◌}
use mathlib.Core.Path.{◌≡◌, refl, ◌∙◌}
use mathlib.Core.List.{List, [], ◌∷◌, ◌++◌, append_assoc, append-nil}
use native.Mathlib.Nat.{pow-suc, div-lt_iff_lt-mul, mod-eq_of_lt}
use native.Mathlib.Omega.{arith}
use lib.ListN.{length}
use lib.Seq.{get_or-append-add}
use Rattle.laws.specs.Bytes.{byte_at}
use Rattle.laws.specs.Digits.{digits_of, low_first}
use Rattle.laws.proofs.Cases.{if_eq, if_ne}
use Rattle.laws.proofs.Numerals.{low_suc, length_low}
use Rattle.session.specs.declared.session.Level.{Level}
use Rattle.session.specs.declared.session.Mode.{Mode}
use Rattle.session.specs.declared.session.Mode.TheVariants as mode
use Rattle.session.specs.declared.session.Session.{Session}
use Rattle.session_bytes.specs.Numbers.{number_at, numbers_bytes, numbers_from}
use Rattle.session_bytes.specs.Layout.{level_bytes, levels_bytes, mode_bytes, shown_bytes, doing_bytes, session_bytes, level_from, levels_from, mode_by, session_in, session_from}
use Rattle.session_bytes.specs.Sized.{Place, Places, Numbers, ModeSized, Sized}
use Rattle.session_bytes.proofs.Layouts.{length_level, length_levels, length_mode, length_numbers, length_session}

-- ---- reading after a list

abbrev Shifts : {A : Type 0} → (ℕ → List ℕ → A) → Type 0
Shifts f = (a b : List ℕ) (k at : ℕ) → length a ≡ k → f (k + at) (a ++ b) ≡ f at b

byte_shifts : Shifts (λ (at : ℕ) (bs : List ℕ). byte_at bs at)
byte_shifts a b k at h = rw (← h) (get_or-append-add a b at 0)

number_shifts : (n : ℕ) → Shifts (number_at n)
unfolding number_at
number_shifts zero a b k at h = refl
number_shifts (suc n) a b k at h =
    let e : k + at + 1 ≡ k + (at + 1) = omega arith in
    rw (byte_shifts a b k at h, e, number_shifts n a b k (at + 1) h)

level_shifts : Shifts level_from
unfolding level_from
level_shifts a b k at h =
    let e : k + at + 8 ≡ k + (at + 8) = omega arith in
    let f : k + at + 9 ≡ k + (at + 9) = omega arith in
    rw (number_shifts 8 a b k at h, e, f, byte_shifts a b k (at + 8) h, byte_shifts a b k (at + 9) h)

levels_shift : (n : ℕ) → Shifts (levels_from n)
unfolding levels_from
levels_shift zero a b k at h = refl
levels_shift (suc n) a b k at h =
    let e : k + at + 10 ≡ k + (at + 10) = omega arith in
    rw (level_shifts a b k at h, e, levels_shift n a b k (at + 10) h)

numbers_shift : (w n : ℕ) → Shifts (numbers_from w n)
unfolding numbers_from
numbers_shift w zero a b k at h = refl
numbers_shift w (suc n) a b k at h =
    let e : k + at + w ≡ k + (at + w) = omega arith in
    rw (number_shifts w a b k at h, e, numbers_shift w n a b k (at + w) h)

-- ---- each piece, where it is first

number_back : (n x : ℕ) (b : List ℕ) → x < 256 ^ n → number_at n 0 (low_first n x ++ b) ≡ x
unfolding number_at low_first digits_of
number_back zero x b h = omega arith
number_back (suc n) x b h =
    let pos : 0 < 256 = omega arith in
    let below : x / 256 < 256 ^ n = (div-lt_iff_lt-mul pos).1 (rw pow-suc at h) in
    rw (low_suc n x, number_shifts n (x % 256 ∷ []) (low_first n (x / 256) ++ b) 1 0 refl, number_back n (x / 256) b below) (omega arith)

level_back : (l : Level) (b : List ℕ) → Place l.table.0 → level_from 0 (level_bytes l ++ b) ≡ l
unfolding level_from level_bytes
level_back l b h =
    let low = low_first 8 l.table.0 in
    let two = l.cursor ∷ l.first ∷ [] in
    rw (append_assoc low two b, number_back 8 l.table.0 (two ++ b) h, byte_shifts low (two ++ b) 8 0 (length_low 8 l.table.0), byte_shifts low (two ++ b) 8 1 (length_low 8 l.table.0))

levels_back : {ls : List Level} (b : List ℕ) → Places ls → levels_from (length ls) 0 (levels_bytes ls ++ b) ≡ ls
unfolding levels_from levels_bytes
levels_back b Places.none = refl
levels_back b (Places.more {l = l} {ls = ls} p ps) =
    rw (append_assoc (level_bytes l) (levels_bytes ls) b, level_back l (levels_bytes ls ++ b) p, levels_shift (length ls) (level_bytes l) (levels_bytes ls ++ b) 10 0 (length_level l), levels_back b ps)

numbers_back : (w : ℕ) {xs : List ℕ} (b : List ℕ) → Numbers w xs → numbers_from w (length xs) 0 (numbers_bytes w xs ++ b) ≡ xs
unfolding numbers_from numbers_bytes
numbers_back w b Numbers.none = refl
numbers_back w b (Numbers.more {x = x} {xs = xs} p ps) =
    let z : 0 + w ≡ w + 0 = omega arith in
    rw (append_assoc (low_first w x) (numbers_bytes w xs) b, number_back w x (numbers_bytes w xs ++ b) p, z, numbers_shift w (length xs) (low_first w x) (numbers_bytes w xs ++ b) w 0 (length_low w x), numbers_back w b ps)

mode_back : (m : Mode) (b : List ℕ) → ModeSized m → mode_by (byte_at (mode_bytes m ++ b) 0) (number_at 8 1 (mode_bytes m ++ b)) ≡ m
unfolding mode_bytes mode_by
mode_back mode.Browsing b h = if_ne 0 1 _ _ (λ z. omega arith) ∙ if_ne 0 2 _ _ (λ z. omega arith)
mode_back (mode.Visit p) b h =
    rw (number_shifts 8 (1 ∷ []) (low_first 8 p.0 ++ b) 1 0 refl, number_back 8 p.0 b h) (if_eq 1 1 _ _ refl)
mode_back (mode.Password n) b h =
    let wide : n < 256 ^ 8 = omega arith in
    rw (number_shifts 8 (2 ∷ []) (low_first 8 n ++ b) 1 0 refl, number_back 8 n b wide, mod-eq_of_lt h) (if_ne 2 1 _ _ (λ z. omega arith) ∙ if_eq 2 2 _ _ refl)

-- ---- the whole, piece after piece

module _ (s : Session) where
  -- what is from the cells, from the mode, from the shown table and from the tables above it on
  from_cells : List ℕ
  from_cells = numbers_bytes 4 s.work.cells ++ numbers_bytes 1 s.typed

  from_mode : List ℕ
  from_mode = mode_bytes s.mode ++ (s.work.at ∷ from_cells)

  from_here : List ℕ
  from_here = level_bytes s.here ++ (s.idle ∷ from_mode)

  flat : session_bytes s ≡ s.columns ∷ s.lines ∷ s.outer ∷ (levels_bytes s.above ++ from_here)
  unfolding session_bytes shown_bytes doing_bytes from_here from_mode from_cells
  flat = simp append_assoc

  module _ (z : Sized s) {A : Type 0} (f : ℕ → List ℕ → A) (move : Shifts f) where
    -- what is read of the session's bytes at a place is read of the rest at what is left of the place
    at_above : (at : ℕ) → f (3 + at) (session_bytes s) ≡ f at (levels_bytes s.above ++ from_here)
    at_above at = rw flat (move (s.columns ∷ s.lines ∷ s.outer ∷ []) (levels_bytes s.above ++ from_here) 3 at refl)

    at_here : (at : ℕ) → f (73 + at) (session_bytes s) ≡ f at from_here
    at_here at =
        let e : 73 + at ≡ 3 + (70 + at) = omega arith in
        rw e (at_above (70 + at) ∙ move (levels_bytes s.above) from_here 70 at (omega (arith, length_levels s.above, z.seven)))

    at_idle : (at : ℕ) → f (83 + at) (session_bytes s) ≡ f at (s.idle ∷ from_mode)
    unfolding from_here
    at_idle at =
        let e : 83 + at ≡ 73 + (10 + at) = omega arith in
        rw e (at_here (10 + at) ∙ move (level_bytes s.here) (s.idle ∷ from_mode) 10 at (length_level s.here))

    at_mode : (at : ℕ) → f (84 + at) (session_bytes s) ≡ f at from_mode
    at_mode at =
        let e : 84 + at ≡ 83 + (1 + at) = omega arith in
        rw e (at_idle (1 + at) ∙ move (s.idle ∷ []) from_mode 1 at refl)

    at_chosen : (at : ℕ) → f (93 + at) (session_bytes s) ≡ f at (s.work.at ∷ from_cells)
    unfolding from_mode
    at_chosen at =
        let e : 93 + at ≡ 84 + (9 + at) = omega arith in
        rw e (at_mode (9 + at) ∙ move (mode_bytes s.mode) (s.work.at ∷ from_cells) 9 at (length_mode s.mode))

    at_cells : (at : ℕ) → f (94 + at) (session_bytes s) ≡ f at from_cells
    at_cells at =
        let e : 94 + at ≡ 93 + (1 + at) = omega arith in
        rw e (at_chosen (1 + at) ∙ move (s.work.at ∷ []) from_cells 1 at refl)

    at_typed : (at : ℕ) → f (222 + at) (session_bytes s) ≡ f at (numbers_bytes 1 s.typed)
    unfolding from_cells
    at_typed at =
        let e : 222 + at ≡ 94 + (128 + at) = omega arith in
        rw e (at_cells (128 + at) ∙ move (numbers_bytes 4 s.work.cells) (numbers_bytes 1 s.typed) 128 at (omega (arith, length_numbers 4 s.work.cells, z.thirty_two)))

  module _ (z : Sized s) where
    above_back : levels_from 7 3 (session_bytes s) ≡ s.above
    above_back = at_above z (levels_from 7) (levels_shift 7) 0 ∙ rw (← z.seven) (levels_back from_here z.above)

    here_back : level_from 73 (session_bytes s) ≡ s.here
    unfolding from_here
    here_back = at_here z level_from level_shifts 0 ∙ level_back s.here (s.idle ∷ from_mode) z.here

    mode_read : mode_by (byte_at (session_bytes s) 84) (number_at 8 85 (session_bytes s)) ≡ s.mode
    unfolding from_mode
    mode_read =
        rw (at_mode z (λ (at : ℕ) (bs : List ℕ). byte_at bs at) byte_shifts 0, at_mode z (number_at 8) (number_shifts 8) 1)
        (mode_back s.mode (s.work.at ∷ from_cells) z.mode)

    cells_back : numbers_from 4 32 94 (session_bytes s) ≡ s.work.cells
    unfolding from_cells
    cells_back = at_cells z (numbers_from 4 32) (numbers_shift 4 32) 0 ∙ rw (← z.thirty_two) (numbers_back 4 (numbers_bytes 1 s.typed) z.cells)

    typed_back : numbers_from 1 8 222 (session_bytes s) ≡ s.typed
    typed_back = at_typed z (numbers_from 1 8) (numbers_shift 1 8) 0 ∙ rw (← z.eight, ← append-nil (numbers_bytes 1 s.typed)) (numbers_back 1 [] z.typed)

    all_back : session_in (session_bytes s) ≡ s
    unfolding session_in
    all_back =
        rw (above_back, here_back, mode_read, cells_back, typed_back, at_idle z (λ (at : ℕ) (bs : List ℕ). byte_at bs at) byte_shifts 0, at_chosen z (λ (at : ℕ) (bs : List ℕ). byte_at bs at) byte_shifts 0)
        (rw flat)

    -- the bytes of a session are that session
    pub read_back : session_from (session_bytes s) ≡ s
    unfolding session_from
    read_back = if_eq _ 230 _ _ (length_session s z.seven z.thirty_two z.eight) ∙ all_back
