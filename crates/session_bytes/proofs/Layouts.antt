-- The layout piece by piece: how long each is, and that pieces written one after the other are written as one.
use Prim.Native.Nat.{ℕ, suc, ◌+◌, ◌*◌, ◌%◌, ◌≤◌, ◌<◌}
use mathlib.Core.Path.{◌≡◌, refl, sym, ◌∙◌}
use mathlib.Core.List.{List, [], ◌∷◌, ◌++◌}
use native.Mathlib.Omega.{arith}
use native.Mathlib.Numerals.{add-one}
use lib.ListN.{length, get_or, drop, length-append, drop_of_length-le}
use lib.Seq.{drop-cons}
use Rattle.laws.specs.Digits.{low_first}
use Rattle.laws.specs.Overwrite.{over}
use Rattle.laws.proofs.Numerals.{length_low}
use Rattle.laws.proofs.Overwriting.{over_next, over_nil}
use Rattle.laws.proofs.Cases.{if_eq, if_ne}
use Rattle.session.specs.Session.{no_level}
use Rattle.session.specs.declared.session.Level.{Level}
use Rattle.session.specs.declared.session.Mode.{Mode}
use Rattle.session.specs.declared.session.Mode.TheVariants as mode
use Rattle.session.specs.declared.session.Session.{Session}
use Rattle.session_bytes.specs.Numbers.{numbers_bytes}
use Rattle.session_bytes.specs.Layout.{level_bytes, levels_bytes, mode_bytes, shown_bytes, doing_bytes, session_bytes, session_written, mode_by}

-- ---- one piece after the other

pub joined : (d : List ℕ) {t u : List ℕ} (at q : ℕ) (a b : List ℕ) → t ≡ over d at a → u ≡ over t q b → q ≡ at + length a → u ≡ over d at (a ++ b)
joined d {t} {u} at q a b e f h = f ∙ rw (e, h) (over_next d at a b)

-- ---- lengths

pub length_level : (l : Level) → length (level_bytes l) ≡ 10
unfolding level_bytes
length_level l = omega (arith, length-append (low_first 8 l.table.0) (l.cursor ∷ l.first ∷ []), length_low 8 l.table.0)

pub length_levels : (ls : List Level) → length (levels_bytes ls) ≡ 10 * length ls
unfolding levels_bytes
length_levels [] = refl
length_levels (l ∷ ls) = omega (arith, length-append (level_bytes l) (levels_bytes ls), length_level l, length_levels ls)

pub length_mode : (m : Mode) → length (mode_bytes m) ≡ 9
unfolding mode_bytes
length_mode mode.Browsing = omega (arith, length_low 8 0)
length_mode (mode.Visit p) = omega (arith, length_low 8 p.0)
length_mode (mode.Password n) = omega (arith, length_low 8 n)

pub length_numbers : (w : ℕ) (xs : List ℕ) → length (numbers_bytes w xs) ≡ w * length xs
unfolding numbers_bytes
length_numbers w [] = omega arith
length_numbers w (x ∷ xs) =
    length-append (low_first w x) (numbers_bytes w xs) ∙ rw (length_low w x, length_numbers w xs) (omega arith)

-- ---- levels, from the top on

module _ (ls : List Level) (d : List ℕ) (i p : ℕ) where
  pub levels_turn : (t : List ℕ) (q : ℕ) → i < length ls → q ≡ p + 10 → t ≡ over d p (level_bytes (get_or ls i no_level))
      → over t q (levels_bytes (drop (i + 1) ls)) ≡ over d p (levels_bytes (drop i ls))
  unfolding levels_bytes
  levels_turn t q h e f =
      rw (drop-cons ls i no_level h, add-one) (joined d p q (level_bytes (get_or ls i no_level)) (levels_bytes (drop (suc i) ls)) f refl (omega (arith, length_level (get_or ls i no_level))))

  pub levels_done : length ls ≤ i → over d p (levels_bytes (drop i ls)) ≡ d
  unfolding levels_bytes
  levels_done h = rw (drop_of_length-le ls {i = i} h) (over_nil d p)

-- ---- the whole

module _ (s : Session) where
  pub length_shown : length s.above ≡ 7 → length (shown_bytes s) ≡ 84
  unfolding shown_bytes
  length_shown h =
      let tail = level_bytes s.here ++ (s.idle ∷ []) in
      omega (arith, length-append (s.columns ∷ s.lines ∷ s.outer ∷ []) (levels_bytes s.above ++ tail), length-append (levels_bytes s.above) tail, length-append (level_bytes s.here) (s.idle ∷ []), length_levels s.above, length_level s.here)

  pub length_doing : length s.work.cells ≡ 32 → length s.typed ≡ 8 → length (doing_bytes s) ≡ 146
  unfolding doing_bytes
  length_doing h k =
      let last = numbers_bytes 4 s.work.cells ++ numbers_bytes 1 s.typed in
      omega (arith, length-append (mode_bytes s.mode) ((s.work.at ∷ []) ++ last), length-append (s.work.at ∷ []) last, length-append (numbers_bytes 4 s.work.cells) (numbers_bytes 1 s.typed), length_mode s.mode, length_numbers 4 s.work.cells, length_numbers 1 s.typed)

  pub length_session : length s.above ≡ 7 → length s.work.cells ≡ 32 → length s.typed ≡ 8 → length (session_bytes s) ≡ 230
  unfolding session_bytes
  length_session a c t = omega (arith, length-append (shown_bytes s) (doing_bytes s), length_shown a, length_doing c t)

-- bytes of a session's length are all written
pub written : (s : Session) (bs t : List ℕ) → length bs ≡ 230 → t ≡ session_written s bs → t ≡ session_bytes s
unfolding session_written
written s bs t h e = e ∙ if_eq _ 230 _ _ h

-- ---- a mode by its number

module _ (b tag x y : ℕ) (e : b ≡ tag) (f : x ≡ y) where
  pub mode_visit : b ≡ 1 → mode.Visit (record { 0 = x }) ≡ mode_by tag y
  unfolding mode_by
  mode_visit k = rw f (sym (if_eq tag 1 _ _ (sym e ∙ k)))

  pub mode_password : b ≡ 2 → mode.Password (x % 256) ≡ mode_by tag y
  unfolding mode_by
  mode_password k = rw f (sym (if_ne tag 1 _ _ (λ z. omega arith) ∙ if_eq tag 2 _ _ (sym e ∙ k)))

  pub mode_other : (b ≡ 1 → ⊥) → (b ≡ 2 → ⊥) → mode.Browsing ≡ mode_by tag y
  unfolding mode_by
  mode_other k l = sym (if_ne tag 1 _ _ (λ z. k (e ∙ z)) ∙ if_ne tag 2 _ _ (λ z. l (e ∙ z)))
