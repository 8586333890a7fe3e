-- One turn of each loop over texts, digits, items and lines, and the ways out of it; over variables, so that a loop's proof cites one line.
use Prim.Native.Nat.{ℕ, zero, suc, ◌+◌, ◌-◌, ◌*◌, ◌≤◌, ◌<◌, max}
use mathlib.Core.Path.{◌≡◌, refl, sym, ◌∙◌}
use mathlib.Core.Bool.{Bool, true, false}
use mathlib.Core.List.{List, []}
use native.Mathlib.Omega.{arith}
use native.Mathlib.Nat.{zero-mul, one-mul, mul-zero}
use lib.ListN.{length}
use borrow.Author.Tests.{le-leb, lt-leb, leb-true}
use Rattle.laws.specs.Choice.{when◌then◌else◌, ◌and◌, ◌≤?◌}
use Rattle.laws.specs.Bytes.{byte_at, room}
use Rattle.laws.proofs.Cases.{if_true, if_false, if_lt, if_ge, if_le, if_ind}
use Rattle.laws.proofs.Rooms.{room_le, le_room}
use Rattle.cmf.specs.Readers.{run_of, texts_from, all_digits, item_from, text_bytes, tag_bit, options_end, passwords, head_read, head_by, head_at}
use Rattle.cmf.specs.Places.{lines_from, line_from}
use Rattle.cmf.specs.declared.text.Run.{Run}
use Rattle.cmf.specs.declared.head.Head.{Head}

no_room : (len at n : ℕ) → len < at + n → room len at n ≡ false
unfolding room
no_room len at n h = if_ind (λ (t : Bool). t ≡ false) (at ≤? len) (λ e. lt-leb n (len - at) (omega (arith, leb-true at len e))) (λ e. refl)

module _ (im : List ℕ) where
  -- ---- texts

  pub texts_turn : (left end longest : ℕ) → 0 < left → end < length im → end + 1 + byte_at im end ≤ length im
      → texts_from im (left - 1) (end + 1 + byte_at im end) (max longest (byte_at im end)) ≡ texts_from im left end longest
  unfolding texts_from
  texts_turn zero end longest h a b = absurd (omega arith)
  texts_turn (suc n) end longest h a b =
      let e : suc n - 1 ≡ n = omega arith in
      rw e (sym (if_true _ _ (le_room (length im) end 1 (omega arith)) ∙ if_true _ _ (le_room (length im) (end + 1) (byte_at im end) b)))

  -- no length byte, or not all bytes after it
  pub texts_none : (left end longest : ℕ) → 0 < left → length im ≤ end → texts_from im left end longest ≡ run_of false end longest
  unfolding texts_from
  texts_none zero end longest h a = absurd (omega arith)
  texts_none (suc n) end longest h a = if_false _ _ (no_room (length im) end 1 (omega arith))

  pub texts_cut : (left end longest : ℕ) → 0 < left → end < length im → length im < end + 1 + byte_at im end
      → texts_from im left end longest ≡ run_of false end longest
  unfolding texts_from
  texts_cut zero end longest h a b = absurd (omega arith)
  texts_cut (suc n) end longest h a b =
      if_true _ _ (le_room (length im) end 1 (omega arith)) ∙ if_false _ _ (no_room (length im) (end + 1) (byte_at im end) b)

  -- texts that fit end in the image
  pub texts_inside : (n at m : ℕ) → at ≤ length im → (texts_from im n at m).fits ≡ true → (texts_from im n at m).end ≤ length im
  unfolding texts_from
  texts_inside zero at m h = λ e. h
  texts_inside (suc n) at m h =
      if_ind (λ (t : Run). t.fits ≡ true → t.end ≤ length im) (room (length im) at 1)
      (λ a. if_ind (λ (t : Run). t.fits ≡ true → t.end ≤ length im) (room (length im) (at + 1) (byte_at im at))
      (λ b. texts_inside n (at + 1 + byte_at im at) (max m (byte_at im at)) (room_le (length im) (at + 1) (byte_at im at) b))
      (λ b e. h)) (λ a e. h)

  -- ---- digits

  pub digits_turn : (left k : ℕ) → 0 < left → 0x30 ≤ byte_at im k → byte_at im k ≤ 0x39 → all_digits im (left - 1) (k + 1) ≡ all_digits im left k
  unfolding all_digits ◌and◌
  digits_turn zero k h a b = absurd (omega arith)
  digits_turn (suc n) k h a b =
      let e : suc n - 1 ≡ n = omega arith in
      simp (e, le-leb 0x30 (byte_at im k) a, le-leb (byte_at im k) 0x39 b)

  pub digits_low : (left k : ℕ) → 0 < left → byte_at im k < 0x30 → all_digits im left k ≡ false
  unfolding all_digits ◌and◌
  digits_low zero k h a = absurd (omega arith)
  digits_low (suc n) k h a = simp (lt-leb 0x30 (byte_at im k) a)

  pub digits_high : (left k : ℕ) → 0 < left → 0x30 ≤ byte_at im k → 0x39 < byte_at im k → all_digits im left k ≡ false
  unfolding all_digits ◌and◌
  digits_high zero k h a b = absurd (omega arith)
  digits_high (suc n) k h a b = simp (le-leb 0x30 (byte_at im k) a, lt-leb (byte_at im k) 0x39 b)

  -- ---- items

  pub items_turn : (left at : ℕ) → 0 < left → at < length im → item_from im (left - 1) (at + 1 + byte_at im at) ≡ item_from im left at
  unfolding item_from
  items_turn zero at h a = absurd (omega arith)
  items_turn (suc n) at h a =
      let e : suc n - 1 ≡ n = omega arith in
      rw e (sym (if_lt at (length im) _ _ a))

  pub items_out : (left at : ℕ) → length im ≤ at → item_from im left at ≡ at
  unfolding item_from
  items_out zero at a = refl
  items_out (suc n) at a = if_ge at (length im) _ _ a

  -- no text past the image
  pub text_out : (at : ℕ) → length im ≤ at → text_bytes im at ≡ []
  unfolding text_bytes
  text_out at h =
      if_ind (λ (l : List ℕ). l ≡ []) (room (length im) at (1 + byte_at im at))
      (λ e. absurd (omega (arith, room_le (length im) at (1 + byte_at im at) e))) (λ e. refl)

-- a head whose options and password are all there
pub head_whole : (im : List ℕ) (p tag : ℕ) (t : Run) (h : Head) → options_end p tag ≤ length im → t.fits ≡ true → tag_bit 16 tag ≤ tag_bit 8 tag
    → h ≡ head_read im p tag t.end → h ≡ head_by im p tag t
unfolding head_by
head_whole im p tag t h a b d e =
    e ∙ sym (if_le (options_end p tag) (length im) _ _ a ∙ if_true _ _ b ∙ if_le (tag_bit 16 tag) (tag_bit 8 tag) _ _ d)

-- a tag below 16 asks for no password
pub no_password : (tag : ℕ) → tag < 16 → passwords tag ≡ 0
no_password tag h = let z : tag_bit 16 tag ≡ 0 = omega arith in rw z (mul-zero (tag_bit 8 tag))

-- a head without a password, with room for all that options can take
pub head_short : (im : List ℕ) (p : ℕ) → p + 9 ≤ length im → byte_at im p < 16 → head_at im p ≡ head_read im p (byte_at im p) (options_end p (byte_at im p))
unfolding head_at texts_from
head_short im p h t =
    let tag = byte_at im p in
    let e : texts_from im (passwords tag) (options_end p tag) 0 ≡ run_of true (options_end p tag) 0 = rw (no_password tag t) in
    if_lt p (length im) _ _ (omega arith) ∙ if_lt tag 32 _ _ (omega arith)
    ∙ rw e (sym (head_whole im p tag (run_of true (options_end p tag) 0) _ (omega arith) refl (omega arith) refl))

-- a head with a password, all of which is there
pub head_protected : (im : List ℕ) (p : ℕ) → p + 9 ≤ length im → 24 ≤ byte_at im p → byte_at im p < 32
    → (texts_from im 1 (options_end p (byte_at im p)) 0).fits ≡ true
    → head_at im p ≡ head_read im p (byte_at im p) (texts_from im 1 (options_end p (byte_at im p)) 0).end
unfolding head_at
head_protected im p h l u f =
    let tag = byte_at im p in
    let a : tag_bit 8 tag ≡ 1 = omega arith in
    let b : tag_bit 16 tag ≡ 1 = omega arith in
    let n : passwords tag ≡ 1 = rw (a, b) in
    let e : texts_from im (passwords tag) (options_end p tag) 0 ≡ texts_from im 1 (options_end p tag) 0 = rw n in
    if_lt p (length im) _ _ (omega arith) ∙ if_lt tag 32 _ _ u ∙ rw e (sym (head_whole im p tag (texts_from im 1 (options_end p tag) 0) _ (omega arith) f (omega arith) refl))

-- a product of two bits
pub bits_le : (a b : ℕ) → a ≤ 1 → b ≤ 1 → a * b ≤ 1
bits_le zero b h k = rw zero-mul (omega arith)
bits_le (suc zero) b h k = rw one-mul k
bits_le (suc (suc a)) b h k = absurd (omega arith)

-- ---- lines

module _ (im : List ℕ) where
  pub line_turn : (left p q : ℕ) → 0 < left → q ≡ (head_at im p).next.0 → line_from im (left - 1) q ≡ line_from im left p
  unfolding line_from
  line_turn zero p q a e = absurd (omega arith)
  line_turn (suc n) p q a e = let z : suc n - 1 ≡ n = omega arith in rw (z, e)

  -- how many lines are left when n of the hundred are passed
  lines_here : (n p q : ℕ) (last : Bool) → n < 100 → last ≡ (head_at im p).last → q ≡ (head_at im p).next.0
      → length (lines_from im (100 - n) p) ≡ 1 + length (when last then [] else lines_from im (100 - (n + 1)) q)
  unfolding lines_from
  lines_here n p q last a e f =
      let z : 100 - n ≡ suc (100 - (n + 1)) = omega arith in
      rw (z, e, f) (omega arith)

  pub count_last : (n p : ℕ) → n < 100 → true ≡ (head_at im p).last → n + length (lines_from im (100 - n) p) ≡ n + 1
  unfolding when◌then◌else◌
  count_last n p a l = rw (lines_here n p (head_at im p).next.0 true a l refl)

  pub count_next : (n p q : ℕ) → n < 100 → false ≡ (head_at im p).last → q ≡ (head_at im p).next.0
      → n + length (lines_from im (100 - n) p) ≡ n + 1 + length (lines_from im (100 - (n + 1)) q)
  unfolding when◌then◌else◌
  count_next n p q a l e = let h = lines_here n p q false a l e in omega arith

  pub count_done : (n p : ℕ) → 100 ≤ n → n + length (lines_from im (100 - n) p) ≡ n
  unfolding lines_from
  count_done n p a = let z : 100 - n ≡ 0 = omega arith in rw z (omega arith)
