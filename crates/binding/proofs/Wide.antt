-- C hands over numbers of 32 bits, and `handset` takes bytes: a number above 255 goes as 255. What is answered stays the same, since no test
-- of an event or of a shape tells 255 from a number above it, and what passes the tests is small.
use Prim.Native.Nat.{ℕ, ◌≤◌, ◌<◌, min}
use mathlib.Core.Path.{◌≡◌, refl, sym, ◌∙◌}
use mathlib.Core.List.{List}
use native.Mathlib.Nat.{min-eq_left, min-eq_right}
use native.Mathlib.Omega.{arith}
use lib.ListN.{length}
use borrow.Author.Tests.{le-leb, lt-leb, leb-true, leb-false, eqb-true, eqb-false}
use Rattle.laws.specs.Choice.{when◌then◌else◌, ◌=?◌, ◌≤?◌}
use Rattle.laws.proofs.Cases.{by_test, if_false, and_l, and_r}
use Rattle.session.specs.Session.{opened, closed}
use Rattle.session.specs.Fits.{shape_fits}
use Rattle.session.specs.declared.session.Session.{Session}
use Rattle.session.specs.declared.answer.Stepped.{Stepped}
use Rattle.handset.specs.Refusals.{◌before◌}
use Rattle.handset.specs.Open.{open_refusal, open_answer, open_sheet}
use Rattle.handset.specs.Event.{event_refusal, event_step, event_sheet}
use Rattle.handset.specs.declared.open.Opened.{Opened}
use Rattle.journal.specs.Sitting.{begun_with}
use Rattle.handset.proofs.Ordering.{none_before, none_unless}
use Rattle.handset.proofs.Stepping.{event_granted, refused_step, refused_sheet}

-- ---- tests of a cut number

module _ (m n : ℕ) where
  -- an end of a range below 255 tells no cut number from the number
  at_least : m ≤ 255 → (m ≤? min n 255) ≡ (m ≤? n)
  at_least h =
      by_test (n ≤? 255)
      (λ e. rw (min-eq_left (leb-true n 255 e)))
      (λ e. let k = leb-false n 255 e in rw (min-eq_right {n = 255} {m = n} (omega arith), le-leb m 255 h, le-leb m n (omega arith)))

  at_most : m < 255 → (min n 255 ≤? m) ≡ (n ≤? m)
  at_most h =
      by_test (n ≤? 255)
      (λ e. rw (min-eq_left (leb-true n 255 e)))
      (λ e. let k = leb-false n 255 e in rw (min-eq_right {n = 255} {m = n} (omega arith), lt-leb 255 m h, lt-leb n m (omega arith)))

-- ---- Event, which gets b for e

module _ (im sheet : List ℕ) (s : Session) (e b : ℕ) (p : b ≡ min e 255) where
  -- all events above 16 are refused alike
  refusal_wide : event_refusal im (length sheet) s b ≡ event_refusal im (length sheet) s e
  unfolding event_refusal
  refusal_wide = rw (p, at_most 16 e (omega arith))

  -- and an event that is not refused is a byte
  event_small : event_refusal im (length sheet) s e ≡ 0 → b ≡ e
  event_small z = p ∙ min-eq_left (omega (arith, (event_granted im (length sheet) s e z).known))

  -- what Event ensures of the byte, of the number
  pub step_by : (r : Stepped) → r ≡ event_step im sheet s b → r ≡ event_step im sheet s e
  step_by r q =
      let k = event_refusal im (length sheet) s e in
      by_test (k =? 0)
      (λ t. rw (event_small (eqb-true k 0 t)) at q)
      (λ t. q ∙ sym (refused_step im sheet s b k (sym refusal_wide) (eqb-false k 0 t)) ∙ refused_step im sheet s e k refl (eqb-false k 0 t))

  pub sheet_step_by : (u : List ℕ) → u ≡ event_sheet im sheet s b → u ≡ event_sheet im sheet s e
  sheet_step_by u q =
      let k = event_refusal im (length sheet) s e in
      by_test (k =? 0)
      (λ t. rw (event_small (eqb-true k 0 t)) at q)
      (λ t. q ∙ sym (refused_sheet im sheet s b k (sym refusal_wide) (eqb-false k 0 t)) ∙ refused_sheet im sheet s e k refl (eqb-false k 0 t))

-- ---- Open, which gets a and b for columns and lines

module _ (columns lines a b : ℕ) (p : a ≡ min columns 255) (q : b ≡ min lines 255) where
  -- all shapes that are not allowed are refused alike
  shape_wide : shape_fits a b ≡ shape_fits columns lines
  unfolding shape_fits
  shape_wide =
      rw (p, q, at_least 14 columns (omega arith), at_most 20 columns (omega arith), at_least 2 lines (omega arith), at_most 4 lines (omega arith))

  pub open_wide : (im : List ℕ) (n : ℕ) → open_refusal im n a b ≡ open_refusal im n columns lines
  unfolding open_refusal
  open_wide im n = rw shape_wide

  -- and one that is allowed is of bytes
  opened_wide : (im : List ℕ) (n : ℕ) → open_refusal im n columns lines ≡ 0 → opened a b ≡ opened columns lines
  unfolding open_refusal shape_fits
  opened_wide im n z =
      let t = none_unless 1 (shape_fits columns lines) (λ z. omega arith) (none_before _ _ z).0 in
      let c = leb-true columns 20 (and_r _ _ (and_l _ _ t)) in
      let l = leb-true lines 4 (and_r _ _ (and_r _ _ t)) in
      rw (p, q, min-eq_left {n = columns} {m = 255} (omega arith), min-eq_left {n = lines} {m = 255} (omega arith))

  session_wide : (im : List ℕ) (n : ℕ)
      → (when open_refusal im n columns lines =? 0 then opened a b else closed) ≡ (when open_refusal im n columns lines =? 0 then opened columns lines else closed)
  session_wide im n =
      let k = open_refusal im n columns lines in
      by_test (k =? 0)
      (λ e. rw (opened_wide im n (eqb-true k 0 e)))
      (λ e. if_false _ _ e ∙ sym (if_false _ _ e))

  answer_wide : (im : List ℕ) (n : ℕ) → open_answer im n a b ≡ open_answer im n columns lines
  unfolding open_answer
  answer_wide im n = rw (open_wide im n, session_wide im n)

  -- what Open and its refusal ensure of the bytes, of the numbers
  pub refused_by_shape : (im : List ℕ) (n k : ℕ) → k ≡ open_refusal im n a b before 12 → k ≡ open_refusal im n columns lines before 12
  refused_by_shape im n k h = rw (open_wide im n) at h

  pub answer_by : (im : List ℕ) (n : ℕ) (o : Opened) → o ≡ open_answer im n a b → o ≡ open_answer im n columns lines
  answer_by im n o h = h ∙ answer_wide im n

  pub sheet_by : (im s t : List ℕ) → t ≡ open_sheet im s a b → t ≡ open_sheet im s columns lines
  unfolding open_sheet
  sheet_by im s t h = rw (open_wide im (length s)) at h

  pub begun_wide : (im s : List ℕ) → begun_with im s a b ≡ begun_with im s columns lines
  unfolding begun_with
  begun_wide im s = rw (answer_wide im (length s), sheet_by im s (open_sheet im s a b) refl)
