-- Marking by the table is marking by the fields: the table knows, of each place, whether it may still be named and the default there.
use Prim.Native.Nat.{ℕ, ◌+◌, ◌-◌, ◌*◌, ◌%◌, ◌≤◌, ◌<◌}
use mathlib.Core.Path.{◌≡◌, refl, sym, ap, ◌∙◌}
use mathlib.Core.Bool.{Bool, true, false, not, false≢true}
use mathlib.Core.List.{List, [], ◌∷◌}
use native.Mathlib.Omega.{arith}
use lib.ListN.{length, get_or, take, drop, length-drop}
use Rattle.std.proofs.lemmas.List.{take_all}
use borrow.Author.Tests.{not-true, eqb-true, eqb-false, ltb-true, ltb-false, le-leb, lt-leb, leb-true}
use Rattle.laws.specs.Choice.{when◌then◌else◌, ◌and◌, ◌=?◌, ◌<?◌, ◌≤?◌}
use Rattle.laws.specs.Bytes.{byte_at}
use Rattle.laws.proofs.Cases.{if_ind, by_test, if_true, if_false, if_eq, if_ne, and_l, and_r, and_true, and_false}
use Rattle.field.specs.declared.record.Field.{Field}
use Rattle.cmf.specs.Places.{is_in}
use Rattle.cmf.specs.Refusals as refusals
use Rattle.cmf.specs.declared.refusal.Refusal.{Refusal}
use Rattle.cmf.proofs.Numbers.{number_positive}
use Rattle.handset.specs.Refusals.{◌unless◌}
use Rattle.handset.proofs.Ordering.{none_unless}
use Rattle.marker.specs.Key.{question, questions_of}
use Rattle.marker.specs.Marking.{has_field, default_at, question_fits, questions_fit, verdict_of, same, verdict_on, share, sum_for, points_in, mark_refusal, marked, refusal_in}
use Rattle.marker.specs.Table.{set_at, open_in, fits_by, no_points, sum_in, counted, marked_by, marked_all}
use Rattle.marker.specs.declared.key.Question.{Question}
use Rattle.marker.specs.declared.verdict.Verdict.{Verdict}
use Rattle.marker.specs.declared.verdict.Verdict.TheVariants as verdict
use Rattle.marker.specs.declared.mark.Sums.{Sums}
use Rattle.marker.specs.Answer.{Marked, Marked as marks}
use Rattle.marker.proofs.Keys.{first_question, few}
use Rattle.marker.proofs.Tables.{number_at, at_taken_out, open_less}

-- ---- a question that fits by its number fits

-- the number of a place that came before, or is no field's, or has a default
abbrev number : Bool → Bool → ℕ → ℕ
number before found d = when before then 0 else (when found then d + 1 else 0)

fits_none : (q : Question) → fits_by 0 q ≡ false
unfolding fits_by
fits_none q = if_eq 0 0 _ _ refl

fits_some : (d : ℕ) (q : Question) → fits_by (d + 1) q ≡ (q.right ≤? 255) and (not (q.right =? d) and (q.points ≤? 255))
unfolding fits_by
fits_some d q =
    if_ne (d + 1) 0 _ _ (λ e. omega arith)
    ∙ by_test (255 <? q.right)
    (λ e. if_true _ _ e ∙ sym (and_false _ (lt-leb q.right 255 (ltb-true 255 q.right e))))
    (λ e. if_false _ _ e
    ∙ by_test (q.right =? d)
    (λ f. if_eq (q.right + 1) (d + 1) _ _ (omega (arith, eqb-true q.right d f))
    ∙ sym (and_true _ (le-leb q.right 255 (ltb-false 255 q.right e)) ∙ and_false _ (ap not f)))
    (λ f. if_ne (q.right + 1) (d + 1) _ _ (λ g. eqb-false q.right d f (omega arith))
    ∙ sym (and_true _ (le-leb q.right 255 (ltb-false 255 q.right e)) ∙ and_true _ (ap not f))))

fits_same : (before found : Bool) (d : ℕ) (q : Question)
    → fits_by (number before found d) q ≡ found and (not before and ((q.right ≤? 255) and (not (q.right =? d) and (q.points ≤? 255))))
unfolding when◌then◌else◌ ◌and◌
fits_same true true d q = fits_none q
fits_same true false d q = fits_none q
fits_same false true d q = fits_some d q
fits_same false false d q = fits_none q

-- ---- the table knows the fields

module _ (fs : List Field) where
  -- after questions at earlier places
  pub record Knows (earlier t : List ℕ) : Type 0 where
    pub at : (p : ℕ) → get_or t p 0 ≡ (when is_in p earlier then 0 else number_at p fs)

  pub knows_first : (t : List ℕ) → ((p : ℕ) → get_or t p 0 ≡ number_at p fs) → Knows [] t
  unfolding is_in
  knows_first t h = record { at = λ p. h p ∙ sym (if_false 0 (number_at p fs) refl) }

  knows_next : (earlier t : List ℕ) (p : ℕ) → Knows earlier t → Knows (p ∷ earlier) (set_at p 0 t)
  unfolding is_in
  knows_next earlier t p k = record {
    at = λ x.
        at_taken_out p x t
        ∙ by_test (p =? x)
        (λ e. if_true 0 (get_or t x 0) e ∙ sym (ap (λ (b : Bool). when b then 0 else number_at x fs) (if_true true (is_in x earlier) e) ∙ if_true 0 _ refl))
        (λ e. if_false 0 (get_or t x 0) e ∙ k.at x ∙ sym (ap (λ (b : Bool). when b then 0 else number_at x fs) (if_false true (is_in x earlier) e)));
  }

  module _ (earlier t : List ℕ) (q : Question) (k : Knows earlier t) where
    fits_known : fits_by (get_or t q.place.0 0) q ≡ question_fits fs earlier q
    unfolding question_fits
    fits_known =
        ap (λ (n : ℕ). fits_by n q) (k.at q.place.0)
        ∙ fits_same (is_in q.place.0 earlier) (has_field q.place.0 fs) (default_at q.place.0 fs) q

    -- the default is then known too
    default_known : question_fits fs earlier q ≡ true → get_or t q.place.0 0 - 1 ≡ default_at q.place.0 fs
    unfolding question_fits
    default_known h =
        let a : not (is_in q.place.0 earlier) ≡ true = and_l _ _ (and_r _ _ h) in
        let n : get_or t q.place.0 0 ≡ default_at q.place.0 fs + 1 =
        k.at q.place.0 ∙ if_false 0 _ (not-true (is_in q.place.0 earlier) a) ∙ if_true _ 0 (and_l _ _ h) in
        omega arith

-- ---- sums

pub sums_same : {a b c x y z : ℕ} → a ≡ x → b ≡ y → c ≡ z → ◌≡◌ {A = Marked} (marks.Sums a b c) (marks.Sums x y z)
sums_same p q r = rw (p, q, r)

-- points counted before and after
added : (v : Verdict) (n : ℕ) (y : Sums) (a b c : ℕ)
    → ◌≡◌ {A = Marked} (marks.Sums ((counted v n y).right + a) ((counted v n y).wrong + b) ((counted v n y).blank + c))
    (marks.Sums (y.right + ((when same verdict.Right v then n else 0) + a)) (y.wrong + ((when same verdict.Wrong v then n else 0) + b))
    (y.blank + ((when same verdict.Blank v then n else 0) + c)))
unfolding counted when◌then◌else◌
added verdict.Right n y a b c = sums_same (omega arith) (omega arith) (omega arith)
added verdict.Wrong n y a b c = sums_same (omega arith) (omega arith) (omega arith)
added verdict.Blank n y a b c = sums_same (omega arith) (omega arith) (omega arith)

module _ (fs : List Field) (sheet : List ℕ) where
  -- the sums with those of questions that are left
  abbrev pub summed : List Question → Sums → Marked
  summed qs y = marks.Sums (y.right + sum_for fs sheet verdict.Right qs) (y.wrong + sum_for fs sheet verdict.Wrong qs)
      (y.blank + sum_for fs sheet verdict.Blank qs)

  summed_next : (q : Question) (qs : List Question) (y : Sums) → summed qs (counted (verdict_on fs sheet q) q.points y) ≡ summed (q ∷ qs) y
  unfolding sum_for share
  summed_next q qs y = added (verdict_on fs sheet q) q.points y _ _ _

  summed_last : (y : Sums) → summed [] y ≡ marks.Sums y.right y.wrong y.blank
  unfolding sum_for
  summed_last y = sums_same (omega arith) (omega arith) (omega arith)

  judged : (q : Question) (earlier t : List ℕ) → Knows fs earlier t → question_fits fs earlier q ≡ true
      → verdict_of (get_or t q.place.0 0 - 1) q.right (byte_at sheet q.place.0) ≡ verdict_on fs sheet q
  unfolding verdict_on
  judged q earlier t k e = ap (λ (d : ℕ). verdict_of d q.right (byte_at sheet q.place.0)) (default_known fs earlier t q k e)

  pub marked_known : (qs : List Question) (earlier t : List ℕ) (y : Sums) → Knows fs earlier t
      → marked_by t sheet qs y ≡ (when questions_fit fs earlier qs then summed qs y else marks.Refused 15)
  unfolding marked_by questions_fit
  marked_known [] earlier t y k =
      sym (if_true _ _ refl ∙ summed_last y)
  marked_known (q ∷ qs) earlier t y k =
      by_test (question_fits fs earlier q)
      (λ e. if_true _ _ (fits_known fs earlier t q k ∙ e)
      ∙ ap (λ (v : Verdict). marked_by (set_at q.place.0 0 t) sheet qs (counted v q.points y)) (judged q earlier t k e)
      ∙ marked_known qs (q.place.0 ∷ earlier) (set_at q.place.0 0 t) (counted (verdict_on fs sheet q) q.points y)
      (knows_next fs earlier t q.place.0 k)
      ∙ ap (λ (m : Marked). when questions_fit fs (q.place.0 ∷ earlier) qs then m else marks.Refused 15) (summed_next q qs y)
      ∙ ap (λ (b : Bool). when b then summed (q ∷ qs) y else marks.Refused 15) (sym (and_true (questions_fit fs (q.place.0 ∷ earlier) qs) e)))
      (λ e. if_false _ _ (fits_known fs earlier t q k ∙ e)
      ∙ sym (if_false _ _ (and_false (questions_fit fs (q.place.0 ∷ earlier) qs) e)))

-- ---- room for the sums

-- a question that fits by its number has an open place and few points
pub fits_open : (n : ℕ) (q : Question) → fits_by n q ≡ true → (0 < n) × (q.points ≤ 255)
unfolding fits_by
fits_open n q h =
    by_test (n =? 0) (λ e. absurd (false≢true (sym (if_true _ _ e) ∙ h)))
    (λ e. by_test (255 <? q.right) (λ f. absurd (false≢true (sym (if_false _ _ e ∙ if_true _ _ f) ∙ h)))
    (λ f. by_test (q.right + 1 =? n) (λ g. absurd (false≢true (sym (if_false _ _ e ∙ if_false _ _ f ∙ if_true _ _ g) ∙ h)))
    (λ g. (omega (arith, eqb-false n 0 e), leb-true q.points 255 (sym (if_false _ _ e ∙ if_false _ _ f ∙ if_false _ _ g) ∙ h)))))

pub points_open : (fs : List Field) (qs : List Question) (earlier t : List ℕ) → Knows fs earlier t → questions_fit fs earlier qs ≡ true → points_in qs ≤ 255 * open_in t
unfolding questions_fit points_in
points_open fs [] earlier t k h = omega arith
points_open fs (q ∷ qs) earlier t k h =
    let f = fits_open (get_or t q.place.0 0) q (fits_known fs earlier t q k ∙ and_l _ _ h) in
    omega (
      arith,
      f.1,
      open_less t q.place.0 (λ z. omega (arith, f.0)),
      points_open fs qs (q.place.0 ∷ earlier) (set_at q.place.0 0 t) (knows_next fs earlier t q.place.0 k) (and_r _ _ h),
    )

counted_sum : (v : Verdict) (n : ℕ) (y : Sums) → sum_in (counted v n y) ≡ sum_in y + n
unfolding counted sum_in
counted_sum verdict.Right n y = omega arith
counted_sum verdict.Wrong n y = omega arith
counted_sum verdict.Blank n y = omega arith

-- what the test of a question tells by its refusal
pub fits_asked : (b : Bool) → 0 ≡ 15 unless b → b ≡ true
fits_asked b e = none_unless 15 b (λ z. omega arith) (sym e)

pub unfits_asked : (b : Bool) (r : Refusal) → refusals.number r ≡ 15 unless b → (b ≡ false) × (refusals.number r ≡ 15)
unfolding ◌unless◌ when◌then◌else◌
unfits_asked true r e = absurd (omega (arith, number_positive r, e))
unfits_asked false r e = (refl, e)

-- ---- the loop

-- at the end: the numbers of a key make whole questions, or some are over
module _ (t sheet key : List ℕ) (u l : List ℕ) (y : Sums) (w : length l < 3) (o : length l % 3 ≡ length key % 3) where
  pub none_over : marked_by u sheet (questions_of l) y ≡ marked_by t sheet (questions_of key) no_points → length l ≡ 0
      → marks.Sums y.right y.wrong y.blank ≡ marked_all t sheet key
  unfolding marked_by marked_all
  none_over m z = sym (ap (λ (qs : List Question). marked_by u sheet qs y) (few l w)) ∙ m ∙ sym (if_eq (length key % 3) 0 _ _ (omega arith))

  pub some_over : (length l ≡ 0 → ⊥) → marks.Refused 15 ≡ marked_all t sheet key
  unfolding marked_all
  some_over n = sym (if_ne (length key % 3) 0 _ _ (λ e. n (omega arith)))

-- the numbers after a question
pub after_three : (l : List ℕ) → take (length l - 3) (drop 3 l) ≡ drop 3 l
after_three l = take_all (length l - 3) (drop 3 l) (omega (arith, length-drop 3 l))

pub still_over : (l r key : List ℕ) → 3 ≤ length l → r ≡ drop 3 l → length l % 3 ≡ length key % 3 → length r % 3 ≡ length key % 3
still_over l r key h z e = omega (arith, ap length z, length-drop 3 l)

-- a question that does not fit is refused, whether numbers are left over or not
pub stopped : (t sheet key : List ℕ) → marks.Refused 15 ≡ marked_by t sheet (questions_of key) no_points → marks.Refused 15 ≡ marked_all t sheet key
unfolding marked_all
stopped t sheet key e = if_ind (λ (m : Marked). marks.Refused 15 ≡ m) ((length key % 3) =? 0) (λ _. e) (λ _. refl)

-- at a question

module _ (t sheet l : List ℕ) (y : Sums) (q : Question) (n : ℕ) (h : 3 ≤ length l) (e : q ≡ question (get_or l 0 0) (get_or l 1 0) (get_or l 2 0))
    (f : n ≡ get_or t q.place.0 0) where
  next_is : questions_of l ≡ q ∷ questions_of (drop 3 l)
  next_is = first_question l h ∙ ap (λ (x : Question). x ∷ questions_of (drop 3 l)) (sym e)

  pub stops_here : fits_by n q ≡ false → marked_by t sheet (questions_of l) y ≡ marks.Refused 15
  unfolding marked_by
  stops_here b = ap (λ (qs : List Question). marked_by t sheet qs y) next_is ∙ if_false _ _ (ap (λ (m : ℕ). fits_by m q) (sym f) ∙ b)

  module _ (b : fits_by n q ≡ true) {u : List ℕ} {v : Verdict} {x : Sums} (g : u ≡ set_at q.place.0 0 t)
      (j : v ≡ verdict_of (n - 1) q.right (byte_at sheet q.place.0)) (k : x ≡ counted v q.points y) where
    pub goes_on : (r : List ℕ) → r ≡ drop 3 l → marked_by t sheet (questions_of l) y ≡ marked_by u sheet (questions_of r) x
    unfolding marked_by
    goes_on r z =
        ap (λ (qs : List Question). marked_by t sheet qs y) next_is
        ∙ rw (← f) (if_true _ _ b ∙ rw (g, k, j, z) refl)

    pub room_left : (m : ℕ) → sum_in y + 255 * open_in t ≤ m → sum_in x + 255 * open_in u ≤ m
    room_left m k' =
        let o = fits_open n q b in
        omega (arith, k', o.1, ap sum_in k ∙ counted_sum v q.points y, ap open_in g, open_less t q.place.0 (λ z. omega (arith, o.0, f ∙ z)))

-- ---- the answer

module _ (im sheet key : List ℕ) (r : Marked) where
  pub number_told : r ≡ marked im sheet key → refusal_in r ≡ mark_refusal im (length sheet) key
  unfolding marked refusal_in
  number_told e =
      ap refusal_in e
      ∙ by_test (mark_refusal im (length sheet) key =? 0)
      (λ t. ap refusal_in (if_true _ _ t) ∙ sym (eqb-true _ 0 t))
      (λ t. ap refusal_in (if_false _ _ t))
