-- What is promised of the marker: sums by induction over the questions; sheets by the executor's promises about fields and defaults.
use Prim.Native.Nat.{ℕ, ◌+◌, ◌%◌, ◌<◌}
use mathlib.Core.Path.{◌≡◌, refl, sym, ap, ◌∙◌}
use mathlib.Core.Logic.{◌⊎◌, inl, inr, ⊎_elim, ◌≢◌}
use mathlib.Core.Bool.{true, false, false≢true}
use mathlib.Core.List.Memᴰ
use mathlib.Core.List.{List, [], ◌∷◌, Memᴰ}
use native.Mathlib.Omega.{arith}
use lib.ListN.{length, get_or, take}
use lib.Seq.{drop-cons}
use borrow.Author.Tests.{eqb-true, eqb-false}
use Rattle.laws.specs.Choice.{when◌then◌else◌, ◌and◌, ◌=?◌}
use Rattle.laws.specs.Bytes.{byte_at}
use Rattle.laws.proofs.Cases.{by_test, if_true, if_false, if_eq, if_ne, and_l, and_r}
use Rattle.laws.proofs.Lists.{part_at_lem}
use Rattle.field.specs.Profiles.{profile_of}
use Rattle.field.specs.Values.{bytes_of}
use Rattle.field.specs.Sheet.{own_bytes}
use Rattle.field.specs.declared.kind.Kind.{Kind}
use Rattle.field.specs.declared.kind.Kind.TheVariants.{Integer, Counter, Time, Date, Switch, Option, Trigger}
use Rattle.field.specs.declared.record.Field.{Field}
use Rattle.cmf.specs.Places.{is_in, fields_of}
use Rattle.acceptance.specs.Check.{refusal_of}
use Rattle.handset.specs.Open.{open_refusal, open_sheet}
use Rattle.promises.specs.Demand3.{Candidate, end, visits_at}
use Rattle.promises.proofs.Promises.{demand_2, demand_3}
use Rattle.marker.specs.Key.{questions_of}
use Rattle.marker.specs.Marking.{has_field, default_at, question_fits, questions_fit, key_fits, mark_refusal, verdict_of, same, verdict_on, share, sum_for, points_in, sum_of, marked, refusal_in, sums_in}
use Rattle.marker.specs.Promises.{OneByte, ByteFieldAt, KeyFault, Judged, CountsOnce, MarkerPromises}
use Rattle.marker.specs.declared.key.Question.{Question}
use Rattle.marker.specs.declared.verdict.Verdict.{Verdict}
use Rattle.marker.specs.declared.verdict.Verdict.TheVariants as verdict
use Rattle.marker.specs.Answer.{Marked as marks}
use Rattle.marker.proofs.Naming.{field_exactly, default_is, promised}
use Rattle.marker.proofs.Starts.{few_points, refused_order, by_key}
use Rattle.marker.proofs.Faults as faults

-- ---- kinds

one_byte : (k : Kind) → (profile_of k).bytes ≡ 1 → OneByte k
unfolding profile_of
one_byte (Integer f) h = OneByte.integer f (by_test f.wide (λ e. absurd (omega (arith, if_true {A = ℕ} 2 1 e))) (λ e. e))
one_byte (Counter s) h = absurd (omega arith)
one_byte (Time long) h = by_test long (λ e. absurd (omega (arith, if_true {A = ℕ} 3 2 e))) (λ e. absurd (omega (arith, if_false {A = ℕ} 3 2 e)))
one_byte (Date long) h = by_test long (λ e. absurd (omega (arith, if_true {A = ℕ} 4 3 e))) (λ e. absurd (omega (arith, if_false {A = ℕ} 4 3 e)))
one_byte (Switch n) h = absurd (omega arith)
one_byte (Option n w) h = OneByte.option n w
one_byte Trigger h = absurd (omega arith)

byte_one : {k : Kind} → OneByte k → (profile_of k).bytes ≡ 1
unfolding profile_of
byte_one (OneByte.integer f e) = if_false {A = ℕ} 2 1 e
byte_one (OneByte.option n w) = refl

-- ---- sums over questions

-- points count for one verdict
spread : (u : Verdict) (n : ℕ)
    → (when same verdict.Right u then n else 0) + (when same verdict.Wrong u then n else 0) + (when same verdict.Blank u then n else 0) ≡ n
unfolding when◌then◌else◌
spread verdict.Right n = omega arith
spread verdict.Wrong n = omega arith
spread verdict.Blank n = omega arith

same_self : (u : Verdict) → same u u ≡ true
same_self verdict.Right = refl
same_self verdict.Wrong = refl
same_self verdict.Blank = refl

same_other : (v u : Verdict) → v ≢ u → same v u ≡ false
same_other verdict.Right verdict.Right h = absurd (h refl)
same_other verdict.Right verdict.Wrong h = refl
same_other verdict.Right verdict.Blank h = refl
same_other verdict.Wrong verdict.Right h = refl
same_other verdict.Wrong verdict.Wrong h = absurd (h refl)
same_other verdict.Wrong verdict.Blank h = refl
same_other verdict.Blank verdict.Right h = refl
same_other verdict.Blank verdict.Wrong h = refl
same_other verdict.Blank verdict.Blank h = absurd (h refl)

module _ (fs : List Field) where
  all_points : (s : List ℕ) (qs : List Question) → sum_for fs s verdict.Right qs + sum_for fs s verdict.Wrong qs + sum_for fs s verdict.Blank qs ≡ points_in qs
  unfolding sum_for points_in share
  all_points s [] = refl
  all_points s (q ∷ qs) = omega (arith, spread (verdict_on fs s q) q.points, all_points s qs)

  -- sheets that agree at the questions' places
  same_sums : (s t : List ℕ) (v : Verdict) (qs : List Question) → ((q : Question) → Memᴰ q qs → byte_at s q.place.0 ≡ byte_at t q.place.0)
      → sum_for fs s v qs ≡ sum_for fs t v qs
  unfolding sum_for share verdict_on
  same_sums s t v [] h = refl
  same_sums s t v (q ∷ qs) h =
      ap (λ (b : ℕ). (when same v (verdict_of (default_at q.place.0 fs) q.right b) then q.points else 0) + sum_for fs s v qs) (h q (Memᴰ.head refl))
      ∙ ap (λ (n : ℕ). share fs t v q + n) (same_sums s t v qs (λ r m. h r (Memᴰ.tail m)))

  -- a sheet with the default at each question's place
  all_blank : (s : List ℕ) (v : Verdict) (qs : List Question) → ((q : Question) → Memᴰ q qs → byte_at s q.place.0 ≡ default_at q.place.0 fs)
      → sum_for fs s v qs ≡ (when same v verdict.Blank then points_in qs else 0)
  unfolding sum_for share verdict_on verdict_of points_in
  all_blank s v [] h = by_test (same v verdict.Blank) (λ e. sym (if_true 0 0 e)) (λ e. sym (if_false 0 0 e))
  all_blank s v (q ∷ qs) h =
      ap (λ (u : Verdict). (when same v u then q.points else 0) + sum_for fs s v qs) (if_eq _ _ _ _ (h q (Memᴰ.head refl)))
      ∙ ap (λ (n : ℕ). (when same v verdict.Blank then q.points else 0) + n) (all_blank s v qs (λ r m. h r (Memᴰ.tail m)))
      ∙ by_test (same v verdict.Blank)
      (λ e. rw (if_true q.points 0 e, if_true (points_in qs) 0 e, if_true (q.points + points_in qs) 0 e))
      (λ e. rw (if_false q.points 0 e, if_false (points_in qs) 0 e, if_false (q.points + points_in qs) 0 e) (omega arith))

  -- a one-byte field is at each place of a key that fits
  each_has : (earlier : List ℕ) (qs : List Question) → questions_fit fs earlier qs ≡ true → (q : Question) → Memᴰ q qs → has_field q.place.0 fs ≡ true
  unfolding questions_fit question_fits
  each_has earlier [] h q m = absurd (Memᴰ.not-nil m)
  each_has earlier (r ∷ qs) h q m =
      ⊎_elim (λ e. rw e (and_l _ _ (and_l _ _ h))) (λ k. each_has (r.place.0 ∷ earlier) qs (and_r _ _ h) q k) (Memᴰ.cases_cons m)

-- ---- refusals

module _ (im : List ℕ) where
  granted : (extent : ℕ) (key : List ℕ) → mark_refusal im extent key ≡ 0 → (refusal_of im extent ≡ 0) × (key_fits (fields_of im) key ≡ true)
  granted extent key h =
      by_test (refusal_of im extent =? 0)
      (λ e. let z = eqb-true _ 0 e in
      (z, by_test (key_fits (fields_of im) key) (λ k. k) (λ k. absurd (omega (arith, sym h ∙ by_key im extent key z ∙ if_false 0 15 k)))))
      (λ e. absurd (eqb-false _ 0 e (sym (refused_order im extent key ∙ if_false _ _ e) ∙ h)))

  module _ (extent : ℕ) (key : List ℕ) (z : refusal_of im extent ≡ 0) where
    causes : faults.Fault im extent z [] (questions_of key) → KeyFault im key
    unfolding is_in
    causes (faults.Fault.one q m f) = KeyFault.question q m f
    causes (faults.Fault.again q m i) = absurd (false≢true i)
    causes (faults.Fault.twice t) = KeyFault.twice t

    fault_told : key_fits (fields_of im) key ≡ false → KeyFault im key
    unfolding key_fits
    fault_told h = go (faults.fails _ _ h)
      where
        go : ((length key % 3) =? 0 ≡ false) ⊎ (questions_fit (fields_of im) [] (questions_of key) ≡ false) → KeyFault im key
        go (inl e) = KeyFault.left_over (eqb-false _ 0 e)
        go (inr e) = causes (faults.fault_in im extent z [] (questions_of key) e)

    not_fitting : KeyFault im key → key_fits (fields_of im) key ≡ true → ⊥
    unfolding key_fits
    not_fitting (KeyFault.left_over n) h = n (eqb-true _ 0 (and_l _ _ h))
    not_fitting (KeyFault.question q m f) h = faults.none_faulty im extent z [] q (questions_of key) m f (and_r _ _ h)
    not_fitting (KeyFault.twice t) h = faults.none_twice im extent z [] (questions_of key) t (and_r _ _ h)

    fifteen : (mark_refusal im extent key ≡ 15 → KeyFault im key) × (KeyFault im key → mark_refusal im extent key ≡ 15)
    fifteen = (
      λ h. by_test (key_fits (fields_of im) key)
          (λ k. absurd (omega (arith, sym h ∙ by_key im extent key z ∙ if_true 0 15 k)))
          fault_told,
      λ f. by_key im extent key z ∙ if_false 0 15 (by_test (key_fits (fields_of im) key) (λ k. absurd (not_fitting f k)) (λ k. k)),
    )

  -- the answer's numbers
  refused_answer : (sheet key : List ℕ) → mark_refusal im (length sheet) key ≢ 0
      → (refusal_in (marked im sheet key) ≡ mark_refusal im (length sheet) key) × (sums_in (marked im sheet key) ≡ [])
  unfolding marked refusal_in sums_in
  refused_answer sheet key h = let e = if_ne (mark_refusal im (length sheet) key) 0 _ _ h in (ap refusal_in e, ap sums_in e)

  given_answer : (sheet key : List ℕ) → mark_refusal im (length sheet) key ≡ 0
      → (refusal_in (marked im sheet key) ≡ 0)
      × (sums_in (marked im sheet key) ≡ sum_of im sheet key verdict.Right ∷ sum_of im sheet key verdict.Wrong ∷ sum_of im sheet key verdict.Blank ∷ [])
  unfolding marked refusal_in sums_in
  given_answer sheet key h = let e = if_eq (mark_refusal im (length sheet) key) 0 _ _ h in (ap refusal_in e, ap sums_in e)

  -- ---- sheets

  -- the byte at a one-byte field's place is the field's own
  byte_own : (p : ℕ) (f : Field) (s : List ℕ) → ByteFieldAt im p f → byte_at s p ≡ get_or (own_bytes f s) 0 0
  byte_own p f s n =
      let z : p + 0 ≡ p = omega arith in
      sym (rw (n.place, n.one) (part_at_lem p 1 0 s ∙ if_true _ _ refl ∙ rw z))

  -- which is all of it, where the field is in the sheet
  own_byte : (p : ℕ) (f : Field) (s : List ℕ) → ByteFieldAt im p f → p < length s → own_bytes f s ≡ byte_at s p ∷ []
  own_byte p f s n h = rw (n.place, n.one) (ap (take 1) (drop-cons s p 0 h))

  -- answers with the same refusal and, where there is none, the same sums
  same_answer : (s t key : List ℕ) → mark_refusal im (length s) key ≡ mark_refusal im (length t) key
      → (mark_refusal im (length t) key ≡ 0 → (v : Verdict) → sum_of im s key v ≡ sum_of im t key v) → marked im s key ≡ marked im t key
  unfolding marked
  same_answer s t key r h =
      by_test (mark_refusal im (length t) key =? 0)
      (λ e. let z = eqb-true _ 0 e in
      if_eq _ 0 _ _ (r ∙ z) ∙ rw (h z verdict.Right, h z verdict.Wrong, h z verdict.Blank) (sym (if_eq _ 0 _ _ z)))
      (λ e. let n = eqb-false _ 0 e in
      if_ne _ 0 _ _ (λ z. n (sym r ∙ z)) ∙ ap marks.Refused r ∙ sym (if_ne _ 0 _ _ n))

  -- the image is accepted with the sheet that a sitting leaves, which is as long as the one before
  by_open : (extent columns lines : ℕ) → open_refusal im extent columns lines ≡ 0 → refusal_of im extent ≡ 0
  by_open extent columns lines h = ((demand_2 im).accepts.accepted extent).1 (((demand_2 im).accepts.open_accepts extent columns lines).0 h).1

  accepted_at_end : (c : Candidate im) → refusal_of im (length (end c).sheet) ≡ 0
  accepted_at_end c = rw ((demand_3 im).sheet_length c) (by_open (length c.sheet) c.columns c.lines c.accepted)

  fitting : (key : List ℕ) → key_fits (fields_of im) key ≡ true → (q : Question) → Memᴰ q (questions_of key) → has_field q.place.0 (fields_of im) ≡ true
  unfolding key_fits
  fitting key h = each_has (fields_of im) [] (questions_of key) (and_r _ _ h)

  two_candidates : (key : List ℕ) (a b : Candidate im)
      → ((q : Question) (f : Field) → Memᴰ q (questions_of key) → ByteFieldAt im q.place.0 f → visits_at a f.image.0 ≡ visits_at b f.image.0)
      → marked im (end a).sheet key ≡ marked im (end b).sheet key
  two_candidates key a b h =
      let za = accepted_at_end a in
      let zb = accepted_at_end b in
      same_answer (end a).sheet (end b).sheet key (by_key im _ key za ∙ sym (by_key im _ key zb))
      (λ r v. same_sums (fields_of im) (end a).sheet (end b).sheet v (questions_of key)
      (λ q m. bytes_agree q m (fitting key (granted _ key r).1 q m)))
    where
      bytes_agree : (q : Question) → Memᴰ q (questions_of key) → has_field q.place.0 (fields_of im) ≡ true
          → byte_at (end a).sheet q.place.0 ≡ byte_at (end b).sheet q.place.0
      bytes_agree q m n =
          let x = (field_exactly im q.place.0).0 n in
          let f = x.field in
          let p = (promised im _ (accepted_at_end a) f x.here.known).named in
          let e = (demand_3 im).candidates a b f.image.0 p.1 (h q f m x.here) in
          byte_own q.place.0 f (end a).sheet x.here
          ∙ ap (λ (l : List ℕ). get_or l 0 0) (rw p.0 at e)
          ∙ sym (byte_own q.place.0 f (end b).sheet x.here)

  -- after Open
  module _ (sheet : List ℕ) (columns lines : ℕ) (h : open_refusal im (length sheet) columns lines ≡ 0) where
    abbrev opened : List ℕ
    opened = open_sheet im sheet columns lines

    accepted : refusal_of im (length opened) ≡ 0
    accepted = rw ((demand_2 im).opens sheet columns lines h).sheet_length (by_open (length sheet) columns lines h)

    default_there : (p : ℕ) → has_field p (fields_of im) ≡ true → byte_at opened p ≡ default_at p (fields_of im)
    default_there p n =
        let x = (field_exactly im p).0 n in
        let f = x.field in
        let r = (promised im _ accepted f x.here.known).named in
        let e = ((demand_2 im).opens sheet columns lines h).defaults f.image.0 r.1 in
        byte_own p f opened x.here ∙ ap (λ (l : List ℕ). get_or l 0 0) ((rw r.0 at e) ∙ default_is im _ accepted p f x.here)

    module _ (key : List ℕ) (k : key_fits (fields_of im) key ≡ true) where
      blank : (v : Verdict) → sum_of im opened key v ≡ (when same v verdict.Blank then points_in (questions_of key) else 0)
      blank v = all_blank (fields_of im) opened v (questions_of key) (λ q m. default_there q.place.0 (fitting key k q m))

      opened_blank : marked im opened key ≡ marks.Sums 0 0 (points_in (questions_of key))
      unfolding marked
      opened_blank =
          if_eq _ 0 _ _ (by_key im (length opened) key accepted ∙ if_true 0 15 k)
          ∙ rw (blank verdict.Right, blank verdict.Wrong, blank verdict.Blank)
          (rw (if_false {t = false} (points_in (questions_of key)) 0 refl, if_true {t = true} (points_in (questions_of key)) 0 refl))

  -- ---- one question before others

  judged : (sheet : List ℕ) (p right : ℕ) → refusal_of im (length sheet) ≡ 0 → (f : Field) → ByteFieldAt im p f
      → Judged sheet f right (verdict_of (default_at p (fields_of im)) right (byte_at sheet p))
  unfolding verdict_of
  judged sheet p right z f n =
      let d = default_is im (length sheet) z p f n in
      let i = (promised im (length sheet) z f n.known).inside in
      let o : own_bytes f sheet ≡ byte_at sheet p ∷ [] = own_byte p f sheet n (omega (arith, i.inside, n.one, n.place)) in
      by_test (byte_at sheet p =? default_at p (fields_of im))
      (λ e. rw (if_true _ _ e) (Judged.blank (o ∙ ap (λ (b : ℕ). b ∷ []) (eqb-true _ _ e) ∙ sym d)))
      (λ e. let other : own_bytes f sheet ≢ bytes_of f.default = λ q. eqb-false _ _ e (ap (λ (l : List ℕ). get_or l 0 0) (sym o ∙ q ∙ d)) in
      rw (if_false _ _ e)
      (by_test (byte_at sheet p =? right)
      (λ g. rw (if_true _ _ g) (Judged.right other (o ∙ ap (λ (b : ℕ). b ∷ []) (eqb-true _ _ g))))
      (λ g. rw (if_false _ _ g) (Judged.wrong other (λ q. eqb-false _ _ g (ap (λ (l : List ℕ). get_or l 0 0) (sym o ∙ q)))))))

  zero_plus : (n : ℕ) → 0 + n ≡ n
  zero_plus n = omega arith

  counts_once : (sheet : List ℕ) (p right points : ℕ) (rest : List ℕ) → CountsOnce im sheet p right points rest
  unfolding questions_of sum_for share verdict_on
  counts_once sheet p right points rest =
      let u = verdict_of (default_at p (fields_of im)) right (byte_at sheet p) in record {
        verdict = u;
        judged = judged sheet p right;
        here = ap (λ (n : ℕ). n + sum_of im sheet rest u) (if_true points 0 (same_self u));
        elsewhere = λ v n. ap (λ (k : ℕ). k + sum_of im sheet rest v) (if_false points 0 (same_other v u n)) ∙ zero_plus (sum_of im sheet rest v);
      }

  -- ---- the page

  -- no numbers
  no_key : (sheet : List ℕ) → refusal_of im (length sheet) ≡ 0 → marked im sheet [] ≡ marks.Sums 0 0 0
  unfolding marked key_fits questions_fit questions_of sum_for ◌and◌
  no_key sheet z = if_eq _ 0 _ _ (by_key im (length sheet) [] z ∙ if_true 0 15 refl)

  pub marker_promises : MarkerPromises im
  marker_promises = record {
    kinds = λ f. (one_byte f.kind, byte_one);
    places = field_exactly im;
    defaults = default_is im;
    order = refused_order im;
    faults = fifteen;
    refused = refused_answer;
    given = given_answer;
    adds_up = λ sheet key. all_points (fields_of im) sheet (questions_of key);
    once = counts_once;
    none = no_key;
    at_most = λ extent key h. few_points im extent (granted extent key h).0 key (granted extent key h).1;
    opened = λ sheet columns lines key h k. opened_blank sheet columns lines h key (granted (length sheet) key k).1;
    unread = λ s t key l h. same_answer s t key (ap (λ (n : ℕ). mark_refusal im n key) l) (λ _ v. same_sums (fields_of im) s t v (questions_of key) h);
    candidates = two_candidates;
  }
