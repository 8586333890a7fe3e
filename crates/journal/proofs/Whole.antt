-- The theorem over lists, once for every system whose steps are lawful. The invariant: each field's bytes are the journal's, and the keys
-- on the trace since the ENTER that opened a visit lead from the field's bytes to the working copy.
use Prim.Native.Nat.{ℕ, suc}
use mathlib.Core.Path.{◌≡◌, refl, sym, ap, ◌∙◌, subst}
use mathlib.Core.Logic.{◌≢◌}
use mathlib.Core.Bool.{true, false, true≢false}
use mathlib.Core.List.{List, [], ◌∷◌, ◌++◌, reverse, reverse_aux, reverse-cons}
use borrow.Author.Tests.{eqb-true, eqb-false}
use Rattle.laws.specs.Choice.{when◌then◌else◌, ◌=?◌}
use Rattle.laws.proofs.Cases.{by_test, if_false}
use Rattle.session.specs.Events.{enter}
use Rattle.session.specs.declared.answer.Answer.{Answer}
use Rattle.session.specs.declared.answer.Answer.TheVariants as answer
use Rattle.journal.specs.Journal.{Answered, answered, Out, on, stored, Rules, counts, ignored, after, keys_of, onward, presses, leaves, visited, all_visited, Finishes, AllFinish, Journal, update, noted, finished_keys, with_visit, settled, fed, all_fed, empty, journal_of}
use Rattle.journal.proofs.Steps.{View, away, at, System, is_finished, log, final, Kept, Fresh, none, begun, Step, skips, quiet, opens, goes, passes, ends, Lawful, Opened}

-- a function that is `a` at p, and f elsewhere, is f updated
updated : {A : Type 0} (f g : ℕ → A) (p : ℕ) (a : A) (q : ℕ) → g p ≡ a → (q ≢ p → g q ≡ f q) → g q ≡ update f p a q
unfolding when◌then◌else◌
updated f g p a q h k = by_test (q =? p) (λ e. rw e (ap g (eqb-true q p e) ∙ h)) (λ e. rw e (k (eqb-false q p e)))

module _ {W : Type 0} (R : Rules W) where
  settled_plain : (a : Answer) (j : Journal) → is_finished a ≡ false → settled R a j ≡ j
  settled_plain answer.Taken j h = refl
  settled_plain answer.Flash j h = refl
  settled_plain (answer.Finished p) j h = absurd (true≢false h)
  settled_plain (answer.Fired p) j h = refl
  settled_plain (answer.Refused n) j h = refl

  fed_skip : (j : Journal) (x : Answered) → ignored x ≡ true → fed R j x ≡ j
  unfolding when◌then◌else◌
  fed_skip j x i = rw i

  fed_plain : (j : Journal) (x : Answered) → ignored x ≡ false → is_finished x.answer ≡ false → fed R j x ≡ noted x j
  unfolding when◌then◌else◌
  fed_plain j x i h = rw i (settled_plain x.answer (noted x j) h)

  fed_finished : (j : Journal) (x : Answered) (p : ℕ) → ignored x ≡ false → x.answer ≡ answer.Finished (record { 0 = p })
      → fed R j x ≡ with_visit R p (finished_keys R p (noted x j)) (noted x j)
  unfolding when◌then◌else◌
  fed_finished j x p i h = rw (i, h)

  -- the same keys, newest first
  abbrev retraced : ℕ → Out W → List ℕ → Out W
  retraced p o [] = o
  retraced p o (k ∷ ks) = onward R p (retraced p o ks) k

  presses_aux : (p : ℕ) (o : Out W) (ks js : List ℕ) → presses R p o (reverse_aux ks js) ≡ presses R p (retraced p o ks) js
  presses_aux p o [] js = refl
  presses_aux p o (k ∷ ks) js = presses_aux p o ks (k ∷ js)

  presses_reverse : (p : ℕ) (o : Out W) (ks : List ℕ) → presses R p o (reverse ks) ≡ retraced p o ks
  presses_reverse p o ks = presses_aux p o ks []

  -- the keys since the ENTER that opened a visit, n parts of it being passed, lead from the journal's bytes to the working copy
  record Leads (p : ℕ) (w : W) (n : ℕ) (j : Journal) : Type 0 where
    leads : retraced p (on (R.start p (j.bytes p))) (keys_of (after (suc n) j.trace)) ≡ on w

  leads_start : (p : ℕ) (x : Answered) (j : Journal) → counts x ≡ true → Leads p (R.start p (j.bytes p)) 0 (noted x j)
  unfolding when◌then◌else◌
  leads_start p x j m = record { leads = rw m }

  leads_on : {p n : ℕ} {j : Journal} {w w' : W} {x : Answered} → Leads p w n j → counts x ≡ false → R.press p w x.event ≡ on w' → Leads p w' n (noted x j)
  unfolding when◌then◌else◌
  leads_on h m o = record { leads = rw (m, h.leads) o }

  leads_part : {p n : ℕ} {j : Journal} {w w' : W} {x : Answered} → Leads p w n j → counts x ≡ true → R.press p w x.event ≡ on w' → Leads p w' (suc n) (noted x j)
  unfolding when◌then◌else◌
  leads_part h m o = record { leads = rw (m, h.leads) o }

  -- the ENTER that finishes the visit: the journal's bytes become those that it stores
  leads_end : {p n : ℕ} {j : Journal} {w : W} {v : List ℕ} (x : Answered) → Leads p w n j → counts x ≡ true → R.press p w x.event ≡ stored v → R.opener p ≡ suc (suc n)
      → visited R p (j.bytes p) (finished_keys R p (noted x j)) ≡ v
  unfolding when◌then◌else◌
  leads_end {p} {j} x h m o c =
      ap (leaves R p (j.bytes p)) (presses_reverse p (on (R.start p (j.bytes p))) (keys_of (after (R.opener p) (x ∷ j.trace)))) ∙ rw (c, m, h.leads, o)

  -- only ENTER counts
  counts_enter : (x : Answered) → counts x ≡ true → x.event ≡ enter
  counts_enter x m = by_test (x.event =? enter) (eqb-true x.event enter) (λ h. absurd (true≢false (sym m ∙ if_false _ _ h)))

  -- and the visit is finished: its last key is an ENTER that stores, and no key before it does
  leads_finish : {p n : ℕ} {j : Journal} {w : W} {v : List ℕ} (x : Answered) → Leads p w n j → counts x ≡ true → R.press p w x.event ≡ stored v → R.opener p ≡ suc (suc n)
      → Finishes R p (j.bytes p) (finished_keys R p (noted x j))
  unfolding when◌then◌else◌
  leads_finish {p} {n} {j} {w} x h m o c = record {
    before = reverse (keys_of (after (suc n) j.trace));
    last = x.event;
    copy = w;
    all = rw (c, m) (reverse-cons x.event (keys_of (after (suc n) j.trace)));
    key = counts_enter x m;
    goes = presses_reverse p (on (R.start p (j.bytes p))) (keys_of (after (suc n) j.trace)) ∙ h.leads;
    stores = o ∙ ap stored (sym (leads_end x h m o c));
  }

module _ {W S : Type 0} (R : Rules W) (Y : System W S) where
  -- the fields' bytes are the journal's
  abbrev Same : S → Journal → Type 0
  Same s j = (q : ℕ) → Y.Field q → Y.read s q ≡ j.bytes q

  -- so is the open visit
  abbrev Open : View W → Journal → Type 0
  Open away j = Unit {0}
  Open (at p w) j = Y.Field p × Leads R p w (Y.passed p w) j

  record Inv (s : S) (j : Journal) : Type 0 where
    same : Same s j
    open' : Open (Y.view s) j

  kept : {s s' : S} {j : Journal} → Inv s j → Kept Y s s' → Same s' j
  kept inv k q f = k q f ∙ inv.same q f

  module _ (L : Lawful R Y) where
    -- a visit that began with the newest event
    begin :
        {s : S} {x : Answered} {t : List Answered} {vs : ℕ → List (List ℕ)} {bs : ℕ → List ℕ} → let j : Journal = record { trace = x ∷ t; visits = vs; bytes = bs } in
        counts x ≡ true → Same s j → Fresh R Y s → Inv s j
    begin m same (none v) = record { same = same; open' = rw v tt }
    begin {x} {t} {vs} {bs} m same (begun q f v) =
        record { same = same; open' = rw v (f, rw (L.passed_start, same q f) (leads_start R q x (record { trace = t; visits = vs; bytes = bs }) m)) }

    step_inv : (s : S) (e : ℕ) (j : Journal) → Inv s j → Step R Y s e (Y.next s e) (Y.answer s e) → Inv (Y.next s e) (fed R j (answered e (Y.answer s e)))
    step_inv s e j inv (skips i v k) = rw (fed_skip R j (answered e (Y.answer s e)) i) (record { same = kept inv k; open' = rw v inv.open' })
    step_inv s e j inv (quiet i h v k) = rw (fed_plain R j (answered e (Y.answer s e)) i h) (record { same = kept inv k; open' = rw v tt })
    step_inv s e j inv (opens i h m f k) = rw (fed_plain R j (answered e (Y.answer s e)) i h) (begin m (kept inv k) f)
    step_inv s e j inv (goes i h m p w w' v v' o c k) =
        let n = rw v at inv.open' in
        rw (fed_plain R j (answered e (Y.answer s e)) i h) (record { same = kept inv k; open' = rw (v', c) (n.0, leads_on R n.1 m o) })
    step_inv s e j inv (passes i h m p w w' v v' o c k) =
        let n = rw v at inv.open' in
        rw (fed_plain R j (answered e (Y.answer s e)) i h) (record { same = kept inv k; open' = rw (v', c) (n.0, leads_part R n.1 m o) })
    step_inv s e j inv (ends i m p w y a v o c r k f) =
        let n = rw v at inv.open' in
        rw (fed_finished R j (answered e (Y.answer s e)) p i a)
        (begin m
        (λ q g. updated j.bytes (Y.read (Y.next s e)) p _ q (r ∙ sym (leads_end R (answered e (Y.answer s e)) n.1 m o c)) (λ d. k q g d ∙ inv.same q g)) f)

    inv_all : (es : List ℕ) (s : S) (j : Journal) → Inv s j → Inv (final Y s es) (all_fed R j (log Y s es))
    inv_all [] s j inv = inv
    inv_all (e ∷ es) s j inv = inv_all es (Y.next s e) (fed R j (answered e (Y.answer s e))) (step_inv s e j inv (L.step s e))

    -- A: after any list of events that follows an opening, each field's bytes are the journal's
    pub bytes_are_journal : (s : S) → Opened R Y s → (es : List ℕ) → Same (final Y s es) (journal_of R (log Y s es))
    bytes_are_journal s o es = (inv_all es s (empty R) (record { same = o.defaults; open' = rw o.closed tt })).same

module _ {W : Type 0} (R : Rules W) where
  -- the journal's bytes of a field are its default changed by its own finished visits
  abbrev Own : Journal → Type 0
  Own j = (q : ℕ) → j.bytes q ≡ all_visited R q (R.default q) (j.visits q)

  visited_last : (p : ℕ) (b : List ℕ) (vs : List (List ℕ)) (v : List ℕ) → all_visited R p b (vs ++ (v ∷ [])) ≡ visited R p (all_visited R p b vs) v
  visited_last p b [] v = refl
  visited_last p b (u ∷ vs) v = visited_last p (visited R p b u) vs v

  own_visit : (p : ℕ) (ks : List ℕ) (j : Journal) → Own j → Own (with_visit R p ks j)
  unfolding when◌then◌else◌
  own_visit p ks j h q =
      by_test (q =? p)
      (λ e. rw e
      (ap (λ (r : List ℕ). visited R p r ks) (h p)
      ∙ sym (visited_last p (R.default p) (j.visits p) ks)
      ∙ ap (λ (z : ℕ). all_visited R z (R.default z) (j.visits p ++ (ks ∷ []))) (sym (eqb-true q p e))))
      (λ e. rw e (h q))

  own_settled : (a : Answer) (j : Journal) → Own j → Own (settled R a j)
  own_settled answer.Taken j h = h
  own_settled answer.Flash j h = h
  own_settled (answer.Finished p) j h = own_visit p.0 (finished_keys R p.0 j) j h
  own_settled (answer.Fired p) j h = h
  own_settled (answer.Refused n) j h = h

  own_fed : (j : Journal) (x : Answered) → Own j → Own (fed R j x)
  unfolding when◌then◌else◌
  own_fed j x h = by_test (ignored x) (λ e. rw e h) (λ e. rw e (own_settled x.answer (noted x j) h))

  own_all : (xs : List Answered) (j : Journal) → Own j → Own (all_fed R j xs)
  own_all [] j h = h
  own_all (x ∷ xs) j h = own_all xs (fed R j x) (own_fed j x h)

  -- B: of any journal, whatever it was fed
  pub journal_is_visits : (xs : List Answered) → Own (journal_of R xs)
  journal_is_visits xs = own_all xs (empty R) (λ q. refl)

  -- visits that finish, and one more that starts from the bytes that they leave
  finish_more : (p : ℕ) (b : List ℕ) (vs : List (List ℕ)) (v : List ℕ) → AllFinish R p b vs → Finishes R p (all_visited R p b vs) v → AllFinish R p b (vs ++ (v ∷ []))
  finish_more p b [] v h f = (f, tt)
  finish_more p b (u ∷ vs) v h f = (h.0, finish_more p (visited R p b u) vs v h.1 f)

  -- each visit in the journal is finished
  record Finished (j : Journal) : Type 0 where
    own : Own j
    finish : (q : ℕ) → AllFinish R q (R.default q) (j.visits q)

  finished_visit : (p : ℕ) (ks : List ℕ) (j : Journal) → Finished j → Finishes R p (j.bytes p) ks → Finished (with_visit R p ks j)
  unfolding when◌then◌else◌
  finished_visit p ks j h f = record { own = own_visit p ks j h.own; finish = λ q. by_test (q =? p) (here q) (λ e. rw e (h.finish q)) }
    where
      here : (q : ℕ) → q =? p ≡ true → AllFinish R q (R.default q) ((with_visit R p ks j).visits q)
      here q e =
          rw e
          (subst (λ (z : ℕ). AllFinish R z (R.default z) (j.visits p ++ (ks ∷ []))) (sym (eqb-true q p e))
          (finish_more p (R.default p) (j.visits p) ks (h.finish p) (subst (λ (b : List ℕ). Finishes R p b ks) (h.own p) f)))

module _ {W S : Type 0} (R : Rules W) (Y : System W S) (L : Lawful R Y) where
  step_finished : (s : S) (e : ℕ) (j : Journal) → Inv R Y s j → Finished R j → Step R Y s e (Y.next s e) (Y.answer s e)
      → Finished R (fed R j (answered e (Y.answer s e)))
  step_finished s e j inv h (skips i v k) = rw (fed_skip R j (answered e (Y.answer s e)) i) h
  step_finished s e j inv h (quiet i f v k) = rw (fed_plain R j (answered e (Y.answer s e)) i f) (record { own = h.own; finish = h.finish })
  step_finished s e j inv h (opens i f m g k) = rw (fed_plain R j (answered e (Y.answer s e)) i f) (record { own = h.own; finish = h.finish })
  step_finished s e j inv h (goes i f m p w w' v v' o c k) = rw (fed_plain R j (answered e (Y.answer s e)) i f) (record { own = h.own; finish = h.finish })
  step_finished s e j inv h (passes i f m p w w' v v' o c k) = rw (fed_plain R j (answered e (Y.answer s e)) i f) (record { own = h.own; finish = h.finish })
  step_finished s e j inv h (ends i m p w y a v o c r k f) =
      let n = rw v at inv.open' in
      rw (fed_finished R j (answered e (Y.answer s e)) p i a)
      (finished_visit R p (finished_keys R p (noted (answered e (Y.answer s e)) j)) (noted (answered e (Y.answer s e)) j) (record { own = h.own; finish = h.finish })
      (leads_finish R (answered e (Y.answer s e)) n.1 m o c))

  finished_all : (es : List ℕ) (s : S) (j : Journal) → Inv R Y s j → Finished R j → Finished R (all_fed R j (log Y s es))
  finished_all [] s j inv h = h
  finished_all (e ∷ es) s j inv h =
      finished_all es (Y.next s e) (fed R j (answered e (Y.answer s e))) (step_inv R Y L s e j inv (L.step s e)) (step_finished s e j inv h (L.step s e))

  -- every visit that the journal finds was finished by its last key
  pub visits_finish : (s : S) → Opened R Y s → (es : List ℕ) (q : ℕ) → AllFinish R q (R.default q) ((journal_of R (log Y s es)).visits q)
  visits_finish s o es q =
      (finished_all es s (empty R) (record { same = o.defaults; open' = rw o.closed tt }) (record { own = λ p. refl; finish = λ p. tt })).finish q
