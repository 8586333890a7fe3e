-- The steps of the definitions, in the words of the code: a number that is read, and what goes on from it.
use Prim.Native.Nat.{ℕ, zero, suc, ◌-◌, ◌≤◌, ◌<◌}
use mathlib.Core.Path.{◌≡◌, refl, sym, ap, ◌∙◌}
use mathlib.Core.Bool.{Bool, true, false}
use mathlib.Core.List.{List, [], ◌∷◌}
use native.Mathlib.Omega.{arith}
use lib.ListN.{length, get_or}
use borrow.Author.Tests.{eq-eqb, ne_eqb, eqb-true, eqb-false, le-leb, lt-leb}
use Rattle.std.proofs.Common.{Option, Some, None, Result, Ok, Err, MatchBool, HoldsAt}
use Rattle.std.specs.List.{AllWithin}
use Rattle.laws.specs.Choice.{◌and◌, ◌=?◌, ◌≤?◌}
use Rattle.laws.proofs.Cases.{by_test, if_eq, if_ne, and_i, and_l, and_false}
use Rattle.session.specs.Events.{second}
use Rattle.handset.specs.Refusals.{◌unless◌}
use Rattle.handset.proofs.Ordering.{first_given, next_given, holding, failing, none_before, none_unless}
use Rattle.record.specs.Numbers.{number_at, on_read, numbers_at, end_after}
use Rattle.record.specs.Forms.{are_events, on_head, is_sequence, events_refusal, record_refusal, events_of, start_of, checked}
use Rattle.cmf.specs.Refusals.{number}
use Rattle.cmf.specs.declared.refusal.Refusal.{Refusal}
use Rattle.cmf.specs.declared.refusal.Refusal.TheVariants as fault
use Rattle.record.specs.Heads.{head_of}

-- ---- one number

module _ {A : Type 0} (b : A) (f : ℕ → ℕ → A) where
  pub on_broken : (r : Option (ℕ × ℕ)) → r ≡ None → on_read b f r ≡ b
  unfolding on_read
  on_broken r e = rw e

  pub on_number : (r : Option (ℕ × ℕ)) (n next : ℕ) → r ≡ Some (n, next) → on_read b f r ≡ f n next
  unfolding on_read
  on_number r n next e = rw e

-- a reading kept with its equation
pub by_read : {A : Type 0} (r : Option (ℕ × ℕ)) → (r ≡ None → A) → ((n next : ℕ) → r ≡ Some (n, next) → A) → A
by_read None f g = f refl
by_read (Some (n, next)) f g = g n next refl

-- ---- the head

module _ {A : Type 0} (b o : A) (f : ℕ → ℕ → A) (s : List ℕ) where
  pub head_missing : number_at s 0 ≡ None → on_head b o f s ≡ b
  unfolding on_head
  head_missing e = on_broken _ _ _ e

  module _ (form at : ℕ) (e : number_at s 0 ≡ Some (form, at)) where
    pub head_other : (form ≡ 1 → ⊥) → on_head b o f s ≡ o
    unfolding on_head
    head_other h = on_number _ _ _ form at e ∙ if_ne form 1 _ _ h

    pub head_cut : form ≡ 1 → number_at s at ≡ None → on_head b o f s ≡ b
    unfolding on_head
    head_cut h k = on_number _ _ _ form at e ∙ if_eq form 1 _ _ h ∙ on_broken _ _ _ k

    pub head_whole : form ≡ 1 → (n next : ℕ) → number_at s at ≡ Some (n, next) → on_head b o f s ≡ f n next
    unfolding on_head
    head_whole h n next k = on_number _ _ _ form at e ∙ if_eq form 1 _ _ h ∙ on_number _ _ _ n next k

-- the four cases of a head
pub by_head : {A : Type 0} (s : List ℕ) → (number_at s 0 ≡ None → A)
    → ((form at : ℕ) → number_at s 0 ≡ Some (form, at) → (form ≡ 1 → ⊥) → A)
    → ((form at : ℕ) → number_at s 0 ≡ Some (form, at) → form ≡ 1 → number_at s at ≡ None → A)
    → ((form at : ℕ) → number_at s 0 ≡ Some (form, at) → form ≡ 1 → (n next : ℕ) → number_at s at ≡ Some (n, next) → A) → A
by_head s missing other cut whole =
    by_read (number_at s 0) missing
    (λ form at e. by_test (form =? 1)
    (λ t. let one = eqb-true form 1 t in by_read (number_at s at) (λ k. cut form at e one k) (λ n next k. whole form at e one n next k))
    (λ t. other form at e (eqb-false form 1 t)))

-- two things that go on from one head go on together
pub head_both : {A B C : Type 0} (g : A → B → C) (a o : A) (f : ℕ → ℕ → A) (b p : B) (h : ℕ → ℕ → B) (s : List ℕ)
    → g (on_head a o f s) (on_head b p h s) ≡ on_head (g a b) (g o p) (λ n at. g (f n at) (h n at)) s
head_both g a o f b p h s =
    by_head s
    (λ e. rw (head_missing a o f s e, head_missing b p h s e, head_missing (g a b) (g o p) (λ n at. g (f n at) (h n at)) s e))
    (λ form at e k. rw (head_other a o f s form at e k, head_other b p h s form at e k, head_other (g a b) (g o p) (λ n at. g (f n at) (h n at)) s form at e k))
    (λ form at e one k. rw (head_cut a o f s form at e one k, head_cut b p h s form at e one k, head_cut (g a b) (g o p) (λ n at. g (f n at) (h n at)) s form at e one k))
    (λ form at e one n next k.
    rw (head_whole a o f s form at e one n next k, head_whole b p h s form at e one n next k, head_whole (g a b) (g o p) (λ n at. g (f n at) (h n at)) s form at e one n next k))

-- what goes on from a head that the code has read
module _ {A : Type 0} (r : ℕ → A) (f : ℕ → ℕ → A) (s : List ℕ) where
  goes_on : Result (ℕ × ℕ) Refusal → A
  goes_on (Err k) = r (number k)
  goes_on (Ok (n, at)) = f n at

  goes_on_lem : goes_on (head_of s) ≡ on_head (r 16) (r 17) f s
  unfolding head_of goes_on
  goes_on_lem = head_both (λ (x : Result (ℕ × ℕ) Refusal) (y : ℕ). goes_on x) (Err fault.Record) (Err fault.OtherForm) (λ n at. Ok (n, at)) 0 0 (λ n at. 0) s

  pub head_refused : (k : Refusal) → head_of s ≡ Err k → on_head (r 16) (r 17) f s ≡ r (number k)
  unfolding goes_on
  head_refused k e = sym goes_on_lem ∙ ap goes_on e

  pub head_read : (n at : ℕ) → head_of s ≡ Ok (n, at) → on_head (r 16) (r 17) f s ≡ f n at
  unfolding goes_on
  head_read n at e = sym goes_on_lem ∙ ap goes_on e

-- ---- the events

eqb_suc : (a b : ℕ) → (suc a =? suc b) ≡ (a =? b)
eqb_suc a b =
    by_test (a =? b)
    (λ e. eq-eqb (suc a) (suc b) (omega (arith, eqb-true a b e)) ∙ sym e)
    (λ e. ne_eqb (suc a) (suc b) (λ z. eqb-false a b e (omega arith)) ∙ sym e)

module _ (s : List ℕ) where
  pub row_broken : (n at : ℕ) → 0 < n → number_at s at ≡ None → is_sequence n s at ≡ false
  unfolding is_sequence numbers_at
  row_broken zero at h e = absurd (omega arith)
  row_broken (suc n) at h e =
      and_false _ (ne_eqb _ (suc n) (λ z. let l = ap length (on_broken [] (λ x next. x ∷ numbers_at n s next) (number_at s at) e) in omega arith))

  -- one number more
  module _ (x next : ℕ) where
    pub numbers_next : (n at : ℕ) → number_at s at ≡ Some (x, next) → numbers_at (suc n) s at ≡ x ∷ numbers_at n s next
    unfolding numbers_at
    numbers_next n at e = on_number _ _ _ x next e

    pub end_next : (n at : ℕ) → number_at s at ≡ Some (x, next) → end_after (suc n) s at ≡ end_after n s next
    unfolding end_after
    end_next n at e = on_number _ _ _ x next e

    pub row_next : (n at : ℕ) → 0 < n → number_at s at ≡ Some (x, next) → is_sequence (n - 1) s next ≡ is_sequence n s at
    unfolding is_sequence
    row_next zero at h e = absurd (omega arith)
    row_next (suc n) at h e =
        let z : suc n - 1 ≡ n = omega arith in
        rw (z, numbers_next n at e, end_next n at e, eqb_suc (length (numbers_at n s next)) n)

    pub events_next : (n at : ℕ) → 0 < n → number_at s at ≡ Some (x, next)
        → (x ≤? second) and are_events (numbers_at (n - 1) s next) ≡ are_events (numbers_at n s at)
    unfolding are_events
    events_next zero at h e = absurd (omega arith)
    events_next (suc n) at h e = let z : suc n - 1 ≡ n = omega arith in rw (z, numbers_next n at e)

  -- at the end of the numbers
  module _ (n at : ℕ) (z : n ≡ 0) where
    pub row_over : (at ≡ length s → ⊥) → is_sequence n s at ≡ false
    unfolding is_sequence numbers_at end_after ◌and◌
    row_over h = rw z (ne_eqb at (length s) h)

    pub row_ends : at ≡ length s → is_sequence n s at ≡ true
    unfolding is_sequence numbers_at end_after ◌and◌
    row_ends h = rw z (eq-eqb at (length s) h)

    pub events_none : are_events (numbers_at n s at) ≡ true
    unfolding are_events numbers_at
    events_none = rw z

  -- what a row is refused for
  module _ (n at : ℕ) where
    pub row_refused : is_sequence n s at ≡ false → 16 ≡ events_refusal n s at
    unfolding events_refusal
    row_refused h = sym (rw (failing 16 (is_sequence n s at) h) (first_given 16 _ (λ z. omega arith)))

    module _ (h : is_sequence n s at ≡ true) where
      then_events : events_refusal n s at ≡ 13 unless are_events (numbers_at n s at)
      unfolding events_refusal
      then_events = rw (holding 16 (is_sequence n s at) h) (next_given 0 _ refl)

      pub row_bad : are_events (numbers_at n s at) ≡ false → 13 ≡ events_refusal n s at
      row_bad g = sym (then_events ∙ failing 13 _ g)

      pub row_good : are_events (numbers_at n s at) ≡ true → 0 ≡ events_refusal n s at
      row_good g = sym (then_events ∙ holding 13 _ g)

-- a conjunction that goes on
pub and_on : (a b c : Bool) → (a and b) and c ≡ a and (b and c)
unfolding ◌and◌
and_on true b c = refl
and_on false b c = refl

-- ---- the whole

module _ (s : List ℕ) where
  -- the number of events that the head states
  stated : ℕ
  stated = on_head 0 0 (λ n at. n) s

  -- a row that is not refused has them all
  row_counted : (n at : ℕ) → events_refusal n s at ≡ 0 → length (numbers_at n s at) ≡ n
  unfolding events_refusal is_sequence
  row_counted n at z = eqb-true (length (numbers_at n s at)) n (and_l _ _ (none_unless 16 _ (λ q. omega arith) (none_before _ _ z).0))

  events_stated : record_refusal s ≡ 0 → length (events_of s) ≡ stated
  unfolding record_refusal events_of stated
  events_stated z =
      by_head s
      (λ e. absurd (let f = head_missing 16 17 (λ n at. events_refusal n s at) s e in omega arith))
      (λ form at e h. absurd (let f = head_other 16 17 (λ n at. events_refusal n s at) s form at e h in omega arith))
      (λ form at e one k. absurd (let f = head_cut 16 17 (λ n at. events_refusal n s at) s form at e one k in omega arith))
      (λ form at e one n next k.
      rw (head_whole [] [] (λ n at. numbers_at n s at) s form at e one n next k, head_whole 0 0 (λ n at. n) s form at e one n next k)
      (row_counted n next (sym (head_whole 16 17 (λ n at. events_refusal n s at) s form at e one n next k) ∙ z)))

  -- the head is refused
  pub refused_head : (k : Refusal) → head_of s ≡ Err k → number k ≡ (checked s).refusal
  unfolding checked record_refusal
  refused_head k e = sym (head_refused (λ j. j) (λ n at. events_refusal n s at) s k e)

  -- or the events are looked through
  module _ (n at : ℕ) (e : head_of s ≡ Ok (n, at)) where
    pub refused_events : (k : ℕ) → k ≡ events_refusal n s at → k ≡ (checked s).refusal
    unfolding checked record_refusal
    refused_events k f = f ∙ sym (head_read (λ j. j) (λ n at. events_refusal n s at) s n at e)

    module _ (z : 0 ≡ events_refusal n s at) where
      none : record_refusal s ≡ 0
      unfolding checked
      none = sym (refused_events 0 z)

      pub count_checked : n ≡ (checked s).events
      unfolding checked stated
      count_checked = sym (if_eq (record_refusal s) 0 _ _ none ∙ events_stated none ∙ head_read (λ j. 0) (λ n at. n) s n at e)

      pub start_checked : at ≡ (checked s).start
      unfolding checked start_of
      start_checked = sym (if_eq (record_refusal s) 0 _ _ none ∙ head_read (λ j. 0) (λ n at. at) s n at e)

-- ---- a list of events

neither : (a : Bool) → a and false ≡ false
unfolding ◌and◌
neither true = refl
neither false = refl

-- whether all are events, by those that are not
all_below : (es : List ℕ) → ((k d : ℕ) → k < length es → get_or es k d ≤ second) → are_events es ≡ true
unfolding are_events
all_below [] h = refl
all_below (e ∷ es) h = and_i (le-leb e second (h 0 0 (omega arith))) (all_below es (λ k d l. h (suc k) d (omega arith)))

one_above : (es : List ℕ) (k : ℕ) → k < length es → second < get_or es k 0 → are_events es ≡ false
unfolding are_events
one_above [] k l h = absurd (omega arith)
one_above (e ∷ es) zero l h = and_false _ (lt-leb e second h)
one_above (e ∷ es) (suc k) l h = ap (λ (b : Bool). e ≤? second and b) (one_above es k (omega arith) h) ∙ neither (e ≤? second)

pub all_events : (es : List ℕ) (r : Bool)
    → MatchBool r (AllWithin (λ e. e ≤ second) es 0 (length es)) ((k : ℕ) × (k < length es) × HoldsAt (λ e. second < e) es k)
    → r ≡ are_events es
all_events es true h = sym (all_below es (λ k d l. h k d (omega arith) l))
all_events es false h = sym (one_above es h.0 h.1 (h.2 0))
