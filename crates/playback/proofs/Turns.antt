-- One turn of the loop that plays events, and its end: what is left to play, played from the present state, gives the whole, and so it is with the
-- answers that are left to note. An event that is not refused is the step of the session, by the executor's promises.
use Prim.Native.Nat.{ℕ, zero, suc, ◌+◌, ◌≤◌, ◌<◌}
use mathlib.Core.Path.{◌≡◌, sym, ap, ◌∙◌}
use mathlib.Core.Bool.{true}
use mathlib.Core.List.{List, [], ◌∷◌}
use native.Mathlib.Nat.{not-suc-le-zero, le_of_suc-le-suc}
use native.Mathlib.Numerals.{add-one}
use lib.ListN.{length, get_or, drop, drop_of_length-le}
use lib.Seq.{drop-cons}
use borrow.Author.Tests.{leb-true}
use Rattle.laws.specs.Choice.{◌≤?◌}
use Rattle.laws.specs.Overwrite.{over}
use Rattle.laws.proofs.Cases.{and_l, and_r}
use Rattle.laws.proofs.Overwriting.{over_nil, over_next}
use Rattle.session.specs.Events.{second}
use Rattle.session.specs.Answers.{answer_number, told_number}
use Rattle.session.specs.Step.{step_of, sheet_of}
use Rattle.session.specs.declared.session.Session.{Session}
use Rattle.session.specs.declared.answer.Stepped.{Stepped}
use Rattle.handset.specs.Event.{event_refusal, event_step, event_answer, event_sheet}
use Rattle.journal.specs.Sitting.{Sitting, sitting, next, answer_to, played, answered_in}
use Rattle.promises.proofs.Promises as executor
use Rattle.record.specs.Forms.{are_events}
use Rattle.playback.specs.Replay.{numbers_in}
use Rattle.playback.specs.Unrefused.{Unrefused}

-- each of a list of events is one
event_known : (es : List ℕ) (i : ℕ) → are_events es ≡ true → i < length es → get_or es i 0 ≤ second
unfolding are_events
event_known [] i h k = absurd (not-suc-le-zero k)
event_known (e ∷ es) zero h k = leb-true e second (and_l (e ≤? second) (are_events es) h)
event_known (e ∷ es) (suc i) h k = event_known es i (and_r (e ≤? second) (are_events es) h) (le_of_suc-le-suc k)

module _ (im es : List ℕ) where
  -- what is left to play, and what is left to note, written onto the list as it is
  abbrev plays : Session → List ℕ → ℕ → Sitting
  plays s sheet i = played im (sitting s sheet) (drop i es)

  abbrev notes : List ℕ → Session → List ℕ → ℕ → List ℕ
  notes list s sheet i = over list i (numbers_in (answered_in im (sitting s sheet) (drop i es)))

  -- a turn
  module _ (known : are_events es ≡ true) (s : Session) (sheet : List ℕ) (u : Unrefused im (sitting s sheet)) (r : Stepped) (later : List ℕ) (i : ℕ)
      (h : i < length es) (a : r ≡ step_of im sheet s (get_or es i 0)) (b : later ≡ sheet_of im sheet s (get_or es i 0)) where
    passes : event_refusal im (length sheet) s (get_or es i 0) ≡ 0
    unfolding played
    passes = u.passes [] (get_or es i 0) (event_known es i known h)

    step_is : r ≡ event_step im sheet s (get_or es i 0)
    step_is = a ∙ sym (((executor.promises).rules im).steps sheet s (get_or es i 0) passes).steps

    sheet_is : later ≡ event_sheet im sheet s (get_or es i 0)
    sheet_is = b ∙ sym (((executor.promises).rules im).steps sheet s (get_or es i 0) passes).stores

    next_is : sitting r.session later ≡ next im (sitting s sheet) (get_or es i 0)
    unfolding next
    next_is = rw (step_is, sheet_is)

    pub unrefused_next : Unrefused im (sitting r.session later)
    unfolding played
    unrefused_next = record { passes = λ ds e k. rw next_is (u.passes (get_or es i 0 ∷ ds) e k) }

    pub played_next : plays r.session later (i + 1) ≡ plays s sheet i
    unfolding played
    played_next = rw (next_is, add-one, drop-cons es i 0 h)

    pub noted_next : (list more : List ℕ) (n : ℕ) → n ≡ told_number r.answer → more ≡ over list i (n ∷ [])
        → notes more r.session later (i + 1) ≡ notes list s sheet i
    unfolding answered_in numbers_in answer_to event_answer
    noted_next list more n w m =
        let told : n ≡ answer_number (event_step im sheet s (get_or es i 0)).answer =
        w ∙ ap (λ (x : Stepped). told_number x.answer) step_is ∙ ((executor.promises).rules im).told_apart.whole im sheet s (get_or es i 0) in
        rw (m, over_next list i (n ∷ []), next_is, add-one, drop-cons es i 0 h, told)

  -- the end: the clauses of the contract, from the equations of the loop
  pub played_whole : (s : Session) (end list : List ℕ) (i : ℕ) (all : Sitting) (noted : List ℕ) → length es ≤ i
      → plays s end i ≡ all → notes list s end i ≡ noted → (s ≡ all.session) × ((end ≡ all.sheet) × (list ≡ noted))
  unfolding played answered_in numbers_in
  played_whole s end list i all noted h e f =
      let none = drop_of_length-le es {i = i} h in
      let q : sitting s end ≡ all = rw none at e in
      let p : over list i [] ≡ noted = rw none at f in
      (ap (λ (t : Sitting). t.session) q, (ap (λ (t : Sitting). t.sheet) q, sym (over_nil list i) ∙ p))
