-- One turn of the loop that plays events, and its end: what is left to play, played from the present state, gives the whole.
use Prim.Native.Nat.{ℕ, ◌+◌, ◌≤◌, ◌<◌}
use mathlib.Core.Path.{◌≡◌, sym, ap, ◌∙◌}
use mathlib.Core.List.{List}
use native.Mathlib.Numerals.{add-one}
use lib.ListN.{length, get_or, drop, drop_of_length-le}
use lib.Seq.{drop-cons}
use Rattle.session.specs.declared.session.Session.{Session}
use Rattle.session.specs.declared.answer.Stepped.{Stepped}
use Rattle.handset.specs.Open.{open_refusal, open_answer, open_sheet}
use Rattle.handset.specs.Event.{event_step, event_sheet}
use Rattle.handset.specs.declared.open.Opened.{Opened}
use Rattle.journal.specs.Journal.{journal_of}
use Rattle.journal.specs.Rules.{rules_of, HoldsJournal}
use Rattle.journal.specs.Sitting.{Sitting, sitting, begun_with, next, played, answered_in}
use Rattle.journal.proofs.Sittings.{sheet_holds_journal}

module _ (im es : List ℕ) where
  pub played_next : (s : Session) (sheet later : List ℕ) (r : Stepped) (i : ℕ) → i < length es → r ≡ event_step im sheet s (get_or es i 0)
      → later ≡ event_sheet im sheet s (get_or es i 0) → played im (sitting r.session later) (drop (i + 1) es) ≡ played im (sitting s sheet) (drop i es)
  unfolding played next
  played_next s sheet later r i h a b = rw (add-one, drop-cons es i 0 h, a, b)

  pub played_all : (s : Session) (sheet : List ℕ) (i : ℕ) → length es ≤ i → played im (sitting s sheet) (drop i es) ≡ sitting s sheet
  unfolding played
  played_all s sheet i h = rw (drop_of_length-le es {i = i} h)

  -- the two clauses of a contract, from the equation of the loop
  pub played_whole : (s : Session) (end : List ℕ) (i : ℕ) (all : Sitting) → length es ≤ i → played im (sitting s end) (drop i es) ≡ all
      → (s ≡ all.session) × (end ≡ all.sheet)
  played_whole s end i all h e =
      let q : sitting s end ≡ all = sym (played_all s end i h) ∙ e in
      (ap (λ (t : Sitting). t.session) q, ap (λ (t : Sitting). t.sheet) q)

  -- Open and then the events
  module _ (sheet : List ℕ) (columns lines : ℕ) (o : Opened) (after : List ℕ) (a : o ≡ open_answer im (length sheet) columns lines)
      (b : after ≡ open_sheet im sheet columns lines) where
    begun_is : sitting o.session after ≡ begun_with im sheet columns lines
    unfolding begun_with
    begun_is = rw (a, b)

    pub sat_whole : (s : Session) (end : List ℕ) → s ≡ (played im (sitting o.session after) es).session → end ≡ (played im (sitting o.session after) es).sheet
        → (s ≡ (played im (begun_with im sheet columns lines) es).session)
        × ((end ≡ (played im (begun_with im sheet columns lines) es).sheet)
        × (open_refusal im (length sheet) columns lines ≡ 0 → HoldsJournal im end (journal_of (rules_of im) (answered_in im (begun_with im sheet columns lines) es))))
    sat_whole s end p q =
        let e : end ≡ (played im (begun_with im sheet columns lines) es).sheet = q ∙ ap (λ (t : Sitting). (played im t es).sheet) begun_is in
        (p ∙ ap (λ (t : Sitting). (played im t es).session) begun_is, (e, λ z. rw e (sheet_holds_journal im sheet columns lines z es)))
