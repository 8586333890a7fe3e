-- The cases of a replay: each refusal in its order, and what is played where nothing is refused. The events of a record that is not refused are its
-- bytes from the place on that the check answers.
use Prim.Native.Nat.{ℕ, ◌-◌, ◌≤◌, ◌<◌}
use mathlib.Core.Path.{◌≡◌, refl, sym, ap, ◌∙◌}
use mathlib.Core.Bool.{true}
use mathlib.Core.List.{List}
use native.Mathlib.Omega.{arith}
use lib.ListN.{length, take, drop}
use borrow.Author.Tests.{le-leb, lt-leb}
use Rattle.laws.specs.Choice.{◌≤?◌}
use Rattle.laws.specs.Overwrite.{over}
use Rattle.laws.proofs.Cases.{if_eq, if_ne}
use Rattle.laws.proofs.Lists.{part_tail}
use Rattle.cmf.specs.Refusals.{number}
use Rattle.cmf.specs.declared.refusal.Refusal.{Refusal}
use Rattle.cmf.proofs.Numbers.{number_positive}
use Rattle.session.specs.declared.session.Session.{Session}
use Rattle.handset.specs.Refusals.{◌unless◌}
use Rattle.handset.specs.Open.{open_refusal, open_answer, open_sheet}
use Rattle.handset.specs.declared.open.Opened.{Opened}
use Rattle.handset.proofs.Ordering.{next_given, holding, failing, none_before, stops_at}
use Rattle.journal.specs.Sitting.{sitting, begun_with, played, answered_in}
use Rattle.promises.proofs.Promises as executor
use Rattle.record.specs.Forms.{are_events, record_refusal, events_of, start_of, checked}
use Rattle.record.proofs.Promises as records
use Rattle.playback.specs.Unrefused.{Unrefused}
use Rattle.playback.specs.Replay.{list_refusal, play_refusal, numbers_in, refused_replay, play_answer, play_sheet, play_list, listed}
use Rattle.playback.specs.declared.play.Replayed.{Replayed}

-- the part of a record from a place on
abbrev from : List ℕ → ℕ → List ℕ
from rec start = take (length rec - start) (drop start rec)

-- ---- the place of the first event

module _ (rec : List ℕ) (z : record_refusal rec ≡ 0) (start : ℕ) (e : start ≡ start_of rec) where
  pub start_inside : start ≤ length rec
  start_inside = omega (arith, ((records.promises).part rec z).0)

  pub part_events : from rec start ≡ events_of rec
  part_events = part_tail start rec ∙ ap (λ (n : ℕ). drop n rec) e ∙ ((records.promises).part rec z).1

-- ---- the record and the room for answers

module _ (rec : List ℕ) (room : ℕ) where
  -- a refused record
  pub listed_refused : (f : Refusal) → number f ≡ (checked rec).refusal → number f ≡ (listed rec room).refusal
  unfolding checked listed list_refusal
  listed_refused f h = stops_at (record_refusal rec) (25 unless (length (events_of rec) ≤? room)) f h

  module _ (z : 0 ≡ (checked rec).refusal) (count : ℕ) (e : count ≡ (checked rec).events) where
    none : record_refusal rec ≡ 0
    unfolding checked
    none = sym z

    count_is : count ≡ length (events_of rec)
    unfolding checked
    count_is = e ∙ if_eq (record_refusal rec) 0 _ _ none

    -- a list that is too short
    pub listed_short : room < count → 25 ≡ (listed rec room).refusal
    unfolding listed list_refusal
    listed_short k = sym (next_given (record_refusal rec) _ none ∙ failing 25 _ (lt-leb (length (events_of rec)) room (omega (arith, count_is))))

    -- one that is long enough
    module _ (k : count ≤ room) where
      pub listed_good : 0 ≡ (listed rec room).refusal
      unfolding listed list_refusal
      listed_good = sym (next_given (record_refusal rec) _ none ∙ holding 25 _ (le-leb (length (events_of rec)) room (omega (arith, count_is))))

      nothing : list_refusal rec room ≡ 0
      unfolding listed
      nothing = sym listed_good

      pub listed_count : count ≡ (listed rec room).events
      unfolding listed
      listed_count = count_is ∙ sym (if_eq (list_refusal rec room) 0 _ _ nothing)

      pub listed_start : (start : ℕ) → start ≡ (checked rec).start → start ≡ (listed rec room).start
      unfolding checked listed
      listed_start start h = h ∙ if_eq (record_refusal rec) 0 _ _ none ∙ sym (if_eq (list_refusal rec room) 0 _ _ nothing)

-- ---- the call

module _ (im sheet : List ℕ) (columns lines : ℕ) (rec list : List ℕ) where
  refusal : ℕ
  refusal = play_refusal im (length sheet) columns lines rec (length list)

  -- what is answered, and sheet and list afterwards
  abbrev Tells : Replayed → List ℕ → List ℕ → Type 0
  Tells r after notes =
      (r ≡ play_answer im sheet columns lines rec (length list))
      × ((after ≡ play_sheet im sheet columns lines rec (length list)) × (notes ≡ play_list im sheet columns lines rec list))

  refused_as : (k : ℕ) (r : Replayed) (after : List ℕ) → (k ≡ 0 → ⊥) → refusal ≡ k → r ≡ refused_replay k → after ≡ sheet → Tells r after list
  unfolding refusal play_answer play_sheet play_list
  refused_as k r after h p q a =
      (q ∙ sym (rw p (if_ne k 0 _ _ h)), (a ∙ sym (rw p (if_ne k 0 _ _ h)), sym (rw p (if_ne k 0 _ _ h))))

  -- refused before Open
  pub record_refused : (f : Refusal) → number f ≡ (listed rec (length list)).refusal → (r : Replayed) → r ≡ refused_replay (number f) → Tells r sheet list
  unfolding refusal play_refusal listed
  record_refused f e r q =
      refused_as (number f) r sheet (λ z. omega (arith, number_positive f, z)) (sym (stops_at (list_refusal rec (length list)) _ f e)) q refl

  module _ (h : 0 ≡ (listed rec (length list)).refusal) where
    unlisted : list_refusal rec (length list) ≡ 0
    unfolding listed
    unlisted = sym h

    record_good : record_refusal rec ≡ 0
    unfolding list_refusal
    record_good = (none_before _ _ unlisted).0

    module _ (o : Opened) (after : List ℕ) (a : o ≡ open_answer im (length sheet) columns lines) (b : after ≡ open_sheet im sheet columns lines) where
      open_refusal_lem : o.refusal ≡ open_refusal im (length sheet) columns lines
      unfolding open_answer
      open_refusal_lem = ap (λ (x : Opened). x.refusal) a

      refusal_open : refusal ≡ o.refusal
      unfolding refusal play_refusal
      refusal_open = next_given (list_refusal rec (length list)) _ unlisted ∙ sym open_refusal_lem

      -- refused by Open
      pub open_refused : (r : Replayed) → (o.refusal ≡ 0 → ⊥) → r ≡ refused_replay o.refusal → Tells r after list
      unfolding open_sheet
      open_refused r k q =
          refused_as o.refusal r after k refusal_open q (b ∙ if_ne (open_refusal im (length sheet) columns lines) 0 _ _ (λ z. k (open_refusal_lem ∙ z)))

      -- what the loop over the events asks for
      module _ (k : o.refusal ≡ 0) where
        accepted : open_refusal im (length sheet) columns lines ≡ 0
        accepted = sym open_refusal_lem ∙ k

        begun_is : sitting o.session after ≡ begun_with im sheet columns lines
        unfolding begun_with
        begun_is = rw (a, b)

        pub begins : Unrefused im (sitting o.session after)
        begins =
            record {
              passes = λ es x p. rw begun_is ((((executor.promises).sittings im).never_refused
                  (record { sheet = sheet; columns = columns; lines = lines; events = es; accepted = accepted })).events x p);
            }

    module _ (count start : ℕ) (p : count ≡ (listed rec (length list)).events) (q : start ≡ (listed rec (length list)).start) where
      first_start : start ≡ start_of rec
      unfolding listed
      first_start = q ∙ if_eq (list_refusal rec (length list)) 0 _ _ unlisted

      first_events : count ≡ length (events_of rec)
      unfolding listed
      first_events = p ∙ if_eq (list_refusal rec (length list)) 0 _ _ unlisted

      pub first_inside : start ≤ length rec
      first_inside = start_inside rec record_good start first_start

      events_are : from rec start ≡ events_of rec
      events_are = part_events rec record_good start first_start

      pub events_known : are_events (from rec start) ≡ true
      events_known = rw events_are ((records.promises).known rec record_good)

      -- played
      module _ (o : Opened) (after : List ℕ) (a : o ≡ open_answer im (length sheet) columns lines) (b : after ≡ open_sheet im sheet columns lines) (k : o.refusal ≡ 0) where
        pub all_played : (s : Session) (end notes : List ℕ)
            → s ≡ (played im (sitting o.session after) (from rec start)).session
            → end ≡ (played im (sitting o.session after) (from rec start)).sheet
            → notes ≡ over list 0 (numbers_in (answered_in im (sitting o.session after) (from rec start)))
            → Tells (record { refusal = 0; events = count; session = s }) end notes
        unfolding refusal play_answer play_sheet play_list
        all_played s end notes u v n =
            let begun = begun_is o after a b k in
            let z : play_refusal im (length sheet) columns lines rec (length list) ≡ 0 = refusal_open o after a b ∙ k in (
              rw (z, u, begun, events_are, first_events) (sym (if_eq 0 0 _ _ refl)),
              (v ∙ rw (z, begun, events_are) (sym (if_eq 0 0 _ _ refl)), n ∙ rw (z, begun, events_are) (sym (if_eq 0 0 _ _ refl))),
            )
