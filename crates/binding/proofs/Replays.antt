-- Recording and playing over C's buffers: each case of the calls. Columns and lines above 255 go as 255, which changes no answer (`Wide`).
use Prim.Native.Nat.{ℕ, ◌+◌, ◌≤◌, min}
use mathlib.Core.Path.{◌≡◌, sym, ap, ◌∙◌}
use mathlib.Core.List.{List}
use native.Mathlib.Omega.{arith}
use lib.ListN.{length}
use borrow.Author.Tests.{eq-eqb, ne_eqb, eqb-true, eqb-false}
use Rattle.laws.specs.Choice.{when◌then◌else◌, ◌=?◌}
use Rattle.laws.proofs.Cases.{by_test, if_eq, if_ne}
use Rattle.cmf.specs.Refusals.{number}
use Rattle.cmf.specs.declared.refusal.Refusal.{Refusal}
use Rattle.cmf.proofs.Numbers.{number_positive}
use Rattle.session_bytes.specs.Layout.{session_bytes, session_written, session_from}
use Rattle.session_bytes.proofs.Layouts.{written}
use Rattle.handset.specs.Refusals.{◌before◌, ◌unless◌}
use Rattle.handset.specs.Open.{open_refusal}
use Rattle.handset.proofs.Ordering.{next_given, holding, failing, none_before, stops_at}
use Rattle.record.specs.Forms.{recording_refusal, recorded, events_of}
use Rattle.record.specs.Promises.{Bytes}
use Rattle.record.proofs.Promises as records
use Rattle.playback.specs.Replay.{list_refusal, play_refusal, play_answer, play_sheet, play_list, listed}
use Rattle.playback.specs.declared.play.Replayed.{Replayed}
use Rattle.binding.specs.Answers.{refused_by}
use Rattle.binding.specs.Desk.{record_number, sized_refusal, play_number, played_sheet, played_list, played_bytes, played_session}
use Rattle.binding.proofs.Calling.{before_none}
use Rattle.binding.proofs.Wide.{open_wide, begun_wide}

-- ---- recording

module _ (es : List ℕ) (room : ℕ) where
  pub record_refused : (f : Refusal) → number f ≡ (recorded es room).refusal → (n : ℕ) → n ≡ refused_by (number f) → n ≡ record_number es room
  unfolding record_number recorded
  record_refused f e n h = h ∙ rw e (sym (if_ne (recording_refusal es room) 0 _ _ (λ z. omega (arith, number_positive f, e, z))))

  pub record_told : 0 ≡ (recorded es room).refusal → (n : ℕ) → n ≡ (recorded es room).length → n ≡ record_number es room
  unfolding record_number recorded
  record_told e n h = h ∙ if_eq (recording_refusal es room) 0 _ _ (sym e) ∙ sym (if_eq (recording_refusal es room) 0 _ _ (sym e))

  pub record_small : (n : ℕ) → n ≡ (recorded es room).length → n ≤ 65539
  record_small n h = rw h ((records.promises).short es room)

-- ---- playing: what is refused where the session's buffer has another length

module _ (im : List ℕ) (extent columns lines : ℕ) (rec : List ℕ) (room : ℕ) where
  pub unsized_record : (f : Refusal) → number f ≡ (listed rec room).refusal → number f ≡ play_refusal im extent columns lines rec room before 12
  unfolding play_refusal listed
  unsized_record f e = stops_at (play_refusal im extent columns lines rec room) 12 f (stops_at (list_refusal rec room) (open_refusal im extent columns lines) f e)

  pub unsized_open : 0 ≡ (listed rec room).refusal → (k : ℕ) → k ≡ open_refusal im extent columns lines before 12
      → k ≡ play_refusal im extent columns lines rec room before 12
  unfolding play_refusal listed
  unsized_open e k f = f ∙ rw (next_given (list_refusal rec room) (open_refusal im extent columns lines) (sym e))

-- ---- playing

module _ (im sheet : List ℕ) (columns lines a b : ℕ) (p : a ≡ min columns 255) (q : b ≡ min lines 255) (rec : List ℕ) where
  refusal_wide : (extent room : ℕ) → play_refusal im extent a b rec room ≡ play_refusal im extent columns lines rec room
  unfolding play_refusal
  refusal_wide extent room = rw (open_wide columns lines a b p q im extent)

  answer_wide : (room : ℕ) → play_answer im sheet a b rec room ≡ play_answer im sheet columns lines rec room
  unfolding play_answer
  answer_wide room = rw (refusal_wide (length sheet) room, begun_wide columns lines a b p q im sheet)

  sheet_wide : (room : ℕ) → play_sheet im sheet a b rec room ≡ play_sheet im sheet columns lines rec room
  unfolding play_sheet
  sheet_wide room = rw (refusal_wide (length sheet) room, begun_wide columns lines a b p q im sheet)

  list_wide : (list : List ℕ) → play_list im sheet a b rec list ≡ play_list im sheet columns lines rec list
  unfolding play_list
  list_wide list = rw (refusal_wide (length sheet) (length list), begun_wide columns lines a b p q im sheet)

  -- a buffer of another length: nothing is written
  module _ (list bs : List ℕ) (h : length bs ≡ 230 → ⊥) where
    unsized_number : (k : ℕ) → k ≡ play_refusal im (length sheet) a b rec (length list) before 12
        → 16777216 + k ≡ play_number im (length sheet) columns lines rec (length list) (length bs)
    unfolding play_number sized_refusal refused_by
    unsized_number k f =
        let u : 12 unless (length bs =? 230) ≡ 12 = failing 12 _ (ne_eqb (length bs) 230 h) in
        let g : k ≡ play_refusal im (length sheet) columns lines rec (length list) before 12 = rw (refusal_wide (length sheet) (length list)) at f in
        let z : k ≡ 0 → ⊥ = λ z. omega (arith, (none_before (play_refusal im (length sheet) columns lines rec (length list)) 12 (sym g ∙ z)).1) in
        sym (rw (u, ← g, if_ne k 0 (length (events_of rec)) (when k =? 0 then 0 else 16777216 + k) z) (if_ne k 0 _ _ z))

    pub unsized : (k : ℕ) → k ≡ play_refusal im (length sheet) a b rec (length list) before 12
        → (16777216 + k ≡ play_number im (length sheet) columns lines rec (length list) (length bs))
        × ((sheet ≡ played_sheet im sheet columns lines rec (length list) (length bs))
        × ((list ≡ played_list im sheet columns lines rec list (length bs))
        × ((bs ≡ played_bytes im sheet columns lines rec (length list) bs)
        × (session_from bs ≡ played_session im sheet columns lines rec (length list) (length bs)))))
    unfolding played_sheet played_list played_bytes played_session session_written session_from
    unsized k f =
        (unsized_number k f, (sym (if_ne (length bs) 230 _ _ h), (sym (if_ne (length bs) 230 _ _ h), (sym (if_ne (length bs) 230 _ _ h), if_ne (length bs) 230 _ _ h ∙ sym (if_ne (length bs) 230 _ _ h)))))

  -- a buffer of the right length
  module _ (list bs : List ℕ) (h : length bs ≡ 230) (r : Replayed) (e : r ≡ play_answer im sheet a b rec (length list)) where
    answer_is : r ≡ play_answer im sheet columns lines rec (length list)
    answer_is = e ∙ answer_wide (length list)

    sized_refusal_lem : sized_refusal im (length sheet) columns lines rec (length list) (length bs) ≡ play_refusal im (length sheet) columns lines rec (length list)
    unfolding sized_refusal
    sized_refusal_lem = rw (holding 12 _ (eq-eqb (length bs) 230 h)) (before_none _)

    -- what an answer says of the refusal
    told_refusal : r.refusal ≡ play_refusal im (length sheet) columns lines rec (length list)
    unfolding play_answer
    told_refusal =
        let k = play_refusal im (length sheet) columns lines rec (length list) in
        ap (λ (x : Replayed). x.refusal) answer_is
        ∙ by_test (k =? 0)
        (λ t. let z = eqb-true k 0 t in rw (if_eq k 0 _ _ z) (sym z))
        (λ t. rw (if_ne k 0 _ _ (eqb-false k 0 t)))

    told_events : r.refusal ≡ 0 → r.events ≡ length (events_of rec)
    unfolding play_answer
    told_events z = ap (λ (x : Replayed). x.events) (answer_is ∙ if_eq (play_refusal im (length sheet) columns lines rec (length list)) 0 _ _ (sym told_refusal ∙ z))

    -- the number of events fits
    pub events_small : Bytes rec → r.refusal ≡ 0 → r.events ≤ 65535
    unfolding play_refusal list_refusal
    events_small bytes z =
        let none = (none_before _ _ (none_before _ _ (sym told_refusal ∙ z)).0).0 in
        omega (arith, told_events z, ((records.promises).only rec bytes none).0.few)

    module _ (after notes t : List ℕ) (f : after ≡ play_sheet im sheet a b rec (length list)) (g : notes ≡ play_list im sheet a b rec list)
        (w : t ≡ session_written r.session bs) (back : session_from (session_bytes r.session) ≡ r.session) where
      -- what holds whatever the number is
      abbrev Left : ℕ → Type 0
      Left n =
          (n ≡ play_number im (length sheet) columns lines rec (length list) (length bs))
          × ((after ≡ played_sheet im sheet columns lines rec (length list) (length bs))
          × ((notes ≡ played_list im sheet columns lines rec list (length bs))
          × ((t ≡ played_bytes im sheet columns lines rec (length list) bs)
          × (session_from t ≡ played_session im sheet columns lines rec (length list) (length bs)))))

      sized : (n : ℕ) → n ≡ play_number im (length sheet) columns lines rec (length list) (length bs) → Left n
      unfolding played_sheet played_list played_bytes played_session
      sized n m = (
        m,
        (
          f ∙ sheet_wide (length list) ∙ sym (if_eq (length bs) 230 _ _ h),
          (
            g ∙ list_wide list ∙ sym (if_eq (length bs) 230 _ _ h),
            (
              w ∙ ap (λ (x : Replayed). session_written x.session bs) answer_is,
              ap (λ (l : List ℕ). session_from l) (written r.session bs t h w) ∙ back ∙ ap (λ (x : Replayed). x.session) answer_is ∙ sym (if_eq (length bs) 230 _ _ h),
            ),
          ),
        ),
      )

      pub play_refused : (n : ℕ) → (r.refusal ≡ 0 → ⊥) → n ≡ refused_by r.refusal → Left n
      unfolding play_number
      play_refused n z m = sized n (m ∙ rw (sized_refusal_lem, told_refusal) (sym (if_ne _ 0 _ _ (λ k. z (told_refusal ∙ k)))))

      pub play_told : r.refusal ≡ 0 → Left r.events
      unfolding play_number
      play_told z = sized r.events (told_events z ∙ rw sized_refusal_lem (sym (if_eq _ 0 _ _ (sym told_refusal ∙ z))))
