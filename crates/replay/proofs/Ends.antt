-- How a replay ends, with room for 16,000 answers: what the calls say of refusal, sheet and last picture. That the last picture can be drawn is one
-- of the executor's promises.
use Prim.Native.Nat.{ℕ}
use mathlib.Core.Path.{◌≡◌, refl, sym, ap, ◌∙◌}
use mathlib.Core.List.{List}
use lib.ListN.{length}
use borrow.Author.Tests.{eqb-true}
use Rattle.laws.specs.Choice.{◌=?◌}
use Rattle.laws.proofs.Cases.{if_ind, if_eq}
use Rattle.picture.specs.Rows.{picture_of}
use Rattle.handset.specs.Open.{open_refusal}
use Rattle.handset.specs.Draw.{draw_refusal, drawn_picture}
use Rattle.handset.proofs.Ordering.{none_before}
use Rattle.promises.proofs.Promises as executor
use Rattle.record.specs.Forms.{events_of}
use Rattle.playback.specs.Replay.{play_refusal, replayed, play_answer, play_sheet}
use Rattle.playback.specs.declared.play.Replayed.{Replayed}

module _ (im sheet rec : List ℕ) where
  abbrev refusal : ℕ
  refusal = play_refusal im (length sheet) 20 4 rec 16000

  abbrev answer : Replayed
  answer = play_answer im sheet 20 4 rec 16000

  abbrev end : List ℕ
  end = play_sheet im sheet 20 4 rec 16000

  -- an answer has the refusal number
  refusal_told : answer.refusal ≡ refusal
  unfolding play_answer
  refusal_told = if_ind (λ (x : Replayed). x.refusal ≡ refusal) (refusal =? 0) (λ t. sym (eqb-true refusal 0 t)) (λ f. refl)

  module _ (good : refusal ≡ 0) where
    opened : open_refusal im (length sheet) 20 4 ≡ 0
    unfolding play_refusal
    opened = (none_before _ _ good).1

    session_is : answer.session ≡ (replayed im sheet 20 4 rec).session
    unfolding play_answer
    session_is = ap (λ (x : Replayed). x.session) (if_eq refusal 0 _ _ good)

    sheet_is : end ≡ (replayed im sheet 20 4 rec).sheet
    unfolding play_sheet
    sheet_is = if_eq refusal 0 _ _ good

    drawable : draw_refusal im (length end) answer.session 80 ≡ 0
    drawable =
        rw (session_is, sheet_is)
        (((executor.promises).sittings im).never_refused (record { sheet = sheet; columns = 20; lines = 4; events = events_of rec; accepted = opened })).draw

    last_drawn : (picture : List ℕ) → length picture ≡ 80 → drawn_picture im end answer.session picture ≡ picture_of im end answer.session
    last_drawn picture l = (((executor.promises).rules im).draws end answer.session picture (rw l drawable)).draws

  -- what play and Draw ensure, with a list of so many
  module _ (picture : List ℕ) (room : ℕ) (r : Replayed) (after last : List ℕ) (n : room ≡ 16000) (a : r ≡ play_answer im sheet 20 4 rec room)
      (b : after ≡ play_sheet im sheet 20 4 rec room) (d : last ≡ drawn_picture im after r.session picture) where
    answer_is : r ≡ answer
    answer_is = a ∙ ap (play_answer im sheet 20 4 rec) n

    refusal_is : r.refusal ≡ refusal
    refusal_is = ap (λ (x : Replayed). x.refusal) answer_is ∙ refusal_told

    end_is : after ≡ end
    end_is = b ∙ ap (play_sheet im sheet 20 4 rec) n

    picture_is : r.refusal ≡ 0 → length picture ≡ 80 → last ≡ picture_of im after answer.session
    picture_is z l = d ∙ rw (answer_is, end_is) (last_drawn (sym refusal_is ∙ z) picture l)

    pub ended : (r.refusal ≡ refusal) × ((after ≡ end) × (r.refusal ≡ 0 → length picture ≡ 80 → last ≡ picture_of im after answer.session))
    ended = (refusal_is, (end_is, picture_is))
