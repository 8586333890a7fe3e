-- Texts one after the other: where the grammar has them the reader finds them all, with their end and the longest, and the other way round.
use Prim.Native.Nat.{ℕ, zero, suc, ◌+◌, ◌≤◌, max}
use mathlib.Core.Path.{◌≡◌, refl, ap, ◌∙◌}
use mathlib.Core.Bool.{true, false≢true}
use mathlib.Core.List.{List}
use lib.ListN.{length}
use native.Mathlib.Omega.{arith}
use Rattle.laws.specs.Bytes.{byte_at, room}
use Rattle.laws.proofs.Cases.{if_ind, if_true}
use Rattle.laws.proofs.Rooms.{room_le, le_room}
use Rattle.cmf.specs.Layouts.{Text, Texts}
use Rattle.cmf.specs.Readers.{run_of, texts_from}
use Rattle.cmf.specs.declared.text.Run.{Run}

-- the longest of some and of none, and of three
max_none : (n : ℕ) → n ≡ max n 0
max_none n = omega arith

max_all : (n : ℕ) → max 0 n ≡ n
max_all n = omega arith

max_assoc : (a b c : ℕ) → max (max a b) c ≡ max a (max b c)
max_assoc a b c = omega arith

module _ {im : List ℕ} where
  -- where there is no text the end is the place itself
  pub none_ends : {at end longest : ℕ} → Texts im 0 at end longest → end ≡ at
  none_ends Texts.none = refl

  -- one text as a run of one, and back
  pub text_texts : {at end : ℕ} → Text im at end → Texts im 1 at end (byte_at im at)
  text_texts {at} {end} t = rw (max_none (byte_at im at)) (Texts.more end t Texts.none)

  pub texts_text : {at end longest : ℕ} → Texts im 1 at end longest → Text im at end
  texts_text (Texts.more mid t ts) = rw (none_ends ts) t

  -- texts end at or after the place where they begin, and in the image
  pub texts_after : {n at end longest : ℕ} → Texts im n at end longest → at ≤ end
  texts_after Texts.none = omega arith
  texts_after (Texts.more mid t ts) = omega (arith, texts_after ts, t.ends)

  pub texts_inside : {n at end longest : ℕ} → Texts im n at end longest → at ≤ length im → end ≤ length im
  texts_inside Texts.none h = h
  texts_inside (Texts.more mid t ts) h = texts_inside ts t.inside

module _ (im : List ℕ) where
  -- texts of the grammar are read to their end
  pub texts_is : {n at end longest : ℕ} → Texts im n at end longest → (m : ℕ) → texts_from im n at m ≡ run_of true end (max m longest)
  unfolding texts_from
  texts_is Texts.none m = ap (run_of true _) (max_none m)
  texts_is {at} (Texts.more mid t ts) m =
      let h : at + 1 + byte_at im at ≤ length im = omega (arith, t.ends, t.inside) in
      if_true _ _ (le_room (length im) at 1 (omega arith)) ∙ if_true _ _ (le_room (length im) (at + 1) (byte_at im at) h)
      ∙ rw (← t.ends) (texts_is ts (max m (byte_at im at)) ∙ ap (run_of true _) (max_assoc m (byte_at im at) _))

  -- and so are they if there is none before them
  pub texts_run : {n at end longest : ℕ} → Texts im n at end longest → texts_from im n at 0 ≡ run_of true end longest
  texts_run t = texts_is t 0 ∙ ap (run_of true _) (max_all _)

  -- what is known of texts that are read
  pub record TextsReads (n at m : ℕ) : Type 0 where
    pub end : ℕ
    pub longest : ℕ
    pub texts : Texts im n at end longest
    pub run : texts_from im n at m ≡ run_of true end (max m longest)

  -- texts that are all in the image are texts of the grammar
  pub texts_reads : (n at m : ℕ) → (texts_from im n at m).fits ≡ true → TextsReads n at m
  unfolding texts_from
  texts_reads zero at m = λ f. record { end = at; longest = 0; texts = Texts.none; run = texts_is Texts.none m }
  texts_reads (suc n) at m =
      if_ind Fits (room (length im) at 1)
      (λ _. if_ind Fits (room (length im) (at + 1) (byte_at im at))
      (λ r f. let t = texts_reads n (at + 1 + byte_at im at) (max m (byte_at im at)) f in
      let more : Texts im (suc n) at t.end (max (byte_at im at) t.longest) =
      Texts.more (at + 1 + byte_at im at) (record { ends = refl; inside = room_le (length im) (at + 1) (byte_at im at) r }) t.texts in
      record { end = t.end; longest = max (byte_at im at) t.longest; texts = more; run = texts_is more m })
      (λ _ f. absurd (false≢true f)))
      (λ _ f. absurd (false≢true f))
    where
      Fits : Run → Type 0
      Fits r = r.fits ≡ true → TextsReads (suc n) at m
