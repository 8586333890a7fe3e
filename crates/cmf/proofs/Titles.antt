-- A table's title: the reader finds one exactly where the grammar has a text.
use Prim.Native.Nat.{ℕ}
use mathlib.Core.Path.{◌≡◌, refl}
use mathlib.Core.Bool.{true}
use mathlib.Core.List.{List}
use native.Mathlib.Omega.{arith}
use Rattle.laws.proofs.Cases.{if_ind, if_true}
use Rattle.std.specs.Prelude.{None}
use Rattle.cmf.specs.Refusals.{refusal_number}
use Rattle.cmf.specs.Layouts.{Text}
use Rattle.cmf.specs.Readers.{odd_from, title_by, title_at}
use Rattle.cmf.specs.declared.text.Run.{Run}
use Rattle.cmf.specs.declared.title.Title.{Title}
use Rattle.cmf.proofs.Agreement.{TitleIs, TitleReads}
use Rattle.cmf.proofs.Runs.{text_texts, texts_text, texts_run, texts_reads}

module _ {im : List ℕ} where
  -- a text is read as a title, and so leads to the first line
  read : {at end : ℕ} → Text im at end → title_at im at ≡ record { refusal = None; end = end; line = record { 0 = odd_from end } }
  unfolding title_at title_by
  read t = rw (texts_run im (text_texts t)) (if_true _ _ refl)

  -- what a text reads as
  pub title_is : {at end : ℕ} → Text im at end → TitleIs im at end
  title_is t = record { refusal = rw (read t); ends = rw (read t) }

-- a title that is read has its text in the image
fits : (at : ℕ) (t : Run) → refusal_number (title_by at t).refusal ≡ 0 → t.fits ≡ true
unfolding title_by
fits at t = if_ind (λ (x : Title). refusal_number x.refusal ≡ 0 → t.fits ≡ true) t.fits (λ f c. f) (λ f c. absurd (omega arith))

-- what is known of a title that reads with code 0
pub title_reads : (im : List ℕ) (at : ℕ) → refusal_number (title_at im at).refusal ≡ 0 → TitleReads im at
unfolding title_at
title_reads im at c =
    let t = texts_text (texts_reads im 1 at 0 (fits at _ c)).texts in
    record { text = rw (read t) t; line = rw (read t) }
