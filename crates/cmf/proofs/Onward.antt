-- A component that is not marked as the last is in the image, and the next one after it.
use Prim.Native.Nat.{ℕ, zero, suc, ◌+◌, ◌%◌, ◌≤◌, ◌<◌, max}
use mathlib.Core.Path.{◌≡◌}
use mathlib.Core.Bool.{false, true≢false}
use mathlib.Core.List.{List}
use native.Mathlib.Omega.{arith}
use lib.ListN.{length}
use borrow.Author.Tests.{ltb-true}
use Rattle.laws.specs.Choice.{◌<?◌}
use Rattle.laws.specs.Bytes.{byte_at, room}
use Rattle.laws.proofs.Cases.{if_ind, if_min}
use Rattle.cmf.specs.Readers.{tag_bit, texts_from, fixed_bytes, text_count, given, laid_out, component_by, component_at}
use Rattle.cmf.specs.declared.component.Component.{Component}
use Rattle.cmf.specs.declared.text.Run.{Run}

texts_end : (im : List ℕ) (n at m : ℕ) → at ≤ (texts_from im n at m).end
unfolding texts_from
texts_end im zero at m = omega arith
texts_end im (suc n) at m =
    if_ind (λ (r : Run). at ≤ r.end) (room (length im) at 1)
    (λ _. if_ind (λ (r : Run). at ≤ r.end) (room (length im) (at + 1) (byte_at im at))
    (λ _. omega (arith, texts_end im n (at + 1 + byte_at im at) (max m (byte_at im at)))) (λ _. omega arith))
    (λ _. omega arith)

fixed_some : (code edit : ℕ) → 1 ≤ fixed_bytes code edit
unfolding fixed_bytes
fixed_some code edit =
    if_min _ {x = 7} (omega arith) (if_min _ {x = 8} (omega arith) (if_min _ {x = 10} (omega arith) (if_min _ {x = 15} (omega arith)
    (if_min _ {x = 23} (omega arith) (if_min _ {x = 9} (omega arith) (if_min _ {x = 8} (omega arith) (if_min _ {x = 10} (omega arith)
    (if_min _ {x = 9} (omega arith) (if_min _ {x = 14} (omega arith) (if_min _ {x = 10} (omega arith)
    (if_min _ (if_min _ {x = 6} {y = 1} (omega arith) (omega arith)) (omega arith))))))))))))

module _ (im : List ℕ) (c : ℕ) where
  abbrev P : Component → Type 0
  P x = x.last ≡ false → c < x.next.0

  laid_onward : (code tag : ℕ) → P (laid_out im c code tag (texts_from im (text_count im c code) (c + fixed_bytes code (tag_bit 32 tag)) 0))
  unfolding laid_out
  laid_onward code tag =
      let t : Run = texts_from im (text_count im c code) (c + fixed_bytes code (tag_bit 32 tag)) 0 in
      if_ind P (room (length im) c (fixed_bytes code (tag_bit 32 tag)))
      (λ _. if_ind P t.fits
      (λ _. if_ind P (given im c code (tag_bit 32 tag) t)
      (λ _ h. omega (arith, texts_end im (text_count im c code) (c + fixed_bytes code (tag_bit 32 tag)) 0, fixed_some code (tag_bit 32 tag)))
      (λ _ h. absurd (true≢false h)))
      (λ _ h. absurd (true≢false h)))
      (λ _ h. absurd (true≢false h))

  pub component_onward : (component_at im c).last ≡ false → (c < length im) × (c < (component_at im c).next.0)
  unfolding component_at component_by
  component_onward =
      if_ind (λ (x : Component). x.last ≡ false → (c < length im) × (c < x.next.0)) (c <? length im)
      (λ e h. (
        ltb-true c (length im) e,
        if_ind P ((byte_at im c % 32) <? 0x18) (λ _. laid_onward (byte_at im c % 32) (byte_at im c)) (λ _ g. absurd (true≢false g)) h,
      ))
      (λ _ h. absurd (true≢false h))
