-- Components as the reader lays them out: by the code fixed bytes, so many texts, and what is asked of them. The table of codes is not looked at.
use Prim.Native.Nat.{ℕ, ◌+◌, ◌≤◌, ◌<◌}
use mathlib.Core.Path.{◌≡◌, refl, ◌∙◌}
use mathlib.Core.Bool.{Bool, true}
use mathlib.Core.List.{List}
use lib.ListN.{length}
use lib.Dec.{lit≤}
use native.Mathlib.Omega.{arith}
use borrow.Author.Tests.{ltb-true}
use Rattle.laws.specs.Choice.{when◌then◌else◌, ◌<?◌}
use Rattle.laws.specs.Bytes.{byte_at, room}
use Rattle.laws.proofs.Cases.{if_ind, if_min, if_true, if_lt}
use Rattle.laws.proofs.Rooms.{room_le, le_room}
use Rattle.field.specs.Settings.{settings_fit}
use Rattle.std.specs.Prelude.{Option, Some, None}
use Rattle.cmf.specs.Refusals.{refusal_number}
use Rattle.cmf.specs.declared.refusal.Refusal.{Refusal}
use Rattle.cmf.specs.declared.refusal.Refusal.TheVariants as fault
use Rattle.cmf.specs.Layouts.{Texts, code, edit_bit}
use Rattle.cmf.specs.Readers.{run_of, texts_from, fixed_bytes, text_count, given, kind_at, field_by, component_read, laid_out, component_by, component_at}
use Rattle.cmf.specs.declared.component.Component as read
use Rattle.cmf.proofs.Runs.{texts_after, texts_inside, texts_run, texts_reads}

module _ (im : List ℕ) where
  -- what the reader asks of a component that has the code c and ends there
  pub record Laid (at c end : ℕ) : Type 0 where
    pub longest : ℕ
    pub known : c < 0x18
    pub fixed : at + fixed_bytes c (edit_bit im at) ≤ length im
    pub texts : Texts im (text_count im at c) (at + fixed_bytes c (edit_bit im at)) end longest
    pub gives : given im at c (edit_bit im at) (run_of true end longest) ≡ true
    pub settings : settings_fit (kind_at im at c) (field_by im at c).default ≡ true

  -- every component has a byte at least
  pub some_byte : (c e : ℕ) → 0 < fixed_bytes c e
  unfolding fixed_bytes
  some_byte c e = search (if_min, lit≤) depth 40

  -- its end is after it and in the image
  pub laid_after : {at c end : ℕ} → Laid at c end → at < end
  laid_after {at} {c} a = omega (arith, some_byte c (edit_bit im at), texts_after a.texts)

  pub laid_inside : {at c end : ℕ} → Laid at c end → end ≤ length im
  laid_inside a = texts_inside a.texts a.fixed

  -- a component laid out so is read
  pub laid_read : {at end : ℕ} → Laid at (code im at) end → component_at im at ≡ component_read im at (code im at) (byte_at im at) end
  unfolding component_at component_by laid_out
  laid_read {at} a =
      if_lt at (length im) _ _ (omega (arith, laid_after a, laid_inside a)) ∙ if_lt (code im at) 0x18 _ _ a.known
      ∙ rw (texts_run im a.texts) (if_true _ _ (le_room (length im) at _ a.fixed) ∙ if_true _ _ refl ∙ if_true _ _ a.gives)

  -- such a component, with its end
  pub record Found (at c : ℕ) : Type 0 where
    pub end : ℕ
    pub laid : Laid at c end

  -- settings that are not refused are good
  not_nine : (t : Bool) → refusal_number (when t then None else Some fault.Setting) ≡ 0 → t ≡ true
  not_nine t = if_ind (λ (r : Option Refusal). refusal_number r ≡ 0 → t ≡ true) t (λ e c. e) (λ e c. absurd (omega arith))

  -- a component that is read is laid out so: first by a code, then by its own
  out_laid :
      (at c : ℕ) → c < 0x18 →
      refusal_number (laid_out im at c (byte_at im at) (texts_from im (text_count im at c) (at + fixed_bytes c (edit_bit im at)) 0)).refusal ≡ 0 → Found at c
  unfolding laid_out
  out_laid at c k =
      if_ind Sound (room (length im) at (fixed_bytes c (edit_bit im at)))
      (λ r. if_ind Sound (texts_from im (text_count im at c) (at + fixed_bytes c (edit_bit im at)) 0).fits
      (λ f. if_ind Sound (given im at c (edit_bit im at) (texts_from im (text_count im at c) (at + fixed_bytes c (edit_bit im at)) 0))
      (λ g s. let t = texts_reads im (text_count im at c) (at + fixed_bytes c (edit_bit im at)) 0 f in
      record {
        end = t.end;
        laid = record {
          longest = t.longest;
          known = k;
          fixed = room_le (length im) at _ r;
          texts = t.texts;
          gives = rw (texts_run im t.texts) at g;
          settings = not_nine _ s;
        };
      })
      (λ g s. absurd (omega arith)))
      (λ f s. absurd (omega arith)))
      (λ r s. absurd (omega arith))
    where
      Sound : read.Component → Type 0
      Sound x = refusal_number x.refusal ≡ 0 → Found at c

  pub read_laid : (at : ℕ) → refusal_number (component_at im at).refusal ≡ 0 → Found at (code im at)
  unfolding component_at component_by
  read_laid at =
      if_ind Sound (at <? length im)
      (λ i. if_ind Sound (code im at <? 0x18) (λ k. out_laid at (code im at) (ltb-true _ _ k)) (λ k s. absurd (omega arith)))
      (λ i s. absurd (omega arith))
    where
      Sound : read.Component → Type 0
      Sound x = refusal_number x.refusal ≡ 0 → Found at (code im at)
