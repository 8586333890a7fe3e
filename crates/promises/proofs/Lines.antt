-- The readers agree with the grammar on a line that reads without fault, and the cursor line of each open table is such a line.
use Prim.Native.Nat.{ℕ}
use mathlib.Core.Path.{◌≡◌, refl, sym}
use mathlib.Core.Bool.{Bool, true, false}
use mathlib.Core.List.{List}
use borrow.Author.Tests.{eq-eqb}
use Rattle.laws.specs.Choice.{◌=?◌}
use Rattle.field.specs.declared.record.Field.{Field}
use Rattle.cmf.specs.Refusals.{refusal_number}
use Rattle.cmf.specs.Grammar.{WellFormed}
use Rattle.cmf.specs.Readers.{component_at}
use Rattle.cmf.proofs.Agreeing.{agree}
use Rattle.acceptance.proofs.Reach.{LineIn, part_of}
use Rattle.session.specs.Fits.{session_fits}
use Rattle.session.specs.declared.session.Session.{Session}
use Rattle.journal.proofs.Reached.{open_line_in}
use Rattle.promises.specs.Lines.{ComponentAgrees, LineAgrees, CursorsAgree}

-- a test of a bit, of which both answers are known
bit_told : (b : Bool) (n : ℕ) → (b ≡ true → n ≡ 1) → (b ≡ false → n ≡ 0) → b ≡ (n =? 1)
bit_told true n one none = sym (eq-eqb n 1 (one refl))
bit_told false n one none = rw (none refl)

module _ (im : List ℕ) where
  component_agrees : (c : ℕ) → refusal_number (component_at im c).refusal ≡ 0 → ComponentAgrees im c
  component_agrees c o =
      let r = (agree im).component_reads c o in
      record { is = r.component; next = r.next; last = bit_told _ _ r.last r.more; editable = r.editable }

  line_agrees : (fields : List Field) (left p : ℕ) → LineIn im fields left p → LineAgrees im p
  line_agrees fields left p i =
      let r = (agree im).head_reads p i.refusal in
      record {
        head = record {
          last = bit_told _ _ r.last r.more;
          next = r.next;
          submenu = bit_told _ _ r.submenu r.plain;
          table = r.table;
          protected = r.protected;
          password = r.place;
          good = r.password i.good;
          component = r.component;
        };
        components = λ c m. component_agrees c (part_of i.parts c m).refusal;
      }

pub cursors_agree : (im : List ℕ) (extent : ℕ) → WellFormed im extent → (s : Session) → session_fits im s ≡ true → CursorsAgree im s
cursors_agree im extent w s h = record {
  lines = λ l m. let c = open_line_in im extent w s h l m in line_agrees im w.fields c.left _ c.line;
}
