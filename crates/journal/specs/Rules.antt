-- The visit rules of an image (01, Fields and Keys), as the journal is fed them: those of crates field and
-- keys, at the field that is read at a place.
use Rattle.std.specs.Prelude.{ℕ, ◌+◌, ◌≤◌, ◌≡◌, ◌⊎◌}
use mathlib.Core.List.{List, Memᴰ}
use Rattle.laws.specs.Choice.{when◌then◌else◌}
use Rattle.field.specs.Values.{bytes_of, value_of}
use Rattle.field.specs.Cells.{started, finished}
use Rattle.field.specs.Sheet.{size_of, own_bytes}
use Rattle.field.specs.declared.kind.Kind.{Kind}
use Rattle.field.specs.declared.kind.Kind.TheVariants.{Integer, Counter, Time, Date, Switch, Option, Trigger}
use Rattle.field.specs.declared.record.Field.{Field}
use Rattle.field.specs.declared.work.Work.{Work}
use Rattle.keys.specs.declared.press.Outcome.{Outcome}
use Rattle.keys.specs.declared.press.Outcome.TheVariants as outcome
use Rattle.cmf.specs.Grammar.{WellFormed}
use Rattle.cmf.specs.Readers.{component_at}
use Rattle.session.specs.Visits.{pressed}
use Rattle.journal.specs.Journal.{Out, on, stored, Rules, Journal}

-- the field that is read at a place
abbrev pub field_at : List ℕ → ℕ → Field
field_at im p = (component_at im p).field

-- 01: how many ENTERs a visit took, the one that opened it among them: one for each part, and one more
unfoldable pub opener_of : Kind → ℕ
opener_of (Integer f) = 2
opener_of (Counter s) = 2
opener_of (Time long) = when long then 4 else 3
opener_of (Date long) = 4
opener_of (Switch n) = 2
opener_of (Option n w) = 2
opener_of Trigger = 2

-- what follows for the visit from a key's outcome, with the working copy v that the key gave: a flash leaves
-- the copy w, and only the last ENTER stores. Fired and Passed are a trigger's, which has no bytes and no
-- finished visit
unfoldable pub out_of : Kind → Work → Work → Outcome → Out Work
out_of k w v outcome.Taken = on v
out_of k w v outcome.Flash = on w
out_of k w v outcome.NextPart = on v
out_of k w v outcome.Done = stored (bytes_of (finished k v))
out_of k w v outcome.Fired = on w
out_of k w v outcome.Passed = on w

-- 01, Keys: what a key makes of a visit
abbrev pub pressed_out : Kind → Work → ℕ → Out Work
pressed_out k w e = out_of k w (pressed k w e).work (pressed k w e).outcome

-- 01, Fields: a visit starts from the field's bytes, or from its default where they are out of range
abbrev pub start_of : Field → List ℕ → Work
start_of f b = started f.kind (value_of (size_of f) b) f.default

-- the rules of an image
abbrev pub rules_of : List ℕ → Rules Work
rules_of im = record {
  default = λ p. bytes_of (field_at im p).default;
  start = λ p b. start_of (field_at im p) b;
  press = λ p w e. pressed_out (field_at im p).kind w e;
  opener = λ p. opener_of (field_at im p).kind;
}

-- a field of an image is at a place: for some length of the sheet the image is well formed, and what is read
-- at the place is one of its fields. Every field of the image is one (`promises`, `Accepts.every-field`), and
-- the fields are the same for every sheet (`acceptance` `same-fields`)
pub record IsField (im : List ℕ) (q : ℕ) : Type 0 where
  pub extent : ℕ
  pub formed : WellFormed im extent
  pub known : Memᴰ (field_at im q) formed.fields

-- the n bytes of a sheet from a place on lie beside every field
pub record Beside (im : List ℕ) (from n : ℕ) : Type 0 where
  pub beside : (q : ℕ) → IsField im q → (from + n ≤ (field_at im q).sheet.0)
      ⊎ ((field_at im q).sheet.0 + size_of (field_at im q) ≤ from)

-- each field's bytes in the sheet are the journal's
pub record HoldsJournal (im sheet : List ℕ) (j : Journal) : Type 0 where
  pub same : (q : ℕ) → IsField im q → own_bytes (field_at im q) sheet ≡ j.bytes q
