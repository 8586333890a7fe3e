-- Every field of an accepted image shows as many cells as its kind is said to take, so that the cells before a component are where the edit
-- cursor counts them.
use Prim.Native.Nat.{ℕ}
use mathlib.Core.Path.{◌≡◌}
use mathlib.Core.List.{List}
use Rattle.cmf.specs.Grammar.{Every}
use Rattle.acceptance.specs.Check.{refusal_of}
use Rattle.acceptance.proofs.Acceptance.{accepted_exactly_when_well_formed}
use Rattle.acceptance.proofs.Fields.{every_table}
use Rattle.texts.proofs.Widths.{Wide, component_wide}

pub fields_wide : (im : List ℕ) (extent : ℕ) (e : refusal_of im extent ≡ 0)
    → Every (Wide im) ((accepted_exactly_when_well_formed im extent).0 e).fields
fields_wide im extent e =
    every_table im (Wide im) (component_wide im) _ _ _ _ ((accepted_exactly_when_well_formed im extent).0 e).table
