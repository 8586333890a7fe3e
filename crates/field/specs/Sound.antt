-- Nobody has to believe this file: it serves the contracts of functions that no other crate calls.
-- What holds of the numerals that there are: the bounds within which numbers in digits are computed.
use Rattle.std.specs.Prelude.{◌+◌, ◌^◌, ◌≤◌, ◌<◌, ◌≡◌}
use Rattle.field.specs.declared.numeral.Numeral.{Numeral}

pub record Sound (n : Numeral) : Type 0 where
  pub two : 2 ≤ n.base
  pub sixteen : n.base ≤ 16
  pub signs : n.signs ≤ 1
  pub cells : n.signs + n.digits ≤ 32
  pub room : n.base ^ n.digits ≤ 4294967296
  pub limit : n.limit ≤ 4294967296
  pub apart : n.above + n.below < n.limit
  pub above : n.above < n.base ^ n.digits
  pub below : n.below < n.base ^ n.digits
  pub plain : n.signs ≡ 0 → n.below ≡ 0

-- the bases that numbers are written to: 10, 16 and 2
pub record Based (n : Numeral) : Type 0 where
  pub bases : (n.base ≡ 10 → ⊥) → (n.base ≡ 16 → ⊥) → n.base ≡ 2
