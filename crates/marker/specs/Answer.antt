-- What a call of `mark` answers.
use Rattle.std.specs.Prelude.{ℕ}

-- the sums right, wrong, blank; or the refusal number, and no sums
pub data Marked : Type 0 where
  Sums : (right wrong blank : ℕ) → Marked
  Refused : ℕ → Marked
