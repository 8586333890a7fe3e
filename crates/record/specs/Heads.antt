-- Nobody has to believe this file: what the check of a record knows on its way.
use Rattle.std.specs.Prelude.{ℕ, List, Result, Ok, Err}
use Rattle.cmf.specs.declared.refusal.Refusal.{Refusal}
use Rattle.cmf.specs.declared.refusal.Refusal.TheVariants as fault
use Rattle.record.specs.Forms.{on_head}

-- the head of a record: the number of events and the place of the first, or the refusal
unfoldable pub head_of : List ℕ → Result (ℕ × ℕ) Refusal
head_of s = on_head (Err fault.Record) (Err fault.OtherForm) (λ n at. Ok (n, at)) s
