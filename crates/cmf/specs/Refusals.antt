-- The numbers of refusals.
use Rattle.std.specs.Prelude.{ℕ, Option, Some, None, Result, Ok, Err}
use Rattle.cmf.specs.declared.refusal.Refusal.{Refusal}
use Rattle.cmf.specs.declared.refusal.Refusal.TheVariants as fault

-- 01, Refusal numbers; 15 to 25 are those of the change requests
abbrev pub number : Refusal → ℕ
number fault.Shape = 1
number fault.Length = 2
number fault.Name = 3
number fault.Version = 4
number fault.Order = 5
number fault.Cut = 6
number fault.Form = 7
number fault.Limit = 8
number fault.Setting = 9
number fault.Sheet = 10
number fault.Overlap = 11
number fault.Session = 12
number fault.Event = 13
number fault.Item = 14
number fault.Key = 15
number fault.Record = 16
number fault.OtherForm = 17
number fault.Room = 25

-- 0 stands for no refusal
abbrev pub refusal_number : Option Refusal → ℕ
refusal_number None = 0
refusal_number (Some r) = number r

-- and the same for what a call answers or is refused with
abbrev pub refusal_in : {A : Type 0} → Result A Refusal → ℕ
refusal_in (Ok a) = 0
refusal_in (Err r) = number r
