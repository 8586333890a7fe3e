-- The loop: the texts that are left, from here on, end as all of them do.
use Prim.Native.Nat.{◌-◌}
use mathlib.Core.Path.{◌≡◌}
use Rattle.cmf.specs.Readers.{texts_from}
use Rattle.cmf.proofs.text.read_texts.Given as goal

abbrev pub invariant-loop : goal.invariant-loop
invariant-loop l = texts_from l.image (l.count - l.counter) l.end l.longest ≡ texts_from l.image l.count l.at 0
