-- The loop's invariant: whether the numbers that are left end the bytes, and whether all are events, is what it was at the start.
use Prim.Native.Nat.{◌-◌}
use mathlib.Core.Path.{◌≡◌}
use Rattle.laws.specs.Choice.{◌and◌}
use Rattle.record.specs.Numbers.{numbers_at}
use Rattle.record.specs.Forms.{are_events, is_sequence}
use Rattle.record.proofs.reading.scan.Given as goal

abbrev pub invariant-loop : goal.invariant-loop
invariant-loop l = record {
  row : is_sequence (l.count - l.counter) l.bytes l.next ≡ is_sequence l.count l.bytes l.at;
  events : (l.known and are_events (numbers_at (l.count - l.counter) l.bytes l.next)) ≡ are_events (numbers_at l.count l.bytes l.at);
}
