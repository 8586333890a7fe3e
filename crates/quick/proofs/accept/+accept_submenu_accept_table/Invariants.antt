-- A line is head, components and submenu; the lines that are left, done to a state that has come as far, are the whole. The depth left falls.
use mathlib.Core.Path.{◌≡◌}
use lib.ListN.{length}
use Rattle.quick.specs.Accept.{AmongLines}
use Prim.Native.Nat.{◌+◌, ◌-◌, ◌≤◌}
use Rattle.quick.proofs.accept.+accept_submenu_accept_table.Given as goal

abbrev pub invariant-accept_table-loop-next : goal.invariant-accept_table-loop-next
invariant-accept_table-loop-next l = ((AmongLines l.image l.extent l.below l.initial.next.at l.initial.v l.initial.marks l.next.number l.next.before l.next.at l.v l.marks) × (length l.marks ≡ length l.initial.marks)) × (l.next.before ≤ l.next.at)

abbrev pub decreases-accept_table-loop-next : goal.decreases-accept_table-loop-next
decreases-accept_table-loop-next l = 99 - l.next.number

abbrev pub decreases-accept_submenu : goal.decreases-accept_submenu
decreases-accept_submenu l = l.below + l.below + 1

abbrev pub decreases-accept_table : goal.decreases-accept_table
decreases-accept_table l = l.left + l.left
