-- The groups are known by the number's size.
use Rattle.record.proofs.Groups.{one_group, two_groups, three_groups}
use Rattle.record.proofs.number.write_number.Goals as goal

pub returns-then-n-lt128 : goal.returns-then-n-lt128
returns-then-n-lt128 c = rw (one_group _ c.if-n-lt128.true) c.write_groups.ensures

pub returns-then-n-lt16384 : goal.returns-then-n-lt16384
returns-then-n-lt16384 c = rw (two_groups _ c.if-n-lt128.false c.if-n-lt16384.true) c.write_groups-then-n-lt16384.ensures

pub returns-else-n-lt16384 : goal.returns-else-n-lt16384
returns-else-n-lt16384 c = rw (three_groups _ c.if-n-lt16384.false) c.write_groups-else-n-lt16384.ensures
