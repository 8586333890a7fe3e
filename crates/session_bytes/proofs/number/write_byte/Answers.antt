-- A store inside.
use Rattle.session_bytes.proofs.Numbers.{byte_put}
use Rattle.session_bytes.proofs.number.write_byte.Goals as goal

pub returns : goal.returns
returns c = byte_put c.args.bytes.now c.args.at c.args.x
