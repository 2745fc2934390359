use Rattle.std.proofs.Common.{rules}
use Rattle.xl_wire.proofs.BodyLaws.{tx_alone}
use Rattle.xl_wire.proofs.body.read_kind.Goals as goal

pub returns-in_default : goal.returns-in_default
returns-in_default c = tx_alone c.args.kind c.args.bytes.now c.bytes_at.result c.requires (search rules) (search rules) (search rules) (search rules) c.bytes_at.ensures
