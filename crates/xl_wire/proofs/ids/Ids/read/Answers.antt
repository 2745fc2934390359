use Rattle.std.proofs.Common.{sym, arith, length, length-take, length-drop, drop, ◌-◌}
use Rattle.xl_wire.proofs.BodyLaws.{kept_spelled}
use Rattle.xl_wire.proofs.ids.Ids.read.Goals as goal

pub invariant_of-result : goal.invariant_of-result
invariant_of-result c =
    let bytes = c.args.bytes.now in
    kept_spelled bytes _ c.read_u16-count.result c.requires (omega (arith, length-take (length bytes - 2) (drop 2 bytes), length-drop 2 bytes)) c.if-ids-count.false (sym c.in-None.ensures)
