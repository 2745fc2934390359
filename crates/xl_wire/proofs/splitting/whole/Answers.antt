use Rattle.xl_wire.proofs.RawLaws.{body_lawful}
use Rattle.xl_wire.proofs.splitting.whole.Goals as goal

pub invariant_of-result : goal.invariant_of-result
invariant_of-result c =
    let facts = body_lawful c.args.bytes.now c.body_length.result c.body_length.ensures c.requires.lawful c.requires.long in
    record { lawful = facts.0; whole = facts.1 }
