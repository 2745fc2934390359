use Rattle.xl_publish.proofs.PutLaws.{puts_roll}
use Rattle.xl_publish.proofs.writing.write_roll.Goals as goal

pub returns-clause-written : goal.returns-clause-written
returns-clause-written c =
    (puts_roll c.args.key.now c.args.roll.now c.put_said-end.result c.hmac-tag.result _ _ _ c.put_said-end.ensures.long c.put_said-end.ensures.puts c.hmac-tag.ensures c.put_field.ensures.long c.put_field.ensures.puts).0

pub returns-clause-rest : goal.returns-clause-rest
returns-clause-rest c =
    (puts_roll c.args.key.now c.args.roll.now c.put_said-end.result c.hmac-tag.result _ _ _ c.put_said-end.ensures.long c.put_said-end.ensures.puts c.hmac-tag.ensures c.put_field.ensures.long c.put_field.ensures.puts).1
