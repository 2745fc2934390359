use Rattle.std.proofs.Common.{ap, ◌∙◌, arith}
use Rattle.std.specs.Prelude.{is_ok}
use Rattle.xl_publish.specs.Fields.{publisher_in}
use Rattle.xl_publish.specs.Refusing.{refusal_of}
use Rattle.xl_publish.specs.Registers.{kept_of, took_of}
use Rattle.xl_publish.proofs.RightLaws.{taken_is_right, ok_unless}
use Rattle.xl_publish.proofs.RunLaws.{greatest_then}
use Rattle.xl_publish.proofs.publishers.Publishers.take.Goals as goal

pub returns-clause-right : goal.returns-clause-right
returns-clause-right c =
    let keys = c.args.self.now.keys in
    let bytes = c.args.bytes.now in
    taken_is_right keys bytes (is_ok c.judge.result) (λ i. omega (arith, c.type_inv.bytes i))
    (ap is_ok c.judge.ensures.answer ∙ ok_unless (refusal_of keys bytes) (took_of (kept_of c.args.self.now (publisher_in bytes)) bytes))

pub returns-clause-greatest : goal.returns-clause-greatest
returns-clause-greatest c = greatest_then c.args.self.now c.judge.new.self c.args.bytes.now c.judge.ensures.taken
