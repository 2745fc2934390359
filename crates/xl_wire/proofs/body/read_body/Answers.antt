use Rattle.xl_wire.proofs.BodyLaws.{version_is}
use Rattle.xl_wire.proofs.body.read_body.Goals as goal

pub returns-clause-version : goal.returns-clause-version
returns-clause-version c = λ body e. version_is c.args.raw.now.version c.args.raw.now.kind c.args.raw.now.body.now body c.args.raw.now.lawful ((c.read.ensures.whole body).0 e)
