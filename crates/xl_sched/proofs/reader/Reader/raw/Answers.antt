use Rattle.std.proofs.Common.{◌≡◌, subst, true}
use Rattle.xl_lists.specs.Lists.{is_on}
use Rattle.xl_sched.specs.Reading.{Reading}
use Rattle.xl_sched.proofs.reader.Reader.raw.Goals as goal

pub returns-clause-fit : goal.returns-clause-fit
returns-clause-fit c = λ sent. c.happen.ensures.fit sent (subst (λ (r : Reading). is_on r.nodes c.in_ok-to.to ≡ true) c.self.view_is c.in_ok-to.ensures.declared, c.in_ok-bytes.ensures.least, c.in_ok-bytes.ensures.most)
