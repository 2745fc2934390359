use Rattle.std.proofs.Common.{ap, ◌∙◌}
use Rattle.xl_ledger.specs.Reading.{header_in}
use Rattle.xl_ledger.proofs.HeaderLaws.{header_again}
use Rattle.xl_ledger.proofs.header.read_header.Goals as goal

pub returns-clause-only : goal.returns-clause-only
returns-clause-only c = λ h ok e. c.read.ensures.exact ∙ ap header_in e ∙ header_again h ok
