-- neither id has a name
use Rattle.xl_told.proofs.Nameless.{nameless}
use Rattle.xl_told.proofs.words.is_nameless.Goals as goal

pub returns : goal.returns
returns c =
    λ yes. nameless c.args.reader.now.names c.args.proposal.now (c.has_no_name.ensures c.if-not-has_no_name.false) (c.has_no_name-2.ensures yes)
