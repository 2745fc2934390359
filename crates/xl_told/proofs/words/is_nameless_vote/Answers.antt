-- neither id has a name
use Rattle.xl_told.proofs.Nameless.{nameless_vote}
use Rattle.xl_told.proofs.words.is_nameless_vote.Goals as goal

pub returns : goal.returns
returns c =
    λ yes. nameless_vote c.args.reader.now.names c.args.validation.now (c.has_no_name.ensures c.if-not-has_no_name.false) (c.is_nameless_if_told.ensures yes)
