use Rattle.xl_spelling.proofs.Respelling.{lists_read}
use Rattle.xl_spelling.proofs.laws.law_of_read_lists.Goals as goal

pub returns : goal.returns
returns c = lists_read
