use Rattle.xl_merge.proofs.OrderLaws.{lists_alike}
use Rattle.xl_merge.proofs.laws.law_of_orders.Goals as goal

pub returns : goal.returns
returns c = lists_alike
