use Rattle.xl_publish.proofs.RunLaws.{keeps_greatest, keeps_alike, lists_alike}
use Rattle.xl_publish.proofs.laws.law_of_orders.Goals as goal

pub returns : goal.returns
returns c = record { greatest = keeps_greatest; kept = keeps_alike; lists = lists_alike }
