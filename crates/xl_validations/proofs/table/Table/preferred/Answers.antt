-- the branch has the votes of the rows in some order, and what is preferred depends on their counts alone
use Rattle.std.proofs.Common.{◌∙◌, ◌<◌, ℕ, Option, length, sym, ap, subst}
use Rattle.std.specs.Prelude.{IfSome}
use Rattle.xl_ledger.proofs.Orders.{preferred_alike}
use Rattle.xl_validations.specs.Votes.{votes_of, preferred}
use Rattle.xl_validations.specs.Tallies.{IsTallied}
use Rattle.xl_validations.proofs.Choosing.{preferred_known}
use Rattle.xl_validations.proofs.table.Table.preferred.Goals as goal

pub returns-clause-value : goal.returns-clause-value
returns-clause-value g c =
    let ls = c.args.walk.now.ledgers.headers in
    let table = c.self.inside in
    let tally = subst (λ t. IsTallied g.B.Branch.goes_with g.B.Branch.votes g.B.Branch.room t ls) (sym c.self.view_is) c.requires.tally in
    c.preferred.ensures.value
    ∙ preferred_alike ls (g.B.Branch.votes table.branch) (votes_of ls table.rows) tally.same c.args.largest
    ∙ ap (λ t. preferred ls t.rows c.args.largest) c.self.view_is

pub returns-clause-known : goal.returns-clause-known
returns-clause-known g c =
    let ls = c.args.walk.now.ledgers.headers in
    subst (λ (o : Option ℕ). IfSome o (λ l. l < length ls)) (sym c.preferred.ensures.value) (preferred_known ls (g.B.Branch.votes c.self.inside.branch) c.args.largest c.requires.tally.are.some)
