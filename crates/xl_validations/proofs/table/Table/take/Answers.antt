-- the member's vote stands beside those of the others before and after, and no other row changes
use Rattle.std.proofs.Common.{sym, subst, ℕ, List, Option}
use Rattle.std.specs.Prelude.{IsSome}
use Rattle.xl_validations.specs.declared.row.Row.{Row}
use Rattle.xl_validations.specs.Rows.{row_of}
use Rattle.xl_validations.specs.Tallies.{IsTally, IsTallied, StandsBeside}
use Rattle.xl_validations.proofs.Tallying.{takes}
use Rattle.xl_validations.proofs.table.Table.take.Goals as goal

pub revote-requires-clause-beside : goal.revote-requires-clause-beside
revote-requires-clause-beside g c =
    let ls = c.args.registry.now.headers in
    let table = c.self.inside in
    let tally = subst (λ t. IsTallied g.B.Branch.goes_with g.B.Branch.votes g.B.Branch.room t ls) (sym c.self.view_is) c.requires.tally in
    let listed = subst (λ t. IsSome (row_of t.rows c.args.from)) (sym c.self.view_is) c.requires.listed in
    let t = takes (g.B.Branch.goes_with table.branch) ls table.rows (g.B.Branch.votes table.branch) (g.B.Branch.room table.branch) tally c.args.from c.args.v.now c.current-before.result listed c.current-before.ensures in
    (t.others, subst (λ (o : Option ℕ). StandsBeside (g.B.Branch.votes table.branch) t.others c.args.from o (g.B.Branch.room table.branch)) (sym c.ledger_named.ensures.value) t.beside)

pub returns-clause-tally : goal.returns-clause-tally
returns-clause-tally g c =
    let ls = c.args.registry.now.headers in
    let table = c.self.inside in
    let new = c.revote.new.branch in
    let tally = subst (λ t. IsTallied g.B.Branch.goes_with g.B.Branch.votes g.B.Branch.room t ls) (sym c.self.view_is) c.requires.tally in
    let listed = subst (λ t. IsSome (row_of t.rows c.args.from)) (sym c.self.view_is) c.requires.listed in
    let t = takes (g.B.Branch.goes_with table.branch) ls table.rows (g.B.Branch.votes table.branch) (g.B.Branch.room table.branch) tally c.args.from c.args.v.now c.current-before.result listed c.current-before.ensures in
    let beside = subst (λ (o : Option ℕ). StandsBeside (g.B.Branch.votes table.branch) t.others c.args.from o (g.B.Branch.room table.branch)) (sym c.ledger_named.ensures.value) t.beside in
    let after = subst (λ (o : Option ℕ). StandsBeside (g.B.Branch.votes new) t.others c.args.from o (g.B.Branch.room new)) c.ledger_named-after.ensures.value (c.revote.ensures.turned t.others beside) in
    subst (λ (rows : List Row). IsTally (g.B.Branch.goes_with new) ls rows (g.B.Branch.votes new) (g.B.Branch.room new)) (sym c.in_ok-take.ensures.taken)
    (t.taken (g.B.Branch.goes_with new) (g.B.Branch.votes new) (g.B.Branch.room new) c.revote.ensures.goes c.revote.ensures.room after)
