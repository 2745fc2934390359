use Rattle.std.proofs.Common.{◌∙◌, sym, subst, ap}
use Rattle.xl_disputes.specs.Tallies.{no_tally}
use Rattle.xl_disputes.specs.Rows.{tally_of, IsThere, IsAbsent}
use Rattle.xl_disputes.proofs.Finding.{tally_at, tally_absent}
use Rattle.xl_disputes.proofs.index.Index.tally.Goals as goal

pub returns-in-Ok-clause-value : goal.returns-in-Ok-clause-value
returns-in-Ok-clause-value c =
    tally_at c.args.id.now no_tally no_tally c.self.inside.rows c.in-Ok.place c.at.result c.self.invariant
    (subst (λ rows. IsThere c.args.id.now rows c.in-Ok.place) (sym c.self.view_is) c.in-Ok.ensures) c.at.ensures
    ∙ ap (λ rows. tally_of rows c.args.id.now) c.self.view_is

pub returns-in-Err-clause-value : goal.returns-in-Err-clause-value
returns-in-Err-clause-value c =
    c.none.ensures
    ∙ sym (tally_absent c.args.id.now no_tally no_tally c.self.inside.rows c.in-Err.field-0 c.self.invariant.rising
    (subst (λ rows. IsAbsent c.args.id.now rows c.in-Err.field-0) (sym c.self.view_is) c.in-Err.ensures))
    ∙ ap (λ rows. tally_of rows c.args.id.now) c.self.view_is
