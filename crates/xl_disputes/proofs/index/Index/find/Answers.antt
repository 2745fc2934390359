use Rattle.std.proofs.Common.{◌∙◌, sym, subst}
use Rattle.xl_disputes.specs.Rows.{IsAbsent}
use Rattle.xl_disputes.proofs.Finding.{is_absent}
use Rattle.xl_disputes.proofs.index.Index.find.Goals as goal

pub returns-else-eq : goal.returns-else-eq
returns-else-eq c =
    subst (λ rows. IsAbsent c.args.id.now rows c.place_in-place.result) c.self.view_is
    (is_absent c.args.id.now c.self.inside.rows c.place_in-place.result c.at.result c.eq.result c.self.invariant.rising c.place_in-place.ensures.value
    (λ e. c.if-place-len.false (e ∙ sym c.len.ensures)) c.at.ensures c.eq.ensures c.if-eq.false)
