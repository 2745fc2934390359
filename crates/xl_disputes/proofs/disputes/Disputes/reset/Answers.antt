use Rattle.std.proofs.Common.{List, None, Option, true, replicate, vec_capacity, sym, ap, subst, ◌∙◌}
use Rattle.xl_base.specs.declared.ids.SetId.{SetId}
use Rattle.xl_disputes.specs.Holdings.{Holding}
use Rattle.xl_disputes.specs.Standings.{known_of, IsReady}
use Rattle.xl_disputes.proofs.Unused.{nothing_ready}
use Rattle.xl_disputes.proofs.disputes.Disputes.reset.Goals as goal

pub invariant_of-self : goal.invariant_of-self
invariant_of-self c =
    subst (λ (ps : List (Option SetId)). IsReady c.reset.new.self ps 0 (vec_capacity c.self.inside.next) true) (sym c.clear_first.ensures)
    (nothing_ready c.reset.new.self (vec_capacity c.self.inside.next) c.reset.ensures c.self.invariant.roomy)

pub returns : goal.returns
returns c =
    ap (λ (ps : List (Option SetId)). known_of c.reset.new.self ps) c.clear_first.ensures
    ∙ ap (λ (hs : List Holding). known_of hs (replicate 64 None)) c.reset.ensures
