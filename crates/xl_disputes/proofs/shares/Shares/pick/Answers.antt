-- the index has for each id what all places give it, so its rows that win are the ids of our next set
use Rattle.std.proofs.Common.{◌≡◌, take, ap, sym, subst, ◌∙◌}
use Rattle.std.specs.Prelude.{filter}
use Rattle.xl_base.specs.Sets.{IsSet}
use Rattle.xl_disputes.specs.Rows.{ids_of}
use Rattle.xl_disputes.specs.Standings.{voters, wins, next_of}
use Rattle.xl_disputes.proofs.Picking.{picked_are, IsSet-next}
use Rattle.xl_disputes.proofs.shares.Shares.pick.Goals as goal
use Rattle.xl_disputes.proofs.shares.Shares.pick.Goals.{After-pick}

is_next : (c : After-pick) → c.pick.new.next.items ≡ next_of c.args.self.now c.args.needed c.args.proposing
is_next c =
    c.pick.ensures.lowest
    ∙ ap (λ n. take 256 (ids_of (filter (wins n c.args.needed c.args.proposing) c.self.inside.index))) c.voters-voters.ensures
    ∙ ap (λ n. take 256 (ids_of (filter (wins n c.args.needed c.args.proposing) c.self.inside.index))) (ap voters (sym c.self.view_is))
    ∙ picked_are c.self.inside.places.items c.self.inside.index c.self.invariant c.pick.ensures.valid c.args.needed c.args.proposing
    ∙ ap (λ hs. next_of hs c.args.needed c.args.proposing) c.self.view_is

pub returns-clause-value : goal.returns-clause-value
returns-clause-value c = is_next c

pub returns-clause-valid : goal.returns-clause-valid
returns-clause-valid c = subst IsSet (sym (is_next c)) (IsSet-next c.args.self.now c.args.needed c.args.proposing)
