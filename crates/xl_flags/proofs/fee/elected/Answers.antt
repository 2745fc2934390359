-- winning is an order of the fees, and the best so far is the first in it of the votes of the members passed
use Rattle.std.proofs.Common.{ℕ, ◌+◌, List, Option, Some, take, sym, ap, subst, ◌∙◌}
use Rattle.std.specs.Prelude.{unwrap_or}
use Rattle.std.proofs.lemmas.List.{take_all}
use Rattle.xl_firsts.specs.Firsts.{IsFirst}
use Rattle.xl_firsts.proofs.Firsts.{first_is}
use Rattle.xl_flags.specs.Votes.{wins}
use Rattle.xl_flags.specs.Kept.{fee_voted, voted_or, kept_votes}
use Rattle.xl_flags.proofs.Reporting.{first_mapped}
use Rattle.xl_flags.proofs.Winning.{wins_orders}
use Rattle.xl_flags.proofs.fee.elected.Goals as goal

pub loop-member-preserved : goal.loop-member-preserved
loop-member-preserved c =
    let votes : List ℕ = kept_votes c.args.votes.now c.args.counted.now c.args.current in
    subst (λ (fee : ℕ). IsFirst (wins votes) (kept_votes c.args.votes.now (take (c.loop-member.member-index + 1) c.args.counted.now) c.args.current) (Some fee)) (sym c.winner.ensures)
    (first_mapped (wins votes) (wins_orders votes) (λ m. voted_or c.args.current (fee_voted c.args.votes.now m)) c.args.counted.now c.loop-member.member-index
    c.member-item.result c.fee_vote-fee.result c.loop-member.best c.loop-member-test.true c.member-item.is c.fee_vote-fee.ensures c.loop-member.invariant)

pub returns : goal.returns
returns c =
    let votes : List ℕ = kept_votes c.args.votes.now c.args.counted.now c.args.current in
    c.unwrap_or.ensures ∙ ap (λ (best : Option ℕ). unwrap_or best c.args.current)
    (sym (first_is (wins votes) (wins_orders votes) votes c.loop-member.best
    (subst (λ (ms : List ℕ). IsFirst (wins votes) (kept_votes c.args.votes.now ms c.args.current) c.loop-member.best)
    (take_all c.loop-member.member-index c.args.counted.now c.loop-member-test.false) c.loop-member.invariant)))
