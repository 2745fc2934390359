use Rattle.std.proofs.Common.{ℕ, ◌+◌, List, Some, take, sym, subst}
use Rattle.std.proofs.lemmas.List.{take_all}
use Rattle.xl_nunl.specs.Deciding.{is_better}
use Rattle.xl_firsts.specs.Firsts.{IsFirst}
use Rattle.xl_firsts.proofs.Firsts.{first_is, first_front}
use Rattle.xl_nunl.proofs.Orders.{better_orders}
use Rattle.xl_nunl.proofs.deciding.best.Goals as goal

pub loop-member-preserved : goal.loop-member-preserved
loop-member-preserved c =
    subst (λ (m : ℕ). IsFirst (is_better c.args.scores.now) (take (c.loop-member.member-index + 1) c.args.members.now) (Some m)) (sym c.better.ensures)
    (first_front (is_better c.args.scores.now) (better_orders c.args.scores.now) c.args.members.now c.loop-member.member-index c.member-item.result c.loop-member.best
    c.loop-member-test.true c.member-item.is c.loop-member.invariant)

pub returns : goal.returns
returns c =
    sym (first_is (is_better c.args.scores.now) (better_orders c.args.scores.now) c.args.members.now c.loop-member.best
    (subst (λ (ms : List ℕ). IsFirst (is_better c.args.scores.now) ms c.loop-member.best)
    (take_all c.loop-member.member-index c.args.members.now c.loop-member-test.false) c.loop-member.invariant))
