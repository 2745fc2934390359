-- scores order the members, the worst so far is the first of those passed that may go, and others change nothing
use Rattle.std.proofs.Common.{ℕ, ◌+◌, Bool, List, Option, Some, take, sym, ap, subst, ◌∙◌}
use Rattle.std.specs.Prelude.{◌==◌, ◌&&◌, not}
use Rattle.std.proofs.lemmas.List.{take_all}
use Rattle.xl_lists.specs.Lists.{is_on}
use Rattle.xl_nunl.specs.Deciding.{is_worse, candidates, without}
use Rattle.xl_firsts.specs.Firsts.{IsOrder, IsFirst}
use Rattle.xl_firsts.proofs.Firsts.{first_is, first_passes, first_fails}
use Rattle.xl_nunl.proofs.Orders.{worse_orders}
use Rattle.xl_nunl.proofs.deciding.worst.Goals as goal
use Rattle.xl_nunl.proofs.deciding.worst.Goals.{then-may_join, else-may_join}

pub loop-member-preserved : goal.loop-member-preserved
loop-member-preserved c =
    let before : ℕ → ℕ → Bool = is_worse c.args.scores.now in
    let order : IsOrder before = worse_orders c.args.scores.now in
    let passes : ℕ → Bool = λ m. not (is_on (without c.args.negative.now c.args.left.now) m) && not (m == c.args.me) in
    let more : List ℕ = candidates (take (c.loop-member.member-index + 1) c.args.full.now) (without c.args.negative.now c.args.left.now) c.args.me in
    elim c.if-may_join.branch [
      | then-may_join w ↦ subst (λ (kept : Option ℕ). IsFirst before more kept) (sym (w.worst-is ∙ ap Some w.worse.ensures))
          (first_passes before order passes c.args.full.now c.loop-member.member-index c.member-item.result c.loop-member.worst c.loop-member-test.true c.member-item.is
          (sym c.may_join.ensures ∙ w.if-may_join.true) c.loop-member.invariant)
      | else-may_join w ↦ subst (λ (kept : Option ℕ). IsFirst before more kept) (sym w.worst-is)
          (first_fails before order passes c.args.full.now c.loop-member.member-index c.member-item.result c.loop-member.worst c.loop-member-test.true c.member-item.is
          (sym c.may_join.ensures ∙ w.if-may_join.false) c.loop-member.invariant)
    ]

pub returns : goal.returns
returns c =
    sym (first_is (is_worse c.args.scores.now) (worse_orders c.args.scores.now) (candidates c.args.full.now (without c.args.negative.now c.args.left.now) c.args.me) c.loop-member.worst
    (subst (λ (ms : List ℕ). IsFirst (is_worse c.args.scores.now) (candidates ms (without c.args.negative.now c.args.left.now) c.args.me) c.loop-member.worst)
    (take_all c.loop-member.member-index c.args.full.now c.loop-member-test.false) c.loop-member.invariant))
