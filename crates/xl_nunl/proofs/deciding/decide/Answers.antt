-- one member fewer left out, and then one more, keeps what is left out lawful, and so does changing nothing
use Rattle.std.proofs.Common.{ℕ, Option, sym, subst}
use Rattle.xl_nunl.specs.Lists.{IsNegative}
use Rattle.xl_nunl.specs.Deciding.{negative_after}
use Rattle.xl_nunl.proofs.Negative.{negative_stays}
use Rattle.xl_nunl.proofs.deciding.decide.Goals as goal
use Rattle.xl_nunl.proofs.deciding.decide.Goals.{then-hears_little, else-hears_little}

pub in_force-list-requires : goal.in_force-list-requires
in_force-list-requires c =
    elim c.if-hears_little.branch [
      | then-hears_little w ↦ subst (λ (both : Option ℕ × Option ℕ). IsNegative c.args.full.now.members (negative_after c.args.negative.now both.0 both.1)) (sym w.left-is) c.requires
      | else-hears_little w ↦ subst (λ (both : Option ℕ × Option ℕ). IsNegative c.args.full.now.members (negative_after c.args.negative.now both.0 both.1)) (sym w.left-is)
          (subst (λ (joined : Option ℕ). IsNegative c.args.full.now.members (negative_after c.args.negative.now w.leaving-left.result joined)) (sym w.joining-joined.ensures)
          (negative_stays c.args.full.now.members c.args.negative.now c.args.scores.now c.args.me w.leaving-left.result c.requires))
    ]

pub returns-clause-negative : goal.returns-clause-negative
returns-clause-negative c =
    elim c.if-hears_little.branch [
      | then-hears_little w ↦ subst (λ (both : Option ℕ × Option ℕ). IsNegative c.args.full.now.members (negative_after c.args.negative.now both.0 both.1)) (sym w.left-is) c.requires
      | else-hears_little w ↦ subst (λ (both : Option ℕ × Option ℕ). IsNegative c.args.full.now.members (negative_after c.args.negative.now both.0 both.1)) (sym w.left-is)
          (subst (λ (joined : Option ℕ). IsNegative c.args.full.now.members (negative_after c.args.negative.now w.leaving-left.result joined)) (sym w.joining-joined.ensures)
          (negative_stays c.args.full.now.members c.args.negative.now c.args.scores.now c.args.me w.leaving-left.result c.requires))
    ]
