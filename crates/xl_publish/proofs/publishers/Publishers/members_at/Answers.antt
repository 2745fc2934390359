-- the members so far are the supported numbers that were passed, so they rise and are no more than these
use Rattle.std.proofs.Common.{◌≡◌, ◌++◌, ℕ, List, [], ◌∷◌, Bool, ap, sym, subst, ◌∙◌, arith, length}
use Rattle.xl_publish.specs.Forces.{is_supported}
use Rattle.xl_publish.specs.Rolls.{RisesFrom}
use Rattle.xl_lists.proofs.Rising.{passed_on, passed_over, passed_few, passed_all}
use Rattle.xl_publish.proofs.ForceLaws.{rises_passed}
use Rattle.xl_publish.proofs.publishers.Publishers.members_at.Goals.{then-supports, else-supports}
use Rattle.xl_publish.proofs.publishers.Publishers.members_at.Goals as goal

pub push-requires : goal.push-requires
push-requires c =
    let few = passed_few (is_supported c.args.self.now.kept c.args.now c.args.threshold) c.loop-number.number in
    omega (arith, few, ap length c.loop-number.invariant)

pub loop-number-preserved : goal.loop-number-preserved
loop-number-preserved c =
    let p : ℕ → Bool = is_supported c.args.self.now.kept c.args.now c.args.threshold in
    let answer : p c.loop-number.number ≡ c.supports.result = ap p (sym c.member.ensures) ∙ sym c.supports.ensures in
    elim c.if-supports.branch [
      | then-supports w ↦ w.members-is ∙ w.push.ensures ∙ ap (λ (ms : List ℕ). ms ++ c.loop-number.number ∷ []) c.loop-number.invariant
          ∙ sym (passed_on p c.loop-number.number (omega arith) (answer ∙ w.if-supports.true))
      | else-supports w ↦ w.members-is ∙ c.loop-number.invariant ∙ sym (passed_over p c.loop-number.number (omega arith) (answer ∙ w.if-supports.false))
    ]

pub returns-clause-value : goal.returns-clause-value
returns-clause-value c = c.loop-number.invariant ∙ passed_all (is_supported c.args.self.now.kept c.args.now c.args.threshold) c.loop-number.number (omega arith)

pub returns-clause-rising : goal.returns-clause-rising
returns-clause-rising c =
    subst (RisesFrom 0) (sym (c.loop-number.invariant ∙ passed_all (is_supported c.args.self.now.kept c.args.now c.args.threshold) c.loop-number.number (omega arith)))
    (rises_passed (is_supported c.args.self.now.kept c.args.now c.args.threshold))
