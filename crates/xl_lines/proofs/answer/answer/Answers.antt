-- if no line may come, the answer is the last text for one too many
use Rattle.std.proofs.Common.{◌≡◌, ◌<◌, ℕ, List, Bool, refl, sym, ◌∙◌, subst, arith}
use Rattle.std.proofs.lemmas.Bool.{lt-ltb}
use Rattle.std.proofs.lemmas.Bool.Decides.{nat_tests}
use Rattle.xl_io.specs.Sinks.{GrewByFront, GrewByLess}
use Rattle.xl_lines.specs.declared.limits.Overrun.TheVariants.{ManyLines}
use Rattle.xl_lines.specs.Rules.{Rules}
use Rattle.xl_lines.specs.Running.{step_text}
use Rattle.xl_lines.specs.Told.{step_within}
use Rattle.xl_lines.proofs.Runs.{write_from}
use Rattle.xl_lines.proofs.Telling.{less_answered}
use Rattle.xl_lines.proofs.answer.answer.Goals as goal

too_many : {S : Type 0} (rules : Rules S) (left : ℕ) (state : S) (line : List ℕ) (ended : Bool) → left ≡ 0 → rules.overrun state ManyLines ≡ step_text (step_within rules left state line ended)
too_many rules left state line ended none = rw none refl

may_come : {S : Type 0} (rules : Rules S) (left : ℕ) (state : S) (line : List ℕ) (ended : Bool) → 0 < left → step_within rules left state line ended ≡ rules.step state line ended
may_come rules left state line ended some = rw (lt-ltb _ _ some) refl

pub returns-then-left-eq0-clause-front : goal.returns-then-left-eq0-clause-front
returns-then-left-eq0-clause-front g c =
    let none : c.args.left ≡ 0 = grind (arith, nat_tests) in
    subst (λ bytes. GrewByFront (g.O.Sink.held c.args.output.now) (g.O.Sink.held c.refuse.new.output) bytes) (too_many g.M.Machine.rules c.args.left (g.M.Machine.state c.args.machine.now) c.args.line.now c.args.ended none) c.refuse.ensures.front

pub returns-in_err-refuse-clause-front : goal.returns-in_err-refuse-clause-front
returns-in_err-refuse-clause-front g c =
    let none : c.args.left ≡ 0 = grind (arith, nat_tests) in
    subst (λ bytes. GrewByFront (g.O.Sink.held c.args.output.now) (g.O.Sink.held c.refuse.new.output) bytes) (too_many g.M.Machine.rules c.args.left (g.M.Machine.state c.args.machine.now) c.args.line.now c.args.ended none) c.refuse.ensures.front

pub returns-in_err-refuse-clause-less : goal.returns-in_err-refuse-clause-less
returns-in_err-refuse-clause-less g c is =
    let none : c.args.left ≡ 0 = grind (arith, nat_tests) in
    subst (λ bytes. GrewByLess (g.O.Sink.held c.args.output.now) (g.O.Sink.held c.refuse.new.output) bytes) (too_many g.M.Machine.rules c.args.left (g.M.Machine.state c.args.machine.now) c.args.line.now c.args.ended none)
    (c.refuse.ensures.less (write_from c.from_residual.result c.refuse.result c.in_err-refuse.field-0.0 c.from_residual.ensures.1 c.in_err-refuse.was is))

pub returns-in_err-write_all-clause-less : goal.returns-in_err-write_all-clause-less
returns-in_err-write_all-clause-less g c is =
    let some : 0 < c.args.left = grind (arith, nat_tests) in
    less_answered c.in_ok-next.next _ _ _ (c.in_ok-next.ensures ∙ sym (may_come g.M.Machine.rules c.args.left (g.M.Machine.state c.args.machine.now) c.args.line.now c.args.ended some))
    (subst (λ bytes. GrewByLess (g.O.Sink.held c.args.output.now) (g.O.Sink.held c.write_all.new.sink) bytes) c.as_bytes-answer.ensures c.in_err-write_all.ensures.less)
