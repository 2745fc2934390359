-- at the end a line that has begun is the last one, handed on whole, and behind the last line the closing is told
use Rattle.std.proofs.Common.{◌≡◌, ◌<◌, length, arith}
use Rattle.std.proofs.lemmas.Result.{IfOk-weaker}
use Rattle.std.proofs.lemmas.Bool.Decides.{nat_tests}
use Rattle.std.specs.Vec.{vec_len}
use Rattle.xl_lines.specs.declared.machine.Next.TheVariants as next
use Rattle.xl_lines.proofs.Cutting.{told_at-end}
use Rattle.xl_lines.proofs.Runs.{write_from}
use Rattle.xl_lines.proofs.Telling.{LineIsLast, tells_last, front_of_last, tells_all_then, tells_all_refused, tells_all_found, tells_front, all_from, front_from, less_from, tells_less, less_of_last}
use Rattle.xl_lines.proofs.lines.LinesTeller.finish.Goals as goal
use Rattle.xl_lines.proofs.lines.LinesTeller.finish.Goals.{After-answer, Then-is_empty}

last : (g : _) (c : After-answer g) → LineIsLast c.args.self.now.limits c.args.self.now.line.items c.deref.result.now
last g c =
    let self = c.args.self.now in
    let full : 0 < vec_len self.line = grind (arith, nat_tests) in
    record {
      some = omega (arith, self.line.ok.0);
      one_line = self.one_line;
      short = omega (arith, self.line.ok.0);
      handed_on = c.deref.ensures.value;
    }

none : (g : _) (c : Then-is_empty g) → length c.args.self.now.line.items ≡ 0
none g c =
    let self = c.args.self.now in
    let empty : vec_len self.line ≡ 0 = grind (arith, nat_tests) in
    omega (arith, self.line.ok.0)

pub returns-then-is_empty-clause-ok : goal.returns-then-is_empty-clause-ok
returns-then-is_empty-clause-ok g c =
    IfOk-weaker c.close.result _ _ (λ verdict. all_from (told_at-end _ _ _ _ _ (none g (goal.at.returns-then-is_empty-clause-ok g c).Then-is_empty))) c.close.ensures.all

pub returns-then-is_empty-clause-front : goal.returns-then-is_empty-clause-front
returns-then-is_empty-clause-front g c = front_from (told_at-end _ _ _ _ _ (none g (goal.at.returns-then-is_empty-clause-front g c).Then-is_empty)) c.close.ensures.front

pub returns-in_err-answer-clause-front : goal.returns-in_err-answer-clause-front
returns-in_err-answer-clause-front g c = front_of_last g.M.Machine.rules _ c.args.self.now.left (last g (goal.at.returns-in_err-answer-clause-front g c).After-answer) c.answer.ensures.front

pub returns-in-Line-clause-ok : goal.returns-in-Line-clause-ok
returns-in-Line-clause-ok g c =
    IfOk-weaker c.close-in-Line.result _ _ (λ verdict. tells_all_then (tells_last g.M.Machine.rules _ c.args.self.now.left next.Line _ (g.M.Machine.state c.answer.new.machine) (last g (goal.at.returns-in-Line-clause-ok g c).After-answer) (rw c.in-Line.is at c.in_ok-answer.ensures.step) c.in_ok-answer.ensures.held)) c.close-in-Line.ensures.all

pub returns-in-Line-clause-front : goal.returns-in-Line-clause-front
returns-in-Line-clause-front g c =
    tells_front (tells_last g.M.Machine.rules _ c.args.self.now.left next.Line _ (g.M.Machine.state c.answer.new.machine) (last g (goal.at.returns-in-Line-clause-front g c).After-answer) (rw c.in-Line.is at c.in_ok-answer.ensures.step) c.in_ok-answer.ensures.held) c.close-in-Line.ensures.front

pub returns-in-Refused-clause-ok : goal.returns-in-Refused-clause-ok
returns-in-Refused-clause-ok g c =
    tells_all_refused (tells_last g.M.Machine.rules _ c.args.self.now.left next.Refused _ (g.M.Machine.state c.answer.new.machine) (last g (goal.at.returns-in-Refused-clause-ok g c).After-answer) (rw c.in-Refused.is at c.in_ok-answer.ensures.step) c.in_ok-answer.ensures.held)

pub returns-in-Refused-clause-front : goal.returns-in-Refused-clause-front
returns-in-Refused-clause-front g c = front_of_last g.M.Machine.rules _ c.args.self.now.left (last g (goal.at.returns-in-Refused-clause-front g c).After-answer) c.answer.ensures.front

pub returns-then-is_empty-clause-less : goal.returns-then-is_empty-clause-less
returns-then-is_empty-clause-less g c = λ is. less_from (told_at-end _ _ _ _ _ (none g (goal.at.returns-then-is_empty-clause-less g c).Then-is_empty)) (c.close.ensures.less is)

pub returns-in_err-answer-clause-less : goal.returns-in_err-answer-clause-less
returns-in_err-answer-clause-less g c is =
    less_of_last g.M.Machine.rules _ c.args.self.now.left (last g (goal.at.returns-in_err-answer-clause-less g c).After-answer) (c.answer.ensures.less (write_from c.from_residual.result c.answer.result c.in_err-answer.field-0.0 c.from_residual.ensures.1 c.in_err-answer.was is))

pub returns-in-Line-clause-less : goal.returns-in-Line-clause-less
returns-in-Line-clause-less g c =
    λ is. tells_less (tells_last g.M.Machine.rules _ c.args.self.now.left next.Line _ (g.M.Machine.state c.answer.new.machine) (last g (goal.at.returns-in-Line-clause-less g c).After-answer) (rw c.in-Line.is at c.in_ok-answer.ensures.step) c.in_ok-answer.ensures.held) (c.close-in-Line.ensures.less is)

pub returns-in-Found-clause-ok : goal.returns-in-Found-clause-ok
returns-in-Found-clause-ok g c =
    tells_all_found (tells_last g.M.Machine.rules _ c.args.self.now.left next.Found _ (g.M.Machine.state c.answer.new.machine) (last g (goal.at.returns-in-Found-clause-ok g c).After-answer) (rw c.in-Found.is at c.in_ok-answer.ensures.step) c.in_ok-answer.ensures.held)

pub returns-in-Found-clause-front : goal.returns-in-Found-clause-front
returns-in-Found-clause-front g c = front_of_last g.M.Machine.rules _ c.args.self.now.left (last g (goal.at.returns-in-Found-clause-front g c).After-answer) c.answer.ensures.front
