-- Nothing is looked for, so the lines are read to their end.
use Rattle.std.proofs.Common.{◌≡◌, ◌==◌, [], true, refl, Result, Ok, Err, Option, Some, None}
use Rattle.std.proofs.lemmas.Bool.{cond_both}
use Rattle.xl_lines.specs.declared.machine.Verdict.TheVariants.{Good, Refused}
use Rattle.xl_lines.specs.Rules.{closes}
use Rattle.xl_lines.specs.Ends.{FindsNothing, FindsAtEnd}
use Rattle.xl_sched.specs.BadLines.{bad_line}
use Rattle.xl_sched.specs.declared.refusal.SchedRefusal.{SchedRefusal}
use Rattle.xl_sched.specs.declared.refusal.SchedRefusal.TheVariants.{Header}
use Rattle.xl_merge.specs.declared.line.Line.{Line}
use Rattle.xl_merge.specs.Merging.{Merging, step_of_line, bounded_line, told_at_end, rules}

answer_finds : (m : Merging) (line : Result (Option Line) SchedRefusal) → FindsNothing (step_of_line m line)
answer_finds m (Ok None) = tt
answer_finds m (Ok (Some line)) = tt
answer_finds m (Err refusal) = tt

closes_at_end : (m : Merging) → (told_at_end m).closed ≡ true
closes_at_end m =
    cond_both (m.lines == 0) (closes (bad_line 1 (Header [])) Refused) (closes [] Good) (λ told. told.closed ≡ true)
    (λ _. refl) (λ _. refl)

pub finds_at_end : FindsAtEnd rules
finds_at_end = record { step = λ m bytes _. answer_finds m (bounded_line m bytes); closing = closes_at_end }
