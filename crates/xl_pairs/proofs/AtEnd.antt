-- Nothing is looked for, so the declarations are read to their end.
use Rattle.std.proofs.Common.{◌≡◌, ◌==◌, ℕ, Bool, List, [], true, refl, Option, Some, None}
use Rattle.std.proofs.lemmas.Bool.{cond_both}
use Rattle.xl_lines.specs.declared.machine.Verdict.TheVariants.{Good, Refused}
use Rattle.xl_lines.specs.Rules.{closes}
use Rattle.xl_lines.specs.Ends.{FindsNothing, FindsAtEnd}
use Rattle.xl_sched.specs.Answers.{LineAnswer, passes, gives, refuses, reading_of}
use Rattle.xl_sched.specs.BadLines.{bad_line}
use Rattle.xl_sched.specs.declared.line.Line.TheVariants as line
use Rattle.xl_sched.specs.declared.refusal.SchedRefusal.TheVariants.{Header}
use Rattle.xl_pairs.specs.Comparing.{Comparing, after_answer, unless_foreign, told_at_end, rules}
use Rattle.xl_pairs.specs.Texts.{pair_lines}
use Rattle.xl_pairs.specs.Words.{foreign_word}

answer_finds : (c : Comparing) (answer : LineAnswer) → FindsNothing (after_answer c answer)
answer_finds c (passes reading) = tt
answer_finds c (gives line reading) = tt
answer_finds c (refuses refusal) = tt

word_finds : (c : Comparing) (word : Option (List ℕ)) (bytes : List ℕ) → FindsNothing (unless_foreign c word bytes)
word_finds c (Some word) bytes = tt
word_finds c None bytes = answer_finds c (reading_of c.reading 0 bytes)

step_finds : (c : Comparing) (bytes : List ℕ) (ended : Bool) → FindsNothing (rules.step c bytes ended)
step_finds c bytes ended =
    cond_both (c.reading.lines == 0) (after_answer c (reading_of c.reading 0 bytes)) (unless_foreign c (foreign_word bytes) bytes) (FindsNothing {S = Comparing})
    (λ _. answer_finds c (reading_of c.reading 0 bytes)) (λ _. word_finds c (foreign_word bytes) bytes)

closes_at_end : (c : Comparing) → (told_at_end c).closed ≡ true
closes_at_end c =
    cond_both (c.reading.lines == 0) (closes (bad_line 1 (Header [])) Refused) (closes (pair_lines c.liars c.nodes) Good) (λ told. told.closed ≡ true)
    (λ _. refl) (λ _. refl)

pub finds_at_end : FindsAtEnd rules
finds_at_end = record { step = step_finds; closing = closes_at_end }
