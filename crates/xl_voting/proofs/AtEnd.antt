-- Nothing is looked for, so a schedule is read to its end; and a last text is never empty.
use Rattle.std.proofs.Common.{◌≡◌, ◌<◌, ◌++◌, ℕ, List, [], length, true, refl, Option, Some, None, Result, Ok, Err}
use Rattle.std.specs.Prelude.{◌==◌, ◌+◌, codes, decimal, nat_lt}
use Rattle.std.proofs.lemmas.Bool.{cond_both}
use Rattle.xl_flags.specs.Votes.{most_amendments}
use Rattle.xl_lines.specs.declared.machine.Verdict.TheVariants.{Good, Refused}
use Rattle.xl_lines.specs.Causes.{EndsAloud, RefusesAloud}
use Rattle.xl_lines.specs.Ends.{FindsAtEnd, FindsNothing}
use Rattle.xl_lines.specs.Rules.{closes, refuses as refuses_line}
use Rattle.xl_running.specs.Running.{Running, answer_in, beyond, knows}
use Rattle.xl_running.specs.Texts.{bad_line}
use Rattle.xl_running.proofs.Aloud.{bad_some, line_some}
use Rattle.xl_running.proofs.Steps as steps
use Rattle.xl_sched.specs.declared.favor.Favor.{Favor}
use Rattle.xl_sched.specs.declared.refusal.SchedRefusal.{SchedRefusal}
use Rattle.xl_sched.specs.declared.refusal.SchedRefusal.TheVariants.{Header, Limit}
use Rattle.xl_sched.specs.Answers.{LineAnswer}
use Rattle.xl_sched.specs.Favors.{after_favor, favor_line}
use Rattle.xl_voting.specs.Tallying.{Tallying, tally_keeping}
use Rattle.xl_voting.specs.Texts.{count_line}
use Rattle.xl_voting.specs.Voting.{after_answer, after_favored, after_happening, after_vote, told_at_end, rules, silent, with_votes}

-- NOTHING IS FOUND

answer_finds : (r : Running) (t : Tallying) (a : LineAnswer) → FindsNothing (after_answer tally_keeping r t a)
answer_finds r t a = steps.answer_finds (with_votes t) (λ r e. after_happening tally_keeping r t e) (λ r e. tt) r a

vote_finds : (r : Running) (t : Tallying) (f : Favor) → FindsNothing (after_vote tally_keeping r t f)
vote_finds r t f =
    cond_both (nat_lt most_amendments (tally_keeping.named t f.member f.fee f.ids)) (refuses_line (bad_line r.reading.lines (Limit (decimal most_amendments)))) (silent r (tally_keeping.voted t f.member f.fee f.ids)) FindsNothing
    (λ _. tt) (λ _. tt)

favored_finds : (r : Running) (t : Tallying) (bytes : List ℕ) (x : Result (Option Favor) SchedRefusal) → FindsNothing (after_favored tally_keeping r t bytes x)
favored_finds r t bytes (Ok None) = answer_finds r t (answer_in r bytes)
favored_finds r t bytes (Ok (Some f)) = vote_finds (knows r (after_favor r.reading (Some f))) t f
favored_finds r t bytes (Err why) = tt

closes_at_end : (r : Running) (t : Tallying) → (told_at_end tally_keeping r t).closed ≡ true
closes_at_end r t = cond_both (r.reading.lines == 0) (closes (bad_line 1 (Header [])) Refused) (closes (count_line (tally_keeping.count t)) Good) (λ told. told.closed ≡ true) (λ _. refl) (λ _. refl)

pub finds_at_end : FindsAtEnd (rules tally_keeping)
finds_at_end = record {
  step = λ p bytes _. favored_finds p.running p.votes bytes (favor_line p.running.reading bytes);
  closing = λ p. closes_at_end p.running p.votes;
}

-- A LAST TEXT

answer_aloud : (r : Running) (t : Tallying) (a : LineAnswer) → RefusesAloud (after_answer tally_keeping r t a)
answer_aloud r t a = steps.answer_aloud (with_votes t) (λ r e. after_happening tally_keeping r t e) (λ r e. tt) r a

vote_aloud : (r : Running) (t : Tallying) (f : Favor) → RefusesAloud (after_vote tally_keeping r t f)
vote_aloud r t f =
    cond_both (nat_lt most_amendments (tally_keeping.named t f.member f.fee f.ids)) (refuses_line (bad_line r.reading.lines (Limit (decimal most_amendments)))) (silent r (tally_keeping.voted t f.member f.fee f.ids)) RefusesAloud
    (λ _. bad_some r.reading.lines (Limit (decimal most_amendments))) (λ _. tt)

favored_aloud : (r : Running) (t : Tallying) (bytes : List ℕ) (x : Result (Option Favor) SchedRefusal) → RefusesAloud (after_favored tally_keeping r t bytes x)
favored_aloud r t bytes (Ok None) = answer_aloud r t (answer_in r bytes)
favored_aloud r t bytes (Ok (Some f)) = vote_aloud (knows r (after_favor r.reading (Some f))) t f
favored_aloud r t bytes (Err why) = bad_some (r.reading.lines + 1) why

ending_some : (r : Running) (t : Tallying) → 0 < length (told_at_end tally_keeping r t).text
ending_some r t =
    cond_both (r.reading.lines == 0) (closes (bad_line 1 (Header [])) Refused) (closes (count_line (tally_keeping.count t)) Good) (λ told. 0 < length told.text)
    (λ _. bad_some 1 (Header [])) (λ _. line_some (codes "flags " ++ decimal (tally_keeping.count t)))

pub ends_aloud : EndsAloud (rules tally_keeping)
ends_aloud = record {
  step = λ p bytes _. favored_aloud p.running p.votes bytes (favor_line p.running.reading bytes);
  overrun = λ p overrun. bad_some (p.running.reading.lines + 1) (beyond overrun);
  closing = λ p. ending_some p.running p.votes;
}
