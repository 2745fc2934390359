-- What `xl flags` writes of a schedule. Source: this project's own formats.
use Rattle.std.specs.Prelude.{ℕ, ◌+◌, ◌==◌, nat_lt, List, [], decimal, Option, Some, None, Result, Ok, Err, if◌then◌else◌}
use Rattle.xl_flags.specs.Votes.{most_amendments}
use Rattle.xl_lines.specs.declared.machine.Verdict.TheVariants.{Good, Refused}
use Rattle.xl_lines.specs.Rules.{Rules, Step, goes_on, refuses as refuses_line, Told, closes}
use Rattle.xl_lines.specs.Told.{told_of}
use Rattle.xl_lines.specs.Soon.{told_soon}
use Rattle.xl_running.specs.Running.{Running, answer_in, at_first, beyond, happens, knows, limits, world_of}
use Rattle.xl_running.specs.Stepping.{after_answer as after_answer_in, after_line as after_line_in}
use Rattle.xl_running.specs.Texts.{bad_line}
use Rattle.xl_sched.specs.declared.event.Event.{Event}
use Rattle.xl_sched.specs.declared.favor.Favor.{Favor}
use Rattle.xl_sched.specs.declared.line.Line.{Line}
use Rattle.xl_sched.specs.declared.refusal.SchedRefusal.{SchedRefusal}
use Rattle.xl_sched.specs.declared.refusal.SchedRefusal.TheVariants.{Header, Limit}
use Rattle.xl_sched.specs.Answers.{LineAnswer}
use Rattle.xl_sched.specs.Favors.{after_favor, favor_line}
use Rattle.xl_voting.specs.Keeping.{Keeping}
use Rattle.xl_voting.specs.Listing.{list_keeping, nothing_listed}
use Rattle.xl_voting.specs.Reports.{Said, event_said}
use Rattle.xl_voting.specs.Texts.{count_line}

-- a schedule that runs, and its votes
pub record Voting (V : Type 0) : Type 0 where
  pub running : Running
  pub votes : V

-- a schedule goes on
abbrev pub silent : {V : Type 0} → Running → V → Step (Voting V)
silent r v = goes_on [] (record { running = r; votes = v })

-- and something was said
abbrev pub aloud : {V : Type 0} → Running → Said V → Step (Voting V)
aloud r said = goes_on said.text (record { running = r; votes = said.votes })

abbrev pub after_happening : {V : Type 0} → Keeping V → Running → V → Event → Step (Voting V)
after_happening keeping r v e = aloud (happens r e) (event_said keeping r.reading.names (world_of r) v e)

-- with what a schedule's lines say, and these votes
abbrev pub with_votes : {V : Type 0} → V → Running → Voting V
with_votes v r = record { running = r; votes = v }

-- what a line says that was read
abbrev pub after_line : {V : Type 0} → Keeping V → Running → V → Line → Step (Voting V)
after_line keeping r v line = after_line_in (with_votes v) (λ r e. after_happening keeping r v e) r line

-- the next line is refused
abbrev pub refused_line : {V : Type 0} → Running → SchedRefusal → Step (Voting V)
refused_line r refusal = refuses_line (bad_line (r.reading.lines + 1) refusal)

abbrev pub after_answer : {V : Type 0} → Keeping V → Running → V → LineAnswer → Step (Voting V)
after_answer keeping r v answer = after_answer_in (with_votes v) (λ r e. after_happening keeping r v e) r answer

-- a vote is taken, unless too many amendments would be named; its line is counted already
abbrev pub after_vote : {V : Type 0} → Keeping V → Running → V → Favor → Step (Voting V)
after_vote keeping r v f =
    if nat_lt most_amendments (keeping.named v f.member f.fee f.ids)
    then refuses_line (bad_line r.reading.lines (Limit (decimal most_amendments)))
    else silent r (keeping.voted v f.member f.fee f.ids)

-- a line of votes, or another
abbrev pub after_favored : {V : Type 0} → Keeping V → Running → V → List ℕ → Result (Option Favor) SchedRefusal →
    Step (Voting V)
after_favored keeping r v bytes (Ok None) = after_answer keeping r v (answer_in r bytes)
after_favored keeping r v bytes (Ok (Some f)) = after_vote keeping (knows r (after_favor r.reading (Some f))) v f
after_favored keeping r v bytes (Err refusal) = refused_line r refusal

-- the end of a schedule: one with no line lacks its header
abbrev pub told_at_end : {V : Type 0} → Keeping V → Running → V → Told
told_at_end keeping r v =
    if r.reading.lines == 0 then closes (bad_line 1 (Header [])) Refused
    else closes (count_line (keeping.count v)) Good

abbrev pub rules : {V : Type 0} → Keeping V → Rules (Voting V)
rules keeping = record {
  step = λ p bytes _. after_favored keeping p.running p.votes bytes (favor_line p.running.reading bytes);
  overrun = λ p overrun. bad_line (p.running.reading.lines + 1) (beyond overrun);
  closing = λ p. told_at_end keeping p.running p.votes;
}

-- before the first line
abbrev pub nothing_read : {V : Type 0} → V → Voting V
nothing_read v = record { running = at_first; votes = v }

-- what is told about a schedule: the list of all votes and flag reports says it
abbrev pub flags_of : List ℕ → Told
flags_of bytes = told_of limits (rules list_keeping) (nothing_read nothing_listed) bytes

-- what is told as soon as these bytes have come
abbrev pub flags_soon : List ℕ → Told
flags_soon bytes = told_soon limits (rules list_keeping) (nothing_read nothing_listed) bytes
