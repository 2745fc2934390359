-- A telling ends as a report does: it is read to its end, and is never empty there.
use Rattle.std.proofs.Common.{◌+◌}
use Rattle.xl_lines.specs.Causes.{EndsAloud}
use Rattle.xl_lines.specs.Ends.{FindsAtEnd}
use Rattle.xl_replay.proofs.AtEnd as replay_end
use Rattle.xl_replay.proofs.Ending as replay_loud
use Rattle.xl_running.specs.Running.{answer_in, beyond}
use Rattle.xl_running.proofs.Aloud.{bad_some}
use Rattle.xl_running.proofs.Steps.{answer_aloud, answer_finds}
use Rattle.xl_tell.specs.Tellings.{after_happening, rules}

pub finds_at_end : FindsAtEnd rules
finds_at_end = record {
  step = λ r bytes _. answer_finds (λ r. r) after_happening (λ r e. tt) r (answer_in r bytes);
  closing = replay_end.finds_at_end.closing;
}

pub ends_aloud : EndsAloud rules
ends_aloud = record {
  step = λ r bytes _. answer_aloud (λ r. r) after_happening (λ r e. tt) r (answer_in r bytes);
  overrun = λ r overrun. bad_some (r.reading.lines + 1) (beyond overrun);
  closing = replay_loud.ends_aloud.closing;
}
