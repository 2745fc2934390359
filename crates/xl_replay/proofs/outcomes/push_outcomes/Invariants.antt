use Rattle.std.proofs.Common.{◌≡◌, ◌++◌, take}
use Rattle.std.specs.List.{flat_map}
use Rattle.std.specs.String.{string_bytes}
use Rattle.xl_replay.specs.Texts.{outcome_line}
use Rattle.xl_replay.proofs.outcomes.push_outcomes.Given as goal

-- the lines so far
abbrev pub invariant-loop-outcome : goal.invariant-loop-outcome
invariant-loop-outcome l = string_bytes l.text ≡ string_bytes l.initial.text ++ flat_map (outcome_line l.reader.names l.line) (take l.outcome-index l.outcomes)
