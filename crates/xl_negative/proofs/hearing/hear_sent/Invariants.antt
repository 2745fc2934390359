use Rattle.std.proofs.Common.{◌≡◌, ◌++◌, drop}
use Rattle.xl_negative.specs.Hearing.{heard_in_sent}
use Rattle.xl_negative.proofs.hearing.hear_sent.Given as goal

-- what was heard, and what is left to hear
abbrev pub invariant-loop-place : goal.invariant-loop-place
invariant-loop-place l =
    l.heard.items ++ heard_in_sent l.world (drop l.place l.world.sent) ≡ l.initial.heard.items ++ heard_in_sent l.world (drop l.world.mark l.world.sent)
