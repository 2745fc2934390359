use Rattle.std.proofs.Common.{◌≡◌, ◌+◌, drop}
use Rattle.xl_blame.specs.Confessions.{journal_from, journal_of}
use Rattle.xl_blame.proofs.confessions.journal_of.Given as goal

-- the first is among those that are to come
abbrev pub invariant-loop-place : goal.invariant-loop-place
invariant-loop-place l = journal_of l.ended l.node ≡ journal_from (l.place + 1) (drop l.place l.ended) l.node
