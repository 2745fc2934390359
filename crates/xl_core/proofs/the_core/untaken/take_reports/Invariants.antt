use Rattle.std.proofs.Common.{◌≡◌}
use Rattle.xl_core.proofs.Handing.{IsGiven}
use Rattle.xl_core.proofs.the_core.untaken.take_reports.Given as goal

-- the reports so far are taken out, and stand in the room
abbrev pub invariant-loop-place : goal.invariant-loop-place
invariant-loop-place l = record {
  given : IsGiven l.initial.untaken.items l.untaken.items l.initial.room l.room l.place;
  lost : l.untaken.lost ≡ l.initial.untaken.lost;
}
