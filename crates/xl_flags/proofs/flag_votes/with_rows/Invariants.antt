use Rattle.std.proofs.Common.{◌≡◌, take}
use Rattle.xl_flags.specs.Kept.{with_rows}
use Rattle.xl_flags.proofs.flag_votes.with_rows.Given as goal

-- the ids so far have theirs
abbrev pub invariant-loop-id : goal.invariant-loop-id
invariant-loop-id l = l.rows.items ≡ with_rows l.amendments.items (take l.id-index l.ids)
