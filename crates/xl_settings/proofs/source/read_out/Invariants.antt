use Rattle.std.proofs.Common.{◌≡◌, ◌≤◌, ◌+◌, ◌-◌, length}
use Rattle.std.specs.Io.KnownBytes.{prepend_known}
use Rattle.xl_settings.specs.Limits.{most_bytes}
use Rattle.xl_settings.proofs.source.read_out.Given as goal

abbrev pub invariant-loop-room : goal.invariant-loop-room
invariant-loop-room g l =
    (g.I.Source.left l.initial.input ≡ prepend_known l.bytes.items (g.I.Source.left l.input))
    × (g.I.Source.faults l.initial.input ≤ g.I.Source.faults l.input)

abbrev pub decreases-loop-room : goal.decreases-loop-room
decreases-loop-room g l = most_bytes + 1 - length l.bytes.items
