use Rattle.std.proofs.Common.{◌≡◌, ◌+◌, ◌++◌, drop}
use Rattle.std.specs.String.{string_bytes}
use Rattle.xl_tell.specs.Echoes.{AreEchoes}
use Rattle.xl_tell.specs.Parts.{sent_lines}
use Rattle.xl_tell.proofs.sent.push_frames.Given as goal

-- the frames from this place on are left, and the words are in the same names
abbrev pub invariant-loop-place : goal.invariant-loop-place
invariant-loop-place l =
    (string_bytes l.text ++ sent_lines l.reader.names (l.place + 1) (drop l.place l.sent) ≡ string_bytes l.initial.text ++ sent_lines l.reader.names (l.before + 1) (drop l.before l.sent))
    × AreEchoes l.reader.names l.speller.echoes
