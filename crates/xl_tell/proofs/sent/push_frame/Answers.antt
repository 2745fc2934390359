-- its numbers, what it says, and the end of the line
use Rattle.std.proofs.Common.{List, ℕ, ◌++◌}
use Rattle.std.specs.Prelude.{codes, decimal}
use Rattle.std.specs.String.{string_bytes}
use Rattle.xl_running.specs.Texts.{newline, space}
use Rattle.xl_told.specs.Bodies.{said_text}
use Rattle.xl_wire.specs.Frames.{decoded_of}
use Rattle.xl_tell.proofs.Writing.{then_written}
use Rattle.xl_tell.proofs.sent.push_frame.Goals as goal

pub returns-clause-told : goal.returns-clause-told
unfolding lib.Utf8.encode
returns-clause-told c =
    let frame = c.args.frame.now in
    let old = string_bytes c.args.text.now in
    let numbers : List ℕ = codes "sent " ++ decimal c.args.number ++ space ++ decimal frame.from ++ space ++ decimal frame.to ++ space in
    let words : List ℕ = said_text c.args.reader.now.names (decoded_of frame.bytes) in
    let said = string_bytes c.push_frame_said.new.text in
    then_written old (numbers ++ words) newline said (string_bytes c.push.new.self)
    (then_written old numbers words (string_bytes c.push_numbers.new.text) said c.in_ok-push_numbers.ensures c.in_ok-push_frame_said.ensures.told) c.in_ok-push.ensures.bytes
