-- Each turn adds the frame of its place, and those behind it are left.
use Rattle.std.proofs.Common.{ℕ, ◌+◌, List, [], ◌++◌, arith, drop, sym, ◌∙◌}
use Rattle.std.specs.String.{string_bytes}
use Rattle.std.proofs.lemmas.Option.{slice_get-get_or}
use Rattle.xl_tell.specs.Parts.{sent_lines}
use Rattle.xl_world.specs.Sending.{Sent}
use Rattle.xl_tell.proofs.Frames.{frame_told, none_told}
use Rattle.xl_tell.proofs.sent.push_frames.Goals as goal

pub unreachable-requires : goal.unreachable-requires
unreachable-requires c =
    let nobody : Sent = record { from = 0; to = 0; bytes = [] } in
    let there = slice_get-get_or c.args.sent.now c.loop-place.place nobody (omega (arith, c.loop-place-test.true, c.len-place-end.ensures)) in
    cc (there, c.get.ensures)

pub loop-place-preserved : goal.loop-place-preserved
loop-place-preserved c =
    let names = c.args.reader.now.names in
    let sent = c.args.sent.now in
    let whole : List ℕ = string_bytes c.args.text.now ++ sent_lines names (c.args.before + 1) (drop c.args.before sent) in
    (frame_told names sent c.loop-place.place c.in-Some.frame (string_bytes c.loop-place.text) (string_bytes c.push_frame.new.text) whole (sym c.in-Some.ensures) c.loop-place.invariant.0 c.in_ok-push_frame.ensures.told, c.in_ok-push_frame.ensures.echoes)

pub returns : goal.returns
returns c =
    sym (none_told c.args.reader.now.names c.args.sent.now c.loop-place.place (string_bytes c.loop-place.text) (omega (arith, c.loop-place-test.false, c.len-place-end.ensures))) ∙ c.loop-place.invariant.0
