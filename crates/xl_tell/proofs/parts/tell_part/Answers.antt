-- what is told before it, of its outcomes, of what was sent, and of what is held
use Rattle.std.proofs.Common.{◌≡◌, ℕ, List, ◌++◌, length, ap, ◌∙◌}
use Rattle.std.specs.String.{string_bytes}
use Rattle.xl_replay.specs.Texts.{outcome_lines}
use Rattle.xl_running.specs.Running.{Running, happens, world_of}
use Rattle.xl_sched.specs.declared.named.Named.{Named}
use Rattle.xl_sched.specs.Reading.{Reading}
use Rattle.xl_told.specs.Events.{event_line}
use Rattle.xl_world.specs.declared.outcome.Outcome.{Outcome}
use Rattle.xl_world.specs.Schedule.{after_event, outcomes}
use Rattle.xl_world.specs.World.{World}
use Rattle.xl_tell.specs.Parts.{new_frames, new_holdings}
use Rattle.xl_tell.proofs.Telling.{frames_written, holdings_written, stays_open}
use Rattle.xl_tell.proofs.Writing.{then_written, written_in}
use Rattle.xl_tell.proofs.parts.tell_part.Goals as goal

pub world_in-first-requires : goal.world_in-first-requires
world_in-first-requires c = c.requires.opened

pub world_in-world-requires : goal.world_in-world-requires
world_in-world-requires c = stays_open c.args.running.now c.event.new.self c.args.event.now c.in_ok-happened.ensures.world

pub returns-clause-told : goal.returns-clause-told
returns-clause-told c =
    let r = c.args.running.now in
    let next = c.event.new.self in
    let e = c.args.event.now in
    let w = world_of r in
    let names = r.reading.names in
    let n = r.reading.lines in
    let leads : next ≡ happens r e = c.in_ok-happened.ensures.world in
    let reading : next.reading ≡ r.reading = ap (λ (s : Running). s.reading) leads in
    let there : world_of next ≡ after_event w e = ap world_of leads in
    let text0 = string_bytes c.args.text.now in
    let text1 = string_bytes c.push_event.new.text in
    let text2 = string_bytes c.push_reported.new.text in
    let text3 = string_bytes c.push_sent.new.text in
    let text4 = string_bytes c.push_told.new.text in
    let told = c.as_slice.result.now in
    let first : text1 ≡ text0 ++ event_line names n e =
    written_in (λ (ns : List Named) (k : ℕ). event_line ns k e) c.reader-reader.result.now r.reading c.lines.result text0 text1 c.reader-reader.ensures c.lines.ensures.value c.in_ok-push_event.ensures in
    let came : text2 ≡ text1 ++ outcome_lines names n (outcomes w e) =
    c.in_ok-push_reported.ensures
    ∙ (ap (λ (k : Reading). text1 ++ outcome_lines k.names k.lines told) (c.reader-reader-2.ensures ∙ reading)
    ∙ ap (λ (os : List Outcome). text1 ++ outcome_lines names n os) (c.as_slice.ensures ∙ c.in_ok-happened.ensures.told)) in
    let words : c.reader-reader-2.result.now.names ≡ names = ap (λ (k : Reading). k.names) (c.reader-reader-2.ensures ∙ reading) in
    let frames : text3 ≡ text2 ++ new_frames names w (after_event w e) =
    frames_written names c.reader-reader-2.result.now.names c.len-sent.result c.sent-2.result.now w (after_event w e) text2 text3 words
    (c.len-sent.ensures ∙ ap length (c.sent.ensures ∙ ap (λ (u : World). u.sent) c.world_in-first.ensures))
    (c.sent-2.ensures ∙ ap (λ (u : World). u.sent) (c.world_in-world.ensures ∙ there)) c.in_ok-push_sent.ensures in
    let held : text4 ≡ text3 ++ new_holdings names w e =
    holdings_written names c.reader-reader-2.result.now.names w c.world_in-first.result.now c.world_in-world.result.now e _ text3 text4 words
    c.world_in-first.ensures (c.world_in-world.ensures ∙ there) c.in_ok-note_before.ensures c.in_ok-push_told.ensures in
    then_written text0 (event_line names n e ++ outcome_lines names n (outcomes w e) ++ new_frames names w (after_event w e)) (new_holdings names w e) text3 text4
    (then_written text0 (event_line names n e ++ outcome_lines names n (outcomes w e)) (new_frames names w (after_event w e)) text2 text3
    (then_written text0 (event_line names n e) (outcome_lines names n (outcomes w e)) text1 text2 first came) frames) held
