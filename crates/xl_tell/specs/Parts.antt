-- What is told of an event, part by part. Source: this project's own formats.
use Rattle.std.specs.Prelude.{ℕ, ◌+◌, List, [], ◌∷◌, ◌++◌, length, drop, decimal, codes}
use Rattle.xl_replay.specs.Texts.{outcome_lines}
use Rattle.xl_running.specs.Texts.{newline, space}
use Rattle.xl_sched.specs.declared.event.Event.{Event}
use Rattle.xl_sched.specs.declared.named.Named.{Named}
use Rattle.xl_told.specs.Bodies.{said_text}
use Rattle.xl_told.specs.Events.{event_line}
use Rattle.xl_wire.specs.Frames.{decoded_of}
use Rattle.xl_world.specs.Schedule.{after_event, outcomes}
use Rattle.xl_world.specs.Sending.{Sent}
use Rattle.xl_world.specs.World.{World}
use Rattle.xl_tell.specs.Nodes.{changed_at, node_of, noted_at}

-- a frame that was sent: its number, by which it is delivered, its sender, its receiver, and what it says
abbrev pub sent_line : List Named → ℕ → Sent → List ℕ
sent_line names number frame =
    codes "sent " ++ decimal number ++ space ++ decimal frame.from ++ space ++ decimal frame.to ++ space
    ++ said_text names (decoded_of frame.bytes) ++ newline

-- frames from a number on
abbrev pub sent_lines : List Named → ℕ → List Sent → List ℕ
sent_lines names number [] = []
sent_lines names number (frame ∷ frames) = sent_line names number frame ++ sent_lines names (number + 1) frames

-- the frames that were sent between two worlds
abbrev pub new_frames : List Named → World → World → List ℕ
new_frames names before after = sent_lines names (length before.sent + 1) (drop (length before.sent) after.sent)

-- what the node at which it happens holds behind it, and didn't hold before
abbrev pub new_holdings : List Named → World → Event → List ℕ
new_holdings names w e = changed_at names (node_of w e.what) (noted_at w (node_of w e.what)) (after_event w e)

-- what is told of a part of the event in line n: itself, what the report says of it, what was sent, what is held
abbrev pub part_lines : List Named → ℕ → World → Event → List ℕ
part_lines names n w e =
    event_line names n e ++ outcome_lines names n (outcomes w e) ++ new_frames names w (after_event w e)
    ++ new_holdings names w e

-- of parts one after the other
abbrev pub lines_of_parts : List Named → ℕ → World → List Event → List ℕ
lines_of_parts names n w [] = []
lines_of_parts names n w (e ∷ es) = part_lines names n w e ++ lines_of_parts names n (after_event w e) es
