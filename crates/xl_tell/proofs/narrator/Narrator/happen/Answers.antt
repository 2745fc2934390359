-- the world is open, and then the event is told part by part
use Rattle.std.specs.String.{string_bytes}
use Rattle.xl_tell.proofs.Telling.{event_written, opened_so}
use Rattle.xl_tell.proofs.narrator.Narrator.happen.Goals as goal

pub tell_event-requires-clause-opened : goal.tell_event-requires-clause-opened
tell_event-requires-clause-opened c = opened_so c.args.self.now.running c.open_world.new.running c.in_ok-open_world.ensures.world

pub returns : goal.returns
returns c =
    event_written c.args.self.now.running c.open_world.new.running c.tell_event.new.running c.args.event.now (string_bytes c.args.text.now) (string_bytes c.open_world.new.text) (string_bytes c.tell_event.new.text)
    c.requires.empty c.in_ok-open_world.ensures.world c.in_ok-open_world.ensures.told c.in_ok-tell_event.ensures.happens c.in_ok-tell_event.ensures.told
