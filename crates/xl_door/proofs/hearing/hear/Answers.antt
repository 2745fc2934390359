-- a line is answered by what came of it, and one that is longer than the room is too long
use Rattle.std.proofs.Common.{arith}
use Rattle.xl_turns.specs.Passes.{known}
use Rattle.xl_store.specs.Stores.{start_of}
use Rattle.xl_door.specs.declared.replies.Reply.TheVariants as reply
use Rattle.xl_door.proofs.Rounds.{hears_line, said_too_long}
use Rattle.xl_door.proofs.hearing.hear.Goals as goal

pub returns-in-Line-clause-hears : goal.returns-in-Line-clause-hears
returns-in-Line-clause-hears g c =
    let comes = c.in-Line.ensures.comes in
    hears_line (start_of c.args.store.now) (g.C.Clock.may_give c.args.clock.now) (known c.args.pass.now)
    (known c.reply_to-reply.new.pass) (g.D.Door.shows c.args.door.now) (g.D.Door.shows c.next.new.self)
    (g.D.Door.shows c.tell.new.door) _ c.reply_to-reply.result.0 comes.came.1 comes.took comes.later
    c.reply_to-reply.ensures.said c.tell.ensures

pub returns-in-Long-clause-hears : goal.returns-in-Long-clause-hears
returns-in-Long-clause-hears g c =
    let comes = c.in-Long.ensures.comes in
    let start = start_of c.args.store.now in
    let may = g.C.Clock.may_give c.args.clock.now in
    let over = comes.came.1 in
    let room = c.in-Long.ensures.same in
    hears_line start may (known c.args.pass.now) (known c.args.pass.now) (g.D.Door.shows c.args.door.now)
    (g.D.Door.shows c.next.new.self) (g.D.Door.shows c.tell-in-Long.new.door) comes.came.0 reply.TooLong comes.came.2
    comes.took comes.later
    (said_too_long start may (known c.args.pass.now) comes.came.0 (omega (arith, over, room)))
    c.tell-in-Long.ensures
