use Rattle.std.proofs.Common.{◌∙◌, ℕ, arith, drop, length-append, length-take, refl, take_at}
use Rattle.xl_wire.specs.Frames.{raw_of}
use Rattle.xl_core.specs.Sending.{blank_frame}
use Rattle.xl_world.specs.Schedule.{lied_body}
use Rattle.xl_world.proofs.lie.put_lie.Goals as goal

pub seal-requires : goal.seal-requires
seal-requires c =
    omega (arith, c.put_blank_lie-length.ensures.long, c.put_blank_lie-length.ensures.within, length-take c.put_blank_lie-length.result c.put_blank_lie-length.new.room)

pub returns-clause-within : goal.returns-clause-within
returns-clause-within c =
    let n : ℕ = c.put_blank_lie-length.result in
    omega (arith, c.put_blank_lie-length.ensures.within, c.seal.auto.frame, length-take n c.put_blank_lie-length.new.room, length-append c.seal.new.frame (drop n c.put_blank_lie-length.new.room))

pub returns-clause-written : goal.returns-clause-written
returns-clause-written c =
    let n : ℕ = c.put_blank_lie-length.result in
    take_at c.seal.new.frame (drop n c.put_blank_lie-length.new.room) n (c.seal.auto.frame ∙ (length-take n c.put_blank_lie-length.new.room ∙ omega (arith, c.put_blank_lie-length.ensures.within)))
    ∙ (c.seal.ensures (raw_of (blank_frame c.args.from c.args.to (lied_body c.args.lie.now))) refl c.put_blank_lie-length.ensures.spelled).spelling
