use Rattle.std.proofs.Common.{◌≤◌, ◌∙◌, ℕ, List, ap, arith, length, length-take, subst, sym, take, take_all}
use Rattle.xl_wire.specs.Frames.{Spells, raw_of}
use Rattle.xl_wire.specs.Raws.{SpellsRaw}
use Rattle.xl_tags.specs.Rings.{schedule_ring}
use Rattle.xl_core.specs.Hearing.{bytes_as_sealed}
use Rattle.xl_core.specs.Sending.{blank_frame}
use Rattle.xl_core.proofs.SealingLaws.{written}
use Rattle.xl_world.proofs.Carrying.{spelled_between}
use Rattle.xl_world.proofs.Liars.{heard_sealed}
use Rattle.xl_world.proofs.lie.put_blank.Goals as goal
use Rattle.xl_world.proofs.lie.put_blank.Goals.{After-encode}

pub encode-requires : goal.encode-requires
encode-requires c = omega (arith, c.len-length.ensures.value, c.len-length.ensures.small, c.requires.room)

pub returns-clause-long : goal.returns-clause-long
returns-clause-long c = omega (arith, c.encode.ensures.long)

pub returns-clause-short : goal.returns-clause-short
returns-clause-short c = omega (arith, c.encode.ensures.long, c.len-length.ensures.value, c.len-length.ensures.small)

pub returns-clause-within : goal.returns-clause-within
returns-clause-within c = omega (arith, c.encode.ensures.long, c.encode.auto.room, c.len-length.ensures.value, c.len-length.ensures.small, c.requires.room)

-- what is written is the blank frame
spelled : (c : After-encode) → SpellsRaw (raw_of (blank_frame c.args.from c.args.to c.args.body)) (take c.encode.result c.encode.new.room)
spelled c =
    let n : ℕ = c.encode.result in
    let front : List ℕ = take n c.encode.new.room in
    let short : length front ≤ n = omega (arith, length-take n c.encode.new.room) in
    written c.get.result c.args.from c.get-2.result c.args.to n c.args.body front
    c.get.ensures.value c.get-2.ensures.value short
    (subst (Spells (blank_frame c.get.result c.get-2.result c.args.body)) (sym (take_all n front short)) c.encode.ensures.spelled)

pub returns-clause-spelled : goal.returns-clause-spelled
returns-clause-spelled c = spelled ((goal.at.returns-clause-spelled c).After-encode)

pub returns-clause-heard : goal.returns-clause-heard
returns-clause-heard c =
    let s = spelled ((goal.at.returns-clause-heard c).After-encode) in
    ap (bytes_as_sealed (schedule_ring c.args.to)) s.spelling
    ∙ heard_sealed c.args.from c.args.to c.args.body (omega arith, omega arith) (omega arith, omega arith) s.frame

-- and has a spelling, since it was written
pub returns-clause-has : goal.returns-clause-has
returns-clause-has c =
    spelled_between c.args.from c.args.to c.args.body (omega arith, omega arith) (omega arith, omega arith) c.encode.ensures.spelled.frame.body
