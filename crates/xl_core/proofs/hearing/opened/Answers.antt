use Rattle.std.proofs.Common.{◌<◌, ◌≤◌, ◌∙◌, ℕ, ◌-◌, List, length, sym, ap, subst, refl, arith, Ok, Err, Result}
use Rattle.std.proofs.lemmas.List.{take_all}
use Rattle.xl_wire.specs.Bodies.{body_of}
use Rattle.xl_wire.specs.Kinds.{span}
use Rattle.xl_wire.specs.Raws.{RawFrame, SpellsRaw, raw_frame}
use Rattle.xl_tags.specs.Rings.{Ring}
use Rattle.xl_core.specs.Hearing.{bytes_with, frame_with, heard_so, spoken_in}
use Rattle.xl_core.specs.declared.hearing.Spoken.{Spoken}
use Rattle.xl_core.specs.declared.refusal.Refusal.{Refusal}
use Rattle.xl_core.specs.declared.refusal.Refusal.TheVariants.{Extra}
use Rattle.xl_core.proofs.Heard.{long, unopened, read, so_read, framed_with, stays_long, IsFrame}
use Rattle.xl_core.proofs.hearing.opened.Goals as goal
use Rattle.xl_core.proofs.hearing.opened.Goals.{Else-raw-bytes}

-- more than the frame
pub returns-then-raw-bytes : goal.returns-then-raw-bytes
returns-then-raw-bytes c =
    let ring : Ring = c.args.keys.now in
    let members : List ℕ = c.args.list.now.members in
    let bytes : List ℕ = c.args.bytes.now in
    let f : RawFrame = raw_frame c.args.raw.now in
    let more : span f.body < length bytes = omega (arith, c.if-raw-bytes.true, c.args.raw.now.whole) in
    ap (spoken_in ring members) (stays_long c.args.tags ring bytes f c.requires.begins.split more) ∙ long ring members bytes f c.requires.begins.split more
    ∙ ap (λ (n : ℕ). (let r : Result Spoken Refusal = Err (Extra (length bytes - n)) in r)) (sym c.args.raw.now.whole)

-- the bytes spell the frame
spells : (c : Else-raw-bytes) → SpellsRaw (raw_frame c.args.raw.now) c.args.bytes.now
spells c =
    let f : RawFrame = raw_frame c.args.raw.now in
    let all : length c.args.bytes.now ≤ span f.body = omega (arith, c.if-raw-bytes.false, c.args.raw.now.whole) in
    subst (SpellsRaw f) (take_all (span f.body) c.args.bytes.now all) c.requires.begins.spelled

-- so what stands in their place spells one too
framed : (c : Else-raw-bytes) → IsFrame (bytes_with c.args.tags c.args.keys.now c.args.bytes.now) (frame_with c.args.tags c.args.keys.now (raw_frame c.args.raw.now))
framed c = framed_with c.args.tags c.args.keys.now c.args.bytes.now (raw_frame c.args.raw.now) (spells c)

pub open-requires-clause-whole : goal.open-requires-clause-whole
open-requires-clause-whole c = spells (goal.at.open-requires-clause-whole c).Else-raw-bytes

pub returns-in-Err : goal.returns-in-Err
returns-in-Err c =
    let ring : Ring = c.args.keys.now in
    let is = framed (goal.at.returns-in-Err c).Else-raw-bytes in
    unopened ring c.args.list.now.members (bytes_with c.args.tags ring c.args.bytes.now) (frame_with c.args.tags ring (raw_frame c.args.raw.now)) c.in-Err.why is.split is.all (sym c.in-Err.ensures.refusal)

pub returns-in-Ok : goal.returns-in-Ok
returns-in-Ok c =
    let ring : Ring = c.args.keys.now in
    let raw = c.args.raw.now in
    let is = framed (goal.at.returns-in-Ok c).Else-raw-bytes in
    read ring c.args.list.now.members (bytes_with c.args.tags ring c.args.bytes.now) (frame_with c.args.tags ring (raw_frame raw)) (body_of raw.kind raw.body.now) is.split is.all (sym c.in-Ok.ensures.refusal) refl
    ∙ so_read raw.from (body_of raw.kind raw.body.now)
    ∙ ap (λ (m : ℕ). heard_so (Ok m) (body_of raw.kind raw.body.now)) (sym c.in-Ok.ensures.sender)
