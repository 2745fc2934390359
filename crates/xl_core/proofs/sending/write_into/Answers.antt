-- what is encoded spells the frame with a blank tag: sealing sets the tag alone, and without keys it stays blank
use Rattle.std.proofs.Common.{refl, ◌∙◌, ap, arith, sym}
use Rattle.xl_wire.specs.Frames.{raw_of}
use Rattle.xl_wire.specs.Raws.{RawFrame, SpellsRaw, raw_bytes}
use Rattle.xl_tags.specs.Rings.{Ring}
use Rattle.xl_core.specs.Sending.{blank_frame, keys_for, sealed_bytes}
use Rattle.xl_core.specs.declared.sending.TagPlace.{TagPlace}
use Rattle.xl_core.proofs.Blanks.{left_blank}
use Rattle.xl_core.proofs.SealingLaws.{written}
use Rattle.xl_core.proofs.sending.write_into.Goals as goal
use Rattle.xl_core.proofs.sending.write_into.Goals.{After-encode}

-- the frame before it is sealed
abbrev blank : After-encode → RawFrame
blank c = raw_of (blank_frame c.args.keys.now.me c.args.to c.args.body)

spelled : (c : After-encode) → SpellsRaw (blank c) c.encode.new.room
spelled c =
    written c.get.result c.args.keys.now.me c.get-2.result c.args.to c.encode.result c.args.body c.encode.new.room
    (c.get.ensures.value ∙ c.me.ensures.value) c.get-2.ensures.value (omega (arith, c.encode.ensures.long, c.encode.auto.room, c.requires.long)) c.encode.ensures.spelled

pub seal-requires : goal.seal-requires
seal-requires c =
    let d = (goal.at.seal-requires c).After-encode in
    record { frame = blank d; spells = spelled d; mine = refl; theirs = refl; keyed = d.requires.key }

pub returns-in-Sealed-clause-sealed : goal.returns-in-Sealed-clause-sealed
returns-in-Sealed-clause-sealed c =
    let d = (goal.at.returns-in-Sealed-clause-sealed c).After-encode in
    let ring : Ring = c.args.keys.now in
    (c.seal.ensures.sealed (blank d) (spelled d)).spelling
    ∙ ap (λ (tags : TagPlace). sealed_bytes (keys_for tags ring) ring.me c.args.to c.args.body) (sym c.in-Sealed.is)

-- with no keys it stays blank
pub returns-in-Blank-clause-sealed : goal.returns-in-Blank-clause-sealed
returns-in-Blank-clause-sealed c =
    let d = (goal.at.returns-in-Blank-clause-sealed c).After-encode in
    let ring : Ring = c.args.keys.now in
    (spelled d).spelling ∙ ap raw_bytes (sym (left_blank ring.me (blank d)))
    ∙ ap (λ (tags : TagPlace). sealed_bytes (keys_for tags ring) ring.me c.args.to c.args.body) (sym c.in-Blank.is)
