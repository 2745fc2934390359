-- what is refused as if sealed is refused anyhow; else the sender has a key, and the tag alone decides
use Rattle.std.proofs.Common.{sym, ◌∙◌, true, false}
use Rattle.xl_wire.specs.Raws.{raw_frame}
use Rattle.xl_tags.proofs.OpeningLaws.{exits_with, refused_anyhow, refused_by_tag, sender_has_key, tag_is}
use Rattle.xl_tags.proofs.opening.open_raw.Goals as goal

pub returns-in_err-sender-clause-refusal : goal.returns-in_err-sender-clause-refusal
returns-in_err-sender-clause-refusal c =
    let f = raw_frame c.args.raw.now in
    let why = c.in_err-sender.field-0.0 in
    exits_with c.from_residual.result why c.from_residual.ensures.1
    ∙ sym (refused_anyhow c.args.keys.now c.args.list.now.members f why c.requires.whole.frame c.requires.keyed (sym c.in_err-sender.ensures.refusal))

pub tag-computed-requires : goal.tag-computed-requires
tag-computed-requires c = sender_has_key c.args.keys.now c.args.list.now.members (raw_frame c.args.raw.now) c.requires.keyed (sym c.in_ok-sender.ensures.refusal)

pub returns-then-not-is_same_tag-clause-refusal : goal.returns-then-not-is_same_tag-clause-refusal
returns-then-not-is_same_tag-clause-refusal c =
    let f = raw_frame c.args.raw.now in
    let computed = tag_is c.args.keys.now f.from f c.args.bytes.now _ c.tag-computed.result c.requires.whole c.before_tag.ensures c.tag-computed.ensures in
    sym (refused_by_tag c.args.keys.now c.args.list.now.members f c.tag-computed.result false (sym c.in_ok-sender.ensures.refusal) computed c.if-not-is_same_tag.ensures)

pub returns-clause-refusal : goal.returns-clause-refusal
returns-clause-refusal c =
    let f = raw_frame c.args.raw.now in
    let computed = tag_is c.args.keys.now f.from f c.args.bytes.now _ c.tag-computed.result c.requires.whole c.before_tag.ensures c.tag-computed.ensures in
    sym (refused_by_tag c.args.keys.now c.args.list.now.members f c.tag-computed.result true (sym c.in_ok-sender.ensures.refusal) computed c.if-not-is_same_tag.ensures)
