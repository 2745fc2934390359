use Rattle.std.proofs.Common.{sym, ◌∙◌, arith}
use Rattle.xl_publish.proofs.MemberLaws.{stranger_here, stranger_later}
use Rattle.xl_publish.proofs.reading.stranger_in.Goals as goal

pub returns-then-not-has : goal.returns-then-not-has
returns-then-not-has c =
    sym (stranger_here c.args.members.now c.loop-place.place c.member_at-member.result c.args.bytes.now (omega arith)
    c.member_at-member.ensures (sym c.has.ensures ∙ c.if-not-has.true))
    ∙ c.loop-place.invariant

pub loop-place-preserved : goal.loop-place-preserved
loop-place-preserved c =
    stranger_later c.args.members.now c.loop-place.place c.member_at-member.result c.args.bytes.now (omega arith)
    c.member_at-member.ensures (sym c.has.ensures ∙ c.if-not-has.false)
    ∙ c.loop-place.invariant
