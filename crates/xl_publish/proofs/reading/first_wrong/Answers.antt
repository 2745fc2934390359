use Rattle.std.proofs.Common.{sym, ◌∙◌, arith}
use Rattle.xl_publish.proofs.MemberLaws.{wrong_here, wrong_later}
use Rattle.xl_publish.proofs.reading.first_wrong.Goals as goal

pub returns-then-not-may_follow : goal.returns-then-not-may_follow
returns-then-not-may_follow c =
    sym (wrong_here c.loop-place.place c.loop-place.before c.member_at-member.result c.args.bytes.now (omega arith) c.member_at-member.ensures (sym c.may_follow.ensures ∙ c.if-not-may_follow.true))
    ∙ c.loop-place.invariant

pub loop-place-preserved : goal.loop-place-preserved
loop-place-preserved c =
    wrong_later c.loop-place.place c.loop-place.before c.member_at-member.result c.args.bytes.now (omega arith) c.member_at-member.ensures (sym c.may_follow.ensures ∙ c.if-not-may_follow.false)
    ∙ c.loop-place.invariant
