use Rattle.std.proofs.Common.{sym, ap, ◌∙◌, ℕ, arith}
use Rattle.xl_lists.specs.Lists.{is_on}
use Rattle.xl_publish.specs.Fields.{members_in}
use Rattle.xl_publish.proofs.MemberLaws.{named_here, named_later}
use Rattle.xl_publish.proofs.reading.names.Goals as goal

pub returns-then-number-member_at : goal.returns-then-number-member_at
returns-then-number-member_at c =
    sym (named_here c.get-number.result c.loop-place.place c.args.bytes.now (omega arith) (c.if-number-member_at.true ∙ c.member_at.ensures))
    ∙ c.loop-place.invariant ∙ ap (λ (number : ℕ). is_on (members_in c.args.bytes.now) number) c.get-number.ensures.value

pub loop-place-preserved : goal.loop-place-preserved
loop-place-preserved c =
    named_later c.get-number.result c.loop-place.place c.args.bytes.now (omega arith) (λ e. c.if-number-member_at.false (e ∙ sym c.member_at.ensures))
    ∙ c.loop-place.invariant
