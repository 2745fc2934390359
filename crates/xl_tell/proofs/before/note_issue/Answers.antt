-- its own validation is of a member
use Rattle.std.proofs.Common.{ℕ, ap, sym, subst, ◌∙◌}
use Rattle.xl_lists.specs.Lists.{IsValid, TrustedList, is_on}
use Rattle.xl_tell.proofs.Heard.{issue_tells_of}
use Rattle.xl_tell.proofs.before.note_issue.Goals as goal

pub returns : goal.returns
returns c =
    let list : TrustedList = c.list-list.result.now in
    λ _. issue_tells_of c.args.number c.args.at c.args.node.now c.of-noted.result c.of-noted.ensures (subst IsValid c.list-list.ensures c.members-members.ensures.valid)
    (ap (λ (l : TrustedList). is_on l.members c.args.node.now.me) (sym c.list-list.ensures) ∙ (ap (λ (m : ℕ). is_on list.members m) (sym c.me.ensures) ∙ (sym c.has.ensures ∙ c.if-not-has.false)))
    (c.is_within.ensures c.if-not-is_within.false)
