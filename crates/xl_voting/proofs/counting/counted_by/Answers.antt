use Rattle.xl_validations.specs.Rows.{current_of, is_full_of}
use Rattle.xl_voting.proofs.Filtering.{passed_few, passed_members}
use Rattle.xl_voting.proofs.counting.counted_by.Goals as goal

pub returns-clause-few : goal.returns-clause-few
returns-clause-few c =
    passed_few (λ m. is_full_of c.args.seq c.args.id.now (current_of c.args.core.now.node.rows m)) c.members-members.result.now c.list.result.now.members c.loop-member.counted.items c.loop-member.member-index
    c.loop-member.invariant c.members-members.ensures.value c.members-members.ensures.valid.at_most

pub returns-clause-members : goal.returns-clause-members
returns-clause-members c =
    passed_members (λ m. is_full_of c.args.seq c.args.id.now (current_of c.args.core.now.node.rows m)) c.members-members.result.now c.list.result.now.members c.loop-member.counted.items
    c.loop-member.member-index c.loop-member.invariant c.members-members.ensures.value c.members-members.ensures.valid.numbers
