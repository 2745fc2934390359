use Rattle.std.proofs.Common.{◌≡◌, ◌∙◌, arith}
use Rattle.std.proofs.lemmas.List.Sums.{count_by-le-length}
use Rattle.xl_lists.specs.Lists.{is_on}
use Rattle.xl_lists.specs.Quorums.{overlap as overlap_of}
use Rattle.xl_lists.proofs.Tallying.{overlap_marked}
use Rattle.xl_lists.proofs.quorum.overlap.Goals as goal
use Rattle.xl_lists.proofs.quorum.overlap.Goals.{After-count}

counted : (c : After-count) → c.count.result ≡ overlap_of c.args.a.now.members c.args.b.now.members
counted c =
    c.count.ensures
    ∙ overlap_marked c.marks.result.bits c.marks-2.result.bits c.shared.result.bits c.args.a.now.members c.args.b.now.members c.marks.ensures.valid.ordered c.marks.ensures.value c.marks-2.ensures.value c.shared.ensures

pub returns-clause-value : goal.returns-clause-value
returns-clause-value c = counted (goal.at.returns-clause-value c).After-count

pub returns-clause-within : goal.returns-clause-within
returns-clause-within c = omega (arith, counted (goal.at.returns-clause-within c).After-count, count_by-le-length (is_on c.args.b.now.members) c.args.a.now.members)
