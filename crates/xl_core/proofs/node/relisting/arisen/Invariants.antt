use Rattle.std.proofs.Common.{◌≡◌, drop}
use Rattle.xl_core.specs.Node.{arisen_in}
use Rattle.xl_core.proofs.Relisting.{arisen_among}
use Rattle.xl_core.proofs.node.relisting.arisen.Given as goal

-- what arises does so in what the rows of the members that are left hold
abbrev pub invariant-loop-member : goal.invariant-loop-member
invariant-loop-member g l = arisen_among l.fn.list.quorum l.fn.table.rows l.fn.last (drop l.member-index l.fn.list.members) ≡ arisen_in l.fn.list.quorum l.fn.table.rows l.fn.last
