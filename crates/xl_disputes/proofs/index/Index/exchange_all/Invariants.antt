use Rattle.std.proofs.Common.{take}
use Rattle.xl_disputes.specs.Rows.{Exchanges}
use Rattle.xl_disputes.proofs.index.Index.exchange_all.Given as goal

-- it was done with the ids so far
abbrev pub invariant-loop-id : goal.invariant-loop-id
invariant-loop-id l = Exchanges l.fn.self l.self (take l.id-index l.ids) l.from l.to
