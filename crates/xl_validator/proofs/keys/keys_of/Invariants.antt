use Rattle.xl_validator.proofs.Sharing.{AreKeys}
use Rattle.xl_validator.proofs.keys.keys_of.Given as goal

abbrev pub invariant-loop-peer : goal.invariant-loop-peer
invariant-loop-peer l = AreKeys l.fn.me l.fn.peers l.peer-index l.keys
