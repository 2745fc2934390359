use Rattle.std.proofs.lemmas.List.{take_rest}
use Rattle.xl_peers.proofs.Growing.{sending_more, sent_took}
use Rattle.xl_peers.proofs.sending.send.Goals as goal

pub loop-rest-preserved : goal.loop-rest-preserved
loop-rest-preserved g c =
    rw take_rest (sending_more _ _ _ _ _ _ c.loop-rest.invariant (sent_took _ _ _ _ c.in-Took.ensures))
