-- the keys so far are those of the peers passed, and no peer has the member's own number
use Rattle.std.proofs.Common.{◌∙◌}
use Rattle.xl_validator.proofs.Sharing.{no_keys_yet, a_key_more, no_peer, ring_of_all, keys_of_all}
use Rattle.xl_validator.proofs.keys.keys_of.Goals as goal

pub loop-peer-init : goal.loop-peer-init
loop-peer-init c = no_keys_yet c.args.me c.args.peers.now c.new-keys.result c.new-keys.ensures.ring

pub put-requires : goal.put-requires
put-requires c = record {
  other = λ same. no_peer c.args.peers.now c.loop-peer.peer-index c.args.me c.peer-item.result c.loop-peer-test.true
      c.peer-item.is c.requires.others (same ∙ c.loop-peer.invariant.own);
}

pub loop-peer-preserved : goal.loop-peer-preserved
loop-peer-preserved c =
    a_key_more c.args.me c.args.peers.now c.loop-peer.peer-index c.peer-item.result c.loop-peer.keys c.put.new.self
    c.loop-peer-test.true c.peer-item.is c.loop-peer.invariant
    c.put.ensures.keys c.put.ensures.kept c.put.ensures.others

pub returns-clause-ring : goal.returns-clause-ring
returns-clause-ring c =
    ring_of_all c.args.me c.args.peers.now c.loop-peer.peer-index c.loop-peer.keys c.loop-peer-test.false c.loop-peer.invariant

pub returns-clause-own : goal.returns-clause-own
returns-clause-own c = c.loop-peer.invariant.own

pub returns-clause-peers : goal.returns-clause-peers
returns-clause-peers c =
    keys_of_all c.args.me c.args.peers.now c.loop-peer.peer-index c.loop-peer.keys c.loop-peer-test.false c.loop-peer.invariant
