-- no child passed leads the best so far, and a node has no more children than there are nodes
use Rattle.std.proofs.Common.{◌+◌, ◌-◌, List, None, inl, arith}
use Rattle.xl_trie.proofs.Common.{Name, IsBestSoFar, spans}
use Rattle.xl_trie.proofs.Siblings.{kid_in, looks_from, looks_on, looked, stands_next}
use Rattle.xl_trie.proofs.kids.best_kid.Goals as goal

pub loop-init : goal.loop-init
loop-init c = record {
  stands = tt;
  looks = looks_from c.args.nodes.now c.args.of (λ (rest : List Name). IsBestSoFar c.args.walk.now.ledgers.headers (spans c.args.nodes.now) c.args.of c.args.out rest None) c.node_at-at.result (c.live-end.result - 0) (omega (arith, c.live-end.ensures)) (c.requires.kids c.args.of c.node_at-at.result c.node_at-at.ensures.node) (λ b s kid. inl (kid_in c.args.nodes.now c.args.of b c.node_at-at.result s (c.requires.kids c.args.of c.node_at-at.result c.node_at-at.ensures.node) kid));
}

pub returns-in_default-clause-best : goal.returns-in_default-clause-best
returns-in_default-clause-best c = looked c.args.nodes.now c.args.of (λ (rest : List Name). IsBestSoFar c.args.walk.now.ledgers.headers (spans c.args.nodes.now) c.args.of c.args.out rest c.loop.best) c.loop.at _ c.loop.invariant.looks (inl c.in_default.is)

pub better-best-requires-clause-stands : goal.better-best-requires-clause-stands
better-best-requires-clause-stands c = stands_next c.args.nodes.now c.args.of (λ (rest : List Name). IsBestSoFar c.args.walk.now.ledgers.headers (spans c.args.nodes.now) c.args.of c.args.out rest c.loop.best) c.loop.at _ c.in-Some.name c.loop.invariant.looks c.in-Some.is

pub node_at-at-requires-in-loop : goal.node_at-at-requires-in-loop
node_at-at-requires-in-loop c = stands_next c.args.nodes.now c.args.of (λ (rest : List Name). IsBestSoFar c.args.walk.now.ledgers.headers (spans c.args.nodes.now) c.args.of c.args.out rest c.loop.best) c.loop.at _ c.in-Some.name c.loop.invariant.looks c.in-Some.is

pub loop-preserved : goal.loop-preserved
loop-preserved c = record {
  stands = c.better-best.ensures.stands;
  looks = looks_on c.args.nodes.now c.args.of (λ (rest : List Name). IsBestSoFar c.args.walk.now.ledgers.headers (spans c.args.nodes.now) c.args.of c.args.out rest c.loop.best) (λ (rest : List Name). IsBestSoFar c.args.walk.now.ledgers.headers (spans c.args.nodes.now) c.args.of c.args.out rest c.better-best.result) c.loop.at (c.live-end.result - c.loop.counter) (c.live-end.result - (c.loop.counter + 1)) c.in-Some.name c.node_at-at-in-loop.result c.loop.invariant.looks c.in-Some.is c.node_at-at-in-loop.ensures.node (omega (arith, c.loop-test.true)) (λ rest parent so. c.better-best.ensures.best c.args.of c.node_at-at-in-loop.result.span rest (c.node_at-at-in-loop.ensures.span, parent) so);
}
