-- the way leaves the span at their last common ledger, at which no span ended, so the front can end there
use Rattle.std.proofs.Common.{◌≡◌, ◌<◌, List, length, subst}
use Rattle.xl_trie.proofs.Common.{Vote, IsTrie, EntersAt, Walked, common_of, spans}
use Rattle.xl_trie.proofs.Splitting.{Forked, deeper_under, forked}
use Rattle.xl_trie.proofs.Trees.{kid_differs, over_of}
use Rattle.xl_trie.proofs.voting.fork.Goals as goal

pub begin_of-begin-requires-clause-below : goal.begin_of-begin-requires-clause-below
begin_of-begin-requires-clause-below c =
    let T = c.requires.trie in
    deeper_under c.args.registry.now.headers c.requires.ledgers T.0 (spans c.args.nodes.now) T.1.spans c.args.ledger c.requires.known c.args.place c.args.kid c.requires.place c.requires.within c.span_at-under.result c.span_at-under.ensures c.common-end.result (subst (λ (w : Walked). c.common-end.result ≡ common_of w.ledgers.headers c.span_at-under.result.ledger c.args.ledger) c.walk.ensures c.common-end.ensures.value)

pub split-requires-clause-hang : goal.split-requires-clause-hang
split-requires-clause-hang c = λ a s b e p. over_of c.args.registry.now.headers c.requires.ledgers (spans c.args.nodes.now) c.requires.trie.1.spans.linked b a s (e, p)

-- the spans once the fork is there
forks : (c : goal.After-split) (votes : List Vote) (T : IsTrie c.args.registry.now.headers votes c.args.nodes.now) → Forked c.args.registry.now.headers votes (spans c.args.nodes.now) (spans c.split.new.nodes) c.args.ledger c.split.result
forks c votes T =
    forked c.args.registry.now.headers c.requires.ledgers votes (spans c.args.nodes.now) T.spans c.args.ledger c.requires.known c.args.place c.args.kid c.requires.place c.requires.within c.span_at-under.result c.span_at-under.ensures c.common-end.result (subst (λ (w : Walked). c.common-end.result ≡ common_of w.ledgers.headers c.span_at-under.result.ledger c.args.ledger) c.walk.ensures c.common-end.ensures.value) (spans c.split.new.nodes) c.split.result c.begin_of-begin.result (subst (λ (w : Walked). c.common-end.result < length w.ledgers.headers) c.walk.ensures c.common-end.ensures.known) c.begin_of-begin.ensures.known c.begin_of-begin.ensures.begin c.split.ensures.split

pub split-requires-clause-other : goal.split-requires-clause-other
split-requires-clause-other c =
    let P = c.requires.place in
    let w = subst (EntersAt c.args.registry.now.headers (spans c.args.nodes.now) c.args.place.at P.span c.args.ledger) c.requires.within P.enters in
    kid_differs c.args.registry.now.headers c.requires.ledgers (spans c.args.nodes.now) c.requires.trie.1.spans.linked c.args.place.at c.args.kid P.span w.0 P.there w.1

pub returns-clause-trie : goal.returns-clause-trie
returns-clause-trie c = λ votes T. record { spans = (forks c votes T).spans; kids = c.split.ensures.kids }

pub returns-clause-place : goal.returns-clause-place
returns-clause-place c = (forks c c.requires.trie.0 c.requires.trie.1).place

pub returns-clause-half : goal.returns-clause-half
returns-clause-half c = (forks c c.requires.trie.0 c.requires.trie.1).half

pub returns-clause-root : goal.returns-clause-root
returns-clause-root c = (forks c c.requires.trie.0 c.requires.trie.1).root
