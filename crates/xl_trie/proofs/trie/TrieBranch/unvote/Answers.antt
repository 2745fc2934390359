-- a vote has a span that ends at its ledger, and once it is counted off, no other node can have become needless
use Rattle.std.proofs.Common.{◌≡◌, ◌<◌, List, length, Some, None, sym, subst, arith}
use Rattle.xl_trie.proofs.Common.{AreLedgers, Header, IsChange, Node, OneFewer, Place, Slot, Span, Vote, without, In, Apart, IsPlace, GoesWith, IsTrie, IsTrieBut, spans}
use Rattle.xl_trie.proofs.Leaving.{less_known}
use Rattle.xl_trie.proofs.Listing.{all_in}
use Rattle.xl_trie.proofs.Members.{members, one_fewer, members_less}
use Rattle.xl_trie.proofs.Placing.{at_span}
use Rattle.xl_trie.proofs.trie.TrieBranch.unvote.Goals as goal

pub place-place-requires-clause-known : goal.place-place-requires-clause-known
place-place-requires-clause-known c =
    let f = c.ledger_of-ledger.ensures in
    subst (λ l. l < length c.args.registry.now.headers) f.3 (all_in (λ (w : Vote). w.ledger < length c.args.registry.now.headers) c.args.self.now.votes.items c.requires.goes.0.spans.known f.0 (subst (In f.0) c.deref.ensures.value f.1))

pub recount-requires-clause-trie : goal.recount-requires-clause-trie
recount-requires-clause-trie c = (c.args.self.now.votes.items, less_known c.args.registry.now.headers c.args.self.now.votes.items c.args.self.now.nodes c.place-place.result.at c.requires.goes.0, omega (arith, c.args.self.now.within, c.args.self.now.few, c.args.self.now.votes.ok.0))

-- the nodes once a vote, at whose span its place is, is counted off
off : (hs : List Header) (ok : AreLedgers hs) (all : List Vote) (old new : List (Slot Node)) (T : IsTrie hs all old) → Apart (members all) → (v : Vote) → In v all → (p : Place) → IsPlace hs (spans old) v.ledger p
    → ((votes now : List Vote) (w : Vote) → IsTrieBut hs votes old (Some p.at) → IsChange OneFewer w votes now → (s : Span) → spans old p.at ≡ Some s → s.ledger ≡ w.ledger → IsTrieBut hs now new (Some p.at)) → IsTrieBut hs (without all v.member) new (Some p.at)
off hs ok all old new T apart v i p P recounts =
    recounts all (without all v.member) v (less_known hs all old p.at T) (one_fewer all v i apart) P.span P.there
    (at_span hs ok (spans old) all None T.spans v.ledger (all_in (λ (w : Vote). w.ledger < length hs) all T.spans.known v i) p P (T.spans.voted v i))

pub prune-requires-clause-trie : goal.prune-requires-clause-trie
prune-requires-clause-trie c =
    let hs = c.args.registry.now.headers in
    let all = c.args.self.now.votes.items in
    let f = c.ledger_of-ledger.ensures in
    let P = subst (λ l. IsPlace hs (spans c.args.self.now.nodes) l c.place-place.result) (sym f.3) c.place-place.ensures.place in
    (hs, c.place-place.ensures.ledgers, (without all f.0.member, off hs c.place-place.ensures.ledgers all c.args.self.now.nodes c.recount.new.nodes c.requires.goes.0 c.requires.goes.3 f.0 (subst (In f.0) c.deref.ensures.value f.1) c.place-place.result P c.recount.ensures.trie))

pub returns-clause-goes : goal.returns-clause-goes
returns-clause-goes c =
    let hs = c.args.registry.now.headers in
    let all = c.args.self.now.votes.items in
    let f = c.ledger_of-ledger.ensures in
    let P = subst (λ l. IsPlace hs (spans c.args.self.now.nodes) l c.place-place.result) (sym f.3) c.place-place.ensures.place in
    let T = subst (λ m. IsTrieBut hs (without all m) c.recount.new.nodes (Some c.place-place.result.at)) f.2 (off hs c.place-place.ensures.ledgers all c.args.self.now.nodes c.recount.new.nodes c.requires.goes.0 c.requires.goes.3 f.0 (subst (In f.0) c.deref.ensures.value f.1) c.place-place.result P c.recount.ensures.trie) in
    subst (λ (x : List Vote). GoesWith hs x c.prune.new.nodes c.args.self.now.root) (sym c.drop_votes_of.ensures.without) (
      c.prune.ensures.trie hs (without all c.args.member) c.place-place.ensures.ledgers T,
      c.prune.ensures.root c.args.self.now.root (c.recount.ensures.root c.args.self.now.root c.requires.goes.1),
      c.requires.goes.2,
      members_less all c.args.member c.requires.goes.3,
    )
