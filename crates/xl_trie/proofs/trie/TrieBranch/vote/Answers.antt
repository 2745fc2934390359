-- nodes are at most twice the votes and one, so there is room, and the node of the ledger is needed by its vote
use Rattle.std.proofs.Common.{◌≡◌, ◌==◌, ◌∷◌, ◌++◌, List, [], Some, refl, sym, ap, subst, ◌∙◌, arith, inl, inr}
use Rattle.xl_trie.proofs.Common.{eq-eqb, Vote, Span, spans, GoesWith}
use Rattle.xl_trie.proofs.Leaving.{all_needed}
use Rattle.xl_trie.proofs.Listing.{some_is, in_second, count_some}
use Rattle.xl_trie.proofs.Members.{one_more, members_more}
use Rattle.xl_trie.proofs.Spots.{few_nodes}
use Rattle.xl_trie.proofs.trie.TrieBranch.vote.Goals as goal

pub come-name-requires-clause-room : goal.come-name-requires-clause-room
come-name-requires-clause-room c =
    let goes = c.requires.goes in
    omega (arith, few_nodes c.args.registry.now.headers c.place-place.ensures.ledgers c.args.self.now.votes.items c.args.self.now.nodes goes.0.spans c.args.self.now.root goes.1, c.requires.fits, c.args.self.now.slots)

pub returns-clause-goes : goal.returns-clause-goes
returns-clause-goes c =
    let hs = c.args.registry.now.headers in
    let votes = c.args.self.now.votes.items in
    let v : Vote = record { member = c.args.member; ledger = c.args.ledger } in
    let goes = c.requires.goes in
    let there = c.come-name.ensures.there in
    let U = c.recount.ensures.trie votes (votes ++ v ∷ []) v (c.come-name.ensures.trie votes goes.0) (one_more votes v) there.0 there.1 there.2 in
    let now = c.recount.ensures.there there.0 there.1 in
    let voted = λ (t : Span) (f : spans c.recount.new.nodes c.come-name.result ≡ Some t). count_some (λ (w : Vote). w.ledger == t.ledger) (votes ++ v ∷ []) v (in_second votes (v ∷ []) v (inl refl)) (eq-eqb v.ledger t.ledger (sym (ap (λ (x : Span). x.ledger) (some_is t now.0 (sym f ∙ now.1)) ∙ now.2 ∙ there.2))) in
    subst (λ (x : List Vote). GoesWith hs x c.recount.new.nodes c.args.self.now.root) (sym c.push_reserved.ensures.items) (
      record { spans = all_needed hs (votes ++ v ∷ []) (spans c.recount.new.nodes) c.come-name.result U.spans (λ t f. inr (inl (omega (arith, U.spans.counted.tip c.come-name.result t f, voted t f)))); kids = U.kids },
      c.recount.ensures.root c.args.self.now.root (c.come-name.ensures.root c.args.self.now.root goes.1),
      goes.2,
      members_more votes v goes.3 c.requires.new,
    )
