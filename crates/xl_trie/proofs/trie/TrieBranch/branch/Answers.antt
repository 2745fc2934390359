-- all ledgers inside a span have the span's votes, and a ledger in no span has none
use Rattle.std.proofs.Common.{◌≢◌, ◌≡◌, ◌==◌, ℕ, List, Option, Some, None, false, sym, ap, subst, ◌∙◌}
use Rattle.xl_trie.proofs.Common.{eqb-false, Header, Name, Place, Span, IsPlace, EntersAt, spans, IsKid}
use Rattle.xl_trie.proofs.Listing.{some_is}
use Rattle.xl_trie.proofs.Placing.{branch_inside, branch_none, branch_outside}
use Rattle.xl_trie.proofs.trie.TrieBranch.branch.Goals as goal

-- the span that was read doesn't end at the ledger
elsewhere : (hs : List Header) (S : Name → Option Span) (x : ℕ) (p : Place) (P : IsPlace hs S x p) (s : Span) → S p.at ≡ Some s → (s.ledger == x) ≡ false → P.span.ledger ≢ x
elsewhere hs S x p P s there other h = eqb-false s.ledger x other (ap (λ (n : Span). n.ledger) (some_is s P.span (sym there ∙ P.there)) ∙ h)

pub returns-in_default : goal.returns-in_default
returns-in_default c =
    let P = c.place-place.ensures.place in
    let other = elsewhere c.args.registry.now.headers (spans c.args.self.now.nodes) c.args.ledger c.place-place.result P c.span_at-span.result c.span_at-span.ensures (sym c.eq.ensures ∙ c.if-eq.false) in
    branch_none c.args.registry.now.headers c.place-place.ensures.ledgers (spans c.args.self.now.nodes) c.args.self.now.votes.items None c.requires.goes.0.spans c.args.ledger c.requires.known c.place-place.result P other c.in_default.is

pub returns-then-is_on_chain : goal.returns-then-is_on_chain
returns-then-is_on_chain c =
    let hs = c.args.registry.now.headers in
    let S = spans c.args.self.now.nodes in
    let P = c.place-place.ensures.place in
    let other = elsewhere hs S c.args.ledger c.place-place.result P c.span_at-span.result c.span_at-span.ensures (sym c.eq.ensures ∙ c.if-eq.false) in
    let w = subst (EntersAt hs S c.place-place.result.at P.span c.args.ledger) c.in-Some.is P.enters in
    let kid = subst (IsKid S c.place-place.result.at c.in-Some.name) (some_is w.0 c.span_at-child.result (sym w.1.0 ∙ c.span_at-child.ensures)) w.1 in
    branch_inside hs c.place-place.ensures.ledgers S c.args.self.now.votes.items None c.requires.goes.0.spans c.args.ledger c.requires.known c.place-place.result P other c.in-Some.name c.span_at-child.result kid (sym c.is_on_chain.ensures ∙ c.if-is_on_chain.true)

pub returns-else-is_on_chain : goal.returns-else-is_on_chain
returns-else-is_on_chain c =
    let P = c.place-place.ensures.place in
    let other = elsewhere c.args.registry.now.headers (spans c.args.self.now.nodes) c.args.ledger c.place-place.result P c.span_at-span.result c.span_at-span.ensures (sym c.eq.ensures ∙ c.if-eq.false) in
    branch_outside c.args.registry.now.headers c.place-place.ensures.ledgers (spans c.args.self.now.nodes) c.args.self.now.votes.items None c.requires.goes.0.spans c.args.ledger c.requires.known c.place-place.result P other c.in-Some.name c.span_at-child.result c.in-Some.is c.span_at-child.ensures (sym c.is_on_chain.ensures ∙ c.if-is_on_chain.false)
