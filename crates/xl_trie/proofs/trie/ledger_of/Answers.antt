-- no vote passed is the member's, and the member has voted, so its vote comes before the end
use Rattle.std.proofs.Common.{◌==◌, ◌||◌, List, get_or, refl, sym, ap, subst, ◌∙◌}
use Rattle.xl_trie.proofs.Common.{eqb-true, list_any_more, Vote, has_voted, In, take_all}
use Rattle.xl_trie.proofs.Listing.{in_at, true_false}
use Rattle.xl_trie.proofs.trie.ledger_of.Goals as goal

pub returns-then-eq : goal.returns-then-eq
returns-then-eq c = (
  c.vote-item.result,
  subst (λ (v : Vote). In v c.args.votes.now) (sym c.vote-item.is) (in_at c.args.votes.now c.loop-vote.vote-index c.vote-item.result c.loop-vote-test.true),
  eqb-true c.vote-item.result.member c.args.member (sym c.eq.ensures ∙ c.if-eq.true),
  refl,
)

pub loop-vote-preserved : goal.loop-vote-preserved
loop-vote-preserved c =
    list_any_more (λ (v : Vote). v.member == c.args.member) c.args.votes.now c.loop-vote.vote-index c.vote-item.result c.loop-vote-test.true
    ∙ ap (λ b. b || (get_or c.args.votes.now c.loop-vote.vote-index c.vote-item.result).member == c.args.member) c.loop-vote.invariant
    ∙ ap (λ (v : Vote). v.member == c.args.member) (sym c.vote-item.is) ∙ sym c.eq.ensures ∙ c.if-eq.false

pub unreachable-requires : goal.unreachable-requires
unreachable-requires c = true_false (has_voted c.args.votes.now c.args.member) c.requires (ap (λ (vs : List Vote). has_voted vs c.args.member) (sym (take_all c.loop-vote.vote-index c.args.votes.now c.loop-vote-test.false)) ∙ c.loop-vote.invariant)
