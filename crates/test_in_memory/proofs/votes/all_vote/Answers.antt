-- the members so far have voted in rising order, so the next one hasn't yet, and votes are no more than members
use Rattle.std.proofs.Common.{◌≡◌, ◌<◌, ◌==◌, ◌||◌, ◌∷◌, ◌++◌, [], ℕ, false, List, length, sym, ap, ◌∙◌, arith}
use Rattle.std.proofs.lemmas.Bool.{ne_eqb}
use Rattle.std.proofs.lemmas.List.{length-append}
use Rattle.std.proofs.lemmas.List.Folds.{list_any-append}
use Rattle.xl_ledger.specs.Votes.{has_voted}
use Rattle.xl_ledger.specs.declared.vote.Vote.{Vote}
use Rattle.test_in_memory.proofs.votes.all_vote.Goals as goal

pub loop-n-init : goal.loop-n-init
loop-n-init g c = record {
  goes = c.requires.goes;
  room = c.requires.room;
  few = omega (arith, ap (length {A = Vote}) c.requires.none);
  later = λ m lt. ap (λ votes. has_voted votes m) c.requires.none;
}

pub vote-requires-clause-new : goal.vote-requires-clause-new
vote-requires-clause-new g c = c.loop-n.invariant.later c.in-Some.member (omega (arith, c.in-Some.ensures.1))

pub loop-n-preserved : goal.loop-n-preserved
loop-n-preserved g c =
    let votes = g.B.Branch.votes c.loop-n.branch in
    let v : Vote = record { member = c.in-Some.member; ledger = c.ancestor-ledger.result } in
    record {
      goes = c.vote.ensures.goes;
      room = c.vote.ensures.room ∙ c.loop-n.invariant.room;
      few = omega (arith, c.loop-n.invariant.few, ap (length {A = Vote}) c.vote.ensures.votes, length-append votes (v ∷ []));
      later = λ m lt. ap (λ vs. has_voted vs m) c.vote.ensures.votes ∙ list_any-append (λ w. w.member == m) votes (v ∷ []) ∙ ap (λ b. b || ((v.member == m) || false)) (c.loop-n.invariant.later m (omega (arith, lt))) ∙ ap (λ b. b || false) (ne_eqb v.member m (λ e. omega (arith, lt, e, c.in-Some.ensures.1)));
    }
