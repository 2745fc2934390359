use Rattle.std.proofs.Common.{◌∙◌, sym, subst, None, ℕ, List}
use Rattle.xl_ledger.specs.declared.vote.Vote.{Vote}
use Rattle.xl_validations.specs.Tallies.{StandsBeside}
use Rattle.xl_validations.proofs.Casting.{has_vote, taken_back}
use Rattle.xl_validations.proofs.tally.take_back.Goals as goal

pub unvote-requires-clause-voted : goal.unvote-requires-clause-voted
unvote-requires-clause-voted g c =
    has_vote (g.B.Branch.votes c.args.branch.now) c.requires.beside.0 c.args.member (g.B.Branch.room c.args.branch.now) c.args.before (sym c.is_some.ensures ∙ c.if-is_some.true) c.requires.beside.1

pub returns-then-is_some-clause-back : goal.returns-then-is_some-clause-back
returns-then-is_some-clause-back g c = λ others s.
    subst (λ (n : ℕ). StandsBeside (g.B.Branch.votes c.unvote.new.self) others c.args.member None n) (sym c.unvote.ensures.room)
    (subst (λ (votes : List Vote). StandsBeside votes others c.args.member None (g.B.Branch.room c.args.branch.now)) (sym c.unvote.ensures.votes)
    (taken_back (g.B.Branch.votes c.args.branch.now) others c.args.member (g.B.Branch.room c.args.branch.now) c.args.before (sym c.is_some.ensures ∙ c.if-is_some.true) s))
