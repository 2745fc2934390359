-- the kept proposal is this
use Rattle.std.proofs.Common.{◌≡◌, [], Option, ap, ◌∙◌, subst}
use Rattle.std.specs.Prelude.{IfSome}
use Rattle.xl_wire.specs.declared.proposal.Proposal.{Proposal}
use Rattle.xl_told.specs.declared.hashed.SpelledProposal.{SpelledProposal}
use Rattle.xl_told.specs.Hashed.{IsSpelledProposal}
use Rattle.xl_told.specs.Words.{proposal_text}
use Rattle.xl_told.proofs.hashed.known_words.Goals as goal

pub returns-in-Some : goal.returns-in-Some
returns-in-Some c =
    let spelled : IsSpelledProposal c.in-Some.spelled = subst (λ (o : Option SpelledProposal). IfSome o IsSpelledProposal) c.in-Some.is c.requires in
    c.as_str.ensures.value ∙ (spelled ∙ ap (λ (p : Proposal). proposal_text [] p) (c.is_same_proposal.ensures c.if-is_same_proposal.true))
