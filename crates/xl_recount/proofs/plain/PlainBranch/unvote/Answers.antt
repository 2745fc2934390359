use Rattle.std.proofs.Common.{List, ◌<◌, ◌==◌, not, length, sym, subst}
use Rattle.std.proofs.lemmas.List.Elements.{All-filter}
use Rattle.xl_ledger.specs.declared.vote.Vote.{Vote}
use Rattle.xl_ledger.specs.Votes.{AreKnown}
use Rattle.xl_recount.proofs.plain.PlainBranch.unvote.Goals as goal

pub returns-clause-goes : goal.returns-clause-goes
returns-clause-goes c =
    let hs = c.args._registry.now.headers in
    subst (λ (x : List Vote). AreKnown hs x) (sym c.drop_votes_of.ensures.without) (All-filter (λ v. not (v.member == c.args.member)) (λ v. v.ledger < length hs) c.args.self.now.votes.items c.requires.goes)
