-- the row at the place is all that the id has: it is written anew, or goes once the id is in no set
use Rattle.std.proofs.Common.{◌≡◌, ◌∙◌, sym, subst, ap}
use Rattle.xl_disputes.specs.Tallies.{exchanged, IsWithin, IsFitting}
use Rattle.xl_disputes.specs.Rows.{tally_of, with_exchange, IsThere}
use Rattle.xl_disputes.proofs.Finding.{tally_at, set_exact, remove_exact, is_gone, is_kept, from_exact}
use Rattle.xl_disputes.proofs.index.Index.exchange_there.Goals as goal
use Rattle.xl_disputes.proofs.index.Index.exchange_there.Goals.{After-at, After-remove, After-set}

there : (c : After-at) → IsThere c.args.id c.self.inside.rows c.args.place
there c = subst (λ rows. IsThere c.args.id rows c.args.place) (sym c.self.view_is) c.requires.there

-- the row's tally is the id's
is_its : (c : After-at) → tally_of c.args.self.now c.args.id ≡ c.at.result.tally
is_its c =
    sym (tally_at c.args.id c.args.from c.args.to c.self.inside.rows c.args.place c.at.result c.self.invariant (there c) c.at.ensures
    ∙ ap (λ rows. tally_of rows c.args.id) c.self.view_is)

pub exchange-tally-requires-clause-within : goal.exchange-tally-requires-clause-within
exchange-tally-requires-clause-within c = subst (IsWithin c.args.from) (is_its (goal.at.exchange-tally-requires-clause-within c).After-at) c.requires.within

pub exchange-tally-requires-clause-fitting : goal.exchange-tally-requires-clause-fitting
exchange-tally-requires-clause-fitting c =
    subst (λ tally. IsFitting (exchanged c.args.from c.args.to tally)) (is_its (goal.at.exchange-tally-requires-clause-fitting c).After-at) c.requires.fitting

removed : (c : After-remove) → c.remove.new.self ≡ with_exchange c.args.id c.args.from c.args.to c.self.inside.rows
removed c =
    c.remove.ensures
    ∙ remove_exact c.args.id c.args.from c.args.to c.self.inside.rows c.args.place c.at.result c.self.invariant (subst (λ rows. IsThere c.args.id rows c.args.place) (sym c.self.view_is) c.requires.there) c.at.ensures
    c.exchange-tally.result c.exchange-tally.ensures (is_gone c.exchange-tally.result c.is_none.result c.is_none.ensures c.if-is_none.true)

written : (c : After-set) → c.set.new.self ≡ with_exchange c.args.id c.args.from c.args.to c.self.inside.rows
written c =
    c.set.ensures
    ∙ set_exact c.args.id c.args.from c.args.to c.self.inside.rows c.args.place c.at.result c.self.invariant (subst (λ rows. IsThere c.args.id rows c.args.place) (sym c.self.view_is) c.requires.there) c.at.ensures
    c.exchange-tally.result c.exchange-tally.ensures (is_kept c.exchange-tally.result c.is_none.result c.is_none.ensures c.if-is_none.false)

pub invariant_of-self : goal.invariant_of-self
invariant_of-self c = from_exact c.args.id c.args.from c.args.to c.self.inside.rows c.remove.new.self c.self.invariant (removed c)

pub invariant_of-self-else-is_none : goal.invariant_of-self-else-is_none
invariant_of-self-else-is_none c = from_exact c.args.id c.args.from c.args.to c.self.inside.rows c.set.new.self c.self.invariant (written c)

pub returns-then-is_none-clause-exact : goal.returns-then-is_none-clause-exact
returns-then-is_none-clause-exact c = removed c ∙ ap (with_exchange c.args.id c.args.from c.args.to) c.self.view_is

pub returns-then-is_none-clause-valid : goal.returns-then-is_none-clause-valid
returns-then-is_none-clause-valid c = from_exact c.args.id c.args.from c.args.to c.self.inside.rows c.remove.new.self c.self.invariant (removed c)

pub returns-else-is_none-clause-exact : goal.returns-else-is_none-clause-exact
returns-else-is_none-clause-exact c = written c ∙ ap (with_exchange c.args.id c.args.from c.args.to) c.self.view_is

pub returns-else-is_none-clause-valid : goal.returns-else-is_none-clause-valid
returns-else-is_none-clause-valid c = from_exact c.args.id c.args.from c.args.to c.self.inside.rows c.set.new.self c.self.invariant (written c)
