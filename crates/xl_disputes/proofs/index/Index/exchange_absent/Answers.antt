-- an id without a row has nothing, so what it gets is all it has, and its row comes if it is in a set then
use Rattle.std.proofs.Common.{◌≡◌, ◌<◌, ◌∙◌, length, sym, subst, ap, arith}
use Rattle.xl_disputes.specs.Tallies.{held_by, exchanged, IsWithin, IsFitting}
use Rattle.xl_disputes.specs.Rows.{tally_of, with_exchange, IsAbsent}
use Rattle.xl_disputes.specs.declared.rows.TheConstants.{ROWS}
use Rattle.xl_disputes.proofs.Finding.{tally_absent, place_within, insert_exact, nothing_exact, has_room, is_gone, is_kept, from_exact}
use Rattle.xl_disputes.proofs.index.Index.exchange_absent.Goals as goal
use Rattle.xl_disputes.proofs.index.Index.exchange_absent.Goals.{After-none, After-insert}

absent : (c : After-none) → IsAbsent c.args.id c.self.inside.rows c.args.place
absent c = subst (λ rows. IsAbsent c.args.id rows c.args.place) (sym c.self.view_is) c.requires.absent

pub exchange-tally-requires-clause-within : goal.exchange-tally-requires-clause-within
exchange-tally-requires-clause-within c =
    subst (IsWithin c.args.from)
    (ap (λ rows. tally_of rows c.args.id) (sym c.self.view_is) ∙ tally_absent c.args.id c.args.from c.args.to c.self.inside.rows c.args.place c.self.invariant.rising (absent c)
    ∙ sym c.none.ensures) c.requires.within

pub exchange-tally-requires-clause-fitting : goal.exchange-tally-requires-clause-fitting
exchange-tally-requires-clause-fitting c =
    subst (λ tally. IsFitting (exchanged c.args.from c.args.to tally))
    (ap (λ rows. tally_of rows c.args.id) (sym c.self.view_is) ∙ tally_absent c.args.id c.args.from c.args.to c.self.inside.rows c.args.place c.self.invariant.rising (absent c)
    ∙ sym c.none.ensures) c.requires.fitting

pub insert-requires-clause-room : goal.insert-requires-clause-room
insert-requires-clause-room c =
    has_room c.args.id c.args.from c.args.to c.self.inside.rows c.args.place c.self.invariant (absent (goal.at.insert-requires-clause-room c).After-none) c.none.result c.exchange-tally.result
    c.none.ensures c.exchange-tally.ensures
    (subst (λ rows. IsWithin c.args.from (tally_of rows c.args.id)) (sym c.self.view_is) c.requires.within)
    (subst (λ rows. held_by c.args.from ≡ 0 → length rows < ROWS) (sym c.self.view_is) c.requires.room)

pub insert-requires-clause-within : goal.insert-requires-clause-within
insert-requires-clause-within c =
    omega (arith, (absent (goal.at.insert-requires-clause-within c).After-none).is, place_within c.args.id c.self.inside.rows)

inserted : (c : After-insert) → c.insert.new.self ≡ with_exchange c.args.id c.args.from c.args.to c.self.inside.rows
inserted c =
    c.insert.ensures
    ∙ insert_exact c.args.id c.args.from c.args.to c.self.inside.rows c.args.place c.self.invariant
    (subst (λ rows. IsAbsent c.args.id rows c.args.place) (sym c.self.view_is) c.requires.absent) c.none.result c.exchange-tally.result
    c.none.ensures c.exchange-tally.ensures (is_kept c.exchange-tally.result c.is_none.result c.is_none.ensures c.if-not-is_none.true)

pub invariant_of-self : goal.invariant_of-self
invariant_of-self c = from_exact c.args.id c.args.from c.args.to c.self.inside.rows c.insert.new.self c.self.invariant (inserted c)

pub returns-then-not-is_none-clause-exact : goal.returns-then-not-is_none-clause-exact
returns-then-not-is_none-clause-exact c = inserted c ∙ ap (with_exchange c.args.id c.args.from c.args.to) c.self.view_is

pub returns-then-not-is_none-clause-valid : goal.returns-then-not-is_none-clause-valid
returns-then-not-is_none-clause-valid c = from_exact c.args.id c.args.from c.args.to c.self.inside.rows c.insert.new.self c.self.invariant (inserted c)

pub returns-else-not-is_none-clause-exact : goal.returns-else-not-is_none-clause-exact
returns-else-not-is_none-clause-exact c =
    sym c.self.view_is
    ∙ nothing_exact c.args.id c.args.from c.args.to c.self.inside.rows c.args.place c.self.invariant (absent (goal.at.returns-else-not-is_none-clause-exact c).After-none)
    c.none.result c.exchange-tally.result c.none.ensures c.exchange-tally.ensures (is_gone c.exchange-tally.result c.is_none.result c.is_none.ensures c.if-not-is_none.false)
    ∙ ap (with_exchange c.args.id c.args.from c.args.to) c.self.view_is
