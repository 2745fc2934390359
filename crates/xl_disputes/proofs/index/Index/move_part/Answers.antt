-- ids that rise have one row each, so the part moves row by row as it does id by id, and empty rows are swept
use Rattle.std.proofs.Common.{sym, subst}
use Rattle.xl_disputes.specs.Rows.{IsMovable, Moves}
use Rattle.xl_disputes.proofs.Walking.{each_within, each_fits, between_rises, has_moved}
use Rattle.xl_disputes.proofs.index.Index.move_part.Goals as goal
use Rattle.xl_disputes.proofs.index.Index.move_part.Goals.{After-sweep}

pub move_part-requires-clause-within : goal.move_part-requires-clause-within
move_part-requires-clause-within c =
    each_within c.self.inside.rows c.args.from.now c.args.to.now c.args.part c.self.invariant
    (subst (λ rows. IsMovable rows c.args.from.now c.args.to.now c.args.part) (sym c.self.view_is) c.requires.movable)

pub move_part-requires-clause-fitting : goal.move_part-requires-clause-fitting
move_part-requires-clause-fitting c =
    each_fits c.self.inside.rows c.args.from.now c.args.to.now c.args.part c.self.invariant
    (subst (λ rows. IsMovable rows c.args.from.now c.args.to.now c.args.part) (sym c.self.view_is) c.requires.movable)

pub sweep-requires : goal.sweep-requires
sweep-requires c = record {
  apart = between_rises c.self.inside.rows c.args.from.now c.args.to.now c.args.part c.self.invariant
      (subst (λ rows. IsMovable rows c.args.from.now c.args.to.now c.args.part) (sym c.self.view_is) c.requires.movable) c.move_part.new.rows c.move_part.ensures;
}

moves : (c : After-sweep) → Moves c.self.inside.rows c.sweep.new.self c.args.from.now c.args.to.now c.args.part
moves c =
    has_moved c.self.inside.rows c.args.from.now c.args.to.now c.args.part c.self.invariant
    (subst (λ rows. IsMovable rows c.args.from.now c.args.to.now c.args.part) (sym c.self.view_is) c.requires.movable) c.move_part.new.rows c.move_part.ensures c.sweep.new.self c.sweep.ensures

pub invariant_of-self : goal.invariant_of-self
invariant_of-self c = (moves c).index

pub returns : goal.returns
returns c = subst (λ rows. Moves rows c.sweep.new.self c.args.from.now c.args.to.now c.args.part) c.self.view_is (moves c)
