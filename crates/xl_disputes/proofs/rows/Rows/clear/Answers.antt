-- what is left is a front of the old rows, so it rises too, and its last row goes until there is none
use Rattle.std.proofs.Common.{◌≡◌, ◌-◌, suc, take, length, sym, ap, subst, ◌∙◌, arith}
use Rattle.std.proofs.lemmas.List.{take_all, length-take-le}
use Rattle.std.specs.List.{remove}
use Rattle.xl_base.specs.Sets.{IsRising}
use Rattle.xl_disputes.specs.Rows.{ids_of}
use Rattle.xl_disputes.proofs.Resetting.{last_removed, rises_front}
use Rattle.xl_disputes.proofs.rows.Rows.clear.Goals as goal

pub loop-left-init : goal.loop-left-init
loop-left-init c = record { first = sym (take_all c.len-left.result c.args.self.now (omega (arith, c.len-left.ensures))); within = omega (arith, c.len-left.ensures) }

pub remove-requires-clause-within : goal.remove-requires-clause-within
remove-requires-clause-within c =
    omega (arith, c.loop-left-test.true, ap length c.loop-left.invariant.first, length-take-le c.loop-left.left c.args.self.now c.loop-left.invariant.within)

pub remove-requires-clause-apart : goal.remove-requires-clause-apart
remove-requires-clause-apart c =
    subst (λ rows. IsRising (ids_of rows)) (sym c.loop-left.invariant.first) (rises_front c.loop-left.left c.args.self.now c.requires.apart)

pub loop-left-preserved : goal.loop-left-preserved
loop-left-preserved c =
    let place = c.loop-left.left - 1 in
    let more : c.loop-left.left ≡ suc place = omega (arith, c.loop-left-test.true) in
    record {
      first =
          c.remove.ensures ∙ ap (λ rows. remove rows place) (c.loop-left.invariant.first ∙ ap (λ n. take n c.args.self.now) more)
          ∙ last_removed c.args.self.now place (omega (arith, c.loop-left-test.true, c.loop-left.invariant.within));
      within = omega (arith, c.loop-left.invariant.within);
    }

pub returns : goal.returns
returns c =
    let none : c.loop-left.left ≡ 0 = omega (arith, c.loop-left-test.false) in
    c.loop-left.invariant.first ∙ ap (λ n. take n c.args.self.now) none
