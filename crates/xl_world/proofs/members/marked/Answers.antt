use Rattle.std.proofs.Common.{◌∙◌, ap, arith, w64, inl, inr, bit_or, ◌*◌, ◌%◌, ◌^◌}
use Rattle.std.specs.Int.{bit_at}
use Rattle.std.proofs.lemmas.Bool.{cases_eq}
use Rattle.std.proofs.lemmas.Nat.Bits.{bit_at_set_same, bit_at_set_other}
use Rattle.xl_world.proofs.members.marked.Goals as goal

pub returns-clause-own : goal.returns-clause-own
returns-clause-own c =
    let r = c.place_of.result in
    (r, c.place_of.ensures.most, omega (arith, c.place_of.ensures.place), bit_at_set_same w64 c.args.marks r c.place_of.ensures.most)

pub returns-clause-others : goal.returns-clause-others
returns-clause-others c = λ place is.
    let r = c.place_of.result in
    elim (cases_eq place r) [
      | inl same ↦ ap (bit_at (bit_or c.args.marks (1 * 2 ^ r % 2 ^ 64))) same ∙ bit_at_set_same w64 c.args.marks r c.place_of.ensures.most
      | inr ne ↦ bit_at_set_other w64 c.args.marks r c.place_of.ensures.most place ne ∙ is
    ]
