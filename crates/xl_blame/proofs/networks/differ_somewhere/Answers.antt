use Rattle.std.proofs.Common.{◌≡◌, ◌∙◌, ap, arith, sym}
use Rattle.std.specs.Prelude.{is_some}
use Rattle.xl_tags.specs.Rings.{key_of}
use Rattle.xl_audit.proofs.Ranging.{found_first, found_later}
use Rattle.xl_blame.specs.Networks.{are_two, differ_at}
use Rattle.xl_blame.proofs.networks.differ_somewhere.Goals as goal
use Rattle.xl_blame.proofs.networks.differ_somewhere.Goals.{After-are_two}

-- the keys that were compared are those of the number
at_number : (c : After-are_two) → differ_at c.args.one.now c.args.other.now c.loop-number.number ≡ c.are_two.result
at_number c =
    ap (differ_at c.args.one.now c.args.other.now) (sym c.numbered-member.ensures)
    ∙ (ap (λ k. are_two k (key_of c.args.other.now c.numbered-member.result)) (sym c.get.ensures)
    ∙ (ap (are_two c.get.result) (sym c.get-in-loop-number.ensures) ∙ sym c.are_two.ensures))

pub loop-number-preserved : goal.loop-number-preserved
loop-number-preserved c =
    c.loop-number.invariant
    ∙ found_later (differ_at c.args.one.now c.args.other.now) c.loop-number.number (omega arith)
    (at_number ((goal.at.loop-number-preserved c).After-are_two) ∙ c.if-are_two.false)

pub returns-then-are_two : goal.returns-then-are_two
returns-then-are_two c =
    sym (ap is_some (c.loop-number.invariant
    ∙ found_first (differ_at c.args.one.now c.args.other.now) c.loop-number.number (omega arith)
    (at_number ((goal.at.returns-then-are_two c).After-are_two) ∙ c.if-are_two.true)))
