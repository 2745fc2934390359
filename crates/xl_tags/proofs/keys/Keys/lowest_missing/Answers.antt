-- no number passed is a missing member's, and of the numbers from here on the first that is decides
use Rattle.std.proofs.Common.{◌≡◌, ◌-◌, ◌+◌, ℕ, ap, sym, ◌∙◌, arith, None, Some}
use Rattle.std.specs.Prelude.{find}
use Rattle.std.specs.List.{range_with_len}
use Rattle.xl_tags.specs.Missing.{is_missing, lowest_missing}
use Rattle.xl_base.specs.Members.{greatest_node_no}
use Rattle.xl_tags.proofs.MissingLaws.{all_met, at_first, found_first, from_next}
use Rattle.xl_tags.proofs.keys.Keys.lowest_missing.Goals as goal

pub loop-number-init : goal.loop-number-init
loop-number-init c = at_first c.args.self.now c.args.list.now.members

pub loop-number-preserved : goal.loop-number-preserved
loop-number-preserved c =
    let missing = is_missing c.args.self.now c.args.list.now.members in
    let n = c.loop-number.number in
    ap (λ (k : ℕ). find missing (range_with_len (n + 1) k)) (omega arith)
    ∙ sym (from_next missing n ((greatest_node_no + 1) - n) (omega arith) (ap missing (sym c.member_of-member.ensures) ∙ sym c.is_missing.ensures ∙ c.if-is_missing.false))
    ∙ c.loop-number.invariant

pub returns-then-is_missing-clause-value : goal.returns-then-is_missing-clause-value
returns-then-is_missing-clause-value c =
    let missing = is_missing c.args.self.now c.args.list.now.members in
    let n = c.loop-number.number in
    ap (λ (m : ℕ). Some m) c.member_of-member.ensures
    ∙ sym (found_first missing n ((greatest_node_no + 1) - n) (omega arith) (ap missing (sym c.member_of-member.ensures) ∙ sym c.is_missing.ensures ∙ c.if-is_missing.true))
    ∙ c.loop-number.invariant

pub returns : goal.returns
returns c =
    let members = c.args.list.now.members in
    let none : None ≡ lowest_missing c.args.self.now members =
    ap (λ (k : ℕ). find (is_missing c.args.self.now members) (range_with_len c.loop-number.number k)) {x = 0} {y = (greatest_node_no + 1) - c.loop-number.number} (omega arith) ∙ c.loop-number.invariant in
    record { value = none; met = λ _. all_met c.args.self.now c.args.list.now c.members-members.ensures.valid (sym none) }
