use Rattle.std.proofs.Common.{◌≡◌, ℕ, ◌≤◌, Bool, false, arith}
use Rattle.std.specs.Prelude.{◌==◌}
use Rattle.std.proofs.lemmas.Bool.Decides.{nat_tests}
use Rattle.xl_lists.proofs.Refusing.{is_stored}
use Rattle.xl_lists.proofs.list.List.new.Goals as goal

not_empty : (n : ℕ) (empty : Bool) → empty ≡ (n == 0) → empty ≡ false → 1 ≤ n
not_empty n empty is told = grind (arith, nat_tests)

pub returns : goal.returns
returns c =
    (is_stored _ _ _ _ _ (not_empty _ _ c.is_empty.ensures c.if-is_empty.false) c.if-len-gt-MOST_MEMBERS.false
    c.in_ok-given.ensures.refused c.in_ok-marks.ensures.refused c.if-quorum-len.false c.if-quorum-len-2.false
    c.in_ok-given.ensures.placed c.in_ok-marks.ensures.marked c.members.ensures).0

pub invariant_of-result : goal.invariant_of-result
invariant_of-result c =
    (is_stored _ _ _ _ _ (not_empty _ _ c.is_empty.ensures c.if-is_empty.false) c.if-len-gt-MOST_MEMBERS.false
    c.in_ok-given.ensures.refused c.in_ok-marks.ensures.refused c.if-quorum-len.false c.if-quorum-len-2.false
    c.in_ok-given.ensures.placed c.in_ok-marks.ensures.marked c.members.ensures).1
