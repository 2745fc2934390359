-- members that rise are each there once and at most 64, so with the usual quorum they are a list
use Rattle.std.proofs.Common.{◌≡◌, ℕ, ◌≤◌, ◌==◌, Bool, false, Some, None, sym, ap, ◌∙◌, arith, length}
use Rattle.std.specs.Result.{result_ok}
use Rattle.std.proofs.lemmas.Bool.{cond-false}
use Rattle.std.proofs.lemmas.Bool.Decides.{nat_tests}
use Rattle.xl_publish.specs.Forces.{usual_list}
use Rattle.xl_publish.proofs.ForceLaws.{few, is_list}
use Rattle.xl_publish.proofs.publishers.usual_list.Goals as goal

some : (n : ℕ) (empty : Bool) → empty ≡ (n == 0) → empty ≡ false → 1 ≤ n
some n empty told is = grind (arith, nat_tests)

pub overflow_cast-members : goal.overflow_cast-members
overflow_cast-members c = omega (arith, few c.args.members.now c.requires)

pub default_quorum-requires : goal.default_quorum-requires
default_quorum-requires c = few c.args.members.now c.requires

pub returns : goal.returns
returns c =
    let n = length c.args.members.now in
    let least = some n c.is_empty.result c.is_empty.ensures c.if-is_empty.false in
    let list = is_list c.args.members.now c.default_quorum.result c.requires least c.default_quorum.ensures.value c.default_quorum.ensures.within (c.default_quorum.ensures.majority least) in
    c.ok.ensures.value ∙ ap result_ok (c.new.ensures ∙ list)
    ∙ sym (cond-false (n == 0) None (Some (usual_list c.args.members.now)) (sym c.is_empty.ensures ∙ c.if-is_empty.false))
