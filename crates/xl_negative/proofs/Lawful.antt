-- What a decision leaves out, and the list without that.
use Rattle.std.proofs.Common.{◌≡◌, ℕ, Bool, true, false, cond, List, Option, Some, None, Ok, refl, subst}
use Rattle.std.specs.Prelude.{◌||◌, is_some, IfSome}
use Rattle.std.proofs.lemmas.Bool.{cond_both}
use Rattle.xl_base.specs.Refusals.{unless_refused}
use Rattle.xl_lists.specs.declared.refusal.ListRefusal.{ListRefusal}
use Rattle.xl_lists.specs.Lists.{TrustedList, IsValid, list_of, refusal_of}
use Rattle.xl_lists.proofs.Rereading.{unrefused}
use Rattle.xl_nunl.specs.Lists.{IsNegative, list_without, staying_members}
use Rattle.xl_nunl.specs.Deciding.{hears_little, joined_of, joining_member, leaving_member, left_of, negative_after, without}
use Rattle.xl_nunl.proofs.Negative.{negative_stays}
use Rattle.xl_nunl.proofs.Staying.{stays_lawful, stays_list}
use Rattle.xl_negative.specs.Laws.{ChangesAreLawful, IsLawful}
use Rattle.xl_negative.specs.Writing.{change_to}

-- what is made without a refusal is valid
made_valid : (r : Option ListRefusal) (l x : TrustedList) → unless_refused r l ≡ Ok x → (r ≡ None → IsValid l) → IsValid x
made_valid None l x made valid = let same : l ≡ x = cc in subst IsValid same (valid refl)
made_valid (Some why) l x made valid = absurd cc

list_valid : (members : List ℕ) (quorum : ℕ) (x : TrustedList) → list_of members quorum ≡ Ok x → IsValid x
list_valid members quorum x made = made_valid (refusal_of members quorum) _ x made (unrefused members quorum)

-- a node that hears too little of itself changes nothing
pub after_both : (full negative scores : List ℕ) (i : ℕ) → IsNegative full negative → (little : Bool) →
    IsNegative full (negative_after negative (cond little None (leaving_member negative scores)) (cond little None (joining_member full (without negative (leaving_member negative scores)) scores i)))
after_both full negative scores i is true = is
after_both full negative scores i is false = negative_stays full negative scores i (leaving_member negative scores) is

pub change_lawful : (full : TrustedList) (negative : List ℕ) → IsValid full → IsNegative full.members negative → IsLawful full.members (change_to full.members negative)
change_lawful full negative valid is = record {
  negative = is;
  valid = list_valid (staying_members full.members negative) _ (list_without full.members negative) (stays_list full negative valid is (staying_members full.members negative) _ refl refl);
  in_force = stays_lawful full negative valid is;
}

pub changes_lawful : ChangesAreLawful
changes_lawful full negative scores i valid is =
    let left : Option ℕ = left_of full.members negative scores i in
    let joined : Option ℕ = joined_of full.members negative scores i in
    cond_both (is_some left || is_some joined) (Some (change_to full.members (negative_after negative left joined))) None (λ c. IfSome c (IsLawful full.members))
    (λ _. change_lawful full (negative_after negative left joined) valid (after_both full.members negative scores i is (hears_little full.members scores i)))
    (λ _. tt)
