-- the members that stay rise and are no more than 64, and the greater of two quorums is fit for them: they are a list
use Rattle.std.proofs.Common.{◌≡◌, ℕ, ◌+◌, ◌*◌, ◌/◌, ◌≤◌, List, Ok, length, take, refl, sym, subst, ap, ◌∙◌, arith}
use Rattle.std.specs.Prelude.{max, Result}
use Rattle.std.specs.Result.{IsOk}
use Rattle.std.proofs.lemmas.List.{length-take}
use Rattle.xl_lists.specs.Lists.{TrustedList, list_of, IsValid}
use Rattle.xl_lists.specs.declared.refusal.ListRefusal.{ListRefusal}
use Rattle.xl_nunl.specs.Lists.{IsNegative, MayBeInForce, list_without, least_quorum, staying_members}
use Rattle.xl_nunl.specs.Deciding.{negative_after}
use Rattle.xl_nunl.proofs.Staying.{stays_list, stays_lawful}
use Rattle.xl_nunl.proofs.deciding.in_force.Goals as goal

-- what is made of the members at the front and of the quorums of both kinds
made : (full : TrustedList) (negative room members : List ℕ) (len four three quorum : ℕ) (result : Result TrustedList ListRefusal) →
    IsValid full → IsNegative full.members negative → take len room ≡ staying_members full.members negative → length room ≡ 64 → len ≤ 64 →
    four ≡ (4 * len + 4) / 5 → three ≡ least_quorum (length members) → members ≡ full.members → quorum ≡ max four three →
    result ≡ list_of (take len room) quorum → result ≡ Ok (list_without full.members negative)
made full negative room members len four three quorum result valid is put long within is_four is_three all is_quorum is_made =
    let size : length (take len room) ≡ len = omega (arith, length-take len room) in
    is_made ∙ stays_list full negative valid is (take len room) quorum put
    (is_quorum ∙ ap (λ (n : ℕ). max n three) (is_four ∙ ap (λ (n : ℕ). (4 * n + 4) / 5) (sym size))
    ∙ ap (λ (n : ℕ). max ((4 * length (take len room) + 4) / 5) n) (is_three ∙ ap (λ (xs : List ℕ). least_quorum (length xs)) all))

pub unwrap-requires : goal.unwrap-requires
unwrap-requires c =
    subst (λ (r : Result TrustedList ListRefusal). IsOk r)
    (sym (made c.args.full.now (negative_after c.args.negative.now c.args.left.now c.args.joined.now) c.put_staying-len.new.room c.members.result.now
    c.put_staying-len.result c.default_quorum.result c.least_quorum.result c.max-quorum.result c.new.result c.members.ensures.valid c.requires
    c.put_staying-len.ensures.put c.put_staying-len.array_long c.put_staying-len.ensures.within c.default_quorum.ensures.value c.least_quorum.ensures
    c.members.ensures.value c.max-quorum.ensures c.new.ensures))
    refl

same_list : (a b : TrustedList) (r : Result TrustedList ListRefusal) → r ≡ Ok a → r ≡ Ok b → a ≡ b
same_list a b r e f = cc

pub returns : goal.returns
returns c =
    let negative : List ℕ = negative_after c.args.negative.now c.args.left.now c.args.joined.now in
    let is : c.unwrap.result ≡ list_without c.args.full.now.members negative =
    same_list c.unwrap.result (list_without c.args.full.now.members negative) c.new.result c.unwrap.ensures
    (made c.args.full.now negative c.put_staying-len.new.room c.members.result.now
    c.put_staying-len.result c.default_quorum.result c.least_quorum.result c.max-quorum.result c.new.result c.members.ensures.valid c.requires
    c.put_staying-len.ensures.put c.put_staying-len.array_long c.put_staying-len.ensures.within c.default_quorum.ensures.value c.least_quorum.ensures
    c.members.ensures.value c.max-quorum.ensures c.new.ensures) in
    record {
      value = is;
      lawful = subst (λ (list : TrustedList). MayBeInForce c.args.full.now.members list) (sym is) (stays_lawful c.args.full.now negative c.members.ensures.valid c.requires);
    }
