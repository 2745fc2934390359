-- the front of the room is the members that stay among the numbers passed, never more than these, and 64 are all
use Rattle.std.proofs.Common.{◌≡◌, ℕ, ◌+◌, ◌<◌, List, [], ◌∷◌, ◌++◌, Option, Some, None, length, take, set, length-set, sym, ap, ◌∙◌, arith}
use Rattle.std.specs.Prelude.{SomeIff, ◌&&◌, not}
use Rattle.std.proofs.lemmas.Grind.{take-set_at}
use Rattle.xl_lists.specs.Lists.{is_on}
use Rattle.xl_nunl.specs.Lists.{staying_up_to}
use Rattle.xl_nunl.specs.Deciding.{negative_after}
use Rattle.xl_nunl.proofs.Staying.{none_yet, all_of_them, one_stays, one_goes}
use Rattle.xl_nunl.proofs.deciding.put_staying.Goals as goal
use Rattle.xl_nunl.proofs.deciding.put_staying.Goals.{then-stays, else-stays}

-- one number more stands at the front
put_one : (room now : List ℕ) (len next k : ℕ) → now ≡ set room len k → next ≡ len + 1 → length now ≡ 64 → len < 64 → take next now ≡ take len room ++ k ∷ []
put_one room now len next k is_room is_next long within =
    let size : length (set room len k) ≡ 64 = sym (ap length is_room) ∙ long in
    ap (take next) is_room ∙ take-set_at room len next k is_next (omega (arith, length-set room len k, size))

is_member : (o : Option ℕ) (P : Type 0) (n m : ℕ) → SomeIff o P n → o ≡ Some m → m ≡ n
is_member None P n m iff e = cc
is_member (Some k) P n m iff e = let same : k ≡ m = cc in sym same ∙ iff.1

pub loop-below-init : goal.loop-below-init
loop-below-init c = record {
  behind = omega arith;
  put = sym (none_yet c.args.full.now.members (negative_after c.args.negative.now c.args.left.now c.args.joined.now));
}

pub loop-below-preserved : goal.loop-below-preserved
loop-below-preserved c =
    let full : List ℕ = c.args.full.now.members in
    let negative : List ℕ = negative_after c.args.negative.now c.args.left.now c.args.joined.now in
    let number : c.unwrap-member.result ≡ c.loop-below.below + 1 = is_member c.new.result _ (c.loop-below.below + 1) c.unwrap-member.result c.new.ensures c.unwrap-member.ensures in
    let test : c.stays.result ≡ (is_on full (c.loop-below.below + 1) && not (is_on negative (c.loop-below.below + 1))) = c.stays.ensures ∙ ap (λ (m : ℕ). is_on full m && not (is_on negative m)) number in
    elim c.if-stays.branch [
      | then-stays w ↦ record {
        behind = omega (arith, w.len-is, c.loop-below.invariant.behind);
        put = put_one c.loop-below.room c.if-stays.room c.loop-below.len c.if-stays.len (c.loop-below.below + 1) w.room-is w.len-is c.if-stays.array_long
            (omega (arith, c.loop-below.invariant.behind, c.loop-below-test.true))
            ∙ ap (λ (xs : List ℕ). xs ++ (c.loop-below.below + 1) ∷ []) c.loop-below.invariant.put
            ∙ sym (one_stays full negative c.loop-below.below (sym test ∙ w.if-stays.true));
      }
      | else-stays w ↦ record {
        behind = omega (arith, w.len-is, c.loop-below.invariant.behind);
        put = ap (λ (n : ℕ). take n c.if-stays.room) w.len-is ∙ ap (take c.loop-below.len) w.room-is ∙ c.loop-below.invariant.put
            ∙ sym (one_goes full negative c.loop-below.below (sym test ∙ w.if-stays.false));
      }
    ]

pub returns-clause-put : goal.returns-clause-put
returns-clause-put c =
    let full : List ℕ = c.args.full.now.members in
    let negative : List ℕ = negative_after c.args.negative.now c.args.left.now c.args.joined.now in
    let end : c.loop-below.below ≡ 64 = omega (arith, c.loop-below-test.false, c.loop-below.auto.below-end) in
    c.loop-below.invariant.put ∙ ap (staying_up_to full negative) end ∙ all_of_them full negative
