-- the places so far are the marked numbers that were passed, and these are no more than the numbers passed
use Rattle.std.proofs.Common.{◌≡◌, ◌++◌, ◌≤◌, ◌-◌, ◌+◌, ℕ, List, [], ◌∷◌, Bool, length, take, ap, sym, subst, ◌∙◌, arith}
use Rattle.std.proofs.lemmas.List.{take_more_set, length-set, length_push}
use Rattle.xl_lists.specs.Marks.{is_marked, marked}
use Rattle.xl_lists.proofs.Rising.{passed, passed_on, passed_over, passed_few, passed_all}
use Rattle.xl_lists.proofs.marks.Marks.members.Goals.{then-has, else-has}
use Rattle.xl_lists.proofs.marks.Marks.members.Goals as goal

pub listed : goal.listed
listed c = omega (arith, passed_few (is_marked c.args.self.bits) c.loop-number.number, c.loop-number.invariant.count, c.loop-number.invariant.room, c.loop-number-test.true)

pub bounds-places-len : goal.bounds-places-len
bounds-places-len c = omega (arith, passed_few (is_marked c.args.self.bits) c.loop-number.number, c.loop-number.invariant.count, c.loop-number-test.true)

pub loop-number-preserved : goal.loop-number-preserved
loop-number-preserved c =
    let p : ℕ → Bool = is_marked c.args.self.bits in
    let n : ℕ = c.loop-number.number in
    let answer : p n ≡ c.has.result = ap p (sym c.member_of-member.ensures) ∙ sym c.has.ensures in
    let few : length (passed p n) ≤ n - 1 = passed_few p n in
    elim c.if-has.branch [
      | then-has w ↦
          let more : passed p (n + 1) ≡ passed p n ++ n ∷ [] = passed_on p n (omega arith) (answer ∙ w.if-has.true) in
          record {
            room = ap length w.places-is ∙ length-set _ _ _ ∙ c.loop-number.invariant.room;
            count = w.len-is ∙ ap (λ (k : ℕ). k + 1) c.loop-number.invariant.count ∙ sym (ap length more ∙ length_push (passed p n) n);
            front = ap (λ (k : ℕ). take k c.if-has.places) w.len-is
                ∙ ap (take (c.loop-number.len + 1)) w.places-is
                ∙ take_more_set c.loop-number.places c.loop-number.len c.member_of-member.result (omega (arith, few, c.loop-number.invariant.count, c.loop-number.invariant.room, c.loop-number-test.true))
                ∙ ap (λ (xs : List ℕ). xs ++ c.member_of-member.result ∷ []) c.loop-number.invariant.front
                ∙ ap (λ (k : ℕ). passed p n ++ k ∷ []) c.member_of-member.ensures
                ∙ sym more;
          }
      | else-has w ↦
          let same : passed p (n + 1) ≡ passed p n = passed_over p n (omega arith) (answer ∙ w.if-has.false) in
          record {
            room = ap length w.places-is ∙ c.loop-number.invariant.room;
            count = w.len-is ∙ c.loop-number.invariant.count ∙ ap length (sym same);
            front = ap (λ (k : ℕ). take k c.if-has.places) w.len-is ∙ ap (take c.loop-number.len) w.places-is ∙ c.loop-number.invariant.front ∙ sym same;
          }
    ]

pub returns : goal.returns
returns c =
    let all : passed (is_marked c.args.self.bits) c.loop-number.number ≡ marked c.args.self.bits
    = passed_all (is_marked c.args.self.bits) c.loop-number.number (omega arith) in
    subst (λ (n : ℕ). take n c.loop-number.places ≡ marked c.args.self.bits)
    (c.loop-number.invariant.count ∙ ap length all) (c.loop-number.invariant.front ∙ all)
