-- Parts of lines, each of which says again what it said.
use Rattle.std.proofs.Common.{◌≡◌, ◌^◌, ◌-◌, ◌≤◌, ◌<◌, ◌&&◌, ◌||◌, ℕ, Bool, true, false, not, cond, nat_le, nat_lt, List, Result, Ok, Err, refl, ap, sym, ◌∙◌, arith, decimal, codes}
use Rattle.std.specs.Option.{option_or, ok_or}
use Rattle.std.specs.Str.{bytes_eq}
use Rattle.std.proofs.lemmas.Bool.{and_parts}
use Rattle.std.proofs.lemmas.Bool.Decides.{nat_tests}
use Rattle.std.proofs.lemmas.Slice.Eq.{bytes_eq-Decides}
use Rattle.hex.specs.Hex.{encode_lower}
use Rattle.xl_lists.specs.Lists.{is_on}
use Rattle.xl_sched.specs.declared.named.Named.{Named}
use Rattle.xl_sched.specs.declared.refusal.SchedRefusal.{SchedRefusal}
use Rattle.xl_sched.specs.declared.refusal.SchedRefusal.TheVariants as refusal
use Rattle.xl_sched.specs.Refusals.{◌>>=◌}
use Rattle.xl_sched.specs.Numbers.{is_number, value_of, number_within, number_of, place_of}
use Rattle.xl_sched.specs.Choices.{validating_of, full_of, new_of}
use Rattle.xl_sched.specs.Names.{id_of, id_named}
use Rattle.xl_sched.specs.Members.{member_of, declared_of, new_member_of}
use Rattle.xl_spelling.specs.Spellings.{kind_word, held_word}
use Rattle.xl_base.specs.Ids.{IsId}
use Rattle.xl_spelling.proofs.Numerals.{id-written, decimal-value}

-- what two steps gave, one after the other
pub record Steps {A B : Type 0} (first : Result A SchedRefusal) (next : A → Result B SchedRefusal) (y : B) : Type 0 where
  pub value : A
  pub gave : first ≡ Ok value
  pub rest : next value ≡ Ok y

pub steps : {A B : Type 0} (first : Result A SchedRefusal) (next : A → Result B SchedRefusal) (y : B) → (first >>= next) ≡ Ok y → Steps first next y
steps (Ok x) next y e = record { value = x; gave = refl; rest = e }
steps (Err q) next y e = absurd (cc)

abbrev pub Gives : {A : Type 0} → Result A SchedRefusal → A → Type 0
Gives read x = read ≡ Ok x

pub same-ok : {A : Type 0} (x y : A) → Gives (Ok x) y → x ≡ y
same-ok x y e = cc

-- what a test let through
pub passed : {A : Type 0} (test : Bool) (x y : A) (q : SchedRefusal) → cond test (Ok x) (Err q) ≡ Ok y → (test ≡ true) × (x ≡ y)
passed true x y q e = (refl, cc)
passed false x y q e = absurd (cc)

-- and what no test held back
pub unstopped : {A : Type 0} (test : Bool) (read : Result A SchedRefusal) (y : A) (q : SchedRefusal) → cond test (Err q) read ≡ Ok y → (test ≡ false) × (read ≡ Ok y)
unstopped true read y q e = absurd (cc)
unstopped false read y q e = (refl, e)

pub passed_by : {A : Type 0} (test : Bool) (read : Result A SchedRefusal) (y : A) (q : SchedRefusal) → cond test read (Err q) ≡ Ok y → (test ≡ true) × (read ≡ Ok y)
passed_by true read y q e = (refl, e)
passed_by false read y q e = absurd (cc)

-- a number is written in one way
pub number_within-same : (least greatest : ℕ) (t : List ℕ) (n : ℕ) → greatest < 2 ^ 64 → number_within least greatest t ≡ Ok n → (is_number t ≡ true) × (decimal n ≡ t) × (n ≤ greatest) × (least ≤ n)
number_within-same least greatest t n small e =
    let p = passed (is_number t && nat_le least (value_of t) && nat_le (value_of t) greatest) (value_of t) n (refusal.Number t) e in
    let outer = and_parts (is_number t && nat_le least (value_of t)) (nat_le (value_of t) greatest) p.0 in
    let inner = and_parts (is_number t) (nat_le least (value_of t)) outer.0 in
    let most : value_of t ≤ greatest = grind (arith, nat_tests) in
    let low : least ≤ value_of t = grind (arith, nat_tests) in
    (inner.0, ap (λ m. decimal m) (sym p.1) ∙ decimal-value t inner.0 (omega arith), omega (arith, p.1), omega (arith, p.1))

pub number-same : (t : List ℕ) (n : ℕ) → number_of t ≡ Ok n → decimal n ≡ t
number-same t n e = (number_within-same 0 (2 ^ 32 - 1) t n (omega arith) e).1

pub member-same : (t : List ℕ) (n : ℕ) → member_of t ≡ Ok n → decimal n ≡ t
member-same t n e = (number_within-same 1 64 t n (omega arith) e).1

pub declared-same : (nodes t : List ℕ) (n : ℕ) → declared_of nodes t ≡ Ok n → decimal n ≡ t
declared-same nodes t n e =
    let s = steps (member_of t) (λ m. cond (is_on nodes m) (Ok m) (Err (refusal.Absent t))) n e in
    let p = passed (is_on nodes s.value) s.value n (refusal.Absent t) s.rest in
    ap (λ m. decimal m) (sym p.1) ∙ member-same t s.value s.gave

pub new_member-same : (nodes liars t : List ℕ) (n : ℕ) → new_member_of nodes liars t ≡ Ok n → decimal n ≡ t
new_member-same nodes liars t n e =
    let s = steps (member_of t) (λ m. cond (is_on nodes m || is_on liars m) (Err (refusal.Twice t)) (Ok m)) n e in
    let p = unstopped (is_on nodes s.value || is_on liars s.value) (Ok s.value) n (refusal.Twice t) s.rest in
    ap (λ m. decimal m) (sym (same-ok s.value n p.1)) ∙ member-same t s.value s.gave

pub place-same : (sent : ℕ) (t : List ℕ) (n : ℕ) → n < 2 ^ 64 → place_of sent t ≡ Ok n → decimal n ≡ t
place-same sent t n small e =
    let number = unstopped (not (is_number t)) (cond (nat_lt 0 (value_of t) && nat_le (value_of t) sent) (Ok (value_of t)) (Err (refusal.Absent t))) n (refusal.Number t) e in
    let p = passed (nat_lt 0 (value_of t) && nat_le (value_of t) sent) (value_of t) n (refusal.Absent t) number.1 in
    let is : is_number t ≡ true = grind (arith, nat_tests) in
    ap (λ m. decimal m) (sym p.1) ∙ decimal-value t is (omega (arith, p.1))

pub same_bytes : (a b : List ℕ) → bytes_eq a b ≡ true → b ≡ a
same_bytes a b e = sym ((bytes_eq-Decides a b).0 e)

-- one of two words
word-same : (word : Bool → List ℕ) (t : List ℕ) (b : Bool)
    → Gives (cond (bytes_eq t (word true)) (Ok true) (cond (bytes_eq t (word false)) (Ok false) (Err (refusal.Choice t)))) b
    → word b ≡ t
word-same word t b e =
    elim (bytes_eq t (word true)) as (λ x. bytes_eq t (word true) ≡ x → Gives (cond x (Ok true) (cond (bytes_eq t (word false)) (Ok false) (Err (refusal.Choice t)))) b → word b ≡ t) [
      | true ↦ λ q h. ap word (sym (same-ok true b h)) ∙ same_bytes t (word true) q
      | false ↦ λ _ h.
          let p = passed (bytes_eq t (word false)) false b (refusal.Choice t) h in
          ap word (sym p.1) ∙ same_bytes t (word false) p.0
    ] refl e

pub kind-same : (t : List ℕ) (full : Bool) → full_of t ≡ Ok full → kind_word full ≡ t
kind-same = word-same kind_word

pub held-same : (t : List ℕ) (new : Bool) → new_of t ≡ Ok new → held_word new ≡ t
held-same = word-same held_word

pub mode-same : (t : List ℕ) (validating : Bool) → validating_of t ≡ Ok validating → (validating ≡ false) × (codes "observing" ≡ t)
mode-same t validating e =
    let p = passed (bytes_eq t (codes "observing")) false validating (refusal.Choice t) e in
    (sym p.1, same_bytes t (codes "observing") p.0)

-- the digits of an id are that id
pub id-read : (names : List Named) (id : List ℕ) → IsId id → id_of names (encode_lower id) ≡ Ok id
id-read names id h =
    ap (λ written. ok_or (option_or written (id_named names (encode_lower id))) (refusal.Id (encode_lower id))) (id-written id h)
