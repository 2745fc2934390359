-- What the tests of an opened frame say of it.
use Rattle.std.proofs.Common.{◌≡◌, ◌≢◌, ℕ, ◌==◌, Bool, true, false, not, List, [], ◌∷◌, Option, Some, None, Result, Ok, Err, IsSome, IsTrue, refl, sym, ap, subst, ◌∙◌, inl, inr, length}
use Rattle.std.specs.Prelude.{if◌then◌else◌, ◌||◌, is_some, option_map, unwrap_or, bytes_eq}
use Rattle.std.specs.List.{AllByRecursion}
use Rattle.std.specs.Option.{option_map_or}
use Rattle.std.specs.Result.{result_err, IsErrAnd}
use Rattle.std.proofs.lemmas.Bool.{or_cases, eqb-true, eq-eqb, true≢false}
use Rattle.std.proofs.Common.{arith}
use Rattle.std.proofs.lemmas.Bool.Decides.{nat_tests}
use Rattle.std.proofs.lemmas.List.Elements.{recursion_from_All}
use Rattle.std.proofs.lemmas.Slice.Eq.{bytes_eq-Decides}
use Rattle.xl_lists.specs.Lists.{is_on, is_outside}
use Rattle.xl_wire.specs.Raws.{RawFrame, IsRaw, SpellsRaw, raw_bytes}
use Rattle.xl_tags.specs.Macs.{mac}
use Rattle.xl_tags.specs.Rings.{Ring, IsRing, key_of}
use Rattle.xl_tags.specs.Sealing.{as_sealed, before_tag, tag_by, sealed, with_tag}
use Rattle.xl_tags.specs.Opening.{HasKeys, is_sealed, refusal_of, SealedOpens, OpensAlone}
use Rattle.xl_tags.specs.declared.refusal.TagRefusal.{TagRefusal}
use Rattle.xl_tags.specs.declared.refusal.TagRefusal.TheVariants.{BadTag, NotForMe, Stranger}
use Rattle.xl_tags.proofs.RingLaws.{key_of-outside}
use Rattle.xl_tags.proofs.SealingLaws.{before_tag-with_tag}
use Rattle.sha2.proofs.Facts256.{length-sha256}

-- what is said of each listed member holds of one
of_listed : (P : ℕ → Type 0) (members : List ℕ) (n : ℕ) → AllByRecursion P members → is_on members n ≡ true → P n
of_listed P [] n all on = absurd (true≢false (sym on))
of_listed P (m ∷ members) n all on = elim (or_cases (n == m) (is_on members n) on) [
  | inl here ↦ subst P (sym (eqb-true n m here)) all.0
  | inr later ↦ of_listed P members n all.1 later
]

-- each listed member but me has a key
pub has_key : (ring : Ring) (members : List ℕ) (n : ℕ) → HasKeys ring members → is_on members n ≡ true → n ≢ ring.me
    → IsSome (key_of ring n)
has_key ring members n keyed on other = of_listed (λ m. m ≢ ring.me → IsSome (key_of ring m)) members n (recursion_from_All (λ m. m ≢ ring.me → IsSome (key_of ring m)) members keyed) on other

another : (same on : Bool) → not (same || not on) ≡ true → (same ≡ false) × (on ≡ true)
another true on e = absurd (true≢false (sym e))
another false true e = (refl, refl)
another false false e = absurd (true≢false (sym e))

-- another listed member has a key
pub another_has_key : (ring : Ring) (members : List ℕ) (n : ℕ) → HasKeys ring members
    → not (n == ring.me || not (is_on members n)) ≡ true → IsSome (key_of ring n)
another_has_key ring members n keyed e =
    let both = another (n == ring.me) (is_on members n) e in
    has_key ring members n keyed both.1 (λ same. true≢false (sym (eq-eqb n ring.me same) ∙ both.0))

neither : (same on : Bool) → (same ≡ false → on ≡ true → ⊥) → false ≡ not (same || not on)
neither true on never = refl
neither false true never = absurd (never refl refl)
neither false false never = refl

-- no number outside 1 to 64 is a listed member's
pub none_outside : (ring : Ring) (members : List ℕ) (n : ℕ) → IsRing ring → HasKeys ring members → is_outside n ≡ true
    → false ≡ not (n == ring.me || not (is_on members n))
none_outside ring members n ok keyed out = neither (n == ring.me) (is_on members n) (λ other on.
    let some = has_key ring members n keyed on (λ same. true≢false (sym (eq-eqb n ring.me same) ∙ other)) in
    true≢false (sym (sym (ap is_some (key_of-outside ring n ok out)) ∙ some)))

-- the tag of the bytes before the tag is the frame's under the key
pub tag_is : (ring : Ring) (member : ℕ) (f : RawFrame) (bytes part tag : List ℕ) → SpellsRaw f bytes → part ≡ before_tag bytes
    → option_map (λ key. mac key part) (key_of ring member) ≡ Some tag → tag_by ring member f ≡ Some tag
tag_is ring member f bytes part tag spells is e = sym (ap (λ (p : List ℕ). option_map (λ key. mac key p) (key_of ring member)) (is ∙ ap before_tag spells.spelling)) ∙ e

-- the test of the tag, once it is computed
pub sealed_where : (ring : Ring) (f : RawFrame) (tag : List ℕ) (same : Bool) → tag_by ring f.from f ≡ Some tag
    → same ≡ bytes_eq tag f.tag → same ≡ is_sealed ring f
sealed_where ring f tag same e t = t ∙ sym (ap (λ (o : Option (List ℕ)). option_map_or (λ x. bytes_eq x f.tag) o false) e)

right_where : (o : Option (List ℕ)) (tag : List ℕ) (same : Bool) → same ≡ option_map_or (λ x. bytes_eq x tag) o false
    → (IsTrue same → o ≡ Some tag) × (o ≡ Some tag → IsTrue same)
right_where None tag same e = (λ t. absurd (true≢false (sym t ∙ e)), λ n. absurd cc)
right_where (Some x) tag same e =
    let d = bytes_eq-Decides x tag in
    (λ t. ap Some (d.0 (sym e ∙ t)), λ s. let same_tag : x ≡ tag = cc in e ∙ d.1 same_tag)

pub sealed_exactly : (ring : Ring) (f : RawFrame) (same : Bool) → same ≡ is_sealed ring f
    → (IsTrue same → tag_by ring f.from f ≡ Some f.tag) × (tag_by ring f.from f ≡ Some f.tag → IsTrue same)
sealed_exactly ring f same e = right_where (tag_by ring f.from f) f.tag same e

-- what the tests of a refusal say, in their order
passed : (to from on right : Bool) (a b c : TagRefusal)
    → (if not to then Some a else if from || not on then Some b else if right then None else Some c) ≡ None
    → (to ≡ true) × (from ≡ false) × (on ≡ true) × (right ≡ true)
passed true false true true a b c e = (refl, refl, refl, refl)
passed to from on right a b c e = absurd cc

pass : (to from on right : Bool) (a b c : TagRefusal) → to ≡ true → from ≡ false → on ≡ true → right ≡ true
    → (if not to then Some a else if from || not on then Some b else if right then None else Some c) ≡ None
pass to from on right a b c p q r s = rw (p, q, r, s) refl

past : (to from on right : Bool) (a b c : TagRefusal) → to ≡ true → from ≡ false → on ≡ true
    → (if not to then Some a else if from || not on then Some b else if right then None else Some c) ≡ (if right then None else Some c)
past to from on right a b c p q r = rw (p, q, r) refl

-- a frame that opens as if sealed is for the ring's member, from another listed one
as_sealed_passed : (ring : Ring) (members : List ℕ) (f : RawFrame) → refusal_of ring members (as_sealed ring f) ≡ None
    → ((f.to == ring.me) ≡ true) × ((f.from == ring.me) ≡ false) × (is_on members f.from ≡ true)
as_sealed_passed ring members f e =
    let g = as_sealed ring f in
    let p = passed (g.to == ring.me) (g.from == ring.me) (is_on members g.from) (is_sealed ring g) _ _ _ e in (p.0, p.1, p.2)

-- so its sender has a key
pub sender_has_key : (ring : Ring) (members : List ℕ) (f : RawFrame) → HasKeys ring members → refusal_of ring members (as_sealed ring f) ≡ None
    → IsSome (key_of ring f.from)
sender_has_key ring members f keyed e =
    let p = as_sealed_passed ring members f e in
    has_key ring members f.from keyed p.2 (λ same. true≢false (sym (eq-eqb f.from ring.me same) ∙ p.1))

-- and it is refused for its tag alone
pub refused_by_tag : (ring : Ring) (members : List ℕ) (f : RawFrame) (tag : List ℕ) (same : Bool) → refusal_of ring members (as_sealed ring f) ≡ None
    → tag_by ring f.from f ≡ Some tag → same ≡ bytes_eq tag f.tag → refusal_of ring members f ≡ (if same then None else Some (BadTag f.tag tag))
refused_by_tag ring members f tag same opens computed is =
    let p = as_sealed_passed ring members f opens in
    past (f.to == ring.me) (f.from == ring.me) (is_on members f.from) (is_sealed ring f) _ _ _ p.0 p.1 p.2
    ∙ ap (λ (right : Bool). if right then None else Some (BadTag f.tag (unwrap_or (tag_by ring f.from f) []))) (sym (sealed_where ring f tag same computed is))
    ∙ ap (λ (o : Option (List ℕ)). if same then None else Some (BadTag f.tag (unwrap_or o []))) computed

differs : (m n : ℕ) → m ≢ n → (m == n) ≡ false
differs m n other = grind (arith, nat_tests)

pub opens_alone : OpensAlone
opens_alone ring members f e =
    let p = passed (f.to == ring.me) (f.from == ring.me) (is_on members f.from) (is_sealed ring f) _ _ _ e in
    (eqb-true f.to ring.me p.0, λ same. true≢false (sym (eq-eqb f.from ring.me same) ∙ p.1), p.2, (sealed_exactly ring f true (sym p.3)).0 refl)

pub law_of_seals : SealedOpens
law_of_seals ring other members key f ok from to apart on there here =
    let computed = mac key (before_tag (raw_bytes f)) in
    let own : tag_by ring f.to f ≡ Some computed = ap (λ (o : Option (List ℕ)). option_map (λ k. mac k (before_tag (raw_bytes f))) o) (ap (key_of ring) to ∙ there) in
    let tag : (sealed ring f).tag ≡ computed = ap (λ (o : Option (List ℕ)). unwrap_or o f.tag) own in
    let same : before_tag (raw_bytes (sealed ring f)) ≡ before_tag (raw_bytes f) = before_tag-with_tag f (sealed ring f).tag ok (ap length tag ∙ length-sha256 _) in
    let right : tag_by other f.from (sealed ring f) ≡ Some (sealed ring f).tag =
    ap (λ (o : Option (List ℕ)). option_map (λ k. mac k (before_tag (raw_bytes (sealed ring f)))) o) (ap (key_of other) from ∙ here)
    ∙ ap (λ (x : List ℕ). Some (mac key x)) same ∙ ap Some (sym tag) in
    pass (f.to == other.me) (f.from == other.me) (is_on members f.from) (is_sealed other (sealed ring f)) _ _ _
    (eq-eqb f.to other.me to) (differs f.from other.me (λ e. apart (sym from ∙ e))) (ap (is_on members) from ∙ on)
    ((sealed_exactly other (sealed ring f) (is_sealed other (sealed ring f)) refl).1 right)

-- AS IF SEALED

none_some : (why : TagRefusal) → None ≡ Some why → ⊥
none_some why e = cc

-- a frame that is as if sealed carries the tag under its sender's key
pub tag_as_sealed : (ring : Ring) (f : RawFrame) → IsRaw f → IsSome (key_of ring f.from)
    → tag_by ring f.from (as_sealed ring f) ≡ Some (as_sealed ring f).tag
tag_as_sealed ring f ok some = by_key (key_of ring f.from) refl some
  where
    by_key : (o : Option (List ℕ)) → key_of ring f.from ≡ o → IsSome o → tag_by ring f.from (as_sealed ring f) ≡ Some (as_sealed ring f).tag
    by_key None e s = cc
    by_key (Some key) e s =
        let own : tag_by ring f.from f ≡ Some (mac key (before_tag (raw_bytes f))) = ap (λ (o : Option (List ℕ)). option_map (λ k. mac k (before_tag (raw_bytes f))) o) e in
        let tag : (as_sealed ring f).tag ≡ mac key (before_tag (raw_bytes f)) = ap (λ (o : Option (List ℕ)). unwrap_or o f.tag) own in
        ap (λ (o : Option (List ℕ)). option_map (λ k. mac k (before_tag (raw_bytes (as_sealed ring f)))) o) e
        ∙ ap (λ (x : List ℕ). Some (mac key x)) (before_tag-with_tag f (as_sealed ring f).tag ok (ap length tag ∙ length-sha256 _))
        ∙ ap Some (sym tag)

-- and is opened if it is for the ring's member from another listed one
pub opens_as_sealed : (ring : Ring) (members : List ℕ) (f : RawFrame) → IsRaw f → HasKeys ring members → f.to ≡ ring.me
    → true ≡ not (f.from == ring.me || not (is_on members f.from)) → refusal_of ring members (as_sealed ring f) ≡ None
opens_as_sealed ring members f ok keyed to other =
    let both = another (f.from == ring.me) (is_on members f.from) (sym other) in
    let g = as_sealed ring f in
    pass (g.to == ring.me) (g.from == ring.me) (is_on members g.from) (is_sealed ring g) _ _ _ (eq-eqb f.to ring.me to) both.0 both.1
    ((sealed_exactly ring g (is_sealed ring g) refl).1 (tag_as_sealed ring f ok (another_has_key ring members f.from keyed (sym other))))

-- what is refused as if sealed is refused so
pub refused_anyhow : (ring : Ring) (members : List ℕ) (f : RawFrame) (why : TagRefusal) → IsRaw f → HasKeys ring members
    → refusal_of ring members (as_sealed ring f) ≡ Some why → refusal_of ring members f ≡ Some why
refused_anyhow ring members f why ok keyed = by_tests (f.to == ring.me) (f.from == ring.me) (is_on members f.from) refl refl refl
  where
    g : RawFrame
    g = as_sealed ring f

    by_tests : (to from on : Bool) → (f.to == ring.me) ≡ to → (f.from == ring.me) ≡ from → is_on members f.from ≡ on
        → (if not to then Some (NotForMe f.to) else if from || not on then Some (Stranger f.from) else if is_sealed ring g then None else Some (BadTag g.tag (unwrap_or (tag_by ring g.from g) []))) ≡ Some why
        → (if not to then Some (NotForMe f.to) else if from || not on then Some (Stranger f.from) else if is_sealed ring f then None else Some (BadTag f.tag (unwrap_or (tag_by ring f.from f) []))) ≡ Some why
    by_tests false from on a b c e = e
    by_tests true true on a b c e = e
    by_tests true false false a b c e = e
    by_tests true false true a b c e =
        let some = has_key ring members f.from keyed c (λ same. true≢false (sym (eq-eqb f.from ring.me same) ∙ b)) in
        let right : is_sealed ring g ≡ true = (sealed_exactly ring g (is_sealed ring g) refl).1 (tag_as_sealed ring f ok some) in
        absurd (none_some why (sym (ap (λ (r : Bool). if r then None else Some (BadTag g.tag (unwrap_or (tag_by ring g.from g) []))) right) ∙ e))

-- the exit of a `?`
pub exits_with : {T : Type 0} (r : Result T TagRefusal) (why : TagRefusal) → IsErrAnd r (λ x. x ≡ why) → result_err r ≡ Some why
exits_with (Ok value) why is = absurd is
exits_with (Err x) why is = ap Some is

-- WHAT STANDS THERE

-- a tag that is computed, or that was there, has its length
tag_long : (o : Option (List ℕ)) (part tag : List ℕ) → length tag ≡ 32 → length (unwrap_or (option_map (λ key. mac key part) o) tag) ≡ 32
tag_long None part tag long = long
tag_long (Some key) part tag long = length-sha256 _

pub IsRaw-as_sealed : (ring : Ring) (f : RawFrame) → IsRaw f → IsRaw (as_sealed ring f)
IsRaw-as_sealed ring f ok = record {
  lawful = ok.lawful;
  from = ok.from;
  to = ok.to;
  tag = tag_long (key_of ring f.from) (before_tag (raw_bytes f)) f.tag ok.tag;
}

-- what carries the tag under its sender's key stays
pub as_sealed_same : (ring : Ring) (f : RawFrame) → tag_by ring f.from f ≡ Some f.tag → as_sealed ring f ≡ f
as_sealed_same ring f right = ap (λ (o : Option (List ℕ)). with_tag f (unwrap_or o f.tag)) right
