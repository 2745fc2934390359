-- The laws of bodies: what is read is spelled so, and what is spelled so is read.
use Rattle.std.proofs.Common.{◌≡◌, ◌≢◌, ℕ, zero, suc, ◌+◌, ◌-◌, ◌*◌, ◌/◌, ◌%◌, ◌≤◌, ◌==◌, Bor, Bool, true, false, cond, nat_lt, nat_le, ◌&&◌, ◌||◌, List, [], ◌∷◌, ◌++◌, length, slice_index, take, drop, Option, Some, None, option_map, Result, Ok, refl, sym, ap, subst, ◌∙◌, append_assoc, arith, inl, inr}
use Rattle.std.specs.List.{AllByRecursion}
use Rattle.std.specs.Prelude.{◌⊎◌, IfSome}
use Rattle.std.proofs.lemmas.Bool.{and_parts, cond_both, cond-true, cond-false, or_left, or_cases, eqb-true, ltb-true, ltb-false, lt-ltb, le-ltb}
use Rattle.std.proofs.lemmas.Bool.Decides.{nat_tests}
use Rattle.std.proofs.lemmas.List.{take-append-drop, take_at, drop_at, drop-drop, take_all, get_or-drop, get_or-take, nil_from_length, append-nil, length-append, length-take, length-drop, drop_all}
use Rattle.byteorder.specs.Endian.{big_bytes, big_number}
use Rattle.byteorder.specs.Numbers.{big_number-reads_back}
use Rattle.xl_base.specs.declared.ids.LedgerId.{LedgerId}
use Rattle.xl_base.specs.declared.ids.TxId.{TxId}
use Rattle.xl_wire.specs.declared.body.Body.{Body}
use Rattle.xl_wire.specs.declared.body.Body.TheVariants as bodies
use Rattle.xl_wire.specs.declared.proposal.Proposal.{Proposal}
use Rattle.xl_wire.specs.declared.validation.Validation.{Validation}
use Rattle.xl_wire.specs.declared.refusal.WireRefusal.{WireRefusal}
use Rattle.xl_wire.specs.declared.refusal.WireRefusal.TheVariants.{Flags, Order, Count}
use Rattle.xl_wire.specs.Kinds.{can_have, can_have_first, can_hold, is_set_length}
use Rattle.xl_wire.specs.Lengths.{longest_body}
use Rattle.xl_base.specs.Refusals.{refused_if, unless_refused}
use Rattle.xl_base.specs.Sets.{is_below, RisesFrom, IsRising, IsSet, id_bytes}
use Rattle.xl_wire.specs.Sets.{ids_in, fall_from, first_fall}
use Rattle.xl_wire.specs.SetsRead.{set_refusal}
use Rattle.xl_wire.specs.declared.ids.Kept.TheVariants.{Spelled}
use Rattle.xl_wire.specs.Storing.{IsKept}
use Rattle.xl_wire.specs.Bodies.{version_for, version_of, kind_of, flags_of, proposal_bytes, vote_bytes, validated_bytes, validation_bytes, set_bytes, body_bytes, IsProposal, IsValidation, IsId, IsTxSet, IsBody, SpellsBody, flags_refusal, body_refusal, proposal_in, validated_in, validation_in, body_in, body_of}
use Rattle.xl_wire.specs.declared.lengths.TheConstants.{VALIDATION_BODY, PROPOSAL_BODY, HEADER_BODY}
use Rattle.xl_wire.proofs.Numbers.{IsBytes, IsBytes-drop, cut_at, number_at_2, number_at_4, below_4}
use Rattle.xl_wire.proofs.RawLaws.{by_version}
use Rattle.xl_wire.proofs.SetLaws.{length-ids_in}

-- ---- proposals

five : (a b c d e x y z w bytes : List ℕ) → bytes ≡ a ++ x → x ≡ b ++ y → y ≡ c ++ z → z ≡ d ++ w → w ≡ e → bytes ≡ a ++ b ++ c ++ d ++ e
five a b c d e x y z w bytes e0 e1 e2 e3 e4 =
    let whole : bytes ≡ a ++ (b ++ (c ++ (d ++ e))) = rw (e0, e1, e2, e3, e4) refl in
    whole ∙ sym (simp append_assoc)

-- the last number of bytes
last_4 : (at : ℕ) (bytes : List ℕ) → IsBytes bytes → at + 4 ≡ length bytes → drop at bytes ≡ big_bytes 4 (big_number 4 (drop at bytes))
last_4 at bytes fits long =
    number_at_4 at bytes fits (omega arith) ∙ ap (λ (x : List ℕ). big_bytes 4 (big_number 4 (drop at bytes)) ++ x) (drop_all (at + 4) bytes (omega arith)) ∙ append-nil (big_bytes 4 (big_number 4 (drop at bytes)))

proposal_spelled : (bytes : List ℕ) → IsBytes bytes → length bytes ≡ PROPOSAL_BODY → SpellsBody (bodies.Proposal (proposal_in bytes)) 1 bytes
proposal_spelled bytes fits long = record {
  fits = record {
    prev = omega (arith, length-take 32 bytes);
    set = omega (arith, length-take 32 (drop 32 bytes), length-drop 32 bytes);
    pseq = below_4 (drop 64 bytes) (IsBytes-drop 64 bytes fits);
    close = below_4 (drop 68 bytes) (IsBytes-drop 68 bytes fits);
    time = below_4 (drop 72 bytes) (IsBytes-drop 72 bytes fits);
  };
  kind_is = refl;
  spelling = five (take 32 bytes) (take 32 (drop 32 bytes)) (big_bytes 4 (big_number 4 (drop 64 bytes))) (big_bytes 4 (big_number 4 (drop 68 bytes))) (big_bytes 4 (big_number 4 (drop 72 bytes)))
      (drop 32 bytes) (drop 64 bytes) (drop 68 bytes) (drop 72 bytes) bytes
      (cut_at 0 32 bytes) (cut_at 32 32 bytes) (number_at_4 64 bytes fits (omega arith)) (number_at_4 68 bytes fits (omega arith)) (last_4 72 bytes fits (omega arith));
}

abbrev proposal_of : List ℕ → List ℕ → ℕ → ℕ → ℕ → Proposal
proposal_of prev set pseq close time = record { prev = record { 0 = prev }; set = record { 0 = set }; pseq = pseq; close = close; time = time }

five_grouped : (a b c d e : List ℕ) → a ++ b ++ c ++ d ++ e ≡ a ++ (b ++ (c ++ (d ++ e)))
five_grouped a b c d e = simp append_assoc

proposal_again : (p : Proposal) → IsProposal p → proposal_in (proposal_bytes p) ≡ p
proposal_again p ok =
    let n = big_bytes 4 p.pseq ++ (big_bytes 4 p.close ++ big_bytes 4 p.time) in
    let whole : proposal_bytes p ≡ p.prev.0 ++ (p.set.0 ++ n) = five_grouped p.prev.0 p.set.0 (big_bytes 4 p.pseq) (big_bytes 4 p.close) (big_bytes 4 p.time) in
    let rest : drop 32 (p.prev.0 ++ (p.set.0 ++ n)) ≡ p.set.0 ++ n = drop_at p.prev.0 (p.set.0 ++ n) 32 ok.prev in
    let numbers : drop 64 (p.prev.0 ++ (p.set.0 ++ n)) ≡ n = sym (drop-drop 32 32 (p.prev.0 ++ (p.set.0 ++ n))) ∙ ap (drop 32) rest ∙ drop_at p.set.0 n 32 ok.set in
    let second : drop 68 (p.prev.0 ++ (p.set.0 ++ n)) ≡ drop 4 n = sym (drop-drop 4 64 (p.prev.0 ++ (p.set.0 ++ n))) ∙ ap (drop 4) numbers in
    let third : drop 72 (p.prev.0 ++ (p.set.0 ++ n)) ≡ drop 8 n = sym (drop-drop 8 64 (p.prev.0 ++ (p.set.0 ++ n))) ∙ ap (drop 8) numbers in
    let prev : take 32 (p.prev.0 ++ (p.set.0 ++ n)) ≡ p.prev.0 = take_at p.prev.0 (p.set.0 ++ n) 32 ok.prev in
    let set : take 32 (drop 32 (p.prev.0 ++ (p.set.0 ++ n))) ≡ p.set.0 = ap (take 32) rest ∙ take_at p.set.0 n 32 ok.set in
    let pseq : big_number 4 (drop 64 (p.prev.0 ++ (p.set.0 ++ n))) ≡ p.pseq = ap (big_number 4) numbers ∙ big_number-reads_back 4 p.pseq (big_bytes 4 p.close ++ big_bytes 4 p.time) ok.pseq in
    let close : big_number 4 (drop 68 (p.prev.0 ++ (p.set.0 ++ n))) ≡ p.close = ap (big_number 4) second ∙ big_number-reads_back 4 p.close (big_bytes 4 p.time) ok.close in
    let time : big_number 4 (drop 72 (p.prev.0 ++ (p.set.0 ++ n))) ≡ p.time = ap (big_number 4) third ∙ big_number-reads_back 4 p.time [] ok.time in
    let same : proposal_of (take 32 (p.prev.0 ++ (p.set.0 ++ n))) (take 32 (drop 32 (p.prev.0 ++ (p.set.0 ++ n)))) (big_number 4 (drop 64 (p.prev.0 ++ (p.set.0 ++ n)))) (big_number 4 (drop 68 (p.prev.0 ++ (p.set.0 ++ n)))) (big_number 4 (drop 72 (p.prev.0 ++ (p.set.0 ++ n)))) ≡ p = rw (prev, set, pseq, close, time) refl in
    ap proposal_in whole ∙ same

-- ---- validations

flags_back : (b : ℕ) → b ≤ 1 → flags_of (b == 1) ≡ b
flags_back zero h = refl
flags_back (suc zero) h = refl
flags_back (suc (suc b)) h = absurd (omega arith)

one_cell : (bytes : List ℕ) → length bytes ≡ 1 → bytes ≡ slice_index bytes 0 ∷ []
one_cell [] h = absurd (omega arith)
one_cell (b ∷ []) h = refl
one_cell (b ∷ c ∷ bytes) h = absurd (omega arith)

-- flags that aren't refused are 0 or 1
-- the flags are the last byte that both versions have
abbrev pub flags_place : ℕ
flags_place = VALIDATION_BODY - 1

flags_small : (b : ℕ) → refused_if (nat_lt 1 b) (Flags b) ≡ None → b ≤ 1
flags_small zero h = omega arith
flags_small (suc zero) h = omega arith
flags_small (suc (suc b)) h = absurd (too_big (nat_lt 1 (suc (suc b))) (suc (suc b)) (grind (arith, nat_tests)) h)
  where
    too_big : (t : Bool) (b : ℕ) → t ≡ true → refused_if t (Flags b) ≡ None → ⊥
    too_big true b e h = cc
    too_big false b e h = cc

-- a validation has 41 bytes, or an id more
pub held_long : (n : ℕ) → can_hold 2 n ≡ true → (n ≡ VALIDATION_BODY) ⊎ (n ≡ 73)
held_long n h =
    elim (or_cases (n == VALIDATION_BODY) (n == 73) h) [
      | inl short ↦ inl (eqb-true n VALIDATION_BODY short)
      | inr long ↦ inr (eqb-true n 73 long)
    ]

-- what lies behind the 41 bytes
behind_spelled : (bytes : List ℕ) → (length bytes ≡ VALIDATION_BODY) ⊎ (length bytes ≡ 73) → (drop VALIDATION_BODY bytes ≡ validated_bytes (validated_in bytes)) × IfSome (validated_in bytes) (λ id. length id.0 ≡ 32)
behind_spelled bytes long =
    cond_both (nat_lt VALIDATION_BODY (length bytes)) (Some (id_made (take 32 (drop VALIDATION_BODY bytes)))) None (λ o. (drop VALIDATION_BODY bytes ≡ validated_bytes o) × IfSome o (λ id. length id.0 ≡ 32))
    (λ more.
    let all : length bytes ≡ 73 = elim long [
      | inl short ↦ absurd (omega (arith, short, ltb-true VALIDATION_BODY (length bytes) more))
      | inr all ↦ all
    ] in
    (sym (take_all 32 (drop VALIDATION_BODY bytes) (omega (arith, length-drop VALIDATION_BODY bytes, all))), omega (arith, length-take 32 (drop VALIDATION_BODY bytes), length-drop VALIDATION_BODY bytes, all)))
    (λ no_more. (drop_all VALIDATION_BODY bytes (omega (arith, ltb-false VALIDATION_BODY (length bytes) no_more)), tt))
  where
    id_made : List ℕ → LedgerId
    id_made x = record { 0 = x }

validation_spelled : (bytes : List ℕ) → IsBytes bytes → can_hold 2 (length bytes) ≡ true → flags_refusal bytes ≡ None → SpellsBody (bodies.Validation (validation_in bytes)) 2 bytes
validation_spelled bytes fits ok none =
    let cases = held_long (length bytes) ok in
    let long : VALIDATION_BODY ≤ length bytes = elim cases [
      | inl short ↦ omega (arith, short)
      | inr all ↦ omega (arith, all)
    ] in
    let behind = behind_spelled bytes cases in
    let small = flags_small (slice_index bytes flags_place) none in
    let flags : drop flags_place bytes ≡ (flags_of (slice_index bytes flags_place == 1) ∷ []) ++ drop VALIDATION_BODY bytes =
    cut_at flags_place 1 bytes
    ∙ ap (λ (x : List ℕ). x ++ drop VALIDATION_BODY bytes)
    (one_cell (take 1 (drop flags_place bytes)) (omega (arith, length-take 1 (drop flags_place bytes), length-drop flags_place bytes))
    ∙ ap (λ (b : ℕ). b ∷ []) (get_or-take 1 (drop flags_place bytes) 0 0 (omega arith) ∙ get_or-drop flags_place bytes 0 0 ∙ sym (flags_back (slice_index bytes flags_place) small))) in
    record {
      fits = record {
        id = omega (arith, length-take 32 bytes);
        seq = below_4 (drop 32 bytes) (IsBytes-drop 32 bytes fits);
        signed = below_4 (drop 36 bytes) (IsBytes-drop 36 bytes fits);
        validated = behind.1;
      };
      kind_is = refl;
      spelling = five (take 32 bytes) (big_bytes 4 (big_number 4 (drop 32 bytes))) (big_bytes 4 (big_number 4 (drop 36 bytes))) (flags_of (slice_index bytes flags_place == 1) ∷ []) (validated_bytes (validated_in bytes))
          (drop 32 bytes) (drop 36 bytes) (drop flags_place bytes) (drop VALIDATION_BODY bytes) bytes
          (cut_at 0 32 bytes) (number_at_4 32 bytes fits (omega (arith, long))) (number_at_4 36 bytes fits (omega (arith, long))) flags behind.0;
    }

full_back : (full : Bool) → (flags_of full == 1) ≡ full
full_back true = refl
full_back false = refl

abbrev validation_of : List ℕ → ℕ → ℕ → Bool → Option LedgerId → Validation
validation_of id seq signed full validated = record { id = record { 0 = id }; seq = seq; signed = signed; full = full; validated = validated }

pub length-vote_bytes : (v : Validation) → length v.id.0 ≡ 32 → length (vote_bytes v) ≡ VALIDATION_BODY
length-vote_bytes v long = omega (arith, long, length-append v.id.0 (big_bytes 4 v.seq), length-append (v.id.0 ++ big_bytes 4 v.seq) (big_bytes 4 v.signed), length-append (v.id.0 ++ big_bytes 4 v.seq ++ big_bytes 4 v.signed) (flags_of v.full ∷ []))

-- the id behind the 41 bytes
validated_again : (front : List ℕ) (o : Option LedgerId) → length front ≡ VALIDATION_BODY → IfSome o (λ id. length id.0 ≡ 32) → validated_in (front ++ validated_bytes o) ≡ o
validated_again front None long ok = cond-false (nat_lt VALIDATION_BODY (length (front ++ []))) _ None (le-ltb VALIDATION_BODY (length (front ++ [])) (omega (arith, length-append front [], long)))
validated_again front (Some id) long ok =
    let behind : take 32 (drop VALIDATION_BODY (front ++ id.0)) ≡ id.0 = ap (take 32) (drop_at front id.0 VALIDATION_BODY long) ∙ take_all 32 id.0 (omega (arith, ok)) in
    cond-true (nat_lt VALIDATION_BODY (length (front ++ id.0))) (some_id (take 32 (drop VALIDATION_BODY (front ++ id.0)))) None (lt-ltb VALIDATION_BODY (length (front ++ id.0)) (omega (arith, length-append front id.0, long, ok)))
    ∙ ap some_id behind
  where
    some_id : List ℕ → Option LedgerId
    some_id x = Some (record { 0 = x })

-- the byte of the flags
flags_at : (v : Validation) → IsValidation v → slice_index (validation_bytes v) flags_place ≡ flags_of v.full
flags_at v ok =
    let n = big_bytes 4 v.seq ++ (big_bytes 4 v.signed ++ ((flags_of v.full ∷ []) ++ validated_bytes v.validated)) in
    ap (λ (x : List ℕ). slice_index x flags_place) (five_grouped v.id.0 (big_bytes 4 v.seq) (big_bytes 4 v.signed) (flags_of v.full ∷ []) (validated_bytes v.validated))
    ∙ sym (get_or-drop 32 (v.id.0 ++ n) 8 0) ∙ ap (λ (x : List ℕ). slice_index x 8) (drop_at v.id.0 n 32 ok.id)

validation_again : (v : Validation) → IsValidation v → validation_in (validation_bytes v) ≡ v
validation_again v ok =
    let n = big_bytes 4 v.seq ++ (big_bytes 4 v.signed ++ ((flags_of v.full ∷ []) ++ validated_bytes v.validated)) in
    let rest : drop 32 (v.id.0 ++ n) ≡ n = drop_at v.id.0 n 32 ok.id in
    let second : drop 36 (v.id.0 ++ n) ≡ drop 4 n = sym (drop-drop 4 32 (v.id.0 ++ n)) ∙ ap (drop 4) rest in
    let id : take 32 (v.id.0 ++ n) ≡ v.id.0 = take_at v.id.0 n 32 ok.id in
    let seq : big_number 4 (drop 32 (v.id.0 ++ n)) ≡ v.seq = ap (big_number 4) rest ∙ big_number-reads_back 4 v.seq (big_bytes 4 v.signed ++ ((flags_of v.full ∷ []) ++ validated_bytes v.validated)) ok.seq in
    let signed : big_number 4 (drop 36 (v.id.0 ++ n)) ≡ v.signed = ap (big_number 4) second ∙ big_number-reads_back 4 v.signed ((flags_of v.full ∷ []) ++ validated_bytes v.validated) ok.signed in
    let whole : validation_bytes v ≡ v.id.0 ++ n = five_grouped v.id.0 (big_bytes 4 v.seq) (big_bytes 4 v.signed) (flags_of v.full ∷ []) (validated_bytes v.validated) in
    let full : (slice_index (v.id.0 ++ n) flags_place == 1) ≡ v.full = ap (λ (x : List ℕ). slice_index x flags_place == 1) (sym whole) ∙ ap (λ (b : ℕ). b == 1) (flags_at v ok) ∙ full_back v.full in
    let validated : validated_in (v.id.0 ++ n) ≡ v.validated = ap validated_in (sym whole) ∙ validated_again (vote_bytes v) v.validated (length-vote_bytes v ok.id) ok.validated in
    let same : validation_of (take 32 (v.id.0 ++ n)) (big_number 4 (drop 32 (v.id.0 ++ n))) (big_number 4 (drop 36 (v.id.0 ++ n))) (slice_index (v.id.0 ++ n) flags_place == 1) (validated_in (v.id.0 ++ n)) ≡ v = rw (id, seq, signed, full, validated) refl in
    ap validation_in whole ∙ same

flags_pass : (full : Bool) → refused_if (nat_lt 1 (flags_of full)) (Flags (flags_of full)) ≡ None
flags_pass true = refl
flags_pass false = refl

-- ---- sets

pub ids_spelled : (n : ℕ) (bytes : List ℕ) → length bytes ≡ 32 * n → (id_bytes (ids_in n bytes) ≡ bytes) × AllByRecursion IsId (ids_in n bytes)
ids_spelled zero bytes h = (sym (nil_from_length bytes h), tt)
ids_spelled (suc n) bytes h =
    let rest = ids_spelled n (drop 32 bytes) (omega (arith, length-drop 32 bytes)) in
    (ap (λ (x : List ℕ). take 32 bytes ++ x) rest.0 ∙ take-append-drop 32 bytes, (omega (arith, length-take 32 bytes), rest.1))

pub ids_again : (ids : List TxId) → AllByRecursion IsId ids → ids_in (length ids) (id_bytes ids) ≡ ids
ids_again [] h = refl
ids_again (id ∷ ids) h =
    let first : take 32 (id.0 ++ id_bytes ids) ≡ id.0 = take_at id.0 (id_bytes ids) 32 h.0 in
    let rest : drop 32 (id.0 ++ id_bytes ids) ≡ id_bytes ids = drop_at id.0 (id_bytes ids) 32 h.0 in
    ap (λ (x : List ℕ). tx_of x ∷ ids_in (length ids) (drop 32 (id.0 ++ id_bytes ids))) first
    ∙ ap (λ (x : List ℕ). id ∷ ids_in (length ids) x) rest
    ∙ ap (λ (x : List TxId). id ∷ x) (ids_again ids h.1)
  where
    tx_of : List ℕ → TxId
    tx_of x = record { 0 = x }

pub length-id_bytes : (ids : List TxId) → AllByRecursion IsId ids → length (id_bytes ids) ≡ 32 * length ids
length-id_bytes [] h = refl
length-id_bytes (id ∷ ids) h = omega (arith, length-append id.0 (id_bytes ids), length-id_bytes ids h.1, h.0)

passes_test : (t : Bool) (later : Option ℕ) (place : ℕ) → cond t later (Some place) ≡ None → (t ≡ true) × (later ≡ None)
passes_test true later place h = (refl, h)
passes_test false later place h = absurd cc

pub rises_from : (place : ℕ) (a : TxId) (ids : List TxId) → fall_from place a ids ≡ None → RisesFrom a ids
rises_from place a [] h = tt
rises_from place a (b ∷ ids) h =
    let passed = passes_test (is_below a b) (fall_from (place + 1) b ids) place h in
    (passed.0, rises_from (place + 1) b ids passed.1)

pub rising : (ids : List TxId) → first_fall ids ≡ None → IsRising ids
rising [] h = tt
rising (a ∷ ids) h = rises_from 1 a ids h

falls_not : (place : ℕ) (a : TxId) (ids : List TxId) → RisesFrom a ids → fall_from place a ids ≡ None
falls_not place a [] h = refl
falls_not place a (b ∷ ids) h = ap (λ (t : Bool). cond t (fall_from (place + 1) b ids) (Some place)) h.0 ∙ falls_not (place + 1) b ids h.1

pub no_fall : (ids : List TxId) → IsRising ids → first_fall ids ≡ None
no_fall [] h = refl
no_fall (a ∷ ids) h = falls_not 1 a ids h

-- ---- every set in bytes

none_mapped : (fall : Option ℕ) → option_map Order fall ≡ None → fall ≡ None
none_mapped None h = refl
none_mapped (Some place) h = absurd cc

set_passes : (t : Bool) (c : ℕ) (fall : Option ℕ) → cond t (option_map Order fall) (Some (Count c)) ≡ None → (t ≡ true) × (fall ≡ None)
set_passes true c fall h = (refl, none_mapped fall h)
set_passes false c fall h = absurd cc

set_length : (n : ℕ) → is_set_length n ≡ true → (2 ≤ n) × (n ≤ longest_body)
set_length n h = (grind (arith, nat_tests), grind (arith, nat_tests))

-- what a set that isn't refused keeps
pub set_kept : (bytes : List ℕ) → is_set_length (length bytes) ≡ true → set_refusal bytes ≡ None → (2 + 32 * big_number 2 bytes ≡ length bytes) × IsSet (ids_in (big_number 2 bytes) (drop 2 bytes))
set_kept bytes ok none =
    let c = big_number 2 bytes in
    let ids = ids_in c (drop 2 bytes) in
    let passed = set_passes (2 + 32 * c == length bytes) c (first_fall ids) none in
    let count : 2 + 32 * c ≡ length bytes = eqb-true _ _ passed.0 in
    let small = set_length (length bytes) ok in
    (count, record { rising = rising ids passed.1; at_most = omega (arith, length-ids_in c (drop 2 bytes), small.1) })

set_spelled : (bytes : List ℕ) → IsBytes bytes → is_set_length (length bytes) ≡ true → set_refusal bytes ≡ None → SpellsBody (bodies.TxSet (ids_in (big_number 2 bytes) (drop 2 bytes))) 4 bytes
set_spelled bytes fits ok none =
    let c = big_number 2 bytes in
    let ids = ids_in c (drop 2 bytes) in
    let kept = set_kept bytes ok none in
    let small = set_length (length bytes) ok in
    let spelled = ids_spelled c (drop 2 bytes) (omega (arith, length-drop 2 bytes, kept.0)) in
    record {
      fits = record { each = spelled.1; set = kept.1 };
      kind_is = refl;
      spelling = number_at_2 0 bytes fits small.0 ∙ ap (λ (x : List ℕ). big_bytes 2 c ++ x) (sym spelled.0) ∙ ap (λ (k : ℕ). big_bytes 2 k ++ id_bytes ids) (sym (length-ids_in c (drop 2 bytes)));
    }

set_again : (ids : List TxId) → IsTxSet ids → body_of 4 (set_bytes ids) ≡ Ok (bodies.TxSet ids)
set_again ids ok =
    let count : big_number 2 (set_bytes ids) ≡ length ids = big_number-reads_back 2 (length ids) (id_bytes ids) (omega (arith, ok.set.at_most)) in
    let same : ids_in (big_number 2 (set_bytes ids)) (id_bytes ids) ≡ ids = ap (λ (k : ℕ). ids_in k (id_bytes ids)) count ∙ ids_again ids ok.each in
    let long : 2 + 32 * big_number 2 (set_bytes ids) ≡ length (set_bytes ids) = omega (arith, count, length-id_bytes ids ok.each) in
    let fall : first_fall (ids_in (big_number 2 (set_bytes ids)) (id_bytes ids)) ≡ None = ap first_fall same ∙ no_fall ids ok.set.rising in
    let none : set_refusal (set_bytes ids) ≡ None = set_none (2 + 32 * big_number 2 (set_bytes ids) == length (set_bytes ids)) (big_number 2 (set_bytes ids)) (first_fall (ids_in (big_number 2 (set_bytes ids)) (id_bytes ids))) (eqb_same _ _ long) fall in
    done (set_refusal (set_bytes ids)) (ids_in (big_number 2 (set_bytes ids)) (id_bytes ids)) ids none same
  where
    set_none : (t : Bool) (c : ℕ) (fall : Option ℕ) → t ≡ true → fall ≡ None → cond t (option_map Order fall) (Some (Count c)) ≡ None
    set_none t c fall e f = rw (e, f) refl

    eqb_same : (a b : ℕ) → a ≡ b → (a == b) ≡ true
    eqb_same a b e = grind (arith, nat_tests)

    done : (refusal : Option WireRefusal) (read ids : List TxId) → refusal ≡ None → read ≡ ids → unless_refused refusal (bodies.TxSet read) ≡ Ok (bodies.TxSet ids)
    done refusal read ids e f = rw (e, f) refl

-- ---- every body

same_length : (n m : ℕ) → m ≡ n → (m == n) ≡ true
same_length n m e = grind (arith, nat_tests)

set_long : (c n : ℕ) → c ≤ 256 → n ≡ 2 + 32 * c → is_set_length n ≡ true
set_long c n small e =
    let low : nat_le 2 n ≡ true = grind (arith, nat_tests) in
    let high : nat_le n longest_body ≡ true = grind (arith, nat_tests) in
    let whole : ((n - 2) % 32 == 0) ≡ true = same_length 0 ((n - 2) % 32) (omega arith) in
    rw (low, high, whole) refl

no_other : (k n : ℕ) → can_hold (suc (suc (suc (suc (suc (suc k)))))) n ≡ true → ⊥
no_other k n h = grind (arith, nat_tests)

body_spelled : (kind : ℕ) (bytes : List ℕ) → IsBytes bytes → can_hold kind (length bytes) ≡ true → body_refusal kind bytes ≡ None → SpellsBody (body_in kind bytes) kind bytes
body_spelled zero bytes fits ok none = absurd cc
body_spelled (suc zero) bytes fits ok none = proposal_spelled bytes fits (eqb-true _ _ ok)
body_spelled (suc (suc zero)) bytes fits ok none = validation_spelled bytes fits ok none
body_spelled (suc (suc (suc zero))) bytes fits ok none = record { fits = eqb-true _ _ ok; kind_is = refl; spelling = refl }
body_spelled (suc (suc (suc (suc zero)))) bytes fits ok none = set_spelled bytes fits ok none
body_spelled (suc (suc (suc (suc (suc zero))))) bytes fits ok none = record { fits = eqb-true _ _ ok; kind_is = refl; spelling = refl }
body_spelled (suc (suc (suc (suc (suc (suc k)))))) bytes fits ok none = absurd (no_other k (length bytes) ok)

pub body_again : (body : Body) → IsBody body → body_of (kind_of body) (body_bytes body) ≡ Ok body
body_again (bodies.Proposal p) ok = ap (λ (x : Proposal). Ok (bodies.Proposal x)) (proposal_again p ok)
body_again (bodies.Validation v) ok =
    let none : flags_refusal (validation_bytes v) ≡ None = ap (λ (b : ℕ). refused_if (nat_lt 1 b) (Flags b)) (flags_at v ok) ∙ flags_pass v.full in
    ap (λ (r : Option WireRefusal). unless_refused r (bodies.Validation (validation_in (validation_bytes v)))) none
    ∙ ap (λ (x : Validation). Ok (bodies.Validation x)) (validation_again v ok)
body_again (bodies.Header h) ok = refl
body_again (bodies.TxSet ids) ok = set_again ids ok
body_again (bodies.Tx id) ok = refl

unless_is : (refusal : Option WireRefusal) (read body : Body) → unless_refused refusal read ≡ Ok body → (refusal ≡ None) × (read ≡ body)
unless_is (Some r) read body e = absurd cc
unless_is None read body e = (refl, cc)

-- what is read is what the bytes spell
pub read_spelled : (kind : ℕ) (bytes : List ℕ) (body : Body) → IsBytes bytes → can_hold kind (length bytes) ≡ true → body_of kind bytes ≡ Ok body → SpellsBody body kind bytes
read_spelled kind bytes body fits ok e =
    let u = unless_is (body_refusal kind bytes) (body_in kind bytes) body e in
    subst (λ (x : Body). SpellsBody x kind bytes) u.1 (body_spelled kind bytes fits ok u.0)

-- what the bytes spell is read
pub spelled_read : (kind : ℕ) (bytes : List ℕ) (body : Body) → SpellsBody body kind bytes → body_of kind bytes ≡ Ok body
spelled_read kind bytes body s = rw (s.kind_is, s.spelling) (body_again body s.fits)

-- ---- what the code asks

pub kept_spelled : (bytes : List ℕ) (kept : Bor (List ℕ)) (count : ℕ) → is_set_length (length bytes) ≡ true → length kept.now ≡ length bytes - 2 → length kept.now ≡ 32 * count → first_fall (ids_in (length kept.now / 32) kept.now) ≡ None → IsKept (Spelled kept)
kept_spelled bytes kept count ok rest whole none =
    let small = set_length (length bytes) ok in
    record {
      set = record { rising = rising (ids_in (length kept.now / 32) kept.now) none; at_most = omega (arith, length-ids_in (length kept.now / 32) kept.now, small.1) };
      whole = omega arith;
    }

abbrev pub tx_read : List ℕ → Result Body WireRefusal
tx_read id = Ok (bodies.Tx (record { 0 = id }))

-- what is lawful and none of the other kinds is a transaction
pub tx_alone : (kind : ℕ) (bytes id : List ℕ) → can_hold kind (length bytes) ≡ true → kind ≢ 1 → kind ≢ 2 → kind ≢ 3 → kind ≢ 4 → id ≡ take 32 bytes → tx_read id ≡ body_of kind bytes
tx_alone zero bytes id ok a b c d e = absurd cc
tx_alone (suc zero) bytes id ok a b c d e = absurd (a refl)
tx_alone (suc (suc zero)) bytes id ok a b c d e = absurd (b refl)
tx_alone (suc (suc (suc zero))) bytes id ok a b c d e = absurd (c refl)
tx_alone (suc (suc (suc (suc zero)))) bytes id ok a b c d e = absurd (d refl)
tx_alone (suc (suc (suc (suc (suc zero))))) bytes id ok a b c d e =
    let long : length bytes ≡ 32 = eqb-true _ _ ok in
    ap tx_read (e ∙ take_all 32 bytes (omega arith))
tx_alone (suc (suc (suc (suc (suc (suc k)))))) bytes id ok a b c d e = absurd (no_other k (length bytes) ok)

-- what has a spelling has a lawful length
pub spelled_lawful : (body : Body) → IsBody body → can_have (version_of body) (kind_of body) (length (body_bytes body)) ≡ true
spelled_lawful (bodies.Proposal p) ok = same_length PROPOSAL_BODY (length (proposal_bytes p)) (omega (arith, ok.prev, ok.set, length-append p.prev.0 p.set.0, length-append (p.prev.0 ++ p.set.0) (big_bytes 4 p.pseq), length-append (p.prev.0 ++ p.set.0 ++ big_bytes 4 p.pseq) (big_bytes 4 p.close), length-append (p.prev.0 ++ p.set.0 ++ big_bytes 4 p.pseq ++ big_bytes 4 p.close) (big_bytes 4 p.time)))
spelled_lawful (bodies.Validation v) ok = validation_lawful (vote_bytes v) v.validated (length-vote_bytes v ok.id) ok.validated
  where
    validation_lawful : (front : List ℕ) (o : Option LedgerId) → length front ≡ VALIDATION_BODY → IfSome o (λ id. length id.0 ≡ 32) → can_have (version_for o) 2 (length (front ++ validated_bytes o)) ≡ true
    validation_lawful front None long fits = same_length VALIDATION_BODY (length (front ++ [])) (omega (arith, length-append front [], long))
    validation_lawful front (Some id) long fits = same_length 73 (length (front ++ id.0)) (omega (arith, length-append front id.0, long, fits))
spelled_lawful (bodies.Header h) ok = same_length HEADER_BODY (length h) ok
spelled_lawful (bodies.TxSet ids) ok = set_long (length ids) (length (set_bytes ids)) ok.set.at_most (omega (arith, length-id_bytes ids ok.each))
spelled_lawful (bodies.Tx id) ok = same_length 32 (length id.0) ok

-- what a version allows is held by one of them
pub lawful_held : (version kind n : ℕ) → can_have version kind n ≡ true → can_hold kind n ≡ true
lawful_held = by_version (λ version kind n. can_hold kind n ≡ true) first refl
  where
    first : (kind n : ℕ) → can_have_first kind n ≡ true → can_hold kind n ≡ true
    first kind n h =
        cond_both (kind == 2) (n == VALIDATION_BODY || n == 73) (can_have_first kind n) (λ b. b ≡ true)
        (λ two. or_left (n == VALIDATION_BODY) (n == 73) (subst (λ (k : ℕ). can_have_first k n ≡ true) (eqb-true kind 2 two) h)) (λ _. h)

-- the version of a lawful frame is the one of its body
pub version_is : (version kind : ℕ) (bytes : List ℕ) (body : Body) → can_have version kind (length bytes) ≡ true → SpellsBody body kind bytes → version ≡ version_of body
version_is version kind bytes body ok s =
    one_version version (version_of body) kind (length bytes) ok
    (subst (λ (k : ℕ). can_have (version_of body) k (length bytes) ≡ true) (sym s.kind_is) (subst (λ (x : List ℕ). can_have (version_of body) (kind_of body) (length x) ≡ true) (sym s.spelling) (spelled_lawful body s.fits)))
  where
    one_of : (kind n : ℕ) → can_have_first kind n ≡ true → (w : ℕ) → can_have w kind n ≡ true → 1 ≡ w
    one_of kind n h w k = by_version (λ w kind n. can_have_first kind n ≡ true → 1 ≡ w) (λ _ _ _ _. refl) (λ never. absurd cc) w kind n k h

    two_of : (w : ℕ) → can_have w 2 73 ≡ true → 2 ≡ w
    two_of w k = cond_both (w == 1) false (w == 2 && 2 == 2 && 73 == 73) (λ b. b ≡ true → 2 ≡ w) (λ _ never. absurd cc) (λ _ both. sym (eqb-true w 2 (and_parts (w == 2) true (and_parts (w == 2 && true) true both).0).0)) k

    one_version : (v w kind n : ℕ) → can_have v kind n ≡ true → can_have w kind n ≡ true → v ≡ w
    one_version v w kind n h k = by_version (λ v kind n. (w : ℕ) → can_have w kind n ≡ true → v ≡ w) one_of two_of v kind n h w k
