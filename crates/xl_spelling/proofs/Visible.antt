-- Parts of a line that a reader takes have visible bytes alone.
use Rattle.std.proofs.Common.{◌≡◌, ◌^◌, ◌-◌, ◌&&◌, ◌||◌, ℕ, Bool, true, false, not, cond, nat_le, nat_lt, List, [], ◌∷◌, length, find, Option, Some, None, option_map, Ok, Err, refl, sym, ◌∙◌, subst, arith, codes}
use Rattle.std.specs.List.{All, AllByRecursion, list_all}
use Rattle.std.specs.Char.{is_ascii_digit}
use Rattle.std.specs.Option.{option_and_then, option_or, ok_or}
use Rattle.std.specs.Result.{result_ok}
use Rattle.std.specs.Str.{bytes_eq}
use Rattle.std.proofs.lemmas.Bool.{and_parts}
use Rattle.std.proofs.lemmas.Bool.Decides.{nat_tests}
use Rattle.std.proofs.lemmas.List.Elements.{All-head, All-tail}
use Rattle.std.proofs.lemmas.List.Splits.{join_with_byte-slice_split}
use Rattle.std.proofs.lemmas.List.Sums.{list_all-from_AllPass}
use Rattle.hex.specs.Hex.{decode_of, decode_sized, is_hex_digit}
use Rattle.hex.proofs.HexLemmas.{decode_of-ok, decode_sized-ok, decode_sized-twice}
use Rattle.xl_base.specs.declared.ids.LedgerId.{LedgerId}
use Rattle.xl_base.specs.declared.ids.TxId.{TxId}
use Rattle.xl_base.specs.Sets.{most_ids}
use Rattle.xl_lists.specs.Lists.{is_on}
use Rattle.xl_sched.specs.declared.ledger.Ledger.{Ledger}
use Rattle.xl_sched.specs.declared.named.Named.{Named}
use Rattle.xl_sched.specs.declared.refusal.SchedRefusal.TheVariants as refusal
use Rattle.xl_sched.specs.Limits.{most_raw_bytes}
use Rattle.xl_sched.specs.Refusals.{◌>>=◌}
use Rattle.xl_sched.specs.Tokens.{entries}
use Rattle.xl_sched.specs.Numbers.{is_number, value_of, number_within, number_of, place_of}
use Rattle.xl_sched.specs.Choices.{full_of, validating_of}
use Rattle.xl_sched.specs.Names.{is_letter, is_name, id_named, id_of, ledger_id_of, tx_id_of}
use Rattle.xl_sched.specs.Ledgers.{ledger_in, ledger_of}
use Rattle.xl_sched.specs.Members.{declared_of, member_of, members_of, new_member_of, numbers_of}
use Rattle.xl_sched.specs.TxSets.{joined_ids_of, risen_id_of, risen_ids_of, rises, tx_set_of}
use Rattle.xl_sched.specs.Events.{is_peer, peer_of, raw_bytes_of}
use Rattle.xl_sched.specs.Reading.{Reading}
use Rattle.xl_spelling.proofs.Joins.{joined-all}
use Rattle.xl_spelling.proofs.Parts.{Gives, kind-same, mode-same, passed, same_bytes, steps, unstopped}
use Rattle.xl_spelling.proofs.Small.{IsInk, inked, kind-small, number-ink}

abbrev pub Ink : List ℕ → Type 0
Ink t = AllByRecursion IsInk t

-- each name is spelled as a name is
abbrev pub AreSpelled : List Named → Type 0
AreSpelled names = All (λ n. is_name n.name ≡ true) names

-- ---- numbers and words

pub within-ink : (least greatest : ℕ) (t : List ℕ) (n : ℕ) → number_within least greatest t ≡ Ok n → Ink t
within-ink least greatest t n e =
    let p = passed (is_number t && nat_le least (value_of t) && nat_le (value_of t) greatest) (value_of t) n (refusal.Number t) e in
    let outer = and_parts (is_number t && nat_le least (value_of t)) (nat_le (value_of t) greatest) p.0 in
    (number-ink t (and_parts (is_number t) (nat_le least (value_of t)) outer.0).0).1

pub number-inked : (t : List ℕ) (n : ℕ) → number_of t ≡ Ok n → Ink t
number-inked t n e = within-ink 0 (2 ^ 32 - 1) t n e

pub declared-ink : (nodes t : List ℕ) (n : ℕ) → declared_of nodes t ≡ Ok n → Ink t
declared-ink nodes t n e =
    let s = steps (member_of t) (λ m. cond (is_on nodes m) (Ok m) (Err (refusal.Absent t))) n e in
    within-ink 1 64 t s.value s.gave

pub new_member-ink : (nodes liars t : List ℕ) (n : ℕ) → new_member_of nodes liars t ≡ Ok n → Ink t
new_member-ink nodes liars t n e =
    let s = steps (member_of t) (λ m. cond (is_on nodes m || is_on liars m) (Err (refusal.Twice t)) (Ok m)) n e in
    within-ink 1 64 t s.value s.gave

pub peer-ink : (reading : Reading) (node : ℕ) (t : List ℕ) (n : ℕ) → peer_of reading node t ≡ Ok n → Ink t
peer-ink reading node t n e =
    let s = steps (member_of t) (λ other. cond (is_peer reading node other) (Ok other) (Err (refusal.Absent t))) n e in
    within-ink 1 64 t s.value s.gave

pub place-ink : (sent : ℕ) (t : List ℕ) (n : ℕ) → place_of sent t ≡ Ok n → Ink t
place-ink sent t n e =
    let number = unstopped (not (is_number t)) (cond (nat_lt 0 (value_of t) && nat_le (value_of t) sent) (Ok (value_of t)) (Err (refusal.Absent t))) n (refusal.Number t) e in
    let is : is_number t ≡ true = grind (arith, nat_tests) in
    (number-ink t is).1

pub kind-ink : (t : List ℕ) (full : Bool) → full_of t ≡ Ok full → Ink t
kind-ink t full e = subst Ink (kind-same t full e) (kind-small full).ink

pub mode-ink : (t : List ℕ) (validating : Bool) → validating_of t ≡ Ok validating → Ink t
mode-ink t validating e = subst Ink (mode-same t validating e).1 (inked (codes "observing") refl)

-- ---- lists

numbers-ink : (parts : List (List ℕ)) (ns : List ℕ) → numbers_of parts ≡ Ok ns → AllByRecursion Ink parts
numbers-ink [] ns e = tt
numbers-ink (part ∷ parts) ns e =
    let s = steps (number_of part) (λ n. numbers_of parts >>= (λ ns. Ok (n ∷ ns))) ns e in
    let r = steps (numbers_of parts) (λ ns. Ok (s.value ∷ ns)) ns s.rest in
    (number-inked part s.value s.gave, numbers-ink parts r.value r.gave)

-- a token is what its entries are joined to
entries-ink : (t : List ℕ) → AllByRecursion Ink (entries t) → Ink t
entries-ink t h = subst Ink (join_with_byte-slice_split 44 t) (joined-all IsInk 44 (entries t) (omega arith, omega arith) h)

pub members-ink : (t ns : List ℕ) → members_of t ≡ Ok ns → Ink t
members-ink t ns e = entries-ink t (numbers-ink (entries t) ns e)

-- ---- hexadecimal digits

digits-inked : (t : List ℕ) → list_all is_hex_digit t ≡ true → Ink t
digits-inked [] h = tt
digits-inked (b ∷ bs) h =
    let parts = and_parts (is_hex_digit b) (list_all is_hex_digit bs) h in
    let digit = parts.0 in
    ((grind (arith, nat_tests), grind (arith, nat_tests)), digits-inked bs parts.1)

decoded-ink : (t bytes : List ℕ) → decode_of t ≡ Ok bytes → Ink t
decoded-ink t bytes e = digits-inked t (list_all-from_AllPass is_hex_digit t (decode_of-ok t bytes e).1)

pub raw-ink : (t bytes : List ℕ) → raw_bytes_of t ≡ Ok bytes → Ink t
raw-ink t bytes e =
    let s = steps (ok_or (result_ok (decode_of t)) (refusal.Id t)) (λ bytes. cond (nat_le 1 (length bytes) && nat_le (length bytes) most_raw_bytes) (Ok bytes) (Err (refusal.Id t))) bytes e in
    elim (decode_of t) as (λ r. decode_of t ≡ r → Gives (ok_or (result_ok r) (refusal.Id t)) s.value → Ink t) [
      | Ok decoded ↦ λ q _. decoded-ink t decoded q
      | Err why ↦ λ _ k. absurd (cc)
    ] refl s.gave

-- ---- names and ids

name-rest : (t : List ℕ) → list_all (λ b. is_letter b || is_ascii_digit b) t ≡ true → Ink t
name-rest [] h = tt
name-rest (b ∷ bs) h =
    let parts = and_parts (is_letter b || is_ascii_digit b) (list_all (λ b. is_letter b || is_ascii_digit b) bs) h in
    let here = parts.0 in
    ((grind (arith, nat_tests), grind (arith, nat_tests)), name-rest bs parts.1)

name-ink : (t : List ℕ) → is_name t ≡ true → Ink t
name-ink [] h = tt
name-ink (b ∷ bs) h =
    let outer = and_parts (is_letter b && list_all (λ b. is_letter b || is_ascii_digit b) bs) (nat_le (length bs) 15) h in
    let parts = and_parts (is_letter b) (list_all (λ b. is_letter b || is_ascii_digit b) bs) outer.0 in
    let first = parts.0 in
    ((grind (arith, nat_tests), grind (arith, nat_tests)), name-rest bs parts.1)

found-ink : (names : List Named) (t : List ℕ) (n : Named) → AreSpelled names → find (λ n. bytes_eq t n.name) names ≡ Some n → Ink t
found-ink [] t n are e = absurd (cc)
found-ink (m ∷ names) t n are e =
    elim (bytes_eq t m.name) as (λ b. bytes_eq t m.name ≡ b → cond b (Some m) (find (λ n. bytes_eq t n.name) names) ≡ Some n → Ink t) [
      | true ↦ λ q _. subst Ink (same_bytes t m.name q) (name-ink m.name (All-head (λ n. is_name n.name ≡ true) m names are))
      | false ↦ λ _ k. found-ink names t n (All-tail (λ n. is_name n.name ≡ true) m names are) k
    ] refl e

module _ (names : List Named) (are : AreSpelled names) where
  named-ink : (t id : List ℕ) → Gives (ok_or (id_named names t) (refusal.Id t)) id → Ink t
  named-ink t id e =
      elim (find (λ n. bytes_eq t n.name) names) as (λ o. find (λ n. bytes_eq t n.name) names ≡ o → Gives (ok_or (option_map (λ n. n.id) o) (refusal.Id t)) id → Ink t) [
        | Some n ↦ λ q _. found-ink names t n are q
        | None ↦ λ _ k. absurd (cc)
      ] refl e

  pub id-ink : (t id : List ℕ) → id_of names t ≡ Ok id → Ink t
  id-ink t id e =
      elim (decode_sized t 32) as (λ r. decode_sized t 32 ≡ r → Gives (ok_or (option_or (result_ok r) (id_named names t)) (refusal.Id t)) id → Ink t) [
        | Ok bytes ↦ λ q _. decoded-ink t bytes (sym (decode_sized-twice t 32 (decode_sized-ok t 32 bytes q)) ∙ q)
        | Err why ↦ λ _ k. named-ink t id k
      ] refl e

  pub ledger_id-ink : (t : List ℕ) (id : LedgerId) → ledger_id_of names t ≡ Ok id → Ink t
  ledger_id-ink t id e =
      let s = steps (id_of names t) (λ i. Ok (record { 0 = i })) id e in
      id-ink t s.value s.gave

  pub tx_id-ink : (t : List ℕ) (id : TxId) → tx_id_of names t ≡ Ok id → Ink t
  tx_id-ink t id e =
      let s = steps (id_of names t) (λ i. Ok (record { 0 = i })) id e in
      id-ink t s.value s.gave

  pub ledger-ink : (t : List ℕ) (ledger : Ledger) → ledger_of names t ≡ Ok ledger → Ink t
  ledger-ink t ledger e =
      elim (find (λ n. bytes_eq t n.name) names) as (λ o. find (λ n. bytes_eq t n.name) names ≡ o → Gives (ok_or (option_and_then ledger_in o) (refusal.Id t)) ledger → Ink t) [
        | Some n ↦ λ q _. found-ink names t n are q
        | None ↦ λ _ k. absurd (cc)
      ] refl e

  -- ---- sets

  risen-ink : (parts : List (List ℕ)) (before : Option TxId) (ids : List TxId) → risen_ids_of names before parts ≡ Ok ids → AllByRecursion Ink parts
  risen-ink [] before ids e = tt
  risen-ink (part ∷ parts) before ids e =
      let r = steps (risen_id_of names before part) (λ id. risen_ids_of names (Some id) parts >>= (λ ids. Ok (id ∷ ids))) ids e in
      let q = steps (risen_ids_of names (Some r.value) parts) (λ ids. Ok (r.value ∷ ids)) ids r.rest in
      let t = steps (tx_id_of names part) (λ id. cond (rises before id) (Ok id) (Err (refusal.Id part))) r.value r.gave in
      (tx_id-ink part t.value t.gave, risen-ink parts (Some r.value) q.value q.gave)

  joined-ink : (t : List ℕ) (ids : List TxId) → joined_ids_of names t ≡ Ok ids → Ink t
  joined-ink t ids e =
      let r = steps (risen_ids_of names None (entries t)) (λ ids. cond (nat_le (length ids) most_ids) (Ok ids) (Err (refusal.Id t))) ids e in
      entries-ink t (risen-ink (entries t) None r.value r.gave)

  pub tx_set-ink : (t : List ℕ) (ids : List TxId) → tx_set_of names t ≡ Ok ids → Ink t
  tx_set-ink t ids e =
      elim (bytes_eq t (codes "-")) as (λ b. bytes_eq t (codes "-") ≡ b → Gives (cond b (Ok []) (joined_ids_of names t)) ids → Ink t) [
        | true ↦ λ q _. subst Ink (same_bytes t (codes "-") q) (inked (codes "-") refl)
        | false ↦ λ _ k. joined-ink t ids k
      ] refl e
