-- The ids of a set, one after another.
use Rattle.std.proofs.Common.{◌≡◌, ◌+◌, ◌<◌, ◌≤◌, ℕ, true, false, cond, List, [], ◌∷◌, ◌++◌, length, drop, get_or, Option, Some, None, Result, Ok, Err, refl, ap, subst, sym, ◌∙◌, arith}
use Rattle.std.specs.Option.{unwrap_or}
use Rattle.std.specs.Result.{result_ok, is_ok}
use Rattle.std.proofs.lemmas.Bool.{false≢true}
use Rattle.std.proofs.lemmas.List.{at_drop_more, at_drop_all}
use Rattle.xl_base.specs.Sets.{IsRising, RisesFrom, IsSet, most_ids}
use Rattle.xl_base.specs.declared.ids.TxId.{TxId}
use Rattle.xl_sched.specs.declared.named.Named.{Named}
use Rattle.xl_sched.specs.declared.refusal.SchedRefusal.{SchedRefusal}
use Rattle.xl_sched.specs.declared.refusal.SchedRefusal.TheVariants.{Id}
use Rattle.xl_sched.specs.Refusals.{◌>>=◌}
use Rattle.xl_sched.specs.Names.{tx_id_of}
use Rattle.xl_sched.specs.TxSets.{rises, risen_id_of, risen_ids_of}
use Rattle.xl_sched.proofs.MemberLemmas.{read_on, read_on-cons}

-- one entry more is an id that rises
pub ids_on-more : (xs : List TxId) (names : List Named) (before : Option TxId) (entries : List (List ℕ)) (i : ℕ) (entry : List ℕ) (id : TxId) → (i < length entries) × (entry ≡ get_or entries i entry) → risen_id_of names before entry ≡ Ok id →
    read_on xs (risen_ids_of names before (drop i entries)) ≡ read_on (xs ++ id ∷ []) (risen_ids_of names (Some id) (drop (i + 1) entries))
ids_on-more xs names before entries i entry id here e =
    at_drop_more (λ rest. read_on xs (risen_ids_of names before rest)) entries i entry here.0
    ∙ ap (λ first. read_on xs (risen_id_of names before first >>= (λ t. risen_ids_of names (Some t) (drop (i + 1) entries) >>= (λ ts. Ok (t ∷ ts))))) (sym here.1)
    ∙ ap (λ first. read_on xs (first >>= (λ t. risen_ids_of names (Some t) (drop (i + 1) entries) >>= (λ ts. Ok (t ∷ ts))))) e
    ∙ read_on-cons xs id (risen_ids_of names (Some id) (drop (i + 1) entries))

-- an entry is none, or doesn't rise
pub ids_on-none : (xs : List TxId) (names : List Named) (before : Option TxId) (entries : List (List ℕ)) (i : ℕ) (entry : List ℕ) (refusal : SchedRefusal) → (i < length entries) × (entry ≡ get_or entries i entry) → risen_id_of names before entry ≡ Err refusal →
    read_on xs (risen_ids_of names before (drop i entries)) ≡ Err refusal
ids_on-none xs names before entries i entry refusal here e =
    at_drop_more (λ rest. read_on xs (risen_ids_of names before rest)) entries i entry here.0
    ∙ ap (λ first. read_on xs (risen_id_of names before first >>= (λ t. risen_ids_of names (Some t) (drop (i + 1) entries) >>= (λ ts. Ok (t ∷ ts))))) (sym here.1)
    ∙ ap (λ first. read_on xs (first >>= (λ t. risen_ids_of names (Some t) (drop (i + 1) entries) >>= (λ ts. Ok (t ∷ ts))))) e

-- nothing is left
pub ids_on-all : (xs : List TxId) (names : List Named) (before : Option TxId) (entries : List (List ℕ)) (i : ℕ) → length entries ≤ i → read_on xs (risen_ids_of names before (drop i entries)) ≡ Ok (xs ++ [])
ids_on-all xs names before entries i h = at_drop_all (λ rest. read_on xs (risen_ids_of names before rest)) entries i h

-- ids that rise from the one before, if there is one
abbrev RisesAfter : Option TxId → List TxId → Type 0
RisesAfter None ids = IsRising ids
RisesAfter (Some before) ids = RisesFrom before ids

after-nil : (before : Option TxId) → RisesAfter before []
after-nil None = tt
after-nil (Some before) = tt

after-cons : (before : Option TxId) (id : TxId) (ids : List TxId) → rises before id ≡ true → RisesFrom id ids → RisesAfter before (id ∷ ids)
after-cons None id ids h rest = rest
after-cons (Some before) id ids h rest = (h, rest)

abbrev Gives : {A : Type 0} → Result A SchedRefusal → A → Type 0
Gives result x = result ≡ Ok x

gives-same : {A : Type 0} (x y : A) → Gives (Ok x) y → x ≡ y
gives-same x y e = ap (λ result. unwrap_or (result_ok result) x) e

gives-nothing : {A : Type 0} (refusal : SchedRefusal) (x : A) → Gives (Err refusal) x → ⊥
gives-nothing refusal x e = false≢true (ap is_ok e)

id-rises : (before : Option TxId) (entry : List ℕ) (read : Result TxId SchedRefusal) (id : TxId) → Gives (read >>= (λ t. cond (rises before t) (Ok t) (Err (Id entry)))) id → rises before id ≡ true
id-rises before entry (Err e) id h = absurd (gives-nothing e id h)
id-rises before entry (Ok t) id h =
    elim (rises before t) as (λ b. rises before t ≡ b → Gives (cond b (Ok t) (Err (Id entry))) id → rises before id ≡ true) [
      | true ↦ λ q e. ap (rises before) (sym (gives-same t id e)) ∙ q
      | false ↦ λ _ e. absurd (gives-nothing (Id entry) id e)
    ] refl h

-- what is read of entries rises
ids-rise : (names : List Named) (before : Option TxId) (entries : List (List ℕ)) (ids : List TxId) → Gives (risen_ids_of names before entries) ids → RisesAfter before ids
ids-rise names before [] ids h = subst (RisesAfter before) (gives-same [] ids h) (after-nil before)
ids-rise names before (entry ∷ rest) ids h =
    elim (risen_id_of names before entry) as (λ r. risen_id_of names before entry ≡ r → Gives (r >>= (λ t. risen_ids_of names (Some t) rest >>= (λ ts. Ok (t ∷ ts)))) ids → RisesAfter before ids) [
      | Err e ↦ λ _ k. absurd (gives-nothing e ids k)
      | Ok t ↦ λ q k.
          elim (risen_ids_of names (Some t) rest) as (λ r. risen_ids_of names (Some t) rest ≡ r → Gives (r >>= (λ ts. Ok (t ∷ ts))) ids → RisesAfter before ids) [
            | Err e ↦ λ _ j. absurd (gives-nothing e ids j)
            | Ok ts ↦ λ p j.
                subst (RisesAfter before) (gives-same (t ∷ ts) ids j) (after-cons before t ts (id-rises before entry (tx_id_of names entry) t q) (ids-rise names (Some t) rest ts p))
          ] refl k
    ] refl h

-- ids that were read, and are no more than a set's
pub IsSet-risen : (names : List Named) (entries : List (List ℕ)) (ids : List TxId) → risen_ids_of names None entries ≡ Ok ids → length ids ≤ most_ids → IsSet ids
IsSet-risen names entries ids read few = record { rising = ids-rise names None entries ids read; at_most = few }

pub IsSet-none : IsSet []
IsSet-none = record { rising = tt; at_most = omega arith }
