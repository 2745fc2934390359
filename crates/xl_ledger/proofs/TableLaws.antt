-- How buckets lead to ledgers.
use Rattle.std.proofs.Common.{◌≡◌, ◌≢◌, ◌⊎◌, ℕ, zero, suc, ◌<◌, ◌≤◌, ◌==◌, Bool, true, false, cond, List, length, get_or, Option, Some, None, slice_get, refl, sym, ap, subst, ◌∙◌, arith, inl, inr}
use Rattle.std.proofs.lemmas.Bool.{cases_lt}
use Rattle.std.proofs.lemmas.Bool.Decides.{eqb_tells}
use Rattle.std.proofs.lemmas.Slice.Eq.{bytes_eq-Decides}
use Rattle.std.proofs.lemmas.List.{length-map}
use Rattle.std.proofs.lemmas.Option.{slice_get_read, get_or_from_slice_get}
use Rattle.xl_base.specs.Ids.{same_id}
use Rattle.xl_base.specs.declared.ids.LedgerId.{LedgerId}
use Rattle.xl_ledger.specs.declared.header.Header.{Header}
use Rattle.xl_ledger.specs.declared.ledger.Ledger.{Ledger}
use Rattle.xl_ledger.specs.Chains.{root_id, ids, id_at, place_of}
use Rattle.xl_ledger.specs.Tables.{bucket_of, last_in, headers_of, IsIndexed}
use Rattle.xl_ledger.proofs.Places.{position_is, position_none}
use Rattle.xl_ledger.proofs.ChainLaws.{length-ids, earlier_differs}

-- ---- ids that are the same

pub same_is : (a b : LedgerId) → same_id a b ≡ true → a ≡ b
same_is a b e = ap (λ (x : List ℕ). let id : LedgerId = record { 0 = x } in id) ((bytes_eq-Decides a.0 b.0).0 e)

pub same_self : (a b : LedgerId) → a ≡ b → same_id a b ≡ true
same_self a b e = (bytes_eq-Decides a.0 b.0).1 (ap (λ (x : LedgerId). x.0) e)

pub same_or : (a b : LedgerId) → (same_id a b ≡ true) ⊎ (same_id a b ≡ false)
same_or a b = by_cases (same_id a b)
  where
    by_cases : (t : Bool) → (t ≡ true) ⊎ (t ≡ false)
    by_cases true = inl refl
    by_cases false = inr refl

pub differs_if : (a b : LedgerId) → (a ≡ b → ⊥) → same_id a b ≡ false
differs_if a b h = elim (same_or a b) [ inl e ↦ absurd (h (same_is a b e)) | inr e ↦ e ]

-- what was read at a place that is there is what stands there
pub read_any : {X : Type 0} (xs : List X) (i : ℕ) (x d : X) → i < length xs → x ≡ get_or xs i x → get_or xs i d ≡ x
read_any xs i x d lt e = get_or_from_slice_get xs i x d (slice_get_read xs (length xs) i x refl lt e)

-- ---- buckets

module _ (known : List LedgerId) (buckets bucket : ℕ) where
  in_bucket : ℕ → ℕ
  in_bucket k = bucket_of buckets (get_or known k root_id)

  pub record IsLast (n m : ℕ) : Type 0 where
    pub below : m < n
    pub own : bucket_of buckets (get_or known m root_id) ≡ bucket
    pub after : (k : ℕ) → m < k → k < n → bucket_of buckets (get_or known k root_id) ≢ bucket

  pub last_some : (n m : ℕ) → last_in known buckets bucket n ≡ Some m → IsLast n m
  last_some zero m e = absurd cc
  last_some (suc n) m e =
      elim (eqb_tells (bucket_of buckets (get_or known n root_id)) bucket) [
        | inl h ↦
            let same : n ≡ m = here (bucket_of buckets (get_or known n root_id) == bucket) (last_in known buckets bucket n) h.0 e in
            record { below = omega arith; own = subst (λ (k : ℕ). bucket_of buckets (get_or known k root_id) ≡ bucket) same h.1; after = λ k a b. absurd (omega arith) }
        | inr h ↦
            let before : IsLast n m = last_some n m (there (bucket_of buckets (get_or known n root_id) == bucket) (last_in known buckets bucket n) h.0 e) in
            record { below = omega (arith, before.below); own = before.own; after = λ k a b. elim (cases_lt k n) [ inl lt ↦ before.after k a lt | inr ge ↦ subst (λ (j : ℕ). bucket_of buckets (get_or known j root_id) ≢ bucket) (let same : n ≡ k = omega arith in same) h.1 ] }
      ]
    where
      here : (t : Bool) (o : Option ℕ) → t ≡ true → cond t (Some n) o ≡ Some m → n ≡ m
      here true o t e = cc
      here false o t e = absurd cc

      there : (t : Bool) (o : Option ℕ) → t ≡ false → cond t (Some n) o ≡ Some m → o ≡ Some m
      there true o t e = absurd cc
      there false o t e = e

  pub last_none : (n : ℕ) → last_in known buckets bucket n ≡ None → (k : ℕ) → k < n → bucket_of buckets (get_or known k root_id) ≢ bucket
  last_none zero e k lt = absurd (omega arith)
  last_none (suc n) e k lt =
      elim (eqb_tells (bucket_of buckets (get_or known n root_id)) bucket) [
        | inl h ↦ absurd (here (bucket_of buckets (get_or known n root_id) == bucket) (last_in known buckets bucket n) h.0 e)
        | inr h ↦ elim (cases_lt k n) [
          | inl l ↦ last_none n (there (bucket_of buckets (get_or known n root_id) == bucket) (last_in known buckets bucket n) h.0 e) k l
          | inr ge ↦ subst (λ (j : ℕ). bucket_of buckets (get_or known j root_id) ≢ bucket) (let same : n ≡ k = omega arith in same) h.1
        ]
      ]
    where
      here : (t : Bool) (o : Option ℕ) → t ≡ true → cond t (Some n) o ≡ None → ⊥
      here true o t e = cc
      here false o t e = cc

      there : (t : Bool) (o : Option ℕ) → t ≡ false → cond t (Some n) o ≡ None → o ≡ None
      there true o t e = absurd cc
      there false o t e = e

-- ---- looking for an id

-- how many ledgers may still come
abbrev pub left : Option ℕ → ℕ
left None = 0
left (Some place) = suc place

-- no ledger from n on has the id, and the next one that may is the last before n in its bucket
pub record Searches (ls : List Header) (buckets : ℕ) (id : LedgerId) (next : Option ℕ) : Type 0 where
  pub n : ℕ
  pub within : n ≤ length ls
  pub leads : next ≡ last_in (ids ls) buckets (bucket_of buckets id) n
  pub passed : (k : ℕ) → n ≤ k → k < length ls → same_id id (id_at ls k) ≡ false

module _ (ledgers : List Ledger) (table : List (Option ℕ)) (ok : IsIndexed ledgers table) where
  pub starts : (id : LedgerId) (next : Option ℕ) → next ≡ get_or table (bucket_of (length table) id) next → bucket_of (length table) id < length table → Searches (headers_of ledgers) (length table) id next
  starts id next e lt = record {
    n = length (headers_of ledgers);
    within = omega arith;
    leads = sym (read_any table (bucket_of (length table) id) next None lt e) ∙ ok.last (bucket_of (length table) id) lt ∙ ap (last_in (ids (headers_of ledgers)) (length table) (bucket_of (length table) id)) (sym (length-map ledgers (λ l. l.header)));
    passed = λ k a b. absurd (omega arith);
  }

  -- the ledger that comes next is known
  pub next_known : (id : LedgerId) (m : ℕ) → Searches (headers_of ledgers) (length table) id (Some m) → m < length ledgers
  next_known id m s = let last = last_some (ids (headers_of ledgers)) (length table) (bucket_of (length table) id) s.n m (sym s.leads) in omega (arith, last.below, s.within, length-map ledgers (λ l. l.header))

  -- its id is another, and the search goes on
  pub goes_on : (id : LedgerId) (m : ℕ) (l : Ledger) → Searches (headers_of ledgers) (length table) id (Some m) → slice_get ledgers m ≡ Some l → same_id l.id id ≡ false → Searches (headers_of ledgers) (length table) id l.before
  goes_on id m l s at other =
      let hs = headers_of ledgers in
      let last = last_some (ids hs) (length table) (bucket_of (length table) id) s.n m (sym s.leads) in
      let placed = ok.each m l at in
      let bucket : bucket_of (length table) l.id ≡ bucket_of (length table) id = ap (bucket_of (length table)) (sym placed.id) ∙ last.own in
      let own : same_id id (id_at hs m) ≡ false = differs_if id (id_at hs m) (λ e. let t : same_id l.id id ≡ true = same_self l.id id (sym placed.id ∙ sym e) in cc) in
      record {
        n = m;
        within = omega (arith, last.below, s.within);
        leads = placed.before ∙ ap (λ (b : ℕ). last_in (ids hs) (length table) b m) bucket;
        passed = λ k a b. elim (cases_lt k s.n) [
          | inl lt ↦ elim (cases_lt m k) [
            | inl after ↦ differs_if id (id_at hs k) (λ e. last.after k after lt (ap (bucket_of (length table)) (sym e)))
            | inr le ↦ subst (λ (j : ℕ). same_id id (id_at hs j) ≡ false) (let same : m ≡ k = omega arith in same) own
          ]
          | inr ge ↦ s.passed k ge b
        ];
      }

  pub falls : (id : LedgerId) (m : ℕ) (l : Ledger) → slice_get ledgers m ≡ Some l → left l.before < suc m
  falls id m l at = by_cases l.before (ok.each m l at).before
    where
      by_cases : (o : Option ℕ) → o ≡ last_in (ids (headers_of ledgers)) (length table) (bucket_of (length table) l.id) m → left o < suc m
      by_cases None e = omega arith
      by_cases (Some k) e = let last = last_some (ids (headers_of ledgers)) (length table) (bucket_of (length table) l.id) m k (sym e) in omega (arith, last.below)

  pub is_found : (id : LedgerId) (m : ℕ) (l : Ledger) → slice_get ledgers m ≡ Some l → m < length ledgers → same_id l.id id ≡ true → Some m ≡ place_of (headers_of ledgers) id
  is_found id m l at lt same =
      let hs = headers_of ledgers in
      let own : id_at hs m ≡ id = (ok.each m l at).id ∙ same_is l.id id same in
      let within : m < length hs = omega (arith, length-map ledgers (λ l. l.header)) in
      sym (position_is (same_id id) (ids hs) m root_id (omega (arith, length-ids hs)) (same_self id (id_at hs m) (sym own))
      (λ k l. ap (λ (x : LedgerId). same_id x (id_at hs k)) (sym own) ∙ earlier_differs hs ok.known k m l within))

  pub is_nowhere : (id : LedgerId) → Searches (headers_of ledgers) (length table) id None → None ≡ place_of (headers_of ledgers) id
  is_nowhere id s =
      let hs = headers_of ledgers in
      let none = last_none (ids hs) (length table) (bucket_of (length table) id) s.n (sym s.leads) in
      sym (position_none (same_id id) (ids hs) root_id (λ k lt. elim (cases_lt k s.n) [
        | inl l ↦ differs_if id (id_at hs k) (λ e. none k l (ap (bucket_of (length table)) (sym e)))
        | inr ge ↦ s.passed k ge (omega (arith, length-ids hs))
      ]))

  -- the ledger that comes next, as it was read
  pub record Comes (id : LedgerId) (m : ℕ) (l : Ledger) : Type 0 where
    pub searches : Searches (headers_of ledgers) (length table) id (Some m)
    pub within : m < length ledgers
    pub stands : slice_get ledgers m ≡ Some l

  pub comes : (id : LedgerId) (next : Option ℕ) (m i : ℕ) (l : Ledger) → Searches (headers_of ledgers) (length table) id next → next ≡ Some m → i ≡ m → l ≡ get_or ledgers i l → Comes id m l
  comes id next m i l s e same read =
      let searches = subst (Searches (headers_of ledgers) (length table) id) e s in
      let within = next_known id m searches in
      record { searches = searches; within = within; stands = slice_get_read ledgers (length ledgers) m l refl within (read ∙ ap (λ (j : ℕ). get_or ledgers j l) same) }
