-- What is stored of the ledgers stays right, from the root alone on and as a header is added.
use Rattle.std.proofs.Common.{◌≡◌, ℕ, zero, suc, ◌<◌, ◌≤◌, ◌==◌, Bool, true, false, cond, List, [], ◌∷◌, ◌++◌, length, get_or, set, replicate, Option, Some, None, slice_get, refl, sym, ap, subst, ◌∙◌, arith, inl, inr}
use Rattle.std.proofs.lemmas.Bool.{cases_lt}
use Rattle.std.proofs.lemmas.Bool.Decides.{eqb_tells}
use Rattle.std.proofs.lemmas.List.{length-append, length-map, map_push, length-set, length-replicate, get_or-map, get_or-set_same, get_or-set_other, get_or-replicate}
use Rattle.std.proofs.lemmas.Option.{slice_get_within, slice_get_read}
use Rattle.xl_base.specs.declared.ids.LedgerId.{LedgerId}
use Rattle.xl_ledger.specs.declared.header.Header.{Header}
use Rattle.xl_ledger.specs.declared.ledger.Ledger.{Ledger}
use Rattle.xl_ledger.specs.Headers.{header_id}
use Rattle.xl_ledger.specs.Chains.{root_id, root_header, ids, id_at, seq_at, place_of, Joins, AreLedgers}
use Rattle.xl_ledger.specs.Limits.{levels}
use Rattle.xl_ledger.specs.Jumps.{AreJumps, AreJumpsBelow}
use Rattle.xl_ledger.specs.Tables.{bucket_of, last_in, headers_of, IsPlaced, IsIndexed, IsSound}
use Rattle.xl_ledger.proofs.Places.{slice_get-front, slice_get-seam}
use Rattle.xl_ledger.proofs.ChainLaws.{unless}
use Rattle.xl_ledger.proofs.Ancestors.{seq_le}
use Rattle.xl_ledger.proofs.TableLaws.{read_any}
use Rattle.xl_ledger.proofs.Growing.{id_at-more, id_at-new, AreLedgers-more}
use Rattle.xl_ledger.proofs.Jumping.{jumps_of_root, jumps-more, jumps-new}

when : {X : Type 0} (b : Bool) (x y : X) → b ≡ true → cond b x y ≡ x
when true x y e = refl
when false x y e = absurd cc

-- ---- buckets, as an id comes

last_in-same : (known more : List LedgerId) (buckets bucket n : ℕ) → ((k : ℕ) → k < n → get_or more k root_id ≡ get_or known k root_id) → last_in more buckets bucket n ≡ last_in known buckets bucket n
last_in-same known more buckets bucket zero same = refl
last_in-same known more buckets bucket (suc n) same =
    ap (λ (id : LedgerId). cond (bucket_of buckets id == bucket) (Some n) (last_in more buckets bucket n)) (same n (omega arith))
    ∙ ap (λ (o : Option ℕ). cond (bucket_of buckets (get_or known n root_id) == bucket) (Some n) o) (last_in-same known more buckets bucket n (λ k lt. same k (omega arith)))

-- a bucket after the one of the newest ledger was written
written : (table : List (Option ℕ)) (own bucket n : ℕ) (rest : Option ℕ) → own < length table → get_or table bucket None ≡ rest → get_or (set table own (Some n)) bucket None ≡ cond (own == bucket) (Some n) rest
written table own bucket n rest lt e =
    elim (eqb_tells own bucket) [
      | inl h ↦ subst (λ (b : ℕ). get_or (set table own (Some n)) b None ≡ Some n) h.1 (get_or-set_same table own (Some n) None lt) ∙ sym (when (own == bucket) (Some n) rest h.0)
      | inr h ↦ get_or-set_other table own bucket (Some n) None (λ same. h.1 (sym same)) ∙ e ∙ sym (unless (own == bucket) (Some n) rest h.0)
    ]

-- ---- the root alone

pub root_known : AreLedgers (root_header ∷ [])
root_known = record { some = omega arith; root = refl; each = λ place some within. absurd (omega arith) }

pub root_indexed : (l : Ledger) (limit bucket : ℕ) → 0 < limit → l.header ≡ root_header → l.id ≡ root_id → l.jumps ≡ replicate levels 0 → l.before ≡ None → bucket ≡ bucket_of limit l.id → bucket < limit
    → IsIndexed (l ∷ []) (set (replicate limit None) bucket (Some 0))
root_indexed l limit bucket some header id jumps before at lt =
    let table : List (Option ℕ) = replicate limit None in
    let long : length (set table bucket (Some 0)) ≡ limit = length-set table bucket (Some 0) ∙ length-replicate limit None in
    let alone : headers_of (l ∷ []) ≡ root_header ∷ [] = ap (λ (h : Header). h ∷ []) header in
    record {
      known = subst (λ (hs : List Header). AreLedgers hs) (sym alone) root_known;
      some = omega arith;
      each = λ place e found. only place e found;
      last = λ b within. written table bucket b 0 None (omega (arith, length-replicate {A = Option ℕ} limit None)) (get_or-replicate limit b None None (omega arith))
          ∙ ap (λ (x : ℕ). cond (x == b) (Some 0) None) (at ∙ ap (bucket_of limit) id)
          ∙ ap (λ (n : ℕ). last_in (root_id ∷ []) n b 1) (sym long);
    }
  where
    only : (place : ℕ) (e : Ledger) → slice_get (l ∷ []) place ≡ Some e → IsPlaced (headers_of (l ∷ [])) (length {A = Option ℕ} (set (replicate limit None) bucket (Some 0))) place e
    only zero e found =
        let same : l ≡ e = cc in
        subst (λ (x : Ledger). IsPlaced (headers_of (l ∷ [])) (length {A = Option ℕ} (set (replicate limit None) bucket (Some 0))) 0 x) same (record { id = sym id; jumps = jumps_of_root (headers_of (l ∷ [])) (subst (λ (hs : List Header). AreLedgers hs) (sym (ap (λ (h : Header). h ∷ []) header)) root_known) l.jumps jumps; before = before })
    only (suc place) e found = absurd cc

-- ---- a header is added

-- a ledger as it is stored
abbrev pub stored : Header → LedgerId → List ℕ → Option ℕ → Ledger
stored h id jumps before = record { header = h; id = id; jumps = jumps; before = before }

module _ (ledgers : List Ledger) (table : List (Option ℕ)) (ok : IsIndexed ledgers table) (h : Header) (parent bucket : ℕ) (id : LedgerId) (jumps : List ℕ) (joins : Joins (headers_of ledgers) h) where
  pub added_indexed : id ≡ header_id h → place_of (headers_of ledgers) h.parent ≡ Some parent → AreJumpsBelow (headers_of ledgers) parent jumps → bucket ≡ bucket_of (length table) id → bucket < length table
      → IsIndexed (ledgers ++ stored h id jumps (get_or table bucket None) ∷ []) (set table bucket (Some (length ledgers)))
  added_indexed own follows below at lt =
      let hs = headers_of ledgers in
      let new = stored h id jumps (get_or table bucket None) in
      let n = length ledgers in
      let count : length hs ≡ n = length-map ledgers (λ l. l.header) in
      let size : length (set table bucket (Some n)) ≡ length table = length-set table bucket (Some n) in
      let more : headers_of (ledgers ++ new ∷ []) ≡ hs ++ h ∷ [] = map_push (λ (l : Ledger). l.header) ledgers new in
      let same_ids : (k : ℕ) → k < length hs → id_at (hs ++ h ∷ []) k ≡ id_at hs k = λ k l. id_at-more hs h ok.known.some k l in
      let is_new : id_at (hs ++ h ∷ []) (length hs) ≡ id = id_at-new hs h ok.known.some ∙ sym own in
      let lasts : (b k : ℕ) → k ≤ length hs → last_in (ids (hs ++ h ∷ [])) (length table) b k ≡ last_in (ids hs) (length table) b k =
      λ b k le. last_in-same (ids hs) (ids (hs ++ h ∷ [])) (length table) b k (λ j l. same_ids j (omega arith)) in
      let old : (place : ℕ) (e : Ledger) → place < n → slice_get ledgers place ≡ Some e → IsPlaced (hs ++ h ∷ []) (length table) place e =
      λ place e within found. let placed = ok.each place e found in record {
        id = same_ids place (omega arith) ∙ placed.id;
        jumps = jumps-more hs ok.known h place e.jumps (omega arith) placed.jumps;
        before = placed.before ∙ sym (lasts (bucket_of (length table) e.id) place (omega arith));
      } in
      let newest : IsPlaced (hs ++ h ∷ []) (length table) n new = record {
        id = ap (id_at (hs ++ h ∷ [])) (sym count) ∙ is_new;
        jumps = subst (λ (k : ℕ). AreJumps (hs ++ h ∷ []) k jumps) count (jumps-new hs ok.known h parent jumps joins follows below);
        before = ok.last bucket lt ∙ ap (λ (k : ℕ). last_in (ids hs) (length table) bucket k) (sym count) ∙ sym (lasts bucket (length hs) (omega arith))
            ∙ ap (λ (k : ℕ). last_in (ids (hs ++ h ∷ [])) (length table) bucket k) count ∙ ap (λ (b : ℕ). last_in (ids (hs ++ h ∷ [])) (length table) b n) at;
      } in
      let each : (place : ℕ) (e : Ledger) → slice_get (ledgers ++ new ∷ []) place ≡ Some e → IsPlaced (hs ++ h ∷ []) (length table) place e =
      λ place e found. elim (cases_lt place n) [
        | inl within ↦ old place e within (sym (slice_get-front ledgers (new ∷ []) place within) ∙ found)
        | inr ge ↦
            let last : n ≡ place = omega (arith, slice_get_within (ledgers ++ new ∷ []) place e found, length-append ledgers (new ∷ [])) in
            let is : new ≡ e = some_is new e (sym (slice_get-seam ledgers new place (sym last)) ∙ found) in
            subst (λ (k : ℕ). IsPlaced (hs ++ h ∷ []) (length table) k e) last (subst (λ (x : Ledger). IsPlaced (hs ++ h ∷ []) (length table) n x) is newest)
      ] in
      let lead : (b : ℕ) → b < length table → get_or (set table bucket (Some n)) b None ≡ last_in (ids (hs ++ h ∷ [])) (length table) b (suc n) =
      λ b within. written table bucket b n (last_in (ids hs) (length table) b n) lt (ok.last b within)
      ∙ ap (λ (x : ℕ). cond (x == b) (Some n) (last_in (ids hs) (length table) b n)) (at ∙ ap (bucket_of (length table)) (sym (ap (id_at (hs ++ h ∷ [])) (sym count) ∙ is_new)))
      ∙ ap (λ (o : Option ℕ). cond (bucket_of (length table) (id_at (hs ++ h ∷ []) n) == b) (Some n) o) (sym (lasts b n (omega arith))) in
      let total : length (ledgers ++ new ∷ []) ≡ suc n = omega (arith, length-append ledgers (new ∷ [])) in
      record {
        known = subst (λ (x : List Header). AreLedgers x) (sym more) (AreLedgers-more hs ok.known h joins);
        some = omega (arith, ok.some);
        each = λ place e found. subst (λ (x : List Header). IsPlaced x (length (set table bucket (Some n))) place e) (sym more) (subst (λ (k : ℕ). IsPlaced (hs ++ h ∷ []) k place e) (sym size) (each place e found));
        last = λ b within. lead b (omega arith) ∙ ap (λ (k : ℕ). last_in (ids (hs ++ h ∷ [])) k b (suc n)) (sym size)
            ∙ ap (λ (k : ℕ). last_in (ids (hs ++ h ∷ [])) (length (set table bucket (Some n))) b k) (sym total)
            ∙ ap (λ (x : List Header). last_in (ids x) (length (set table bucket (Some n))) b (length (ledgers ++ new ∷ []))) (sym more);
      }
    where
      some_is : (a b : Ledger) → Some a ≡ Some b → a ≡ b
      some_is a b e = cc

-- ---- what is read of a ledger

pub read_placed : (ledgers : List Ledger) (table : List (Option ℕ)) (place i : ℕ) (l : Ledger) → IsIndexed ledgers table → place < length (headers_of ledgers) → i ≡ place → l ≡ get_or ledgers i l → IsPlaced (headers_of ledgers) (length table) place l
read_placed ledgers table place i l ok lt same read =
    ok.each place l (slice_get_read ledgers (length ledgers) place l refl (omega (arith, length-map ledgers (λ l. l.header))) (read ∙ ap (λ (j : ℕ). get_or ledgers j l) same))

-- no sequence reaches the greatest limit
pub read_below : (ledgers : List Ledger) (table : List (Option ℕ)) (place i limit capacity : ℕ) (l : Ledger) → IsSound ledgers table limit capacity → place < length (headers_of ledgers) → i ≡ place → l ≡ get_or ledgers i l → l.header.seq < 262144
read_below ledgers table place i limit capacity l sound lt same read =
    let hs = headers_of ledgers in
    let count : length hs ≡ length ledgers = length-map ledgers (λ l. l.header) in
    let own : seq_at hs place ≡ l.header.seq = ap (λ (x : Header). x.seq) (get_or-map (λ (l : Ledger). l.header) ledgers place l root_header (omega (arith, count)) ∙ ap (λ (x : Ledger). x.header) (sym (read ∙ ap (λ (j : ℕ). get_or ledgers j l) same))) in
    omega (arith, seq_le hs sound.indexed.known place lt, sound.room.within, sound.room.most)

-- the root is put into an empty registry
pub rooted : (l : Ledger) (front items : List Ledger) (table : List (Option ℕ)) (size bucket first : ℕ) → 0 < length table → table ≡ replicate (length table) None → items ≡ front ++ l ∷ [] → front ≡ [] → size ≡ length table
    → l.header ≡ root_header → l.id ≡ root_id → l.jumps ≡ replicate levels 0 → l.before ≡ None → bucket ≡ bucket_of size l.id → bucket < size → first ≡ 0 → IsIndexed items (set table bucket (Some first))
rooted l front items table size bucket first some unused items_are front_is size_is header id jumps before at lt first_is =
    let n = length table in
    let alone : items ≡ l ∷ [] = items_are ∙ ap (λ (x : List Ledger). x ++ l ∷ []) front_is in
    let indexed : IsIndexed (l ∷ []) (set (replicate n None) bucket (Some 0)) = root_indexed l n bucket some header id jumps before (at ∙ ap (λ (k : ℕ). bucket_of k l.id) size_is) (omega arith) in
    let tabled : set table bucket (Some first) ≡ set (replicate n None) bucket (Some 0) = ap (λ (x : List (Option ℕ)). set x bucket (Some first)) unused ∙ ap (λ (k : ℕ). set (replicate n None) bucket (Some k)) first_is in
    subst (λ (x : List Ledger). IsIndexed x (set table bucket (Some first))) (sym alone) (subst (λ (x : List (Option ℕ)). IsIndexed (l ∷ []) x) (sym tabled) indexed)

-- the ledgers as they are stored after a push
module _ (ledgers items : List Ledger) (table : List (Option ℕ)) (limit old capacity : ℕ) (sound : IsSound ledgers table limit old) where
  pub pushed : (h : Header) (id : LedgerId) (parent size bucket place : ℕ) (jumps : List ℕ) (before : Option ℕ) → old ≤ capacity → items ≡ ledgers ++ stored h id jumps before ∷ []
      → id ≡ header_id h → Joins (headers_of ledgers) h → place_of (headers_of ledgers) h.parent ≡ Some parent → AreJumpsBelow (headers_of ledgers) parent jumps → length ledgers < limit
      → size ≡ length table → bucket ≡ bucket_of size id → bucket < size → before ≡ get_or table bucket before → place ≡ length ledgers
      → IsSound items (set table bucket (Some place)) limit capacity
  pushed h id parent size bucket place jumps before kept items_are own joins follows below room size_is at lt read place_is =
      let within : bucket < length table = omega arith in
      let led : get_or table bucket None ≡ before = read_any table bucket before None within read in
      let indexed = added_indexed ledgers table sound.indexed h parent bucket id jumps joins own follows below (at ∙ ap (λ (n : ℕ). bucket_of n id) size_is) within in
      let same : ledgers ++ stored h id jumps (get_or table bucket None) ∷ [] ≡ items = ap (λ (o : Option ℕ). ledgers ++ stored h id jumps o ∷ []) led ∙ sym items_are in
      record {
        indexed = subst (λ (x : List Ledger). IsIndexed x (set table bucket (Some place))) same (subst (λ (n : ℕ). IsIndexed (ledgers ++ stored h id jumps (get_or table bucket None) ∷ []) (set table bucket (Some n))) (sym place_is) indexed);
        room = record { least = sound.room.least; most = sound.room.most; within = omega (arith, ap length items_are, length-append ledgers (stored h id jumps before ∷ [])); reserved = omega (arith, sound.room.reserved) };
      }
