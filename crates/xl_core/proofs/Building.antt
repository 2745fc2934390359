-- Adding a built ledger: only room can lack, since it follows a known one.
use Rattle.std.proofs.Common.{◌≡◌, ℕ, ◌+◌, ◌<◌, Bool, true, false, cond, [], ◌∷◌, length, refl, sym, ap, subst, ◌∙◌, arith, Option, Some, None, Ok, Err, length-append}
use Rattle.std.specs.Prelude.{◌==◌, not, nat_le, is_some, unwrap_or}
use Rattle.std.proofs.lemmas.Bool.{eq-eqb}
use Rattle.xl_base.specs.declared.ids.LedgerId.{LedgerId}
use Rattle.xl_ledger.specs.declared.header.Header.{Header}
use Rattle.xl_ledger.specs.declared.refusal.AddRefusal.{AddRefusal}
use Rattle.xl_ledger.specs.declared.refusal.AddRefusal.TheVariants.{Known, Orphan, WrongSeq, Full}
use Rattle.xl_ledger.specs.Chains.{AreLedgers, id_at, seq_at, place_of}
use Rattle.xl_ledger.specs.Headers.{header_id}
use Rattle.xl_base.specs.Refusals.{refused_if, first_of, unless_refused}
use Rattle.xl_ledger.specs.Registries.{Ledgers, with_header, add_refusal, parent_seq}
use Rattle.xl_validations.proofs.Naming.{found}
use Rattle.xl_validations.proofs.Knowing.{place_added}
use Rattle.xl_core.specs.Building.{Knowing, knowing_of, knowing_at}
use Rattle.xl_core.specs.Node.{Node, next_header}
use Rattle.xl_core.specs.TimerParts.{IsKnown}

-- a header follows a known ledger
pub record Follows (r : Ledgers) (previous : ℕ) (h : Header) : Type 0 where
  pub are : AreLedgers r.headers
  pub known : previous < length r.headers
  pub parent : h.parent ≡ id_at r.headers previous
  pub next : h.seq ≡ seq_at r.headers previous + 1

-- the causes except for room don't hold
only_room : (l : ℕ) (a b c d : Bool) (x y : LedgerId) (m n : ℕ) → a ≡ false → b ≡ true → c ≡ true →
    first_of (refused_if a (Known x) ∷ refused_if (not b) (Orphan y) ∷ refused_if (not c) (WrongSeq m n) ∷ refused_if d (Full l) ∷ []) ≡ refused_if d (Full l)
only_room l a b c true x y m n ea eb ec = rw (ea, eb, ec) refl
only_room l a b c false x y m n ea eb ec = rw (ea, eb, ec) refl

refusal_is : (r : Ledgers) (previous : ℕ) (h : Header) → Follows r previous h → place_of r.headers (header_id h) ≡ None → add_refusal r h ≡ refused_if (nat_le r.limit (length r.headers)) (Full r.limit)
refusal_is r previous h f fresh =
    let at : place_of r.headers h.parent ≡ Some previous = ap (place_of r.headers) f.parent ∙ found r.headers f.are previous f.known in
    let before : parent_seq r.headers h ≡ seq_at r.headers previous = ap (λ (o : Option ℕ). seq_at r.headers (unwrap_or o 0)) at in
    only_room r.limit (is_some (place_of r.headers (header_id h))) (is_some (place_of r.headers h.parent)) (h.seq == parent_seq r.headers h + 1) (nat_le r.limit (length r.headers))
    (header_id h) h.parent (parent_seq r.headers h) h.seq (ap is_some fresh) (ap is_some at) (eq-eqb h.seq (parent_seq r.headers h + 1) (f.next ∙ ap (λ (n : ℕ). n + 1) (sym before)))

-- it is refused exactly if there is no room
none_by : (r : Ledgers) (b : Bool) (why : AddRefusal) (k : Knowing) → Err why ≡ unless_refused (refused_if b (Full r.limit)) (length r.headers) → cond b None (Some k) ≡ None
none_by r true why k e = refl
none_by r false why k e = cc

some_by : (r : Ledgers) (h : Header) (b : Bool) (place : ℕ) → Ok place ≡ unless_refused (refused_if b (Full r.limit)) (length r.headers) →
    cond b None (let k : Knowing = record { ledgers = with_header r h; place = length r.headers } in Some k) ≡ (let k : Knowing = record { ledgers = with_header r h; place = place } in Some k)
some_by r h true place e = cc
some_by r h false place e = ap (λ (n : ℕ). let k : Knowing = record { ledgers = with_header r h; place = n } in Some k) (sym (place_added None (length r.headers) place e))

pub no_room : (r : Ledgers) (previous : ℕ) (h : Header) (why : AddRefusal) → Follows r previous h → place_of r.headers (header_id h) ≡ None → Err why ≡ unless_refused (add_refusal r h) (length r.headers) → knowing_of r h ≡ None
no_room r previous h why f fresh e =
    ap (knowing_at r h) fresh ∙ none_by r (nat_le r.limit (length r.headers)) why (record { ledgers = with_header r h; place = length r.headers })
    (e ∙ ap (λ (o : Option AddRefusal). unless_refused o (length r.headers)) (refusal_is r previous h f fresh))

pub added : (r new : Ledgers) (previous : ℕ) (h : Header) (place : ℕ) → Follows r previous h → place_of r.headers (header_id h) ≡ None → Ok place ≡ unless_refused (add_refusal r h) (length r.headers) → new ≡ with_header r h →
    knowing_of r h ≡ (let k : Knowing = record { ledgers = new; place = place } in Some k)
added r new previous h place f fresh e is =
    ap (knowing_at r h) fresh ∙ some_by r h (nat_le r.limit (length r.headers)) place (e ∙ ap (λ (o : Option AddRefusal). unless_refused o (length r.headers)) (refusal_is r previous h f fresh))
    ∙ ap (λ (l : Ledgers). let k : Knowing = record { ledgers = l; place = place } in Some k) (sym is)

-- a built header follows the round's ledger
pub follows_by : (n m : Node) (h : Header) → n ≡ m → AreLedgers n.ledgers.headers → n.round.setting.previous < length n.ledgers.headers → h ≡ next_header m → Follows m.ledgers m.round.setting.previous h
follows_by n m h same are within is = record {
  are = subst (λ (x : Node). AreLedgers x.ledgers.headers) same are;
  known = subst (λ (x : Node). x.round.setting.previous < length x.ledgers.headers) same within;
  parent = ap (λ (x : Header). x.parent) is;
  next = ap (λ (x : Header). x.seq) is;
}

pub fresh_by : (n m : Node) (h : Header) (id : LedgerId) (o : Option ℕ) → n ≡ m → id ≡ header_id h → o ≡ place_of n.ledgers.headers id → o ≡ None → place_of m.ledgers.headers (header_id h) ≡ None
fresh_by n m h id o same is found none = ap (λ (x : Node). place_of x.ledgers.headers (header_id h)) (sym same) ∙ ap (place_of n.ledgers.headers) (sym is) ∙ sym found ∙ none

-- so it is known to the node
pub known_then : (n m : Node) (previous : ℕ) (h : Header) (place : ℕ) → Follows n.ledgers previous h → place_of n.ledgers.headers (header_id h) ≡ None → Ok place ≡ unless_refused (add_refusal n.ledgers h) (length n.ledgers.headers) →
    m ≡ record n { ledgers = with_header n.ledgers h } → IsKnown n m h place
known_then n m previous h place f fresh e is = record {
  knowing = added n.ledgers m.ledgers previous h place f fresh e (ap (λ (x : Node). x.ledgers) is);
  rest = is ∙ ap (λ (l : Ledgers). let x : Node = record n { ledgers = l } in x) (sym (ap (λ (x : Node). x.ledgers) is));
  within = omega (arith, place_added (add_refusal n.ledgers h) (length n.ledgers.headers) place e, ap (λ (x : Node). length x.ledgers.headers) is, length-append n.ledgers.headers (h ∷ []));
}
