-- What a registry finds is a known ledger, and what it adds is the newest one.
use Rattle.std.proofs.Common.{◌≡◌, ℕ, ◌<◌, List, [], ◌∷◌, ◌++◌, length, Option, Some, None, refl, sym, subst, arith}
use Rattle.std.specs.Prelude.{Ok, IfSome}
use Rattle.std.proofs.lemmas.List.{length-append, take_at}
use Rattle.std.proofs.lemmas.List.Quantifiers.{position-Some}
use Rattle.xl_base.specs.declared.ids.LedgerId.{LedgerId}
use Rattle.xl_ledger.specs.declared.header.Header.{Header}
use Rattle.xl_ledger.specs.declared.refusal.AddRefusal.{AddRefusal}
use Rattle.xl_base.specs.Ids.{same_id}
use Rattle.xl_ledger.specs.Chains.{ids, root_id, place_of, Joins, AreLedgers}
use Rattle.xl_base.specs.Refusals.{unless_refused}
use Rattle.xl_ledger.proofs.ChainLaws.{length-ids}
use Rattle.xl_ledger.proofs.Growing.{AreLedgers-more}
use Rattle.xl_validations.specs.Tallies.{IsNewest}

pub place_known : (ls : List Header) (id : LedgerId) (o : Option ℕ) → o ≡ place_of ls id → IfSome o (λ l. l < length ls)
place_known ls id None e = tt
place_known ls id (Some place) e = let at = position-Some (same_id id) (ids ls) place root_id (sym e) in omega (arith, at.0, length-ids ls)

-- if it is added, its place is the one that is told
pub place_added : (o : Option AddRefusal) (n place : ℕ) → Ok place ≡ unless_refused o n → place ≡ n
place_added None n place e = cc
place_added (Some refusal) n place e = absurd cc

pub newest_added : (ls : List Header) (h : Header) → AreLedgers ls → Joins ls h → IsNewest (ls ++ h ∷ []) (length ls)
newest_added ls h ok joins = record {
  added = ok.some;
  last = length-append ls (h ∷ []);
  are = AreLedgers-more ls ok h joins;
  known = subst AreLedgers (sym (take_at ls (h ∷ []) (length ls) refl)) ok;
}
