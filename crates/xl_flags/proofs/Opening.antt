-- What is kept of no votes and no reports.
use Rattle.std.proofs.Common.{◌≡◌, ℕ, zero, suc, ◌-◌, ◌<◌, List, [], None, map, get_or, replicate, refl, sym, ap, subst, ◌∙◌, arith}
use Rattle.std.specs.Prelude.{All}
use Rattle.std.proofs.lemmas.List.{length-replicate}
use Rattle.std.proofs.lemmas.List.Elements.{All-nil}
use Rattle.xl_flags.specs.declared.amendment.Amendment.{Amendment}
use Rattle.xl_flags.specs.Kept.{IsRow, IsLater, Remembers, nothing_yet}

always : {X : Type 0} (n k : ℕ) (x d : X) → k < n → get_or (replicate n x) k d ≡ x
always zero k x d lt = absurd (omega arith)
always (suc n) zero x d lt = refl
always (suc n) (suc k) x d lt = always n k x d (omega arith)

pub remembers_nothing : (rows : List Amendment) (n : ℕ) → rows ≡ [] → n ≡ 64 →
    Remembers (record { amendments = rows; votes = replicate n None; fees = replicate n 10 }) nothing_yet
remembers_nothing rows n none full = record {
  named = ap (map (λ row. row.id)) none;
  rows = subst (All (IsRow nothing_yet)) (sym none) (All-nil (IsRow nothing_yet));
  votes = λ m low high. always n (m - 1) None None (omega (arith, full, low, high));
  fees = λ i low high. always n (i - 1) 10 0 (omega (arith, full, low, high));
  fees_long = length-replicate n 10 ∙ full;
  votes_long = length-replicate n None ∙ full;
  later = All-nil (IsLater []);
}
