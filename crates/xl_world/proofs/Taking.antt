-- The report that arose is the one that is handed out.
use Rattle.std.proofs.Common.{◌≡◌, ℕ, ◌≤◌, List, [], ◌∷◌, ◌++◌, length, get_or, take, drop, refl, arith, ap, Option, Some, None}
use Rattle.std.specs.Prelude.{option_to_list}
use Rattle.xl_queues.specs.Queues.{Backlog, with_item}
use Rattle.xl_core.specs.declared.refusal.Refusal.{Refusal}
use Rattle.xl_core.specs.declared.report.Report.{Report}
use Rattle.xl_core.specs.Answers.{Answer, Refused, Done}
use Rattle.xl_core.specs.Queues.{with_report}

pub one_taken : (items room old : List Report) (written : ℕ) (d : Report) → length items ≤ 1 → written ≡ length (take 1 items) → (written ≡ 0 → ⊥) → room ≡ take 1 items ++ drop written old → get_or room 0 d ∷ [] ≡ items
one_taken [] room old written d few is some given = absurd (some is)
one_taken (x ∷ []) room old written d few is some given = ap (λ (xs : List Report). get_or xs 0 d ∷ []) given
one_taken (x ∷ y ∷ xs) room old written d few is some given = absurd (omega (arith, few))

pub untaken_is : (q : Backlog Report) (o : Option Report) → q.items ≡ [] → (with_report q o).items ≡ option_to_list o
untaken_is q None none = none
untaken_is q (Some report) none = ap (λ (xs : List Report). let x : Backlog Report = with_item 1024 (record { items = xs; lost = 0 }) report in x.items) none

pub few_reports : (o : Option Report) → length (option_to_list o) ≤ 1
few_reports None = omega arith
few_reports (Some r) = omega arith

pub same_option : (a b : Option Report) → option_to_list a ≡ option_to_list b → a ≡ b
same_option None None e = refl
same_option None (Some y) e = cc
same_option (Some x) None e = cc
same_option (Some x) (Some y) e = ap (λ (z : Report). Some z) (ap (λ (xs : List Report). get_or xs 0 x) e)

differ : (why : Refusal) → (let a : Answer = Refused why in a) ≡ Done → ⊥
differ why e = cc
