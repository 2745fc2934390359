-- What is written behind the last journal, in its parts.
use Rattle.std.proofs.Common.{◌≡◌, ℕ, ◌++◌, ◌∙◌, List, ap, Result, Ok, Err}
use Rattle.std.specs.Prelude.{IfOk, OnOk}
use Rattle.std.proofs.lemmas.List.{append_assoc}
use Rattle.xl_lines.specs.Rules.{Told, closes}
use Rattle.xl_lines.specs.declared.machine.Verdict.{Verdict}

-- three texts behind the first, and one more
pub parts_joined : (text a b c f t h last : List ℕ) → a ≡ text ++ f → b ≡ a ++ t → c ≡ b ++ h
    → c ++ last ≡ text ++ (f ++ t ++ h ++ last)
parts_joined text a b c f t h last first second third =
    let two : b ≡ text ++ (f ++ t) = second ∙ (ap (λ xs. xs ++ t) first ∙ append_assoc text f t) in
    let three : c ≡ text ++ (f ++ t ++ h) = third ∙ (ap (λ xs. xs ++ h) two ∙ append_assoc text (f ++ t) h) in
    ap (λ xs. xs ++ last) three ∙ append_assoc text (f ++ t ++ h) last

-- a text and a verdict, behind what stood there
pub closes_so : {E : Type 0} (r : Result Verdict E) (text old front summary : List ℕ) (verdict : Verdict)
    → OnOk r (text ≡ old ++ summary) → IfOk r (λ v. v ≡ verdict) → old ≡ front
    → IfOk r (λ v. closes text v ≡ closes (front ++ summary) verdict)
closes_so (Err why) text old front summary verdict texts verdicts same = tt
closes_so (Ok v) text old front summary verdict texts verdicts same =
    ap (λ xs. (let t : Told = closes xs v in t)) (texts ∙ ap (λ xs. xs ++ summary) same) ∙ ap (closes (front ++ summary)) verdicts
