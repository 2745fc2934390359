-- No line that is written has a newline in it, so the text is cut into these lines again.
use Rattle.std.proofs.Common.{◌≡◌, ℕ, zero, suc, ◌≤◌, ◌⊎◌, inl, inr, Bool, true, false, List, [], ◌∷◌, length, take, refl, ap, ◌∙◌, arith, append_assoc}
use Rattle.std.specs.Prelude.{◌==◌, ◌-◌, All, Contains, map, slice_index}
use Rattle.std.specs.List.{list_any}
use Rattle.std.proofs.lemmas.Bool.{cond_both, or_from, or_parts}
use Rattle.std.proofs.lemmas.Bool.Decides.{nat_tests}
use Rattle.std.proofs.lemmas.List.Elements.{All-cons, All-head, All-nil, All-tail, All-weaker}
use Rattle.std.proofs.lemmas.List.Folds.{list_any_none}
use Rattle.xl_lines.specs.Lines.{Line as InputLine, content, lines_of, onto, without_return}
use Rattle.xl_lines.proofs.Cutting.{lines_of-ended}
use Rattle.xl_lines.proofs.Newlines.{IsOneLine}
use Rattle.xl_running.specs.Running.{limits}
use Rattle.xl_negative.specs.Laws.{ended_line, texts}
use Rattle.xl_negative.specs.Writing.{copied}

-- ---- what an input is cut into

one_front : (n : ℕ) (bytes : List ℕ) → IsOneLine bytes → IsOneLine (take n bytes)
one_front zero bytes one = refl
one_front (suc n) [] one = refl
one_front (suc n) (b ∷ bs) one =
    let parts = or_parts (b == 10) (list_any (λ byte. byte == 10) bs) one in
    or_from (b == 10) (list_any (λ byte. byte == 10) (take n bs)) parts.0 (one_front n bs parts.1)

one_unreturned : (bytes : List ℕ) → IsOneLine bytes → IsOneLine (without_return bytes)
one_unreturned bytes one =
    cond_both (slice_index bytes (length bytes - 1) == 13) (take (length bytes - 1) bytes) bytes IsOneLine (λ _. one_front (length bytes - 1) bytes one) (λ _. one)

pub one_content : (l : InputLine) → IsOneLine l.bytes → IsOneLine (content limits.returns l)
one_content l one = cond_both l.ended (without_return l.bytes) l.bytes IsOneLine (λ _. one_unreturned l.bytes one) (λ _. one)

-- ---- as what it is written

pub one_copied : (bytes : List ℕ) (ended : Bool) → IsOneLine bytes → IsOneLine (copied bytes ended)
one_copied bytes ended one = cond_both ended bytes (without_return bytes) IsOneLine (λ _. one) (λ _. one_unreturned bytes one)

abbrev IsOne : InputLine → Type 0
IsOne l = IsOneLine l.bytes

onto_one : (b : ℕ) (ls : List InputLine) → (b == 10) ≡ false → All IsOne ls → All IsOne (onto b ls)
onto_one b [] other all = All-cons IsOne (record { bytes = b ∷ []; ended = false }) [] (or_from (b == 10) false other refl) (All-nil IsOne)
onto_one b (l ∷ ls) other all =
    All-cons IsOne (record { bytes = b ∷ l.bytes; ended = l.ended }) ls (or_from (b == 10) (list_any (λ byte. byte == 10) l.bytes) other (All-head IsOne l ls all)) (All-tail IsOne l ls all)

pub all_one : (bytes : List ℕ) → All IsOne (lines_of bytes)
all_one [] = All-nil IsOne
all_one (b ∷ bs) =
    cond_both (b == 10) (record { bytes = []; ended = true } ∷ lines_of bs) (onto b (lines_of bs)) (All IsOne)
    (λ _. All-cons IsOne (record { bytes = []; ended = true }) (lines_of bs) refl (all_one bs))
    (λ other. onto_one b (lines_of bs) other (all_one bs))

-- ---- what is added

not_newline : (b : ℕ) → (32 ≤ b) ⊎ Contains [] b → (b == 10) ≡ false
not_newline b (inl high) = grind (arith, nat_tests)
not_newline b (inr never) = absurd (omega (arith, never.1))

pub one_plain : (bytes : List ℕ) → All (λ b. (32 ≤ b) ⊎ Contains [] b) bytes → IsOneLine bytes
one_plain bytes plain = list_any_none (λ byte. byte == 10) bytes (All-weaker (λ b. (32 ≤ b) ⊎ Contains [] b) (λ b. (b == 10) ≡ false) not_newline bytes plain)

-- ---- and what the text is cut into

pub cut_again : (lines : List (List ℕ)) → All IsOneLine lines → lines_of (texts lines) ≡ map ended_line lines
cut_again [] all = refl
cut_again (l ∷ ls) all =
    ap lines_of (append_assoc l (10 ∷ []) (texts ls))
    ∙ lines_of-ended l (texts ls) (All-head IsOneLine l ls all)
    ∙ ap (λ (rest : List InputLine). ended_line l ∷ rest) (cut_again ls (All-tail IsOneLine l ls all))
