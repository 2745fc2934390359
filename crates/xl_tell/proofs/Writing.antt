-- The parts of a text, one after the other.
use Rattle.std.proofs.Common.{◌≡◌, ℕ, List, ◌++◌, ap, ◌∙◌, append_assoc}
use Rattle.xl_sched.specs.declared.named.Named.{Named}
use Rattle.xl_sched.specs.Reading.{Reading}

pub then_written : (old xs ys so_far now : List ℕ) → so_far ≡ old ++ xs → now ≡ so_far ++ ys → now ≡ old ++ (xs ++ ys)
then_written old xs ys so_far now first more = more ∙ (ap (λ (t : List ℕ). t ++ ys) first ∙ append_assoc old xs ys)

-- a part whose words and number are those of what was read
pub written_in : (f : List Named → ℕ → List ℕ) (reader reading : Reading) (line : ℕ) (old now : List ℕ) → reader ≡ reading → line ≡ reader.lines → now ≡ old ++ f reader.names line → now ≡ old ++ f reading.names reading.lines
written_in f reader reading line old now same count is =
    is ∙ (ap (λ (n : ℕ). old ++ f reader.names n) count ∙ ap (λ (r : Reading). old ++ f r.names r.lines) same)
