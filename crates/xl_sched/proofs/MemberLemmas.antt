-- The numbers of entries, one after another.
use Rattle.std.proofs.Common.{◌≡◌, ◌+◌, ◌<◌, ◌≤◌, ℕ, List, [], ◌∷◌, ◌++◌, length, drop, get_or, Result, Ok, Err, refl, ap, sym, ◌∙◌, append_assoc}
use Rattle.std.proofs.lemmas.List.{at_drop_more, at_drop_all}
use Rattle.xl_sched.specs.declared.refusal.SchedRefusal.{SchedRefusal}
use Rattle.xl_sched.specs.Refusals.{◌>>=◌}
use Rattle.xl_sched.specs.Numbers.{number_of}
use Rattle.xl_sched.specs.Members.{numbers_of}

-- what was read, and what is read after it
abbrev pub read_on : {A : Type 0} → List A → Result (List A) SchedRefusal → Result (List A) SchedRefusal
read_on xs (Ok ys) = Ok (xs ++ ys)
read_on xs (Err e) = Err e

pub read_on-cons : {A : Type 0} (xs : List A) (n : A) (rest : Result (List A) SchedRefusal) → read_on xs (rest >>= (λ ns. Ok (n ∷ ns))) ≡ read_on (xs ++ n ∷ []) rest
read_on-cons xs n (Ok ys) = ap (λ zs. Ok zs) (sym (append_assoc xs (n ∷ []) ys))
read_on-cons xs n (Err e) = refl

-- one entry more is a number
pub read_on-more : (xs : List ℕ) (entries : List (List ℕ)) (i : ℕ) (entry : List ℕ) (n : ℕ) → (i < length entries) × (entry ≡ get_or entries i entry) → number_of entry ≡ Ok n →
    read_on xs (numbers_of (drop i entries)) ≡ read_on (xs ++ n ∷ []) (numbers_of (drop (i + 1) entries))
read_on-more xs entries i entry n here e =
    at_drop_more (λ rest. read_on xs (numbers_of rest)) entries i entry here.0
    ∙ ap (λ first. read_on xs (number_of first >>= (λ m. numbers_of (drop (i + 1) entries) >>= (λ ns. Ok (m ∷ ns))))) (sym here.1)
    ∙ ap (λ first. read_on xs (first >>= (λ m. numbers_of (drop (i + 1) entries) >>= (λ ns. Ok (m ∷ ns))))) e
    ∙ read_on-cons xs n (numbers_of (drop (i + 1) entries))

-- an entry is none
pub read_on-none : (xs : List ℕ) (entries : List (List ℕ)) (i : ℕ) (entry : List ℕ) (refusal : SchedRefusal) → (i < length entries) × (entry ≡ get_or entries i entry) → number_of entry ≡ Err refusal →
    read_on xs (numbers_of (drop i entries)) ≡ Err refusal
read_on-none xs entries i entry refusal here e =
    at_drop_more (λ rest. read_on xs (numbers_of rest)) entries i entry here.0
    ∙ ap (λ first. read_on xs (number_of first >>= (λ m. numbers_of (drop (i + 1) entries) >>= (λ ns. Ok (m ∷ ns))))) (sym here.1)
    ∙ ap (λ first. read_on xs (first >>= (λ m. numbers_of (drop (i + 1) entries) >>= (λ ns. Ok (m ∷ ns))))) e

-- nothing is left
pub read_on-all : (xs : List ℕ) (entries : List (List ℕ)) (i : ℕ) → length entries ≤ i → read_on xs (numbers_of (drop i entries)) ≡ Ok (xs ++ [])
read_on-all xs entries i h = at_drop_all (λ rest. read_on xs (numbers_of rest)) entries i h
