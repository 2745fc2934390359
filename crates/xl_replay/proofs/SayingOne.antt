-- A `full` line says one thing: its numbers end at a space, and each has one spelling.
use Rattle.std.proofs.Common.{◌≡◌, ◌≢◌, ◌∙◌, ◌+◌, ◌<◌, ◌^◌, ◌%◌, ◌/◌, ◌==◌, ℕ, zero, suc, false, List, [], ◌∷◌, ◌++◌, append_assoc, refl, sym, ap, subst, Result, Ok, Err, arith}
use Rattle.std.specs.Prelude.{nat_lt, decimal, codes, drop, slice_index}
use Rattle.std.specs.List.{AllByRecursion}
use Rattle.std.specs.Fmt.{digits, digits_onto, digit_glyph}
use Rattle.std.specs.Str.Parse.{digits_value}
use Rattle.std.proofs.lemmas.Bool.{cond_both}
use Rattle.std.proofs.lemmas.Fmt.{decimal_is_IsNumeral}
use Rattle.std.proofs.lemmas.List.{append_cancel_left}
use Rattle.xl_base.specs.declared.ids.LedgerId.{LedgerId}
use Rattle.xl_sched.specs.declared.named.Named.{Named}
use Rattle.xl_sched.specs.declared.refusal.SchedRefusal.{SchedRefusal}
use Rattle.xl_sched.specs.Names.{ledger_id_of}
use Rattle.xl_running.specs.Texts.{space}
use Rattle.xl_replay.specs.Readings.{Says}

-- a text with no space
abbrev IsWord : List ℕ → Type 0
IsWord text = AllByRecursion (λ b. b ≢ 32) text

glyph_apart : (d : ℕ) → digit_glyph false d ≢ 32
glyph_apart d = cond_both (nat_lt d 10) (48 + d) (87 + d) (λ b. b ≢ 32) (λ _ e. omega (arith, e)) (λ _ e. omega (arith, e))

digits_word : (k n : ℕ) (acc : List ℕ) → IsWord acc → IsWord (digits_onto k 10 false n acc)
digits_word zero n acc word = word
digits_word (suc k) n acc word =
    let longer : IsWord (digit_glyph false (n % 10) ∷ acc) = (glyph_apart (n % 10), word) in
    cond_both (n / 10 == 0) (digit_glyph false (n % 10) ∷ acc) (digits_onto k 10 false (n / 10) (digit_glyph false (n % 10) ∷ acc)) IsWord
    (λ _. longer) (λ _. digits_word k (n / 10) (digit_glyph false (n % 10) ∷ acc) longer)

decimal_word : (n : ℕ) → IsWord (decimal n)
unfolding digits
decimal_word n = digits_word 64 n [] tt

-- a word ends at its first space
words_apart : (a b x y : List ℕ) → IsWord a → IsWord b → a ++ 32 ∷ x ≡ b ++ 32 ∷ y → (a ≡ b) × (x ≡ y)
words_apart [] [] x y of_a of_b e = (refl, ap (drop 1) e)
words_apart [] (d ∷ b) x y of_a of_b e = absurd (of_b.0 (sym (ap (λ xs. slice_index xs 0) e)))
words_apart (c ∷ a) [] x y of_a of_b e = absurd (of_a.0 (ap (λ xs. slice_index xs 0) e))
words_apart (c ∷ a) (d ∷ b) x y of_a of_b e =
    let same : c ≡ d = ap (λ xs. slice_index xs 0) e in
    let rest : (a ≡ b) × (x ≡ y) = words_apart a b x y of_a.1 of_b.1 (ap (drop 1) e) in
    (ap (λ n. n ∷ a) same ∙ ap (λ xs. d ∷ xs) rest.0, rest.1)

-- a number has one spelling
decimal_same : (n m : ℕ) → n < 2 ^ 64 → m < 2 ^ 64 → decimal n ≡ decimal m → n ≡ m
decimal_same n m of_n of_m e = sym (decimal_is_IsNumeral n of_n).1 ∙ (ap (digits_value 10) e ∙ (decimal_is_IsNumeral m of_m).1)

ids_same : (r : Result LedgerId SchedRefusal) (a b : LedgerId) → r ≡ Ok a → r ≡ Ok b → a ≡ b
ids_same r a b of_a of_b = cc

-- the parts of a line, its first number and its second one each before a space
parted : (n m : ℕ) (token : List ℕ) → codes "full " ++ decimal n ++ space ++ decimal m ++ space ++ token ≡ codes "full " ++ (decimal n ++ 32 ∷ (decimal m ++ 32 ∷ token))
parted n m token =
    append_assoc (codes "full " ++ decimal n ++ space ++ decimal m) space token
    ∙ (append_assoc (codes "full " ++ decimal n ++ space) (decimal m) (32 ∷ token)
    ∙ (append_assoc (codes "full " ++ decimal n) space (decimal m ++ 32 ∷ token)
    ∙ append_assoc (codes "full ") (decimal n) (32 ∷ (decimal m ++ 32 ∷ token))))

pub says_one : (names : List Named) (line : List ℕ) (i j seq other : ℕ) (a b : LedgerId) → Says names line i seq a → Says names line j other b →
    i < 2 ^ 64 → j < 2 ^ 64 → seq < 2 ^ 64 → other < 2 ^ 64 → (i ≡ j) × (seq ≡ other) × (a ≡ b)
says_one names line i j seq other a b of_a of_b of_i of_j of_seq of_other =
    let whole : codes "full " ++ (decimal i ++ 32 ∷ (decimal seq ++ 32 ∷ of_a.token)) ≡ codes "full " ++ (decimal j ++ 32 ∷ (decimal other ++ 32 ∷ of_b.token)) =
    sym (parted i seq of_a.token) ∙ (sym of_a.is ∙ (of_b.is ∙ parted j other of_b.token)) in
    let first : (decimal i ≡ decimal j) × (decimal seq ++ 32 ∷ of_a.token ≡ decimal other ++ 32 ∷ of_b.token) =
    words_apart (decimal i) (decimal j) (decimal seq ++ 32 ∷ of_a.token) (decimal other ++ 32 ∷ of_b.token) (decimal_word i) (decimal_word j) (append_cancel_left (codes "full ") _ _ whole) in
    let second : (decimal seq ≡ decimal other) × (of_a.token ≡ of_b.token) = words_apart (decimal seq) (decimal other) of_a.token of_b.token (decimal_word seq) (decimal_word other) first.1 in
    (decimal_same i j of_i of_j first.0, decimal_same seq other of_seq of_other second.0, ids_same (ledger_id_of names of_a.token) a b of_a.ledger (ap (ledger_id_of names) second.1 ∙ of_b.ledger))
