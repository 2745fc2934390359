-- A line that a reader takes is taken alike without a return at its end.
use Rattle.std.proofs.Common.{◌≡◌, ◌-◌, ◌≤◌, ◌==◌, ℕ, zero, suc, Bool, true, false, not, cond, nat_lt, List, [], ◌∷◌, ◌++◌, length, take, filter, slice_index, Option, Some, None, Result, Ok, Err, refl, ap, sym, ◌∙◌, subst, arith, decimal, codes}
use Rattle.std.specs.List.{slice_split, onto_first}
use Rattle.std.specs.Str.{bytes_eq}
use Rattle.std.proofs.lemmas.Bool.{and_parts, cond_both, eqb-true}
use Rattle.std.proofs.lemmas.Bool.Decides.{nat_tests}
use Rattle.std.proofs.lemmas.List.{length-take}
use Rattle.xl_sched.specs.declared.line.Line.{Line}
use Rattle.xl_sched.specs.declared.refusal.SchedRefusal.{SchedRefusal}
use Rattle.xl_sched.specs.declared.refusal.SchedRefusal.TheVariants as refusal
use Rattle.xl_sched.specs.Limits.{most_bytes, most_lines}
use Rattle.xl_sched.specs.Answers.{LineAnswer, passes, gives, refuses, answer_to, bounded_line, first_token, header_line, is_comment, is_header, later_line, line_of_tokens, reading_of, some_line}
use Rattle.xl_sched.specs.Reading.{Reading}
use Rattle.xl_sched.specs.Tokens.{is_blank, tokens}
use Rattle.xl_sched.specs.Words.{worded_line}
use Rattle.xl_spelling.proofs.Joins.{filter-kept}
use Rattle.xl_spelling.proofs.Parts.{passed, same_bytes, unstopped}
use Rattle.xl_spelling.proofs.Respelling.{answer-gave, tokens-later}
use Rattle.xl_spelling.proofs.Small.{inked}
use Rattle.xl_spelling.proofs.Visible.{AreSpelled, Ink}
use Rattle.xl_spelling.proofs.Endings.{EndsInk}
use Rattle.xl_spelling.proofs.LineEndings.{worded-ends}

abbrev is_run : List ℕ → Bool
is_run run = not (length run == 0)

-- ---- A LAST BYTE THAT IS A RETURN

abbrev return_byte : ℕ
return_byte = 13

abbrev pub ends_in_return : List ℕ → Bool
ends_in_return bytes = slice_index bytes (length bytes - 1) == return_byte

-- without it
abbrev pub unreturned : List ℕ → List ℕ
unreturned bytes = cond (ends_in_return bytes) (take (length bytes - 1) bytes) bytes

cut_last : (b : ℕ) (bs : List ℕ) → (slice_index (b ∷ bs) (length bs) == return_byte) ≡ true → b ∷ bs ≡ take (length bs) (b ∷ bs) ++ return_byte ∷ []
cut_last b [] h = ap (λ (x : ℕ). x ∷ []) (eqb-true b return_byte h)
cut_last b (c ∷ bs) h = ap (λ (xs : List ℕ). b ∷ xs) (cut_last c bs h)

returned : (bytes : List ℕ) → ends_in_return bytes ≡ true → bytes ≡ take (length bytes - 1) bytes ++ return_byte ∷ []
returned [] h = absurd (cc)
returned (b ∷ bs) h =
    let one : length bs ≡ length (b ∷ bs) - 1 = omega arith in
    subst (λ (n : ℕ). (slice_index (b ∷ bs) n == return_byte) ≡ true → b ∷ bs ≡ take n (b ∷ bs) ++ return_byte ∷ []) one (cut_last b bs) h

-- a token that ends the line where none before does
last_of : (t : List ℕ) (ts : List (List ℕ)) → (EndsInk ts → ⊥) → EndsInk (t ∷ ts) → ⊥
last_of t [] never h = never tt
last_of t (u ∷ us) never h = never h

longer : (b : ℕ) (t : List ℕ) (ts : List (List ℕ)) → (EndsInk (t ∷ ts) → ⊥) → EndsInk ((b ∷ t) ∷ ts) → ⊥
longer b t [] never h = never h.1
longer b t (u ∷ us) never h = never h

onto_unseen : (b : ℕ) (runs : List (List ℕ)) → (EndsInk (filter is_run runs) → ⊥) → EndsInk (filter is_run (onto_first b runs)) → ⊥
onto_unseen b [] never h = never tt
onto_unseen b ([] ∷ rs) never h =
    last_of (b ∷ []) (filter is_run rs) never (subst EndsInk (filter-kept (b ∷ []) rs (omega arith)) h)
onto_unseen b ((c ∷ cs) ∷ rs) never h =
    longer b (c ∷ cs) (filter is_run rs) (λ ends. never (subst EndsInk (sym (filter-kept (c ∷ cs) rs (omega arith))) ends))
    (subst EndsInk (filter-kept (b ∷ c ∷ cs) rs (omega arith)) h)

-- a return at the end is in the last token
unseen : (front : List ℕ) → EndsInk (tokens (front ++ return_byte ∷ [])) → ⊥
unseen [] h = omega (arith, h.0.0)
unseen (b ∷ front) h =
    elim (is_blank b) as (λ v. EndsInk (filter is_run (cond v ([] ∷ slice_split is_blank (front ++ return_byte ∷ [])) (onto_first b (slice_split is_blank (front ++ return_byte ∷ []))))) → ⊥) [
      | true ↦ λ k. unseen front k
      | false ↦ λ k. onto_unseen b (slice_split is_blank (front ++ return_byte ∷ [])) (unseen front) k
    ] h

no_return : (bytes : List ℕ) → EndsInk (tokens bytes) → ends_in_return bytes ≡ false
no_return bytes ink = by (ends_in_return bytes) refl
  where
    by : (v : Bool) → ends_in_return bytes ≡ v → v ≡ false
    by false is = refl
    by true is = absurd (unseen (take (length bytes - 1) bytes) (subst (λ (xs : List ℕ). EndsInk (tokens xs)) (returned bytes is) ink))

-- ---- LINES THAT SAY NOTHING

-- a comment begins with `#`
abbrev comment_byte : ℕ
comment_byte = 35

says_nothing : List (List ℕ) → Bool
says_nothing [] = true
says_nothing (t ∷ ts) = is_comment t

-- the same by bytes: behind blanks a comment begins, or nothing stands there
begins_nothing : List ℕ → Bool
begins_nothing [] = true
begins_nothing (b ∷ bs) = cond (is_blank b) (begins_nothing bs) (b == comment_byte)

onto_begins : (b : ℕ) (runs : List (List ℕ)) → says_nothing (filter is_run (onto_first b runs)) ≡ (b == comment_byte)
unfolding says_nothing
onto_begins b [] = ap says_nothing (filter-kept (b ∷ []) [] (omega arith))
onto_begins b (r ∷ rs) = ap says_nothing (filter-kept (b ∷ r) rs (omega arith))

tokens_begin : (bs : List ℕ) → says_nothing (tokens bs) ≡ begins_nothing bs
unfolding says_nothing begins_nothing
tokens_begin [] = refl
tokens_begin (b ∷ bs) =
    elim (is_blank b) as (λ v. says_nothing (filter is_run (cond v ([] ∷ slice_split is_blank bs) (onto_first b (slice_split is_blank bs)))) ≡ cond v (begins_nothing bs) (b == comment_byte)) [
      | true ↦ tokens_begin bs
      | false ↦ onto_begins b (slice_split is_blank bs)
    ]

begins_front : (n : ℕ) (bs : List ℕ) → begins_nothing bs ≡ true → begins_nothing (take n bs) ≡ true
unfolding begins_nothing
begins_front zero bs h = refl
begins_front (suc n) [] h = refl
begins_front (suc n) (b ∷ bs) h =
    elim (is_blank b) as (λ v. cond v (begins_nothing bs) (b == comment_byte) ≡ true → cond v (begins_nothing (take n bs)) (b == comment_byte) ≡ true) [
      | true ↦ λ k. begins_front n bs k
      | false ↦ λ k. k
    ] h

none_said : (r : Result Line SchedRefusal) → some_line r ≡ Ok None → ⊥
none_said (Ok l) e = cc
none_said (Err why) e = cc

later_nothing : (reading : Reading) (sent : ℕ) (ts : List (List ℕ)) → later_line reading sent ts ≡ Ok None → says_nothing ts ≡ true
unfolding says_nothing
later_nothing reading sent [] e = refl
later_nothing reading sent (t ∷ ts) e =
    elim (is_comment t) as (λ b. cond b (Ok None) (some_line (worded_line reading sent t ts)) ≡ Ok None → b ≡ true) [
      | true ↦ λ _. refl
      | false ↦ λ k. absurd (none_said (worded_line reading sent t ts) k)
    ] e

nothing_later : (reading : Reading) (sent : ℕ) (ts : List (List ℕ)) → says_nothing ts ≡ true → later_line reading sent ts ≡ Ok None
unfolding says_nothing
nothing_later reading sent [] h = refl
nothing_later reading sent (t ∷ ts) h = ap (λ b. cond b (Ok None) (some_line (worded_line reading sent t ts))) h

-- ---- THE HEADER

header_ends : (ts : List (List ℕ)) → is_header ts ≡ true → EndsInk ts
header_ends (name ∷ version ∷ []) h =
    subst Ink (same_bytes version (codes "1") (and_parts (bytes_eq name (codes "xl-schedule")) (bytes_eq version (codes "1")) h).1) (inked (codes "1") refl)
header_ends other h = absurd (cc)

-- ---- A LINE THAT IS TAKEN

-- an answer that is no refusal
abbrev pub IsTaken : LineAnswer → Type 0
IsTaken (passes known) = Unit {0}
IsTaken (gives l known) = Unit {0}
IsTaken (refuses why) = ⊥

nothing_gave : (reading known : Reading) (read : Result (Option Line) SchedRefusal) → answer_to reading read ≡ passes known → read ≡ Ok None
nothing_gave reading known (Ok None) e = refl
nothing_gave reading known other e = absurd (cc)

module _ (reading : Reading) (sent : ℕ) (bytes : List ℕ) where
  -- what a line within the limits says
  record IsWithin (o : Option Line) : Type 0 where
    few : nat_lt most_bytes (length bytes) ≡ false
    more : (reading.lines == most_lines) ≡ false
    says : line_of_tokens reading sent (tokens bytes) ≡ Ok o

  within : (o : Option Line) → bounded_line reading sent bytes ≡ Ok o → IsWithin o
  within o e =
      let few = unstopped (nat_lt most_bytes (length bytes)) (cond (reading.lines == most_lines) (Err (refusal.Limit (decimal most_lines))) (line_of_tokens reading sent (tokens bytes))) o (refusal.LongLine (decimal most_bytes)) e in
      let more = unstopped (reading.lines == most_lines) (line_of_tokens reading sent (tokens bytes)) o (refusal.Limit (decimal most_lines)) few.1 in
      record { few = few.0; more = more.0; says = more.1 }

  -- a line that ends in no return stays
  stays : (a : LineAnswer) → reading_of reading sent bytes ≡ a → EndsInk (tokens bytes) → reading_of reading sent (unreturned bytes) ≡ a
  stays a e ink = ap (λ (v : Bool). reading_of reading sent (cond v (take (length bytes - 1) bytes) bytes)) (no_return bytes ink) ∙ e

  -- the front of a later line that says nothing says nothing
  front_passes : (n : ℕ) → IsWithin None → (reading.lines == 0) ≡ false → later_line reading sent (tokens bytes) ≡ Ok None → reading_of reading sent (take n bytes) ≡ answer_to reading (Ok None)
  front_passes n is later e =
      let front : List ℕ = take n bytes in
      let ts : List (List ℕ) = tokens front in
      let begins : begins_nothing bytes ≡ true = sym (tokens_begin bytes) ∙ later_nothing reading sent (tokens bytes) e in
      let said : later_line reading sent ts ≡ Ok None = nothing_later reading sent ts (tokens_begin front ∙ begins_front n bytes begins) in
      let few = is.few in
      let shorter : length front ≤ length bytes = omega (arith, length-take n bytes) in
      let fits : nat_lt most_bytes (length front) ≡ false = grind (arith, nat_tests) in
      ap (λ b. answer_to reading (cond b (Err (refusal.LongLine (decimal most_bytes))) (cond (reading.lines == most_lines) (Err (refusal.Limit (decimal most_lines))) (line_of_tokens reading sent ts)))) fits
      ∙ ap (λ b. answer_to reading (cond b (Err (refusal.Limit (decimal most_lines))) (line_of_tokens reading sent ts))) is.more
      ∙ ap (λ b. answer_to reading (cond b (header_line ts) (later_line reading sent ts))) later
      ∙ ap (answer_to reading) said

  passes_alike : (known : Reading) → reading_of reading sent bytes ≡ passes known → reading_of reading sent (unreturned bytes) ≡ passes known
  passes_alike known e =
      let read : bounded_line reading sent bytes ≡ Ok None = nothing_gave reading known (bounded_line reading sent bytes) e in
      let is : IsWithin None = within None read in
      let same : answer_to reading (Ok None) ≡ passes known = sym (ap (answer_to reading) read) ∙ e in
      elim (reading.lines == 0) as (λ b. (reading.lines == 0) ≡ b → cond b (header_line (tokens bytes)) (later_line reading sent (tokens bytes)) ≡ Ok None → reading_of reading sent (unreturned bytes) ≡ passes known) [
        | true ↦ λ _ k. stays (passes known) e (header_ends (tokens bytes) (passed (is_header (tokens bytes)) None None (refusal.Header (first_token (tokens bytes))) k).0)
        | false ↦ λ later k.
            cond_both (ends_in_return bytes) (take (length bytes - 1) bytes) bytes (λ (xs : List ℕ). reading_of reading sent xs ≡ passes known)
            (λ _. front_passes (length bytes - 1) is later k ∙ same) (λ _. e)
      ] refl is.says

  -- and so does any, if the names are spelled as names are
  pub taken_alike : AreSpelled reading.names → (a : LineAnswer) → reading_of reading sent bytes ≡ a → IsTaken a → reading_of reading sent (unreturned bytes) ≡ a
  taken_alike are (passes known) e taken = passes_alike known e
  taken_alike are (gives l known) e taken =
      let is : IsWithin (Some l) = within (Some l) (answer-gave reading known (bounded_line reading sent bytes) l e) in
      let w = (tokens-later reading sent (tokens bytes) l is.says).worded in
      stays (gives l known) e (subst EndsInk (sym w.whole) (worded-ends reading are sent w.token w.rest l w.says))
  taken_alike are (refuses why) e taken = absurd taken
