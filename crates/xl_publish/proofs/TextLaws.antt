-- A text is taken line by line.
use Rattle.std.proofs.Common.{◌≡◌, ◌∙◌, ◌+◌, ◌<◌, ◌≤◌, ℕ, Bool, true, false, cond, List, [], ◌∷◌, take, length, Option, Some, None, refl, sym, ap, inl, inr, arith}
use Rattle.std.specs.Prelude.{drop, fold, nat_lt, option_map}
use Rattle.std.specs.List.{onto_first, position, position_or_len, slice_split}
use Rattle.std.specs.Option.{option_or}
use Rattle.std.proofs.lemmas.List.{length-drop}
use Rattle.std.proofs.lemmas.Bool.{cases_Bool}
use Rattle.std.proofs.lemmas.Bool.Decides.{nat_tests}
use Rattle.std.proofs.lemmas.List.Splits.{slice_split-cons_no, slice_split_first}
use Rattle.xl_publish.specs.declared.line_refusal.LineRefusal.{LineRefusal}
use Rattle.xl_publish.specs.declared.line_refusal.RefusedLine.{RefusedLine}
use Rattle.xl_publish.specs.declared.publishers.Took.{Took}
use Rattle.xl_publish.specs.declared.publishers.Took.TheVariants.{New, Kept}
use Rattle.xl_publish.specs.Registers.{Register, after_took}
use Rattle.xl_publish.specs.Texts.{after_line, after_text, first_refused, is_newline, line_refusal, lines_of, refused_line}

-- ---- the first line ends at the first newline

no_newline : (text : List ℕ) → length text ≤ position_or_len is_newline text → lines_of text ≡ text ∷ []
no_newline [] past = refl
no_newline (byte ∷ text) past =
    elim (cases_Bool (is_newline byte)) [
      | inl ends ↦ absurd (at_once ends)
      | inr other ↦ slice_split-cons_no is_newline byte text other
          ∙ ap (onto_first byte) (no_newline text (later other))
    ]
  where
    at_once : is_newline byte ≡ true → ⊥
    at_once ends =
        let p = past in
        let e : position_or_len is_newline (byte ∷ text) ≡ 0 = rw ends refl in
        omega (arith, p, e)

    later : is_newline byte ≡ false → length text ≤ position_or_len is_newline text
    later other =
        let p = past in
        let e : position_or_len is_newline (byte ∷ text) ≡ 1 + position_or_len is_newline text = rw other refl in
        omega (arith, p, e)

found : (b : Bool) (place end : ℕ) → cond b (Some place) None ≡ Some end → (b ≡ true) × (place ≡ end)
found true place end e = (refl, cc)
found false place end e = absurd cc

missed : (b : Bool) (place : ℕ) → cond b (Some place) None ≡ None → b ≡ false
missed true place e = absurd cc
missed false place e = refl

pub within : (text : List ℕ) (end : ℕ) → position is_newline text ≡ Some end → end < length text
within text end is =
    let at = found (nat_lt (position_or_len is_newline text) (length text)) (position_or_len is_newline text) end is in
    let lt : position_or_len is_newline text < length text = let t = at.0 in grind (arith, nat_tests) in
    omega (arith, lt, at.1)

pub first_line : (text : List ℕ) (end : ℕ) → position is_newline text ≡ Some end
    → lines_of text ≡ take end text ∷ lines_of (drop (end + 1) text)
first_line text end is =
    let at = found (nat_lt (position_or_len is_newline text) (length text)) (position_or_len is_newline text) end is in
    let lt : position_or_len is_newline text < length text = let t = at.0 in grind (arith, nat_tests) in
    slice_split_first is_newline text 0 lt
    ∙ ap (λ (k : ℕ). take k text ∷ lines_of (drop (k + 1) text)) at.1

pub last_line : (text : List ℕ) → position is_newline text ≡ None → lines_of text ≡ text ∷ []
last_line text is =
    let past : length text ≤ position_or_len is_newline text =
    let t = missed (nat_lt (position_or_len is_newline text) (length text)) (position_or_len is_newline text) is in
    grind (arith, nat_tests) in
    no_newline text past

-- ---- so far

abbrev pub Places : Type 0
Places = List (Option (List ℕ))

-- what the lines that are left will leave, and the first of them that is refused, are those of all
pub record AreTaken (members : List ℕ) (first : Register) (text : List ℕ) (now : Register) (rest : List ℕ) (number : ℕ)
    (refused : Option RefusedLine) : Type 0 where
  pub taken : fold (after_line members) now (lines_of rest) ≡ fold (after_line members) first (lines_of text)
  pub keys : now.keys ≡ first.keys
  pub refusal : option_or refused (first_refused members first.keys number (lines_of rest))
      ≡ first_refused members first.keys 1 (lines_of text)
  pub counted : number + length rest ≤ 1 + length text

either : (a b c : Option RefusedLine) → option_or (option_or a b) c ≡ option_or a (option_or b c)
either None b c = refl
either (Some x) b c = refl

or_none : (a : Option RefusedLine) → option_or a None ≡ a
or_none None = refl
or_none (Some x) = refl

module _ (members : List ℕ) (first : Register) (text : List ℕ) where
  pub none_yet : AreTaken members first text first text 1 None
  none_yet = record { taken = refl; keys = refl; refusal = refl; counted = omega arith }

  -- one line more, which ends here
  pub taken_on : (now new : Register) (rest : List ℕ) (end number : ℕ) (refused : Option RefusedLine)
      (cause : Option LineRefusal) → position is_newline rest ≡ Some end
      → new ≡ after_line members now (take end rest) → new.keys ≡ now.keys
      → cause ≡ line_refusal members now.keys (take end rest)
      → AreTaken members first text now rest number refused
      → AreTaken members first text new (drop (end + 1) rest) (number + 1)
      (option_or refused (option_map (refused_line number) cause))
  taken_on now new rest end number refused cause is taken same refusal far =
      let cut = first_line rest end is in
      let lines = lines_of (drop (end + 1) rest) in
      record {
        taken = ap (λ (r : Register). fold (after_line members) r lines) taken
            ∙ ap (fold (after_line members) now) (sym cut) ∙ far.taken;
        keys = same ∙ far.keys;
        refusal = ap (λ o. option_or (option_or refused (option_map (refused_line number) o))
            (first_refused members first.keys (number + 1) lines))
            (refusal ∙ ap (λ (k : Places). line_refusal members k (take end rest)) far.keys)
            ∙ either refused (option_map (refused_line number) (line_refusal members first.keys (take end rest)))
            (first_refused members first.keys (number + 1) lines)
            ∙ ap (λ (ls : List (List ℕ)). option_or refused (first_refused members first.keys number ls)) (sym cut)
            ∙ far.refusal;
        counted = omega (arith, far.counted, within rest end is, length-drop (end + 1) rest);
      }

  -- the last line
  pub taken_all : (now new : Register) (rest : List ℕ) → position is_newline rest ≡ None
      → new ≡ after_line members now rest → (number : ℕ) (refused : Option RefusedLine)
      → AreTaken members first text now rest number refused → new ≡ after_text members first text
  taken_all now new rest is taken number refused far =
      taken ∙ ap (fold (after_line members) now) (sym (last_line rest is)) ∙ far.taken

  pub refused_all : (now : Register) (rest : List ℕ) (number : ℕ) (refused : Option RefusedLine)
      (cause : Option LineRefusal) → position is_newline rest ≡ None → cause ≡ line_refusal members now.keys rest
      → AreTaken members first text now rest number refused
      → option_or refused (option_map (refused_line number) cause)
      ≡ first_refused members first.keys 1 (lines_of text)
  refused_all now rest number refused cause is refusal far =
      ap (λ o. option_or refused (option_map (refused_line number) o))
      (refusal ∙ ap (λ (k : Places). line_refusal members k rest) far.keys)
      ∙ ap (option_or refused) (sym (or_none (option_map (refused_line number) (line_refusal members first.keys rest))))
      ∙ ap (λ (ls : List (List ℕ)). option_or refused (first_refused members first.keys number ls))
      (sym (last_line rest is))
      ∙ far.refusal

-- ---- the keys stay

took_keys : (r : Register) (took : Took) (bytes : List ℕ) → (after_took r took bytes).keys ≡ r.keys
took_keys r New bytes = refl
took_keys r (Kept seq) bytes = refl

pub keys_stay : (r new : Register) (took : Took) (bytes : List ℕ) → new ≡ after_took r took bytes → new.keys ≡ r.keys
keys_stay r new took bytes is = ap (λ (x : Register). x.keys) is ∙ took_keys r took bytes
