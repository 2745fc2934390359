-- What is left of a text without its own lines.
use Rattle.std.proofs.Common.{◌≡◌, ℕ, Bool, true, false, List, [], ◌∷◌, ◌++◌, refl, sym, ap, ◌∙◌, append_assoc}
use Rattle.std.specs.Prelude.{filter, not, if◌then◌else◌}
use Rattle.std.specs.List.{flat_map}
use Rattle.std.proofs.lemmas.Bool.{cond-true, cond-false}
use Rattle.xl_lines.specs.Lines.{Line, lines_of}
use Rattle.xl_lines.proofs.Newlines.{IsOneLine}
use Rattle.xl_lines.proofs.Cutting.{lines_of-ended}
use Rattle.xl_running.specs.Texts.{newline}
use Rattle.xl_tell.specs.OwnLines.{as_it_stands, is_own, without_own}
use Rattle.xl_tell.proofs.Plain.{IsPlain}

-- without its own lines the one text is the other, whatever stands behind it
pub record Leaves (text other : List ℕ) : Type 0 where
  pub behind : (rest : List ℕ) → without_own (text ++ rest) ≡ other ++ without_own rest

pub nothing : Leaves [] []
nothing = record { behind = λ rest. refl }

pub both : {a b x y : List ℕ} → Leaves a x → Leaves b y → Leaves (a ++ b) (x ++ y)
both {a} {b} {x} {y} first second = record {
  behind = λ rest.
      ap without_own (append_assoc a b rest)
      ∙ (first.behind (b ++ rest) ∙ (ap (λ (t : List ℕ). x ++ t) (second.behind rest) ∙ sym (append_assoc x y (without_own rest))));
}

-- the same, where nothing is left of either
pub neither : {a b : List ℕ} → Leaves a [] → Leaves b [] → Leaves (a ++ b) []
neither first second = both first second

pub each : {X : Type 0} (f g : X → List ℕ) → ((x : X) → Leaves (f x) (g x)) → (xs : List X) → Leaves (flat_map f xs) (flat_map g xs)
each f g leave [] = nothing
each f g leave (x ∷ xs) = both (leave x) (each f g leave xs)

pub none_of_each : {X : Type 0} (f : X → List ℕ) → ((x : X) → Leaves (f x) []) → (xs : List X) → Leaves (flat_map f xs) []
none_of_each f leave [] = nothing
none_of_each f leave (x ∷ xs) = neither (leave x) (none_of_each f leave xs)

-- ONE LINE

abbrev stays : Line → Bool
stays line = not (is_own line.bytes)

abbrev standing : List Line → List ℕ
standing lines = flat_map as_it_stands (filter stays lines)

abbrev ended : List ℕ → Line
ended body = record { bytes = body; ended = true }

cut : (body rest : List ℕ) → IsOneLine body → lines_of ((body ++ newline) ++ rest) ≡ ended body ∷ lines_of rest
cut body rest one = ap lines_of (append_assoc body newline rest) ∙ lines_of-ended body rest one

filter_out : (p : Line → Bool) (line : Line) (lines : List Line) → p line ≡ false → filter p (line ∷ lines) ≡ filter p lines
filter_out p line lines out = cond-false (p line) (line ∷ filter p lines) (filter p lines) out

filter_in : (p : Line → Bool) (line : Line) (lines : List Line) → p line ≡ true → filter p (line ∷ lines) ≡ line ∷ filter p lines
filter_in p line lines stay = cond-true (p line) (line ∷ filter p lines) (filter p lines) stay

pub own : {body : List ℕ} → IsPlain body → is_own body ≡ true → Leaves (body ++ newline) []
own {body} plain is = record {
  behind = λ rest.
      ap standing (cut body rest plain.one) ∙ ap (flat_map as_it_stands) (filter_out stays (ended body) (lines_of rest) (ap not is));
}

pub reported : {body : List ℕ} → IsPlain body → is_own body ≡ false → Leaves (body ++ newline) (body ++ newline)
reported {body} plain is = record {
  behind = λ rest.
      ap standing (cut body rest plain.one) ∙ ap (flat_map as_it_stands) (filter_in stays (ended body) (lines_of rest) (ap not is));
}

-- a text that may be missing
pub own_if : {text : List ℕ} (test : Bool) → Leaves text [] → Leaves (if test then text else []) []
own_if true leave = leave
own_if false leave = nothing

pub own_unless : {text : List ℕ} (test : Bool) → Leaves text [] → Leaves (if test then [] else text) []
own_unless true leave = nothing
own_unless false leave = leave
