-- What is told of bytes as soon as they have come. Source: this layer's promise that an answer is written once its line
-- was read, and that nothing is read behind the line that ends the text.
use Rattle.std.specs.Prelude.{◌≡◌, ℕ, ◌≤◌, ◌||◌, nat_lt, true, List, [], ◌++◌, length, Option, Some, None, filter}
use Rattle.xl_lines.specs.declared.limits.Limits.{Limits}
use Rattle.xl_lines.specs.declared.machine.Verdict.TheVariants.{Good}
use Rattle.xl_lines.specs.Lines.{Line, lines_of}
use Rattle.xl_lines.specs.Rules.{Rules, Told, closes}
use Rattle.xl_lines.specs.Told.{told_from}

-- nothing yet, and the text goes on
abbrev pub silence : Told
silence = closes [] Good

-- the lines that can be answered: those whose newline has come, and one that is too long already
abbrev pub answerable : Limits → List Line → List Line
answerable limits lines = filter (λ line. line.ended || nat_lt limits.bytes (length line.bytes)) lines

-- the same answers to lines, and no text after the last of them
abbrev pub unclosed : {S : Type 0} → Rules S → Rules S
unclosed rules = record { step = rules.step; overrun = rules.overrun; closing = λ state. silence }

-- what is told as soon as these bytes have come: it is closed, unless one of their lines ends the text
abbrev pub told_soon : {S : Type 0} → Limits → Rules S → S → List ℕ → Told
told_soon limits rules state bytes =
    told_from limits (unclosed rules) limits.lines state (answerable limits (lines_of bytes))

-- these bytes were read of a source that tells what it has left
abbrev pub WasRead : Option (List ℕ) → Option (List ℕ) → List ℕ → Type 0
WasRead old None bytes = ⊥
WasRead old (Some left) bytes = old ≡ Some (bytes ++ left)

-- Nothing was read behind the piece in which the text ended: all but the last piece of these bytes leave it open. A piece
-- has at most 8,192 bytes
pub record ReadsNoFurther (soon : List ℕ → Told) (bytes : List ℕ) : Type 0 where
  pub front : List ℕ
  pub piece : List ℕ
  pub parts : bytes ≡ front ++ piece
  pub unended : (soon front).closed ≡ true
  pub short : length piece ≤ 8192
