-- What is told of the lines that have ended, part by part.
use Rattle.std.proofs.Common.{◌≡◌, ◌≤◌, ◌-◌, ℕ, true, false, List, [], ◌∷◌, ◌++◌, length, drop, is_some, unwrap_or, Option, Some, None, refl, sym, ap, ◌∙◌, append_assoc, append-nil, arith}
use Rattle.std.proofs.lemmas.Bool.{le-ltb}
use Rattle.std.proofs.lemmas.List.{append_cancel_left, append_cancel_right}
use Rattle.std.specs.Io.KnownBytes.{append_known, prepend_known}
use Rattle.xl_io.proofs.Growing.{append_known-none, append_known-twice}
use Rattle.xl_lines.specs.declared.limits.Limits.{Limits}
use Rattle.xl_lines.specs.Lines.{lines_of, before_newline}
use Rattle.xl_lines.specs.Rules.{Rules, Told, goes_on}
use Rattle.xl_lines.specs.Told.{after, told_from, told_by, step_within}
use Rattle.xl_lines.specs.Soon.{told_soon, silence, unclosed, answerable, WasRead, ReadsNoFurther}
use Rattle.xl_lines.specs.Running.{Puts, soon_at}
use Rattle.xl_lines.proofs.Newlines.{IsOneLine}
use Rattle.xl_lines.proofs.Cutting.{lines_of-ended, lines_of-last}
use Rattle.xl_lines.proofs.Parts.{first_end, moved_none}
use Rattle.xl_lines.proofs.Telling.{LineEnds}
use Rattle.xl_lines.proofs.Runs.{prepend_known-none, prepend_known-twice}

-- nothing is written yet
pub puts_none : (known : Option (List ℕ)) (soon left : List ℕ → Told) → ((rest : List ℕ) → soon rest ≡ left rest) → Puts known known soon left
puts_none known soon left same = record { written = []; held = sym (append_known-none known); parts = same }

pub puts_then : {old mid new : Option (List ℕ)} {a b c : List ℕ → Told} → Puts old mid a b → Puts mid new b c → Puts old new a c
puts_then {old} {c = c} x y = record {
  written = x.written ++ y.written;
  held = y.held ∙ ap (λ known. append_known known y.written) x.held ∙ append_known-twice old x.written y.written;
  parts = λ rest.
      x.parts rest ∙ ap (after x.written) (y.parts rest)
      ∙ ap (λ text. record { text = text; verdict = (c rest).verdict; closed = (c rest).closed }) (sym (append_assoc x.written y.written (c rest).text));
}

pub puts_from : {old new : Option (List ℕ)} {a b c : List ℕ → Told} → ((rest : List ℕ) → a rest ≡ b rest) → Puts old new b c → Puts old new a c
puts_from same x = record { written = x.written; held = x.held; parts = λ rest. same rest ∙ x.parts rest }

module _ {S : Type 0} (limits : Limits) (rules : Rules S) (left : ℕ) (state : S) where
  -- no line has ended
  pub soon_at-begun : (line : List ℕ) → IsOneLine line → length line ≤ limits.bytes → soon_at limits rules left state line [] ≡ silence
  unfolding soon_at
  soon_at-begun [] one short = refl
  soon_at-begun (byte ∷ line) one short =
      ap (λ bytes. told_from limits (unclosed rules) left state (answerable limits (lines_of bytes))) (append-nil (byte ∷ line))
      ∙ rw (lines_of-last byte line one, le-ltb _ _ short) refl

  -- a line has ended, and this is handed on
  soon_at-ended : (line handed rest : List ℕ) → IsOneLine line → length line ≤ limits.bytes → handed ≡ before_newline limits.returns line → soon_at limits rules left state line (10 ∷ rest) ≡ told_by (λ next. told_from limits (unclosed rules) (left - 1) next (answerable limits (lines_of rest))) (step_within rules left state handed true)
  unfolding soon_at
  soon_at-ended line handed rest one short is =
      ap (λ lines. told_from limits (unclosed rules) left state (answerable limits lines)) (lines_of-ended line rest one)
      ∙ rw (le-ltb _ _ short, is) refl

  -- and its answer is written
  pub puts_line : {line handed line' : List ℕ} {old new : Option (List ℕ)} (text : List ℕ) (state' : S) → LineEnds limits line handed → goes_on text state' ≡ step_within rules left state handed true → new ≡ append_known old text → line' ≡ [] → Puts old new (λ rest. soon_at limits rules left state line (10 ∷ rest)) (soon_at limits rules (left - 1) state' line')
  unfolding soon_at told_by
  puts_line {line} {handed} text state' e step held none = record {
    written = text;
    held = held;
    parts = λ rest. soon_at-ended line handed rest e.one_line e.short e.handed_on ∙ rw (sym step, none) refl;
  }

  -- the next bytes are no longer to come, and stand in the line
  pub soon_joined : (line bytes : List ℕ) (limits' : Limits) (left' : ℕ) (line' : List ℕ) → limits' ≡ limits → left' ≡ left → line' ≡ line ++ bytes → (state' : S) → state' ≡ state → (rest : List ℕ) → soon_at limits rules left state line (bytes ++ rest) ≡ soon_at limits' rules left' state' line' rest
  unfolding soon_at
  soon_joined line bytes limits' left' line' e f l state' m rest =
      rw (e, f, l, m) (ap (λ xs. told_from limits (unclosed rules) left state (answerable limits (lines_of xs))) (sym (append_assoc line bytes rest)))

  -- none is among them
  pub soon_none : (line bytes : List ℕ) (newline : Option ℕ) (count : ℕ) → is_some newline ≡ false → count ≡ first_end bytes newline → (limits' : Limits) (left' : ℕ) (line' : List ℕ) → limits' ≡ limits → left' ≡ left → line' ≡ line ++ bytes → (state' : S) → state' ≡ state → (rest : List ℕ) → soon_at limits rules left state line (bytes ++ rest) ≡ soon_at limits' rules left' state' line' (drop count bytes ++ rest)
  unfolding soon_at
  soon_none line bytes newline count none k limits' left' line' e f l state' m rest =
      rw (e, f, m) (ap (λ xs. told_from limits (unclosed rules) left state (answerable limits (lines_of xs))) (moved_none line bytes newline count none k line' l rest))

-- at the start
pub soon_at-start : {S : Type 0} (limits : Limits) (rules : Rules S) (state : S) (bytes : List ℕ) → told_soon limits rules state bytes ≡ soon_at limits rules limits.lines state [] bytes
unfolding soon_at
soon_at-start limits rules state bytes = refl

-- The teller has come from all to now: what is told of the bytes so far as soon as they have come is written.
pub record RunsSoon (left0 left held0 held : Option (List ℕ)) (all now : List ℕ → Told) : Type 0 where
  pub consumed : List ℕ
  pub source : left0 ≡ prepend_known consumed left
  pub puts : Puts held0 held (λ rest. all (consumed ++ rest)) now
  pub quiet : all [] ≡ silence → (now []).text ≡ []
  pub unended : all [] ≡ silence → (all consumed).closed ≡ true

pub runs_soon_none : (left held : Option (List ℕ)) (all : List ℕ → Told) → RunsSoon left left held held all all
runs_soon_none left held all = record {
  consumed = [];
  source = prepend_known-none left;
  puts = puts_none held _ _ (λ rest. refl);
  quiet = λ none. ap (λ told. told.text) none;
  unended = λ none. ap (λ told. told.closed) none;
}

-- what is told later comes behind it
abbrev pub IsLater : (before now : List ℕ → Told) → List ℕ → Type 0
IsLater before now piece = (rest : List ℕ) → before (piece ++ rest) ≡ after (before piece).text (now rest)

pub later_quiet : (before now : List ℕ → Told) (piece : List ℕ) → IsLater before now piece → (now []).text ≡ []
later_quiet before now piece later =
    sym (append_cancel_left (before piece).text [] (now []).text
    (append-nil (before piece).text ∙ ap (λ bytes. (before bytes).text) (sym (append-nil piece)) ∙ ap (λ told. told.text) (later [])))

pub later_puts : {old new : Option (List ℕ)} (before now : List ℕ → Told) (piece : List ℕ) → new ≡ append_known old (before piece).text → IsLater before now piece → Puts old new (λ rest. before (piece ++ rest)) now
later_puts before now piece held later = record { written = (before piece).text; held = held; parts = later }

-- no bytes are left
pub puts_rest : {old new : Option (List ℕ)} {soon : List ℕ → Told} (left : List ℕ → Told) (rest : List ℕ) → length rest ≡ 0 → Puts old new soon (λ more. left (rest ++ more)) → Puts old new soon left
puts_rest left [] none puts = puts
puts_rest left (byte ∷ rest) none puts = absurd (omega (arith, none))

module _ {old new : Option (List ℕ)} (before now : List ℕ → Told) (bytes : List ℕ) (puts : Puts old new (λ rest. before (bytes ++ rest)) now) (quiet : (now []).text ≡ []) where
  written_is : puts.written ≡ (before bytes).text
  written_is =
      sym (append-nil puts.written) ∙ ap (λ xs. puts.written ++ xs) (sym quiet) ∙ sym (ap (λ told. told.text) (puts.parts []))
      ∙ ap (λ xs. (before xs).text) (append-nil bytes)

  -- all of it is written, and what is told later comes behind it
  pub puts_all : new ≡ append_known old (before bytes).text
  puts_all = puts.held ∙ ap (append_known old) written_is

  pub puts_later : IsLater before now bytes
  puts_later rest = puts.parts rest ∙ ap (λ xs. after xs (now rest)) written_is

-- they leave the text open if what is to come does
pub puts_open : {old new : Option (List ℕ)} (before now : List ℕ → Told) (bytes : List ℕ) → Puts old new (λ rest. before (bytes ++ rest)) now → (now []).closed ≡ true → (before bytes).closed ≡ true
puts_open before now bytes puts ends =
    ap (λ xs. (before xs).closed) (sym (append-nil bytes)) ∙ ap (λ told. told.closed) (puts.parts []) ∙ ends

-- what was read is what was consumed
was_consumed : (left0 left : Option (List ℕ)) (bytes consumed : List ℕ) → WasRead left0 left bytes → left0 ≡ prepend_known consumed left → bytes ≡ consumed
was_consumed left0 None bytes consumed read source = absurd read
was_consumed left0 (Some left) bytes consumed read source = append_cancel_right bytes consumed left (ap (λ known. unwrap_or known []) (sym read ∙ source))

module _ {left0 left held0 held : Option (List ℕ)} {all now : List ℕ → Told} (runs : RunsSoon left0 left held0 held all now) where
  source_of : (left' : Option (List ℕ)) (piece : List ℕ) → left ≡ prepend_known piece left' → left0 ≡ prepend_known (runs.consumed ++ piece) left'
  source_of left' piece e = runs.source ∙ ap (prepend_known runs.consumed) e ∙ prepend_known-twice runs.consumed piece left'

  pub runs_soon_more : {left' held' : Option (List ℕ)} (now' : List ℕ → Told) (piece : List ℕ) → left ≡ prepend_known piece left' → held' ≡ append_known held (now piece).text → IsLater now now' piece → (now piece).closed ≡ true → RunsSoon left0 left' held0 held' all now'
  runs_soon_more {left' = left'} now' piece e written later ends = record {
    consumed = runs.consumed ++ piece;
    source = source_of left' piece e;
    puts = puts_from (λ rest. ap all (append_assoc runs.consumed piece rest)) (puts_then (puts_moved piece) (later_puts now now' piece written later));
    quiet = λ none. later_quiet now now' piece later;
    unended = λ none. ap (λ told. told.closed) (runs.puts.parts piece) ∙ ends;
  }
    where
      puts_moved : (piece : List ℕ) → Puts held0 held (λ rest. all (runs.consumed ++ (piece ++ rest))) (λ rest. now (piece ++ rest))
      puts_moved piece = record { written = runs.puts.written; held = runs.puts.held; parts = λ rest. runs.puts.parts (piece ++ rest) }

  consumed_is : (bytes : List ℕ) → WasRead left0 left bytes → bytes ≡ runs.consumed
  consumed_is bytes read = was_consumed left0 left bytes runs.consumed read runs.source

  pub runs_soon_all : all [] ≡ silence → (bytes : List ℕ) → WasRead left0 left bytes → held ≡ append_known held0 (all bytes).text
  runs_soon_all none bytes read = rw (consumed_is bytes read) (puts_all all now runs.consumed runs.puts (runs.quiet none))

  pub runs_unended : all [] ≡ silence → (bytes : List ℕ) → WasRead left0 left bytes → (all bytes).closed ≡ true
  runs_unended none bytes read = rw (consumed_is bytes read) (runs.unended none)

  -- what was read before the last piece leaves the text open
  pub stops_behind : (left' : Option (List ℕ)) (piece : List ℕ) → left ≡ prepend_known piece left' → length piece ≤ 8192 → all [] ≡ silence → (bytes : List ℕ) → WasRead left0 left' bytes → ReadsNoFurther all bytes
  stops_behind left' piece e short none bytes read = record {
    front = runs.consumed;
    piece = piece;
    parts = was_consumed left0 left' bytes (runs.consumed ++ piece) read (source_of left' piece e);
    unended = runs.unended none;
    short = short;
  }

  pub stops_here : (left' : Option (List ℕ)) → left' ≡ left → all [] ≡ silence → (bytes : List ℕ) → WasRead left0 left' bytes → ReadsNoFurther all bytes
  stops_here left' same none bytes read = stops_behind left' [] (sym same ∙ prepend_known-none left') (omega arith) none bytes read
