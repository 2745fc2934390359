-- How the bytes so far fix the lines.
use Rattle.std.proofs.Common.{◌≡◌, ◌+◌, ◌<◌, ◌≤◌, ◌||◌, eqb, ℕ, suc, Bool, true, false, List, [], ◌∷◌, ◌++◌, length, refl, sym, ap, ◌∙◌, arith, append_assoc, append-nil, length-append, ◌-◌}
use Rattle.std.proofs.lemmas.Bool.{false≢true, lt-ltb, le-ltb}
use Rattle.xl_lines.specs.declared.limits.Limits.{Limits}
use Rattle.xl_lines.specs.declared.limits.Overrun.TheVariants.{LongLine}
use Rattle.xl_lines.specs.Lines.{Line, lines_of, onto, before_newline}
use Rattle.xl_lines.specs.Rules.{Rules, refused}
use Rattle.xl_lines.specs.Told.{told_from, told_of, told_by, step_within}
use Rattle.xl_lines.specs.Running.{told_at}
use Rattle.xl_lines.proofs.Newlines.{IsOneLine}

-- the two parts of a test that fails
or_false : (a b : Bool) → (a || b) ≡ false → (a ≡ false) × (b ≡ false)
or_false true b h = absurd (false≢true (sym h))
or_false false b h = (refl, h)

-- a newline ends the line before it
pub lines_of-ended : (line rest : List ℕ) → IsOneLine line → lines_of (line ++ 10 ∷ rest) ≡ record { bytes = line; ended = true } ∷ lines_of rest
lines_of-ended [] rest one = refl
lines_of-ended (byte ∷ line) rest one =
    let e : (eqb byte 10 ≡ false) × IsOneLine line = or_false _ _ one in
    rw e.0 (ap (onto byte) (lines_of-ended line rest e.1))

-- what stands after the last newline is a line
pub lines_of-last : (byte : ℕ) (line : List ℕ) → IsOneLine (byte ∷ line) → lines_of (byte ∷ line) ≡ record { bytes = byte ∷ line; ended = false } ∷ []
lines_of-last byte [] one =
    let e : (eqb byte 10 ≡ false) × IsOneLine [] = or_false _ _ one in
    rw e.0 refl
lines_of-last byte (next ∷ line) one =
    let e : (eqb byte 10 ≡ false) × IsOneLine (next ∷ line) = or_false _ _ one in
    rw e.0 (ap (onto byte) (lines_of-last next line e.1))

-- how long the first line is
first_len : List Line → ℕ
first_len [] = 0
first_len (line ∷ lines) = length line.bytes

first_len-onto : (byte : ℕ) (lines : List Line) → first_len (onto byte lines) ≡ suc (first_len lines)
unfolding first_len
first_len-onto byte [] = refl
first_len-onto byte (line ∷ lines) = refl

-- the first line is at least as long as what has come of it
first_len-lines_of : (line rest : List ℕ) → IsOneLine line → length line ≤ first_len (lines_of (line ++ rest))
first_len-lines_of [] rest one = omega arith
first_len-lines_of (byte ∷ line) rest one =
    let e : (eqb byte 10 ≡ false) × IsOneLine line = or_false _ _ one in
    let longer = first_len-lines_of line rest e.1 in
    rw (e.0, first_len-onto) (omega (arith, longer))

module _ {S : Type 0} (limits : Limits) (rules : Rules S) (left : ℕ) (state : S) where
  told_long : (lines : List Line) → limits.bytes < first_len lines → told_from limits rules left state lines ≡ refused (rules.overrun state LongLine)
  unfolding first_len told_by
  told_long [] long = absurd (omega arith)
  told_long (line ∷ lines) long = rw (lt-ltb _ _ long) refl

  -- what has come of the line is too long already
  pub told_at-long : (line part rest : List ℕ) → IsOneLine (line ++ part) → limits.bytes < length line + length part → told_at limits rules left state line (part ++ rest) ≡ refused (rules.overrun state LongLine)
  unfolding told_at
  told_at-long line part rest one beyond =
      let longer = first_len-lines_of (line ++ part) rest one in
      let long : limits.bytes < first_len (lines_of ((line ++ part) ++ rest)) = omega (arith, length-append line part) in
      ap (λ bytes. told_from limits rules left state (lines_of bytes)) (sym (append_assoc line part rest))
      ∙ told_long (lines_of ((line ++ part) ++ rest)) long

  -- a whole line has come, and this is handed on
  pub told_at-ended : (line handed rest : List ℕ) → IsOneLine line → length line ≤ limits.bytes → handed ≡ before_newline limits.returns line → told_at limits rules left state line (10 ∷ rest) ≡ told_by (λ next. told_at limits rules (left - 1) next [] rest) (step_within rules left state handed true)
  unfolding told_at
  told_at-ended line handed rest one short is = rw (lines_of-ended line rest one, le-ltb _ _ short, is) refl

  -- the input ends in a line
  pub told_at-last : (line handed : List ℕ) → 0 < length line → IsOneLine line → length line ≤ limits.bytes → handed ≡ line → told_at limits rules left state line [] ≡ told_by rules.closing (step_within rules left state handed false)
  unfolding told_at
  told_at-last [] handed some one short is = absurd (omega arith)
  told_at-last (byte ∷ line) handed some one short is =
      ap (λ bytes. told_from limits rules left state (lines_of bytes)) (append-nil (byte ∷ line))
      ∙ rw (lines_of-last byte line one, le-ltb _ _ short, is) refl

  -- the input ends, and no line has begun
  pub told_at-end : (line : List ℕ) → length line ≡ 0 → told_at limits rules left state line [] ≡ rules.closing state
  unfolding told_at
  told_at-end [] none = refl
  told_at-end (byte ∷ line) none = absurd (omega arith)

-- at the start
pub told_at-start : {S : Type 0} (limits : Limits) (rules : Rules S) (state : S) (bytes : List ℕ) → told_of limits rules state bytes ≡ told_at limits rules limits.lines state [] bytes
unfolding told_at
told_at-start limits rules state bytes = refl
