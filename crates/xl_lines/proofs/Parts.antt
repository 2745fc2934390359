-- What is told where the next bytes come.
use Rattle.std.proofs.Common.{◌≡◌, ◌+◌, ◌<◌, ◌≤◌, ◌==◌, ℕ, true, false, List, ◌∷◌, ◌++◌, length, take, drop, Option, Some, None, unwrap_or, is_some, refl, sym, ap, ◌∙◌, arith, append_assoc}
use Rattle.std.proofs.lemmas.Bool.{false≢true}
use Rattle.std.proofs.lemmas.List.{take_all, drop_all, length-take-le}
use Rattle.std.proofs.lemmas.List.Folds.{list_any-append}
use Rattle.xl_lines.specs.declared.limits.Limits.{Limits}
use Rattle.xl_lines.specs.declared.limits.Overrun.TheVariants.{LongLine}
use Rattle.xl_lines.specs.Rules.{Rules, refused}
use Rattle.xl_lines.specs.Lines.{lines_of}
use Rattle.xl_lines.specs.Told.{told_from}
use Rattle.xl_lines.specs.Running.{told_at, bytes_to_come}
use Rattle.xl_lines.proofs.Newlines.{IsOneLine, FindsNewline}
use Rattle.xl_lines.proofs.Cutting.{told_at-long}

-- where the first line of the bytes ends, its newline left out
abbrev pub first_end : List ℕ → Option ℕ → ℕ
first_end bytes newline = unwrap_or newline (length bytes)

pub one_line-append : (line part : List ℕ) → IsOneLine line → IsOneLine part → IsOneLine (line ++ part)
one_line-append line part a b = list_any-append (λ byte. byte == 10) line part ∙ rw (a, b) refl

pub one_line-first : (bytes : List ℕ) (newline : Option ℕ) (count : ℕ) → FindsNewline bytes newline → count ≡ first_end bytes newline → IsOneLine (take count bytes)
one_line-first bytes None count finds k = rw (k, take_all (length bytes) bytes (omega arith)) finds
one_line-first bytes (Some n) count finds k = rw k finds.1

pub one_line-none : (bytes : List ℕ) (newline : Option ℕ) → FindsNewline bytes newline → is_some newline ≡ false → IsOneLine bytes
one_line-none bytes None finds none = finds
one_line-none bytes (Some n) finds none = absurd (false≢true (sym none))

-- a line is no longer to come
pub fewer : (limits limits' : Limits) (left left' line line' count : ℕ) → limits' ≡ limits → left' + 1 ≡ left → line' ≡ 0 → line + count ≤ limits.bytes → bytes_to_come limits' left' line' + (count + 1) ≤ bytes_to_come limits left line
fewer limits limits' left left' line line' count e f n short = rw (e, sym f, n) (omega (arith, short))

-- the bytes are cut at their first newline
pub cut_newline : (bytes : List ℕ) (newline : Option ℕ) (count : ℕ) → FindsNewline bytes newline → is_some newline ≡ true → count ≡ first_end bytes newline → (rest : List ℕ) → bytes ++ rest ≡ take count bytes ++ (10 ∷ (drop (count + 1) bytes ++ rest))
cut_newline bytes None count finds found k rest = absurd (false≢true found)
cut_newline bytes (Some n) count finds found k rest =
    rw k (ap (λ xs. xs ++ rest) finds.2 ∙ append_assoc (take n bytes) (10 ∷ drop (n + 1) bytes) rest)

-- the bytes after the line, with no newline among them
pub moved_none : (line bytes : List ℕ) (newline : Option ℕ) (count : ℕ) → is_some newline ≡ false → count ≡ first_end bytes newline → (line' : List ℕ) → line' ≡ line ++ bytes → (rest : List ℕ) → line ++ (bytes ++ rest) ≡ line' ++ (drop count bytes ++ rest)
moved_none line bytes (Some n) count none k line' l rest = absurd (false≢true (sym none))
moved_none line bytes None count none k line' l rest =
    rw (l, k, drop_all (length bytes) bytes (omega arith)) (sym (append_assoc line bytes rest))

module _ {S : Type 0} (limits : Limits) (rules : Rules S) (left : ℕ) (state : S) where
  -- the line is too long with the next bytes
  pub told_long : (line bytes : List ℕ) (newline : Option ℕ) → IsOneLine line → FindsNewline bytes newline → limits.bytes < length line + first_end bytes newline → (rest : List ℕ) → told_at limits rules left state line (bytes ++ rest) ≡ refused (rules.overrun state LongLine)
  told_long line bytes None one finds beyond rest =
      told_at-long limits rules left state line bytes rest (one_line-append line bytes one finds) beyond
  told_long line bytes (Some n) one finds beyond rest =
      let part = take n bytes in
      let after = 10 ∷ drop (n + 1) bytes in
      let long : length part ≡ n = length-take-le n bytes (omega (arith, finds.0)) in
      ap (λ xs. told_at limits rules left state line (xs ++ rest)) finds.2
      ∙ ap (told_at limits rules left state line) (append_assoc part after rest)
      ∙ told_at-long limits rules left state line part (after ++ rest) (one_line-append line part one finds.1) (rw long beyond)

  -- they are no longer to come, and stand in the line
  pub told_joined : (line bytes : List ℕ) (limits' : Limits) (left' : ℕ) (line' : List ℕ) → limits' ≡ limits → left' ≡ left → line' ≡ line ++ bytes → (state' : S) → state' ≡ state → (rest : List ℕ) → told_at limits rules left state line (bytes ++ rest) ≡ told_at limits' rules left' state' line' rest
  unfolding told_at
  told_joined line bytes limits' left' line' e f l state' m rest =
      rw (e, f, l, m) (ap (λ xs. told_from limits rules left state (lines_of xs)) (sym (append_assoc line bytes rest)))

  -- none is among them
  pub told_none : (line bytes : List ℕ) (newline : Option ℕ) (count : ℕ) → is_some newline ≡ false → count ≡ first_end bytes newline → (limits' : Limits) (left' : ℕ) (line' : List ℕ) → limits' ≡ limits → left' ≡ left → line' ≡ line ++ bytes → (state' : S) → state' ≡ state → (rest : List ℕ) → told_at limits rules left state line (bytes ++ rest) ≡ told_at limits' rules left' state' line' (drop count bytes ++ rest)
  unfolding told_at
  told_none line bytes newline count none k limits' left' line' e f l state' m rest =
      rw (e, f, m) (ap (λ xs. told_from limits rules left state (lines_of xs)) (moved_none line bytes newline count none k line' l rest))
