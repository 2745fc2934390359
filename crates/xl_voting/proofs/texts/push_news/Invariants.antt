use Rattle.std.proofs.Common.{◌≡◌, ◌++◌, take}
use Rattle.std.specs.String.{string_bytes}
use Rattle.xl_voting.specs.Texts.{flag_lines}
use Rattle.xl_voting.proofs.texts.push_news.Given as goal

-- the lines so far
abbrev pub invariant-loop-line : goal.invariant-loop-line
invariant-loop-line l = string_bytes l.text ≡ string_bytes l.fn.text ++ flag_lines l.reader.names (take l.line-index l.lines)
