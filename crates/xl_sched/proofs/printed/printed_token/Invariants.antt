use Rattle.std.proofs.Common.{◌≡◌, ◌++◌, map, take}
use Rattle.std.specs.String.{string_bytes}
use Rattle.xl_sched.specs.Tokens.{shown_byte}
use Rattle.xl_sched.proofs.printed.printed_token.Given as goal

abbrev pub invariant-loop-b : goal.invariant-loop-b
invariant-loop-b l = string_bytes l.text ≡ string_bytes l.initial.text ++ map shown_byte (take l.b-index l.b-items)
