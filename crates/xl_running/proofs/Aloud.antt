-- A line is never empty.
use Rattle.std.proofs.Common.{◌≡◌, ◌<◌, ℕ, List, ◌++◌, length, length-append, arith, refl}
use Rattle.std.specs.Prelude.{codes, decimal}
use Rattle.xl_sched.specs.declared.refusal.SchedRefusal.{SchedRefusal}
use Rattle.xl_sched.specs.Refusals.{code_of, token_of}
use Rattle.xl_sched.specs.Tokens.{shown_token}
use Rattle.xl_running.specs.Texts.{bad_line, newline, space}

-- a text that ends with a newline is not empty
pub line_some : (text : List ℕ) → 0 < length (text ++ newline)
line_some text = let one : length newline ≡ 1 = refl in omega (arith, one, length-append text newline)

pub bad_some : (n : ℕ) (why : SchedRefusal) → 0 < length (bad_line n why)
bad_some n why = line_some (codes "bad " ++ decimal n ++ space ++ decimal (code_of why) ++ space ++ shown_token (token_of why))
