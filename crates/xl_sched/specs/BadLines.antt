-- What is written of a refused line, and the refusals of lines beyond a limit. Source: this project's own formats.
use Rattle.std.specs.Prelude.{ℕ, List, [], ◌∷◌, ◌++◌, codes, decimal}
use Rattle.xl_lines.specs.declared.limits.Overrun.{Overrun}
use Rattle.xl_lines.specs.declared.limits.Overrun.TheVariants as overrun
use Rattle.xl_sched.specs.Limits.{most_bytes, most_lines}
use Rattle.xl_sched.specs.Refusals.{code_of, token_of}
use Rattle.xl_sched.specs.Tokens.{shown_token}
use Rattle.xl_sched.specs.declared.refusal.SchedRefusal.{SchedRefusal}
use Rattle.xl_sched.specs.declared.refusal.SchedRefusal.TheVariants.{LongLine, Limit}

-- its number, the refusal's, and the token that is refused
abbrev pub bad_line : ℕ → SchedRefusal → List ℕ
bad_line n refusal =
    codes "bad " ++ decimal n ++ codes " " ++ decimal (code_of refusal) ++ codes " " ++ shown_token (token_of refusal)
    ++ 10 ∷ []

abbrev pub beyond : Overrun → SchedRefusal
beyond overrun.LongLine = LongLine (decimal most_bytes)
beyond overrun.ManyLines = Limit (decimal most_lines)
