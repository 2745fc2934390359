-- Tokens that are one of a few words. Source: this project's schedule language.
use Rattle.std.specs.Prelude.{ℕ, Bool, true, false, List, codes, Result, Ok, Err, if◌then◌else◌}
use Rattle.std.specs.Str.{bytes_eq}
use Rattle.xl_sched.specs.declared.refusal.SchedRefusal.{SchedRefusal}
use Rattle.xl_sched.specs.declared.refusal.SchedRefusal.TheVariants.{Choice}

-- whether a node validates: not if `observing` is written, and nothing else may be
abbrev pub validating_of : List ℕ → Result Bool SchedRefusal
validating_of token = if bytes_eq token (codes "observing") then Ok false else Err (Choice token)

-- whether a validation is `full`, and not `partial`
abbrev pub full_of : List ℕ → Result Bool SchedRefusal
full_of token =
    if bytes_eq token (codes "full") then Ok true
    else if bytes_eq token (codes "partial") then Ok false
    else Err (Choice token)

-- whether a keeper then holds the `new` number, and not the `old` one
abbrev pub new_of : List ℕ → Result Bool SchedRefusal
new_of token =
    if bytes_eq token (codes "new") then Ok true
    else if bytes_eq token (codes "old") then Ok false
    else Err (Choice token)
