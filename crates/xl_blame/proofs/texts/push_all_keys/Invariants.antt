use Rattle.std.proofs.Common.{◌≡◌, ◌++◌, take}
use Rattle.std.specs.List.{flat_map}
use Rattle.std.specs.String.{string_bytes}
use Rattle.xl_blame.specs.Texts.{keys_line}
use Rattle.xl_blame.proofs.texts.push_all_keys.Given as goal

-- the lines so far
abbrev pub invariant-loop-mixed : goal.invariant-loop-mixed
invariant-loop-mixed l = string_bytes l.text ≡ string_bytes l.initial.text ++ flat_map keys_line (take l.mixed-index l.all)
