use Rattle.std.proofs.Common.{◌≡◌, ◌++◌, take}
use Rattle.std.specs.List.{flat_map}
use Rattle.std.specs.String.{string_bytes}
use Rattle.xl_blame.specs.Confessions.{giver_in, named_text}
use Rattle.xl_blame.proofs.confessions.push_all_named.Given as goal

-- the lines so far
abbrev pub invariant-loop-twice : goal.invariant-loop-twice
invariant-loop-twice l =
    string_bytes l.text
    ≡ string_bytes l.initial.text ++ flat_map (named_text l.ended (giver_in l.givers)) (take l.twice-index l.all)
