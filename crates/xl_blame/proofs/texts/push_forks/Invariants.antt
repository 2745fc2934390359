use Rattle.std.proofs.Common.{◌≡◌, ◌++◌, take}
use Rattle.std.specs.Prelude.{map}
use Rattle.std.specs.List.{flat_map}
use Rattle.std.specs.String.{string_bytes}
use Rattle.xl_forks.specs.Forks.{fork_seen}
use Rattle.xl_blame.specs.Texts.{fork_line}
use Rattle.xl_blame.proofs.texts.push_forks.Given as goal

-- the lines so far
abbrev pub invariant-loop-fork : goal.invariant-loop-fork
invariant-loop-fork l =
    string_bytes l.text ≡ string_bytes l.initial.text ++ flat_map fork_line (map fork_seen (take l.fork-index l.forks))
