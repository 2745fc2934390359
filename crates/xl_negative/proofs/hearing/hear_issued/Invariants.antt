use Rattle.std.proofs.Common.{◌≡◌, ◌++◌, take}
use Rattle.std.specs.Prelude.{map}
use Rattle.xl_negative.specs.Hearing.{heard_itself}
use Rattle.xl_negative.proofs.hearing.hear_issued.Given as goal

abbrev pub invariant-loop-said : goal.invariant-loop-said
invariant-loop-said l = l.heard.items ≡ l.initial.heard.items ++ map heard_itself (take l.said-index l.issued)
