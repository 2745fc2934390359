use Rattle.std.proofs.Common.{length}
use Rattle.xl_publish.proofs.TextLaws.{AreTaken}
use Rattle.xl_publish.proofs.publishers.Publishers.take_text.Given as goal

abbrev pub invariant-loop-end : goal.invariant-loop-end
invariant-loop-end l = AreTaken l.members l.initial.self l.text l.self l.rest l.number l.refused

abbrev pub decreases-loop-end : goal.decreases-loop-end
decreases-loop-end l = length l.rest
