use Rattle.std.proofs.Common.{take}
use Rattle.xl_forks.specs.Kept.{IsKept}
use Rattle.xl_forks.proofs.words.words_of.Given as goal

-- the first words are kept
abbrev pub invariant-loop-word : goal.invariant-loop-word
invariant-loop-word l = IsKept l.words (take l.word-index l.said)
