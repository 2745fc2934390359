use Rattle.std.specs.Prelude.{◌≡◌, filter_map}
use Rattle.xl_forks.specs.Kept.{equivocation_kept, words_seen}
use Rattle.xl_forks.proofs.equivocation.equivocations_among.Given as goal

-- those of the first keys were found
abbrev pub invariant-loop-spoken : goal.invariant-loop-spoken
invariant-loop-spoken l = l.found.items ≡ filter_map (λ e. equivocation_kept (words_seen e.1.now)) l.yielded
