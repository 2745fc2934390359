use Rattle.std.proofs.Common.{◌≡◌, ◌∙◌, map}
use Rattle.std.specs.Map.Iter.{deref_pair}
use Rattle.std.proofs.lemmas.Map.Iter.{iter_end}
use Rattle.xl_forks.specs.Kept.{equivocation_kept, words_seen}
use Rattle.xl_forks.proofs.Naming.{next_named, over_entries}
use Rattle.xl_forks.proofs.equivocation.equivocations_among.Goals as goal

pub loop-spoken-preserved : goal.loop-spoken-preserved
loop-spoken-preserved c =
    next_named (λ e. equivocation_kept (words_seen e.1.now)) c.loop-spoken.yielded (c.in-Some.field-0-0, c.in-Some.spoken) c.loop-spoken.found.items _ c.loop-spoken.invariant c.in_ok-push_equivocation.ensures

pub returns-clause-value : goal.returns-clause-value
returns-clause-value c =
    let all : map deref_pair c.loop-spoken.yielded ≡ c.args.words.now.entries =
    (iter_end deref_pair c.args.words.now.entries c.loop-spoken.yielded _ _ _ _ (cc) c.loop-spoken.yielded_by c.in-None.is c.next.ensures.steps).0 in
    c.loop-spoken.invariant ∙ over_entries (λ w. equivocation_kept (words_seen w)) c.loop-spoken.yielded c.args.words.now.entries all
