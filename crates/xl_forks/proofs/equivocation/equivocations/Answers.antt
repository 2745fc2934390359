use Rattle.std.specs.Prelude.{◌≡◌, filter_map}
use Rattle.std.proofs.Common.{◌∙◌}
use Rattle.std.proofs.lemmas.Result.{IfOk-weaker}
use Rattle.xl_forks.specs.Equivocations.{equivocations_in}
use Rattle.xl_forks.specs.Kept.{equivocation_kept, words_seen}
use Rattle.xl_forks.proofs.Naming.{all_named}
use Rattle.xl_forks.proofs.equivocation.equivocations.Goals as goal

pub returns : goal.returns
returns c = λ said kept.
    IfOk-weaker c.equivocations_among.result (λ found. found.items ≡ filter_map (λ e. equivocation_kept (words_seen e.1)) c.args.words.now.entries) (λ found. found.items ≡ equivocations_in said)
    (λ found are. are ∙ all_named c.args.words.now said kept c.equivocations_among.ensures.ordered c.equivocations_among.ensures.each)
    c.equivocations_among.ensures.value
