use Rattle.std.proofs.Common.{ap, ◌∙◌}
use Rattle.std.specs.Ordering.{nat_cmp}
use Rattle.std.specs.Cmp.Lexicographic.{slice_cmp}
use Rattle.xl_base.specs.Ids.{words_of}
use Rattle.xl_base.proofs.Words.{words_order}
use Rattle.xl_base.proofs.order.compare.Goals as goal

pub returns : goal.returns
returns c =
    c.cmp.ensures
    ∙ ap (λ ws. slice_cmp nat_cmp ws c.words-2.result) c.words.ensures
    ∙ ap (slice_cmp nat_cmp (words_of c.args.a.now)) c.words-2.ensures
    ∙ words_order c.args.a.now c.args.b.now c.fits-a c.fits-b c.told-a c.told-b
