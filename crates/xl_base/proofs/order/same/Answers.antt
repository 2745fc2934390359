use Rattle.std.proofs.Common.{ap, ◌∙◌}
use Rattle.std.specs.Str.{bytes_eq}
use Rattle.xl_base.specs.Ids.{words_of}
use Rattle.xl_base.proofs.Words.{words_same}
use Rattle.xl_base.proofs.order.same.Goals as goal

pub returns : goal.returns
returns c =
    c.eq.ensures
    ∙ ap (λ ws. bytes_eq ws c.words-2.result) c.words.ensures
    ∙ ap (bytes_eq (words_of c.args.a.now)) c.words-2.ensures
    ∙ words_same c.args.a.now c.args.b.now c.fits-a c.fits-b c.told-a c.told-b
