use Rattle.std.proofs.Common.{◌∙◌, ap, codes, option_and_then}
use Rattle.clap.specs.Words.{found_of, one_text}
use Rattle.clap.proofs.WalkLemmas.{one_text-rows}
use Rattle.std.specs.Str.Parse.{ParsesUnsigned, ExplainsUnsignedError, HasUnsignedDigitsIfOk}
use Rattle.xl_words.specs.Commands.{number_from}
use Rattle.xl_words.proofs.Numbers.{number_found}
use Rattle.xl_words.proofs.rounds.number_of.Goals as goal

pub returns-in-Some : goal.returns-in-Some
returns-in-Some c =
    let found = number_found (λ bs r. ParsesUnsigned 64 10 bs r × ExplainsUnsignedError 10 bs r × HasUnsignedDigitsIfOk bs r) (λ u x g. g.0)
    (one_text (found_of c.args.matches.now) (codes "rounds")) c.get_one.result c.get_one.ensures.none c.get_one.ensures.value in
    c.in_range.ensures ∙ rw c.in-Some.is at found ∙ ap (option_and_then number_from) (one_text-rows (found_of c.args.matches.now) (codes "rounds"))

pub returns-in-None : goal.returns-in-None
returns-in-None c =
    let found = number_found (λ bs r. ParsesUnsigned 64 10 bs r × ExplainsUnsignedError 10 bs r × HasUnsignedDigitsIfOk bs r) (λ u x g. g.0)
    (one_text (found_of c.args.matches.now) (codes "rounds")) c.get_one.result c.get_one.ensures.none c.get_one.ensures.value in
    rw c.in-None.is at found ∙ ap (option_and_then number_from) (one_text-rows (found_of c.args.matches.now) (codes "rounds"))
