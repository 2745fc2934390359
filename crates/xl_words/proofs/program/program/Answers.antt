-- none of the commands has an argument that is global, so that each is added with its own rule alone
use Rattle.std.proofs.Common.{◌≡◌, ◌∙◌, ◌||◌, ap, ap₂, codes}
use Rattle.std.proofs.lemmas.Result.{IfOk-weaker}
use Rattle.clap.specs.Words.{App, app_of, new_app, with_rule, with_subcommand}
use Rattle.xl_words.specs.Programs.{rounds_rule}
use Rattle.xl_words.proofs.program.program.Goals as goal

pub returns : goal.returns
returns c =
    let rounds : app_of c.in_ok-rounds.rounds ≡ with_rule (new_app (codes "gen")) rounds_rule =
    c.in_ok-rounds.ensures.shape c.rounds_argument.ensures.local ∙ ap₂ with_rule c.new.ensures.app c.rounds_argument.ensures.rule in
    let free = c.in_ok-rounds.ensures.globals
    ∙ ap₂ (λ a b. a || b) c.new.ensures.local c.rounds_argument.ensures.local in
    IfOk-weaker c.subcommand.result _ _
    (λ command adds. adds.shape free ∙ ap₂ with_subcommand c.in_ok-plain.ensures (ap (λ (a : App). a.top) rounds))
    c.subcommand.ensures
