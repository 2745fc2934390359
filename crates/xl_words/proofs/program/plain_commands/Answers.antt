-- none of these commands has an argument that is global, so that each is added with its own rule alone
use Rattle.std.proofs.Common.{◌∙◌, ap, ap₂}
use Rattle.std.proofs.lemmas.Result.{IfOk-weaker}
use Rattle.clap.specs.Words.{App, with_subcommand}
use Rattle.xl_words.proofs.program.plain_commands.Goals as goal

pub returns : goal.returns
returns c =
    let one = c.in_ok-subcommand.ensures.shape c.new.ensures.local ∙ ap₂ with_subcommand c.in_ok-first_commands.ensures (ap (λ (a : App). a.top) c.new.ensures.app) in
    let two = c.in_ok-subcommand-2.ensures.shape c.new-2.ensures.local ∙ ap₂ with_subcommand one (ap (λ (a : App). a.top) c.new-2.ensures.app) in
    let three = c.in_ok-subcommand-3.ensures.shape c.new-3.ensures.local ∙ ap₂ with_subcommand two (ap (λ (a : App). a.top) c.new-3.ensures.app) in
    let four = c.in_ok-subcommand-4.ensures.shape c.new-4.ensures.local ∙ ap₂ with_subcommand three (ap (λ (a : App). a.top) c.new-4.ensures.app) in
    IfOk-weaker c.subcommand-5.result _ _
    (λ command adds. adds.shape c.new-5.ensures.local ∙ ap₂ with_subcommand four (ap (λ (a : App). a.top) c.new-5.ensures.app))
    c.subcommand-5.ensures
