-- the words of its body, and nothing before them
use Rattle.std.proofs.Common.{List, ℕ, ◌++◌, ap, ◌∙◌}
use Rattle.xl_told.specs.Bodies.{body_text}
use Rattle.xl_wire.specs.declared.body.Body.{Body}
use Rattle.xl_tell.proofs.echo.Echo.spell.Goals as goal

pub returns-clause-echo : goal.returns-clause-echo
returns-clause-echo c =
    let names = c.args.reader.now.names in
    c.in_ok-push_body.ensures
    ∙ (ap (λ (xs : List ℕ). xs ++ body_text names c.body.result) c.clear.ensures.bytes ∙ ap (λ (b : Body). body_text names b) c.body.ensures.value)

pub returns-clause-words : goal.returns-clause-words
returns-clause-words c =
    let names = c.args.reader.now.names in
    c.in_ok-push_body.ensures
    ∙ (ap (λ (xs : List ℕ). xs ++ body_text names c.body.result) c.clear.ensures.bytes ∙ ap (λ (b : Body). body_text names b) c.body.ensures.value)
