-- the words are those of what was said, which is this
use Rattle.std.proofs.Common.{◌≡◌, Option, ap, subst, ◌∙◌}
use Rattle.std.specs.Prelude.{IfSome}
use Rattle.std.specs.String.{string_bytes}
use Rattle.xl_told.specs.Bodies.{body_text}
use Rattle.xl_world.specs.declared.said.Said.{Said}
use Rattle.xl_world.specs.Sending.{body_said}
use Rattle.xl_tell.proofs.echo.Echo.known.Goals as goal

pub returns-in-Some : goal.returns-in-Some
returns-in-Some c =
    let names = c.args.reader.now.names in
    c.as_str.ensures.value
    ∙ (subst (λ (o : Option Said). IfSome o (λ said. string_bytes c.args.self.now.words ≡ body_text names (body_said said))) c.in-Some.is c.requires
    ∙ ap (λ (said : Said). body_text names (body_said said)) (c.is.ensures c.if-is.true))
