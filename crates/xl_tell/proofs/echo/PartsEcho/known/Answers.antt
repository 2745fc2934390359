-- the kept words are those of the kept parts, which are these
use Rattle.std.proofs.Common.{ℕ, List, ap, ◌∙◌}
use Rattle.xl_wire.specs.Bodies.{body_of}
use Rattle.xl_tell.specs.Echoes.{parts_text}
use Rattle.xl_tell.proofs.echo.PartsEcho.known.Goals as goal

pub returns-then-has : goal.returns-then-has
returns-then-has c =
    let names = c.args.reader.now.names in
    let kept = c.args.self.now in
    let raw = c.args.raw.now in
    let yes = c.if-has.true in
    c.as_str.ensures.value
    ∙ (c.requires (c.has.ensures.said yes)
    ∙ (ap (λ (k : ℕ). parts_text names (body_of k kept.body.items)) (c.has.ensures.kind yes)
    ∙ ap (λ (b : List ℕ). parts_text names (body_of raw.kind b)) (c.has.ensures.body yes)))
