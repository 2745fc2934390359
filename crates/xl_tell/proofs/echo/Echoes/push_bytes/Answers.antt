-- what the bytes say is what their parts say
use Rattle.std.proofs.Common.{◌++◌, List, ℕ, ap, sym, ◌∙◌}
use Rattle.std.specs.String.{string_bytes}
use Rattle.xl_wire.specs.Heads.{parts}
use Rattle.xl_wire.specs.Raws.{raw_frame}
use Rattle.xl_tell.proofs.Sealed.{bytes_said}
use Rattle.xl_tell.proofs.echo.Echoes.push_bytes.Goals as goal

pub returns-in_ok-push-in-Whole-clause-told : goal.returns-in_ok-push-in-Whole-clause-told
returns-in_ok-push-in-Whole-clause-told c =
    c.in_ok-push-in-Whole.ensures.told
    ∙ ap (λ (words : List ℕ). string_bytes c.args.text.now ++ words) (sym (bytes_said c.args.reader.now.names c.args.bytes.now (raw_frame c.in-Whole.raw) (sym c.split.ensures.exact ∙ ap parts c.in-Whole.is)))
