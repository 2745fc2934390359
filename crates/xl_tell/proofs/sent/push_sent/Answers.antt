-- none was sent
use Rattle.std.proofs.Common.{sym, arith}
use Rattle.std.specs.String.{string_bytes}
use Rattle.xl_tell.proofs.Frames.{none_told}
use Rattle.xl_tell.proofs.sent.push_sent.Goals as goal

pub returns-then-len-before : goal.returns-then-len-before
returns-then-len-before c =
    sym (none_told c.args.reader.now.names c.args.sent.now c.args.before (string_bytes c.args.text.now) (omega (arith, c.if-len-before.true, c.len.ensures)))
