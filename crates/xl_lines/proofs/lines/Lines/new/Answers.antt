use Rattle.std.proofs.Common.{sym}
use Rattle.xl_lines.proofs.Cutting.{told_at-start}
use Rattle.xl_lines.proofs.Soon.{soon_at-start}
use Rattle.xl_lines.proofs.lines.Lines.new.Goals as goal

pub returns-clause-tells : goal.returns-clause-tells
returns-clause-tells g c bytes = rw c.new.ensures.items (sym (told_at-start c.args.limits g.M.Machine.rules (g.M.Machine.state c.args.machine) bytes))

pub returns-clause-soon : goal.returns-clause-soon
returns-clause-soon g c bytes = rw c.new.ensures.items (sym (soon_at-start c.args.limits g.M.Machine.rules (g.M.Machine.state c.args.machine) bytes))
