-- what waits for a reader is what was pushed since its count, so a later count leaves it the last items
use Rattle.std.proofs.Common.{◌≤◌, List, ap, subst, sym, length, ◌∙◌, arith}
use Rattle.xl_queues.specs.declared.broadcast.Reader.{Reader}
use Rattle.xl_queues.specs.Queues.{Backlog}
use Rattle.xl_queues.specs.Broadcasts.{at_reader, left_with, queue_of}
use Rattle.xl_queues.proofs.Broadcasting.{count_at, left_at, left_up}
use Rattle.xl_queues.proofs.broadcast.Broadcast.leave.Goals as goal

abbrev any : Reader
any = record { read = 0; lost = 0 }

pub overflow_sub-read : goal.overflow_sub-read
overflow_sub-read g c =
    let left = subst (λ (qs : List (Backlog _)). c.args.left ≤ length (queue_of qs c.args.reader).items) (sym c.self.view_is) c.requires.left in
    omega (arith, left, count_at g.row.N c.self.inside.items.items c.self.inside.pushed c.self.inside.readers c.args.reader any (omega (arith, c.requires.reader, c.self.told)))

pub invariant_of-self : goal.invariant_of-self
invariant_of-self g c =
    let left = subst (λ (qs : List (Backlog _)). c.args.left ≤ length (queue_of qs c.args.reader).items) (sym c.self.view_is) c.requires.left in (
      c.self.invariant.0,
      c.self.invariant.1,
      left_up g.row.N c.self.inside.items.items c.self.inside.pushed c.self.inside.readers c.args.reader c.args.left c.args.lost any (omega (arith, c.requires.reader, c.self.told)) left c.self.invariant.2,
    )

pub returns : goal.returns
returns g c =
    let left = subst (λ (qs : List (Backlog _)). c.args.left ≤ length (queue_of qs c.args.reader).items) (sym c.self.view_is) c.requires.left in
    left_at g.row.N c.self.inside.items.items c.self.inside.pushed c.self.inside.readers c.args.reader c.args.left c.args.lost any (omega (arith, c.requires.reader, c.self.told)) c.self.invariant.1 c.ranges.lost.fits left
    ∙ ap (λ (qs : List (Backlog _)). at_reader qs c.args.reader (left_with c.args.left c.args.lost)) c.self.view_is
