-- what waits for a reader is the end of the items, so its oldest stands as far from the end as these are many
use Rattle.std.proofs.Common.{◌≡◌, ◌-◌, ◌∙◌, List, ap, subst, sym, length, arith}
use Rattle.std.specs.Prelude.{slice_get}
use Rattle.xl_queues.specs.declared.broadcast.Reader.{Reader}
use Rattle.xl_queues.specs.Queues.{Backlog}
use Rattle.xl_queues.specs.Broadcasts.{queue_of}
use Rattle.xl_queues.proofs.Broadcasting.{count_at, first_at}
use Rattle.xl_queues.proofs.broadcast.Broadcast.first.Goals as goal

abbrev any : Reader
any = record { read = 0; lost = 0 }

pub overflow_sub-len : goal.overflow_sub-len
overflow_sub-len g c =
    let waiting = subst (λ (qs : List (Backlog _)). c.len-2.result ≡ length (queue_of qs c.args.reader).items) (sym c.self.view_is) c.len-2.ensures.len in
    omega (arith, waiting, c.len.ensures.len, count_at g.row.N c.self.inside.items.items c.self.inside.pushed c.self.inside.readers c.args.reader any (omega (arith, c.requires, c.self.told)))

pub returns-clause-oldest : goal.returns-clause-oldest
returns-clause-oldest g c =
    let waiting = subst (λ (qs : List (Backlog _)). c.len-2.result ≡ length (queue_of qs c.args.reader).items) (sym c.self.view_is) c.len-2.ensures.len in
    c.get.ensures
    ∙ ap (λ n. slice_get c.self.inside.items.items (n - c.len-2.result)) c.len.ensures.len
    ∙ first_at g.row.N c.self.inside.items.items c.self.inside.pushed c.self.inside.readers c.args.reader any c.len-2.result (omega (arith, c.requires, c.self.told)) waiting
    ∙ ap (λ (qs : List (Backlog _)). slice_get (queue_of qs c.args.reader).items 0) c.self.view_is
