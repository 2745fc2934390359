-- the bytes read stand behind those held before they are handed over, and if none came nothing changes
use Rattle.std.proofs.Common.{sym, subst, arith}
use Rattle.xl_turns.specs.Passes.{known}
use Rattle.xl_store.specs.Stores.{start_of, turns_of}
use Rattle.xl_peers.specs.Going.{Hears}
use Rattle.xl_peers.proofs.Handed.{hears}
use Rattle.xl_peers.proofs.talking.hear.Goals as goal

pub returns-in-Ok-Some-clause-heard : goal.returns-in-Ok-Some-clause-heard
returns-in-Ok-Some-clause-heard g c member =
    let clause = rw c.in-Ok-Some.field-0-is at c.in-Ok-Some.ensures.got in
    let may = g.C.Clock.may_give c.args.host.now.clock.now in
    let got = clause (start_of c.args.store.now) may member (known c.args.pass.now) c.args.feed.now.held in
    subst (λ w. Hears c.args.store.now may member c.args.pass.now (g.L.Link.shows c.args.link.now) c.args.feed.now
    c.hand.result c.hand.new.pass w c.hand.new.feed) (sym c.hand.ensures.wire)
    (hears c.args.store.now may member c.hand.result c.args.pass.now c.hand.new.pass (g.L.Link.shows c.args.link.now)
    (g.L.Link.shows c.read.new.link) c.args.feed.now c.hand.new.feed _ got c.hand.ensures.handed)

pub returns-in-Ok-None-clause-heard : goal.returns-in-Ok-None-clause-heard
returns-in-Ok-None-clause-heard g c member =
    let clause = rw c.in-Ok-None.field-0-is at c.in-Ok-None.ensures.idle in
    record {
      takes = c.requires.takes;
      needs = c.requires.needs;
      on = clause (start_of c.args.store.now) (g.C.Clock.may_give c.args.host.now.clock.now) member (known c.args.pass.now)
          c.args.feed.now.held;
      turns = omega arith;
    }

pub returns-in-Err-clause-heard : goal.returns-in-Err-clause-heard
returns-in-Err-clause-heard g c member =
    c.in-Err.ensures.ends (start_of c.args.store.now) (turns_of c.args.store.now) (g.C.Clock.may_give c.args.host.now.clock.now)
    member (known c.args.pass.now) c.args.feed.now.held
