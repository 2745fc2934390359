-- each header that is put leaves one fewer on the chain, and the first that isn't shows that no more fit
use Rattle.std.proofs.Common.{◌∙◌, ap, arith}
use Rattle.xl_core.specs.Draining.{node_for}
use Rattle.xl_core.specs.Greetings.{further}
use Rattle.xl_core.proofs.Greeted.{handed_none, handed_more, handed_all, handed_writes, fewer_headers}
use Rattle.xl_core.proofs.the_core.greeting.hand_headers.Goals as goal

pub loop-next-init : goal.loop-next-init
loop-next-init g c = handed_none (node_for c.args.tags c.args.node.now) c.args.member c.args.greeting.now c.args.room.now

pub overflow_add-greeting : goal.overflow_add-greeting
overflow_add-greeting g c = omega (arith, (c.put_next.ensures.some c.in-Some.next c.in-Some.is).few)

pub loop-next-smaller : goal.loop-next-smaller
loop-next-smaller g c =
    fewer_headers (node_for c.args.tags c.args.node.now) c.args.member c.loop-next.greeting c.loop-next.at c.in-Some.next c.loop-next.room c.put_next.new.room (c.put_next.ensures.some c.in-Some.next c.in-Some.is)

pub loop-next-preserved : goal.loop-next-preserved
loop-next-preserved g c =
    handed_more (node_for c.args.tags c.args.node.now) c.args.member c.args.greeting.now c.loop-next.greeting c.args.room.now c.loop-next.room c.put_next.new.room c.loop-next.at c.in-Some.next c.loop-next.invariant (c.put_next.ensures.some c.in-Some.next c.in-Some.is)

pub returns-clause-written : goal.returns-clause-written
returns-clause-written g c =
    let none = c.put_next.ensures.none c.in_default.is in
    handed_writes (node_for c.args.tags c.args.node.now) c.args.member c.args.greeting.now c.loop-next.greeting c.args.room.now c.loop-next.room c.put_next.new.room c.loop-next.at c.loop-next.invariant none.0 none.1

pub returns-clause-handed : goal.returns-clause-handed
returns-clause-handed g c =
    let none = c.put_next.ensures.none c.in_default.is in
    c.loop-next.invariant.handed
    ∙ ap (λ k. further k c.args.greeting.now) (handed_all (node_for c.args.tags c.args.node.now) c.args.member c.args.greeting.now c.loop-next.greeting c.args.room.now c.loop-next.room c.loop-next.at c.loop-next.invariant none.0)
