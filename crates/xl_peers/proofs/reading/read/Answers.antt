-- each answer of the link is one step of the session, and a read into a room with places gives some bytes, if any
use Rattle.std.proofs.Common.{◌≢◌, [], take, refl, subst, append-nil, arith, inl}
use Rattle.xl_wire.proofs.Numbers.{IsBytes-take}
use Rattle.xl_links.specs.declared.link.LinkRead.TheVariants as read
use Rattle.xl_links.specs.Links.{Reading}
use Rattle.xl_peers.specs.declared.ends.End.TheVariants as end
use Rattle.xl_peers.specs.Sessions.Phase.{Asks, Ended}
use Rattle.xl_peers.specs.Going.{SoFar}
use Rattle.xl_peers.proofs.Stepping.{so_read, read_last, some_got}
use Rattle.xl_peers.proofs.Feeding.{both_bytes}
use Rattle.xl_peers.proofs.Finishing.{ends}
use Rattle.xl_peers.proofs.reading.read.Goals as goal

pub returns-in-Got-clause-got : goal.returns-in-Got-clause-got
returns-in-Got-clause-got g c start may member k held k0 w0 s =
    so_read start may member k0 w0 k (g.L.Link.shows c.args.link.now) (g.L.Link.shows c.read.new.self) held
    (read.Got c.in-Got.count) c.read.new.room s c.in-Got.ensures.read
    (some_got c.in-Got.count c.read.new.room (let same = c.in-Got.ensures.same in let some = c.requires in omega arith)
    c.in-Got.ensures.read.fits)
    (both_bytes held (take c.in-Got.count c.read.new.room) s.bytes
    (IsBytes-take c.in-Got.count c.read.new.room (λ i. let h = (c.type_inv.room i).fits in omega arith)))

pub returns-in-Idle-clause-idle : goal.returns-in-Idle-clause-idle
returns-in-Idle-clause-idle g c start may member k held k0 w0 s =
    subst (λ l. SoFar start may member k0 w0 Asks k (g.L.Link.shows c.read.new.self) l) (append-nil held)
    (so_read start may member k0 w0 k (g.L.Link.shows c.args.link.now) (g.L.Link.shows c.read.new.self) held read.Idle
    c.read.new.room s c.in-Idle.ensures.read
    (λ e. cc) (both_bytes held [] s.bytes (λ i. omega arith)))

pub returns-in-End-clause-ends : goal.returns-in-End-clause-ends
returns-in-End-clause-ends g c start turns may member k held k0 w0 s =
    let fit = both_bytes held [] s.bytes (λ i. omega arith) in
    let some : Reading.End ≢ Reading.Got [] = (λ e. cc) in
    let t = so_read start may member k0 w0 k (g.L.Link.shows c.args.link.now) (g.L.Link.shows c.read.new.self) held
    read.End c.read.new.room s c.in-End.ensures.read some fit in
    ends start turns may member k0 w0 Ended k (g.L.Link.shows c.read.new.self) _ end.End t
    (read_last start may member k0 w0 k (g.L.Link.shows c.args.link.now) (g.L.Link.shows c.read.new.self) held read.End
    c.read.new.room s c.in-End.ensures.read some fit) tt

pub returns-in-Failed-clause-ends : goal.returns-in-Failed-clause-ends
returns-in-Failed-clause-ends g c start turns may member k held k0 w0 s =
    let fit = both_bytes held [] s.bytes (λ i. omega arith) in
    let some : Reading.Failed ≢ Reading.Got [] = (λ e. cc) in
    let reads = c.in-Failed.ensures.read in
    let t = so_read start may member k0 w0 k (g.L.Link.shows c.args.link.now) (g.L.Link.shows c.read.new.self) held
    read.Failed c.read.new.room s reads some fit in
    ends start turns may member k0 w0 Ended k (g.L.Link.shows c.read.new.self) _ end.LinkFault t
    (inl (read_last start may member k0 w0 k (g.L.Link.shows c.args.link.now) (g.L.Link.shows c.read.new.self) held
    read.Failed c.read.new.room s reads some fit))
    (let a = s.later in let b = reads.failed refl in omega arith)
