-- each opening is one step of the serving, and only one that is open goes on with a session, whose end decides
use Rattle.std.proofs.Common.{◌∷◌, [], sym, subst}
use Rattle.xl_turns.specs.Passes.{known}
use Rattle.xl_links.specs.declared.link.Opening.TheVariants as opening
use Rattle.xl_links.specs.Tellings.{AddsTold}
use Rattle.xl_store.specs.Stores.{start_of, turns_of}
use Rattle.xl_peers.specs.Serving.{Follows}
use Rattle.xl_peers.proofs.Rounds.{opened, talked_on}
use Rattle.xl_peers.proofs.serving.connect.Goals as goal

pub returns-in-Open-clause-follows : goal.returns-in-Open-clause-follows
returns-in-Open-clause-follows g c k0 w0 s =
    let may = g.C.Clock.may_give c.args.host.now.clock.now in
    let start = start_of c.args.store.now in
    let turns = turns_of c.args.store.now in
    let is_open = opened start may c.args.member k0 w0 (known c.args.pass.now) (g.L.Link.shows c.args.link.now)
    (g.L.Link.shows c.open.new.self) opening.Open s c.in-Open.ensures in
    subst (λ o. Follows start turns may c.args.member k0 w0 o (known c.talk-end.new.pass)
    (g.L.Link.shows c.talk-end.new.link)) (sym c.served_of.ensures)
    (talked_on start may c.args.member k0 w0 turns _ _ _ _ c.talk-end.result is_open c.talk-end.ensures.session)

pub returns-in-NotYet-clause-follows : goal.returns-in-NotYet-clause-follows
returns-in-NotYet-clause-follows g c k0 w0 s =
    opened (start_of c.args.store.now) (g.C.Clock.may_give c.args.host.now.clock.now) c.args.member k0 w0 (known c.args.pass.now)
    (g.L.Link.shows c.args.link.now) (g.L.Link.shows c.open.new.self) opening.NotYet s c.in-NotYet.ensures

pub returns-in-Failed-clause-follows : goal.returns-in-Failed-clause-follows
returns-in-Failed-clause-follows g c k0 w0 s =
    opened (start_of c.args.store.now) (g.C.Clock.may_give c.args.host.now.clock.now) c.args.member k0 w0 (known c.args.pass.now)
    (g.L.Link.shows c.args.link.now) (g.L.Link.shows c.open.new.self) opening.Failed s c.in-Failed.ensures

pub returns-in-Open-clause-opened : goal.returns-in-Open-clause-opened
returns-in-Open-clause-opened g c = (
  opening.Open,
  subst (λ told. AddsTold (g.L.Link.shows c.args.link.now).openings told (opening.Open ∷ []))
      (sym c.talk-end.ensures.session.openings) c.in-Open.ensures.openings,
)

pub returns-in-NotYet-clause-opened : goal.returns-in-NotYet-clause-opened
returns-in-NotYet-clause-opened g c = (opening.NotYet, c.in-NotYet.ensures.openings)

pub returns-in-Failed-clause-opened : goal.returns-in-Failed-clause-opened
returns-in-Failed-clause-opened g c = (opening.Failed, c.in-Failed.ensures.openings)
