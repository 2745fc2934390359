-- what the feed holds decides: a frame is handed over, less than one stays, and what is none ends the session
use Rattle.std.proofs.Common.{◌≡◌, ◌++◌, sym, ◌∙◌, subst}
use Rattle.xl_turns.specs.Passes.{known}
use Rattle.xl_wire.specs.Feeding.{Fed}
use Rattle.xl_store.specs.Stores.{start_of, turns_of}
use Rattle.xl_peers.specs.Sessions.{Session, NeedsMore}
use Rattle.xl_peers.specs.Sessions.Phase.{Hands}
use Rattle.xl_peers.proofs.Feeding.{has_frame, next_need}
use Rattle.xl_peers.proofs.Handed.{hands_none, hands_next, refuses}
use Rattle.xl_peers.proofs.Finishing.{ends_refused}
use Rattle.xl_peers.proofs.handing.hand_next.Goals as goal

pub returns-in-Ok-clause-handed : goal.returns-in-Ok-clause-handed
returns-in-Ok-clause-handed g c = (
  hands_next c.args.store.now (g.C.Clock.may_give c.args.host.now.clock.now) c.args.pass.now c.hand_frame.new.pass
      c.args.feed.now c.next.follows.lender-at-none c.in-Frame.frame.now c.next.follows.holds-at-none
      c.in-Frame.ensures.answer c.requires.takes c.in-Ok.ensures.handed,
  λ none. absurd cc,
)

pub returns-in-Err-clause-handed : goal.returns-in-Err-clause-handed
returns-in-Err-clause-handed g c member w later k0 w0 s =
    subst (λ e. Session (start_of c.args.store.now) (turns_of c.args.store.now) (g.C.Clock.may_give c.args.host.now.clock.now)
    member k0 w0 e (known c.hand_frame.new.pass) w) (sym c.end_of.ensures)
    (ends_refused c.args.store.now (g.C.Clock.may_give c.args.host.now.clock.now) member k0 w0 Hands _ _ w _ c.in-Err.end s
    (λ steps first. (
      c.args.feed.now.held ++ later,
      first,
      has_frame c.args.feed.now c.in-Frame.frame.now later c.in-Frame.ensures.answer s.bytes,
    ))
    c.in-Err.ensures.refused)

pub returns-in-Need-clause-handed : goal.returns-in-Need-clause-handed
returns-in-Need-clause-handed g c =
    let n = next_need c.args.feed.now c.in-Need.field-0 c.in-Need.ensures.answer in
    let is : c.next.follows.lender-at-none ≡ c.args.feed.now = c.next.follows.holds-at-none ∙ n.0 in (
      hands_none c.args.store.now (g.C.Clock.may_give c.args.host.now.clock.now) c.args.pass.now c.args.feed.now
          c.next.follows.lender-at-none is c.requires.takes,
      λ none. subst (λ (f : Fed). NeedsMore f.held) (sym is) n.1,
    )

pub returns-in-Refused-clause-handed : goal.returns-in-Refused-clause-handed
returns-in-Refused-clause-handed g c member w later k0 w0 s =
    refuses c.args.store.now (g.C.Clock.may_give c.args.host.now.clock.now) member k0 w0 c.args.pass.now w c.args.feed.now later
    s c.in-Refused.refusal c.in-Refused.ensures.answer
