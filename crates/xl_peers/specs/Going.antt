-- What the parts of a session keep, and how each leads on. Source: what the code of this crate relies on. No public
-- clause cites this file.
use Rattle.std.specs.Prelude.{◌≡◌, Bool, true, ℕ, zero, suc, ◌<◌, ◌≤◌, List, ◌++◌, get_or, false, Result, Ok, Err}
use Rattle.std.specs.Io.KnownBytes.{prepend_known, append_known}
use mathlib.Core.List.{IsPrefix}
use Rattle.xl_base.specs.Faults.{Rose}
use Rattle.xl_turns.specs.declared.view.Knowledge.{Knowledge}
use Rattle.xl_turns.specs.declared.pass.Pass.{Pass}
use Rattle.xl_turns.specs.Passes.{known}
use Rattle.xl_wire.specs.Feeding.{Fed}
use Rattle.xl_links.specs.Links.{Wire}
use Rattle.xl_links.specs.Tellings.{AddsTold}
use Rattle.xl_core.specs.declared.event.CoreEvent.TheVariants.{Frame}
use Rattle.xl_core.specs.declared.refusal.Refusal.{Refusal}
use Rattle.xl_core.specs.declared.taken.Taken.{Taken}
use Rattle.xl_core.specs.Core.{Core}
use Rattle.xl_core.specs.Replies.{taken_answer}
use Rattle.xl_store.specs.declared.entry.Entry.{Entry}
use Rattle.xl_store.specs.declared.store.Store.{Store}
use Rattle.xl_store.specs.declared.store.StoreEnd.{StoreEnd}
use Rattle.xl_store.specs.declared.store.StoreEnd.TheVariants as refused
use Rattle.xl_store.specs.Calls.{Made}
use Rattle.xl_store.specs.Stores.{start_of, turns_of, Called}
use Rattle.xl_peers.specs.declared.ends.End.{End}
use Rattle.xl_peers.specs.declared.ends.End.TheVariants as end
use Rattle.xl_peers.specs.Steps.{Step, calls, bytes_read, bytes_drained, read_answers, tell_answers}
use Rattle.xl_peers.specs.Sessions.{Phase, IsSession, HandsFirst, NeedsMore, Session}
use Rattle.xl_peers.specs.Sessions.Phase.{Asks, Looks, Reads, Hands, Drains}

abbrev pub AreBytes : List ℕ → Type 0
AreBytes bytes = (i : ℕ) → get_or bytes i 0 < 256

-- A session in this phase, all of whose drained bytes were written, and which has these bytes still to hand over
pub record SoFar
    (start : Core) (may_give : ℕ → Bool) (member : ℕ)
    (old : Knowledge Entry) (old_link : Wire) (phase : Phase)
    (new : Knowledge Entry) (new_link : Wire) (held : List ℕ) : Type 0 where
  pub steps : List Step
  pub run : IsSession may_give member steps phase
  pub made : Made start old new (calls steps)
  pub drawn : old.drawn ≤ new.drawn
  pub readings : AddsTold old_link.readings new_link.readings (read_answers steps)
  pub permissions : AddsTold old_link.permissions new_link.permissions (tell_answers steps)
  pub read : old_link.left ≡ prepend_known (bytes_read steps) new_link.left
  pub took : new_link.took ≡ append_known old_link.took (bytes_drained steps)
  pub openings : new_link.openings ≡ old_link.openings
  pub later : old_link.faults ≤ new_link.faults
  pub first : HandsFirst steps held
  pub bytes : AreBytes held

module _ (start : Core) (may_give : ℕ → Bool) (member : ℕ) where
  -- whatever came before, the session goes on
  abbrev pub Goes : Phase → Phase → Knowledge Entry → Wire → List ℕ → Knowledge Entry → Wire → List ℕ → Type 0
  Goes before after old old_link old_held new new_link new_held =
      (k : Knowledge Entry) (w : Wire)
      → SoFar start may_give member k w before old old_link old_held
      → SoFar start may_give member k w after new new_link new_held

  -- whatever came before, the session ends
  abbrev pub Ends : ℕ → Phase → Knowledge Entry → Wire → List ℕ → Knowledge Entry → Wire → End → Type 0
  Ends turns before old old_link old_held new new_link e =
      (k : Knowledge Entry) (w : Wire)
      → SoFar start may_give member k w before old old_link old_held
      → Session start turns may_give member k w e new new_link

-- all these bytes were written to a link
pub record Sent (old : Wire) (bytes : List ℕ) (new : Wire) : Type 0 where
  pub took : new.took ≡ append_known old.took bytes
  pub left : new.left ≡ old.left
  pub openings : new.openings ≡ old.openings
  pub readings : new.readings ≡ old.readings
  pub permissions : new.permissions ≡ old.permissions
  pub later : old.faults ≤ new.faults

-- a front of them was
pub record SentFront (old : Wire) (bytes : List ℕ) (new : Wire) : Type 0 where
  pub written : List ℕ
  pub front : IsPrefix written bytes
  pub sent : Sent old written new
  pub failed : Rose old.faults new.faults

-- a pass handed these bytes to the core, at a moment that the clock may give
pub record HandsOver {B K : Type 0}
    (store : Store B K) (may_give : ℕ → Bool) (old : Pass Entry) (bytes : List ℕ) (new : Pass Entry) : Type 0 where
  pub now : ℕ
  pub given : may_give now ≡ true
  pub answer : Result Taken Refusal
  pub called : Called store old (Frame now bytes) (taken_answer answer) new

abbrev pub end_of : StoreEnd → End
end_of refused.OutOfMemory = end.OutOfMemory
end_of (refused.StoreFull n) = end.StoreFull n

-- after a drain that gave this many bytes
abbrev pub after_drain : ℕ → Phase
after_drain zero = Reads
after_drain (suc n) = Drains

module _ {B K : Type 0} (store : Store B K) (may_give : ℕ → Bool) (old : Pass Entry) (fed : Fed) where
  -- frames that a feed held were handed over, whatever is read behind them
  pub record HandsOn (new : Pass Entry) (left : Fed) : Type 0 where
    pub takes : left.refused ≡ false
    pub on : (member : ℕ) (w : Wire) (more : List ℕ)
        → Goes (start_of store) may_give member Hands Hands
        (known old) w (fed.held ++ more) (known new) w (left.held ++ more)
    pub turns : (known old).drawn ≤ (known new).drawn

  -- the session ended over them
  abbrev pub HandsLast : End → Pass Entry → Type 0
  HandsLast e new = (member : ℕ) (w : Wire) (more : List ℕ)
      → Ends (start_of store) may_give member (turns_of store) Hands (known old) w (fed.held ++ more) (known new) w e

  -- the next frame, if there was one
  abbrev pub HandsNext : Result Bool End → Pass Entry → Fed → Type 0
  HandsNext (Ok more) new left = HandsOn new left × (more ≡ false → NeedsMore left.held)
  HandsNext (Err e) new left = HandsLast e new

  -- all of them
  abbrev pub HandsAll : {A : Type 0} → Result A End → Pass Entry → Fed → Type 0
  HandsAll (Ok done) new left = HandsOn new left × NeedsMore left.held
  HandsAll (Err e) new left = HandsLast e new

  -- a piece was read behind what a feed held, and all its frames were handed over
  pub record HandsIn (piece : List ℕ) (new : Pass Entry) (left : Fed) : Type 0 where
    pub takes : left.refused ≡ false
    pub needs : NeedsMore left.held
    pub on : (member : ℕ) (w : Wire)
        → Goes (start_of store) may_give member Hands Asks
        (known old) w (fed.held ++ piece) (known new) w left.held
    pub turns : (known old).drawn ≤ (known new).drawn

  abbrev pub HandsPiece : {A : Type 0} → List ℕ → Result A End → Pass Entry → Fed → Type 0
  HandsPiece piece (Ok done) new left = HandsIn piece new left
  HandsPiece piece (Err e) new left = (member : ℕ) (w : Wire)
      → Ends (start_of store) may_give member (turns_of store) Hands (known old) w (fed.held ++ piece) (known new) w e

module _ {B K : Type 0} (store : Store B K) (member : ℕ) (old : Pass Entry) (old_link : Wire) where
  -- what was drained was written
  pub record DrainsOn (after : Phase) (new : Pass Entry) (new_link : Wire) : Type 0 where
    pub on : (may_give : ℕ → Bool) (held : List ℕ)
        → Goes (start_of store) may_give member Drains after (known old) old_link held (known new) new_link held
    pub turn : (known old).drawn < (known new).drawn

  -- the session ended over it
  abbrev pub DrainsLast : End → Pass Entry → Wire → Type 0
  DrainsLast e new new_link = (may_give : ℕ → Bool) (held : List ℕ)
      → Ends (start_of store) may_give member (turns_of store) Drains (known old) old_link held (known new) new_link e

  -- of one drain
  abbrev pub DrainsOnce : Result ℕ End → Pass Entry → Wire → Type 0
  DrainsOnce (Ok count) new new_link = DrainsOn (after_drain count) new new_link
  DrainsOnce (Err e) new new_link = DrainsLast e new new_link

  -- of all drains of a turn
  abbrev pub DrainsAll : {A : Type 0} → Result A End → Pass Entry → Wire → Type 0
  DrainsAll (Ok done) new new_link = DrainsOn Reads new new_link
  DrainsAll (Err e) new new_link = DrainsLast e new new_link

  -- what waited for the peer was written, or it may not be spoken to
  pub record TellsOn (new : Pass Entry) (new_link : Wire) : Type 0 where
    pub on : (may_give : ℕ → Bool) (held : List ℕ)
        → Goes (start_of store) may_give member Looks Reads (known old) old_link held (known new) new_link held
    pub turns : (known old).drawn ≤ (known new).drawn

  -- of the question and all drains of a turn
  abbrev pub Tells : {A : Type 0} → Result A End → Pass Entry → Wire → Type 0
  Tells (Ok done) new new_link = TellsOn new new_link
  Tells (Err e) new new_link = (may_give : ℕ → Bool) (held : List ℕ)
      → Ends (start_of store) may_give member (turns_of store) Looks (known old) old_link held (known new) new_link e

module _ {B K : Type 0} (store : Store B K) (may_give : ℕ → Bool) (member : ℕ)
    (old : Pass Entry) (old_link : Wire) (fed : Fed) where
  -- a turn's rest is over, and the next turn follows
  pub record GoesOn (before : Phase) (new : Pass Entry) (new_link : Wire) (left : Fed) : Type 0 where
    pub takes : left.refused ≡ false
    pub needs : NeedsMore left.held
    pub on : Goes (start_of store) may_give member before Asks
        (known old) old_link fed.held (known new) new_link left.held
    pub turns : (known old).drawn ≤ (known new).drawn

  -- the session ended in it
  abbrev pub EndsIn : Phase → End → Pass Entry → Wire → Type 0
  EndsIn before e new new_link =
      Ends (start_of store) may_give member (turns_of store) before (known old) old_link fed.held (known new) new_link e

  -- of the read and the handing over that end a turn
  abbrev pub Hears : {A : Type 0} → Result A End → Pass Entry → Wire → Fed → Type 0
  Hears (Ok done) new new_link left = GoesOn Reads new new_link left
  Hears (Err e) new new_link left = EndsIn Reads e new new_link

  -- of a whole turn, which takes a turn of the store at least
  abbrev pub Turns : {A : Type 0} → Result A End → Pass Entry → Wire → Fed → Type 0
  Turns (Ok done) new new_link left = GoesOn Asks new new_link left × ((known old).drawn < (known new).drawn)
  Turns (Err e) new new_link left = EndsIn Asks e new new_link
