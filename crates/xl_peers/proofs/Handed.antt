-- A frame is handed over, and pieces go into a feed.
use Rattle.std.specs.Prelude.{min, if◌then◌else◌}
use Rattle.std.proofs.Common.{◌≡◌, Bool, false, ◌-◌, ◌≤◌, ◌<◌, ◌++◌, ◌∷◌, ℕ, true, List, [], length, take, drop, Result}
use Rattle.std.proofs.Common.{Ok, Err, refl, sym, ap, ◌∙◌, subst, append_assoc, arith}
use Rattle.std.proofs.lemmas.List.{take-append-drop}
use Rattle.xl_wire.specs.Lengths.{longest_frame}
use Rattle.xl_wire.specs.Raws.{raw_bytes}
use Rattle.xl_wire.specs.Feeding.{Fed, Offer, offer_of, taken_of, after_push, after_next}
use Rattle.xl_wire.specs.declared.refusal.WireRefusal.{WireRefusal}
use Rattle.xl_turns.specs.declared.view.Knowledge.{Knowledge}
use Rattle.xl_turns.specs.declared.pass.Pass.{Pass}
use Rattle.xl_turns.specs.Passes.{known}
use Rattle.xl_links.specs.Links.{Wire}
use Rattle.xl_core.specs.declared.event.CoreEvent.TheVariants.{Frame}
use Rattle.xl_core.specs.declared.refusal.Refusal.{Refusal}
use Rattle.xl_core.specs.declared.taken.Taken.{Taken}
use Rattle.xl_core.specs.Answers.{given_in}
use Rattle.xl_core.specs.Replies.{taken_answer}
use Rattle.xl_store.specs.declared.entry.Entry.{Entry}
use Rattle.xl_store.specs.declared.store.Store.{Store}
use Rattle.xl_store.specs.Calls.{Made}
use Rattle.xl_store.specs.Stores.{start_of, turns_of, Called}
use Rattle.xl_peers.specs.declared.ends.End.{End}
use Rattle.xl_peers.specs.declared.ends.End.TheVariants as end
use Rattle.xl_peers.specs.Sessions.{Session, NeedsMore}
use Rattle.xl_peers.specs.Sessions.Phase.{Asks, Reads, Hands}
use Rattle.xl_peers.specs.Going.{SoFar, Goes, HandsOver, HandsOn, HandsPiece, Hears, Turns}
use Rattle.xl_peers.proofs.Stepping.{so_handed}
use Rattle.xl_peers.proofs.Finishing.{ends}
use Rattle.xl_peers.proofs.Splitting.{refused_longer, needs_room}
use Rattle.xl_peers.proofs.Feeding.{next_frame, next_frame_open, next_refused, front_bytes, rest_bytes}

-- all of a piece stands behind what is held, some of it in the feed
pub pushed : (fed new : Fed) (piece : List ℕ) (count : ℕ) → count ≡ taken_of fed piece → new ≡ after_push fed piece
    → new.held ++ drop count piece ≡ fed.held ++ piece
pushed fed new piece count taken is =
    ap (λ (g : Fed). g.held ++ drop count piece) is
    ∙ ap (λ (n : ℕ). (fed.held ++ take n piece) ++ drop count piece) (sym taken)
    ∙ append_assoc fed.held (take count piece) (drop count piece)
    ∙ ap (λ (l : List ℕ). fed.held ++ l) (take-append-drop count piece)

-- what a frame is answered gives no frames
gives_nothing : (r : Result Taken Refusal) → given_in (taken_answer r) ≡ []
gives_nothing (Ok taken) = refl
gives_nothing (Err why) = refl

module _ {B K : Type 0} (store : Store B K) (may : ℕ → Bool) (member : ℕ) (k0 : Knowledge Entry) (w0 : Wire)
    (old : Pass Entry) (w : Wire) (fed : Fed) (later : List ℕ)
    (s : SoFar (start_of store) may member k0 w0 Hands (known old) w (fed.held ++ later)) where
  pub hands_one : (new : Pass Entry) (next : Fed) (bytes : List ℕ) (now : ℕ) (r : Result Taken Refusal)
      → next ≡ after_next fed → Offer.Frame bytes ≡ offer_of fed → may now ≡ true
      → Called store old (Frame now bytes) (taken_answer r) new
      → SoFar (start_of store) may member k0 w0 Hands (known new) w (next.held ++ later)
  hands_one new next bytes now r is offer given called =
      let f = next_frame fed bytes offer (front_bytes fed.held later s.bytes) in
      let front : fed.held ++ later ≡ raw_bytes f.frame ++ (next.held ++ later) =
      ap (λ (l : List ℕ). l ++ later) (f.front ∙ ap (λ (g : Fed). raw_bytes f.frame ++ g.held) (sym is))
      ∙ append_assoc (raw_bytes f.frame) next.held later in
      let t = subst (λ (l : List ℕ). SoFar (start_of store) may member k0 w0 Hands (known old) w l) front s in
      so_handed (start_of store) may member k0 w0 (known old) (known new) w now (taken_answer r) f.frame
      (next.held ++ later) t f.raw given
      (rest_bytes (raw_bytes f.frame) (next.held ++ later) t.bytes)
      (subst (λ (bs : List ℕ). Made (start_of store) (known old) (known new)
      (record { event = Frame now bs; answer = taken_answer r } ∷ [])) f.is called.made)
      (let more = called.later in omega (arith, more))
      (gives_nothing r)

  pub refuses : (r : WireRefusal) → Offer.Refused r ≡ offer_of fed
      → Session (start_of store) (turns_of store) may member k0 w0 (end.Framing r) (known old) w
  refuses r offer =
      ends (start_of store) (turns_of store) may member k0 w0 Hands (known old) w (fed.held ++ later) (end.Framing r) s
      (refl, fed.held ++ later, s.first, refused_longer fed.held later r (next_refused fed r offer)) tt

-- a feed that needs more takes some of a piece
pub takes_some : (fed : Fed) (piece : List ℕ) (count : ℕ) → fed.refused ≡ false → NeedsMore fed.held → 0 < length piece
    → count ≡ taken_of fed piece
    → (0 < count) × (count ≤ length piece)
takes_some fed piece count takes needs some is =
    let room = needs_room fed.held needs in
    let taken : count ≡ min (length piece) (longest_frame - length fed.held) = is
    ∙ ap (λ (b : Bool). if b then 0 else min (length piece) (longest_frame - length fed.held)) takes in
    (omega (arith, room, some, taken), omega (arith, taken))

module _ {B K : Type 0} (store : Store B K) (may : ℕ → Bool) where
  -- nothing stood there to be handed over
  pub hands_none : (pass : Pass Entry) (fed next : Fed) → next ≡ fed → fed.refused ≡ false
      → HandsOn store may pass fed pass next
  hands_none pass fed next is takes = record {
    takes = ap (λ (f : Fed). f.refused) is ∙ takes;
    on = λ member w more k0 w0 s.
        subst (λ (f : Fed). SoFar (start_of store) may member k0 w0 Hands (known pass) w (f.held ++ more)) (sym is) s;
    turns = omega arith;
  }

  pub hands_next : (old new : Pass Entry) (fed next : Fed) (bytes : List ℕ) → next ≡ after_next fed
      → Offer.Frame bytes ≡ offer_of fed → fed.refused ≡ false → HandsOver store may old bytes new
      → HandsOn store may old fed new next
  hands_next old new fed next bytes is offer takes h = record {
    takes = ap (λ (f : Fed). f.refused) is ∙ next_frame_open fed bytes offer ∙ takes;
    on = λ member w more k0 w0 s.
        hands_one store may member k0 w0 old w fed more s new next bytes h.now h.answer is offer h.given h.called;
    turns = let later = h.called.later in omega (arith, later);
  }

  -- one after the other
  pub hands_both : (old mid new : Pass Entry) (fed between left : Fed) → HandsOn store may old fed mid between
      → HandsOn store may mid between new left
      → HandsOn store may old fed new left
  hands_both old mid new fed between left one two = record {
    takes = two.takes;
    on = λ member w more k0 w0 s. two.on member w more k0 w0 (one.on member w more k0 w0 s);
    turns = let p = one.turns in let q = two.turns in omega arith;
  }

module _ {A B K : Type 0} (store : Store B K) (may : ℕ → Bool) (member : ℕ) where
  -- what was read is handed over
  pub hears : (r : Result A End) (old new : Pass Entry) (w w1 : Wire) (fed left : Fed) (piece : List ℕ)
      → Goes (start_of store) may member Reads Hands (known old) w fed.held (known old) w1 (fed.held ++ piece)
      → HandsPiece store may old fed piece r new left
      → Hears store may member old w fed r new w1 left
  hears (Ok done) old new w w1 fed left piece got h = record {
    takes = h.takes;
    needs = h.needs;
    on = λ k0 w0 s. h.on member w1 k0 w0 (got k0 w0 s);
    turns = h.turns;
  }
  hears (Err e) old new w w1 fed left piece got h = λ k0 w0 s. h member w1 k0 w0 (got k0 w0 s)

  -- a turn that came as far as its read
  pub turns_on : (r : Result A End) (old mid new : Pass Entry) (w w1 w2 : Wire) (fed left : Fed)
      → Goes (start_of store) may member Asks Reads (known old) w fed.held (known mid) w1 fed.held
      → (known old).drawn < (known mid).drawn
      → Hears store may member mid w1 fed r new w2 left
      → Turns store may member old w fed r new w2 left
  turns_on (Ok done) old mid new w w1 w2 fed left before more h = (
    record {
      takes = h.takes;
      needs = h.needs;
      on = λ k0 w0 s. h.on k0 w0 (before k0 w0 s);
      turns = let later = h.turns in omega arith;
    },
    let later = h.turns in omega arith,
  )
  turns_on (Err e) old mid new w w1 w2 fed left before more h = λ k0 w0 s. h k0 w0 (before k0 w0 s)
