-- After a drain, and what the member is told in a turn.
use Rattle.std.proofs.Common.{◌≡◌, ◌≢◌, Bool, true, false, ◌≤◌, ◌++◌, ◌∷◌, ℕ, zero, suc, List, [], length, take, refl, sym, ap, ◌∙◌}
use Rattle.std.proofs.Common.{Result, Ok, Err, subst, arith}
use Rattle.std.proofs.lemmas.List.{take_at}
use Rattle.std.specs.Prelude.{drop}
use Rattle.xl_wire.specs.Lengths.{longest_frame}
use Rattle.xl_turns.specs.declared.view.Knowledge.{Knowledge}
use Rattle.xl_turns.specs.declared.pass.Pass.{Pass}
use Rattle.xl_turns.specs.Passes.{known}
use Rattle.xl_links.specs.Links.{Wire, Permits}
use Rattle.xl_core.specs.declared.event.CoreEvent.TheVariants.{Drain}
use Rattle.xl_core.specs.Answers.{Gave}
use Rattle.xl_core.specs.Queues.{stream_of}
use Rattle.xl_store.specs.declared.entry.Entry.{Entry}
use Rattle.xl_store.specs.declared.store.Store.{Store}
use Rattle.xl_store.specs.Calls.{Made}
use Rattle.xl_store.specs.Stores.{start_of, turns_of, Drained}
use Rattle.xl_peers.specs.declared.ends.End.{End}
use Rattle.xl_peers.specs.declared.ends.End.TheVariants as end
use Rattle.xl_peers.specs.Steps.{Step, drain}
use Rattle.xl_peers.specs.Sessions.{IsSession, Session}
use Rattle.xl_peers.specs.Sessions.Phase.{Drains}
use Rattle.xl_peers.specs.Going.{SoFar, Sent, SentFront, DrainsAll, Tells, TellsOn, after_drain}
use Rattle.xl_peers.proofs.Stepping.{so_called, so_looked}
use Rattle.xl_peers.proofs.Finishing.{ends_cut}

none_long : (bytes : List ℕ) → length bytes ≡ 0 → bytes ≡ []
none_long [] e = refl
none_long (b ∷ bs) e = absurd (omega (arith, e))

some_long : (bytes : List ℕ) (n : ℕ) → length bytes ≡ suc n → bytes ≢ []
some_long [] n e = absurd (omega (arith, e))
some_long (b ∷ bs) n e = λ same. absurd cc

drain_run : (may : ℕ → Bool) (member : ℕ) (steps : List Step) (frames : List (List ℕ)) (count : ℕ)
    → count ≡ length (stream_of frames)
    → IsSession may member steps Drains → IsSession may member (steps ++ drain member frames ∷ []) (after_drain count)
drain_run may member steps frames zero e run = IsSession.drained steps frames run (none_long (stream_of frames) (sym e))
drain_run may member steps frames (suc n) e run =
    IsSession.drains steps frames run (some_long (stream_of frames) n (sym e))

module _ {B K : Type 0} (store : Store B K) (may : ℕ → Bool) (member : ℕ) (k0 : Knowledge Entry) (w0 : Wire)
    (old new : Pass Entry) (count : ℕ) (before after : List ℕ) (whole : length before ≡ longest_frame)
    (d : Drained store old member count before after new)
    (w new_link : Wire) (held : List ℕ) (s : SoFar (start_of store) may member k0 w0 Drains (known old) w held) where
  made_whole : Made (start_of store) (known old) (known new)
      (record { event = Drain member longest_frame; answer = Gave member d.frames } ∷ [])
  made_whole = subst
      (λ (n : ℕ). Made (start_of store) (known old) (known new)
      (record { event = Drain member n; answer = Gave member d.frames } ∷ []))
      whole d.called.made

  later : (known old).drawn ≤ (known new).drawn
  later = let more = d.called.later in omega (arith, more)

  -- the room begins with the frames
  given : take count after ≡ stream_of d.frames
  given = ap (take count) d.room ∙ take_at (stream_of d.frames) (drop count before) count (sym d.count)

  pub so_drained : Sent w (take count after) new_link
      → SoFar (start_of store) may member k0 w0 (after_drain count) (known new) new_link held
  so_drained sent =
      so_called (start_of store) may member k0 w0 Drains (after_drain count) (known old) (known new) w new_link held _ s
      refl made_whole later
      (subst (λ (bs : List ℕ). Sent w bs new_link) given sent)
      (drain_run may member s.steps d.frames count d.count s.run)

  pub drain_faults : SentFront w (take count after) new_link
      → Session (start_of store) (turns_of store) may member k0 w0 end.LinkFault (known new) new_link
  drain_faults sent =
      ends_cut (start_of store) (turns_of store) may member k0 w0 (known old) (known new) w new_link held d.frames s
      (after_drain count)
      (drain_run may member s.steps d.frames count d.count s.run) made_whole later
      (subst (λ (bs : List ℕ). SentFront w bs new_link) given sent)

module _ {A B K : Type 0} (store : Store B K) (member : ℕ) (old : Pass Entry) (w w1 : Wire) where
  -- the peer may be spoken to, and what waits is drained
  pub tells : (r : Result A End) (new : Pass Entry) (new_link : Wire) → Permits w true w1
      → DrainsAll store member old w1 r new new_link
      → Tells store member old w r new new_link
  tells (Ok done) new new_link p d = record {
    on = λ may held k0 w0 s.
        d.on may held k0 w0 (so_looked (start_of store) may member k0 w0 (known old) w w1 held true s p);
    turns = let more = d.turn in omega (arith, more);
  }
  tells (Err e) new new_link p d = λ may held k0 w0 s.
      d may held k0 w0 (so_looked (start_of store) may member k0 w0 (known old) w w1 held true s p)

-- it may not, and what waits for it waits on
pub waits : {B K : Type 0} (store : Store B K) (member : ℕ) (old : Pass Entry) (w w1 : Wire) → Permits w false w1
    → TellsOn store member old w old w1
waits store member old w w1 p = record {
  on = λ may held k0 w0 s. so_looked (start_of store) may member k0 w0 (known old) w w1 held false s p;
  turns = omega arith;
}
