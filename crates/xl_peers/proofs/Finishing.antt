-- How a session ends.
use Rattle.std.proofs.Common.{◌≡◌, Bool, ◌≤◌, ◌++◌, ◌∷◌, ℕ, Option, List, [], refl, sym, ap, ◌∙◌, append_assoc}
use Rattle.std.proofs.Common.{append-nil, arith, subst, inl, inr}
use Rattle.std.specs.Io.KnownBytes.{prepend_known, append_known}
use Rattle.xl_base.specs.Faults.{Rose}
use Rattle.xl_wire.specs.Lengths.{longest_frame}
use Rattle.xl_turns.specs.declared.view.Knowledge.{Knowledge}
use Rattle.xl_turns.specs.declared.pass.Pass.{Pass}
use Rattle.xl_turns.specs.Passes.{known}
use Rattle.xl_turns.proofs.Prefixes.{prefix_all}
use Rattle.xl_links.specs.Links.{Wire}
use Rattle.xl_core.specs.declared.event.CoreEvent.TheVariants.{Drain}
use Rattle.xl_core.specs.Answers.{Gave}
use Rattle.xl_core.specs.Core.{Core}
use Rattle.xl_core.specs.Queues.{stream_of}
use Rattle.xl_store.specs.declared.entry.Entry.{Entry}
use Rattle.xl_store.specs.declared.store.Store.{Store}
use Rattle.xl_store.specs.declared.store.StoreEnd.{StoreEnd}
use Rattle.xl_store.specs.declared.store.StoreEnd.TheVariants as refused
use Rattle.xl_store.specs.Calls.{Made}
use Rattle.xl_store.specs.Stores.{start_of, turns_of, IsWhy, Refused}
use Rattle.xl_store.proofs.Making.{made_none, made_both}
use Rattle.xl_peers.specs.declared.ends.End.{End}
use Rattle.xl_peers.specs.declared.ends.End.TheVariants as end
use Rattle.xl_peers.specs.Steps.{Step, drain, call_in, read_in, readings_in, permissions_in, drained_in, calls, bytes_read, bytes_drained}
use Rattle.xl_peers.specs.Steps.{read_answers, tell_answers}
use Rattle.xl_peers.specs.Sessions.{Phase, IsSession, HandsFirst, IsDue, EndsBy, IsCutOff, IsCause, Session}
use Rattle.xl_peers.specs.Going.{SoFar, SentFront, end_of}
use Rattle.xl_peers.proofs.Stepping.{more, so_none}
use Rattle.xl_peers.proofs.Growing.{append_known-none, append_known-twice, prepend_known-none, tells_nothing, tells_same}

module _ (start : Core) (turns : ℕ) (may_give : ℕ → Bool) (member : ℕ) (k0 : Knowledge Entry) (w0 : Wire) where
  -- all that was drained was written
  pub ends : (p : Phase) (k : Knowledge Entry) (w : Wire) (held : List ℕ) (e : End)
      (s : SoFar start may_give member k0 w0 p k w held)
      → EndsBy member s.steps p (bytes_drained s.steps) e → IsCause turns w0.faults w.faults k.drawn e
      → Session start turns may_give member k0 w0 e k w
  ends p k w held e s by cause = record {
    steps = s.steps;
    written = bytes_drained s.steps;
    talk = record { phase = p; run = s.run; ends = by; front = prefix_all (bytes_drained s.steps); all = inl refl };
    made = s.made;
    drawn = s.drawn;
    read = s.read;
    took = s.took;
    openings = s.openings;
    readings = s.readings;
    permissions = s.permissions;
    later = s.later;
    cause = cause;
  }

  -- a write failed: not all that the last drain gave was written
  pub ends_cut : (k new : Knowledge Entry) (w new_link : Wire) (held : List ℕ) (frames : List (List ℕ))
      (s : SoFar start may_give member k0 w0 Phase.Drains k w held)
      (p : Phase) → IsSession may_give member (s.steps ++ drain member frames ∷ []) p
      → Made start k new (record { event = Drain member longest_frame; answer = Gave member frames } ∷ [])
      → k.drawn ≤ new.drawn
      → SentFront w (stream_of frames) new_link
      → Session start turns may_give member k0 w0 end.LinkFault new new_link
  ends_cut k new w new_link held frames s p run made drawn sent =
      let step = drain member frames in
      let given : bytes_drained (s.steps ++ step ∷ []) ≡ bytes_drained s.steps ++ stream_of frames =
      more drained_in s.steps step in
      let rose : Rose w0.faults new_link.faults = (let a = s.later in let b = sent.failed in omega arith) in
      let cut : IsCutOff member (s.steps ++ step ∷ []) (bytes_drained s.steps ++ sent.written) =
      record { earlier = s.steps; frames = frames; front = sent.written; last = refl; part = sent.front; is = refl }
      in
      record {
        steps = s.steps ++ step ∷ [];
        written = bytes_drained s.steps ++ sent.written;
        talk = record {
          phase = p;
          run = run;
          ends = inr cut;
          front = (
            sent.front.0,
            append_assoc (bytes_drained s.steps) sent.written sent.front.0
                ∙ ap (λ l. bytes_drained s.steps ++ l) sent.front.1 ∙ sym given,
          );
          all = inr (refl, cut);
        };
        made = subst (λ cs. Made start k0 new cs) (sym (more call_in s.steps step))
            (made_both start k0 k new (calls s.steps) _ s.made made);
        drawn = let q = s.drawn in omega (arith, drawn, q);
        read = s.read ∙ ap (λ (known : Option (List ℕ)). prepend_known (bytes_read s.steps) known) (sym sent.sent.left)
            ∙ ap (λ (bs : List ℕ). prepend_known bs new_link.left)
            (sym (more read_in s.steps step ∙ append-nil (bytes_read s.steps)));
        took = sent.sent.took ∙ ap (λ (known : Option (List ℕ)). append_known known sent.written) s.took
            ∙ append_known-twice w0.took (bytes_drained s.steps) sent.written;
        openings = sent.sent.openings ∙ s.openings;
        readings = tells_same w0.readings w.readings new_link.readings (read_answers s.steps)
            (read_answers (s.steps ++ step ∷ [])) sent.sent.readings
            (more readings_in s.steps step ∙ append-nil (read_answers s.steps)) s.readings;
        permissions = tells_same w0.permissions w.permissions new_link.permissions (tell_answers s.steps)
            (tell_answers (s.steps ++ step ∷ [])) sent.sent.permissions
            (more permissions_in s.steps step ∙ append-nil (tell_answers s.steps)) s.permissions;
        later = let q = s.later in let r = sent.sent.later in omega arith;
        cause = rose;
      }

-- nothing was done yet
pub starts : (start : Core) (may_give : ℕ → Bool) (member : ℕ) (k0 : Knowledge Entry) (w0 : Wire)
    → SoFar start may_give member k0 w0 Phase.Greets k0 w0 []
starts start may_give member k0 w0 = record {
  steps = [];
  run = IsSession.begins;
  made = made_none start k0 k0 refl refl refl;
  drawn = omega arith;
  read = sym (prepend_known-none w0.left);
  took = sym (append_known-none w0.took);
  openings = refl;
  readings = tells_nothing w0.readings;
  permissions = tells_nothing w0.permissions;
  later = omega arith;
  first = record { frames = []; handed = refl; whole = refl; each = tt };
  bytes = λ i. omega arith;
}

module _ {B K : Type 0} (store : Store B K) (may_give : ℕ → Bool) (member : ℕ) (k0 : Knowledge Entry) (w0 : Wire) where
  -- a pass that had no turn knows of no fewer tickets
  pub refused_later : (old new : Knowledge Entry) (e : StoreEnd) → IsWhy store old e new → old.drawn ≤ new.drawn
  refused_later old new refused.OutOfMemory why = let same = ap (λ (k : Knowledge Entry). k.drawn) why in omega arith
  refused_later old new (refused.StoreFull n) why =
      let most = why.1 in
      let same = ap (λ (k : Knowledge Entry). k.drawn) why.2 in omega arith

  refused_cause : (old new : Knowledge Entry) (e : StoreEnd) (before after : ℕ) → IsWhy store old e new
      → IsCause (turns_of store) before after new.drawn (end_of e)
  refused_cause old new refused.OutOfMemory before after why = tt
  refused_cause old new (refused.StoreFull n) before after why = (why.0, ap (λ (k : Knowledge Entry). k.drawn) why.2)

  refused_ends : (steps : List Step) (p : Phase) (written : List ℕ) (e : StoreEnd) → IsDue steps p
      → EndsBy member steps p written (end_of e)
  refused_ends steps p written refused.OutOfMemory due = due
  refused_ends steps p written (refused.StoreFull n) due = due

  -- the store gave no turn to the call that was due
  pub ends_refused : (p : Phase) (old new : Pass Entry) (w : Wire) (held : List ℕ) (e : StoreEnd)
      → SoFar (start_of store) may_give member k0 w0 p (known old) w held
      → ((steps : List Step) → HandsFirst steps held → IsDue steps p)
      → Refused store old e new
      → Session (start_of store) (turns_of store) may_give member k0 w0 (end_of e) (known new) w
  ends_refused p old new w held e s due r =
      let t = so_none (start_of store) may_give member k0 w0 p (known old) (known new) w held s r.made
      (refused_later (known old) (known new) e r.why) in
      ends (start_of store) (turns_of store) may_give member k0 w0 p (known new) w held (end_of e) t
      (refused_ends t.steps p (bytes_drained t.steps) e (due t.steps t.first))
      (refused_cause (known old) (known new) e w0.faults w.faults r.why)
