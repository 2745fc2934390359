-- A session goes on by one step.
use Rattle.std.proofs.Common.{◌≡◌, ◌≢◌, Bool, ◌<◌, ◌≤◌, ◌++◌, ◌∷◌, ℕ, zero, suc, length, Option, List, [], true, refl}
use Rattle.std.proofs.Common.{sym, ap, ◌∙◌, append_assoc, append-nil, arith, subst}
use Rattle.std.specs.List.{flat_map, AllByRecursion}
use Rattle.std.proofs.lemmas.List.{map-append}
use Rattle.std.proofs.lemmas.Grind.{flat_map-append}
use Rattle.std.specs.Io.KnownBytes.{prepend_known, append_known}
use Rattle.xl_wire.specs.Raws.{RawFrame, raw_bytes, IsRaw}
use Rattle.xl_turns.specs.declared.view.Knowledge.{Knowledge}
use Rattle.xl_links.specs.declared.link.LinkRead.{LinkRead}
use Rattle.xl_links.specs.declared.link.LinkRead.TheVariants as read
use Rattle.xl_links.specs.Links.{Wire, Reading, Reads, Permits, FitsRoom, bytes_of, reading_in}
use Rattle.xl_links.specs.Tellings.{AddsTold}
use Rattle.xl_core.specs.declared.event.CoreEvent.TheVariants.{Frame}
use Rattle.xl_core.specs.Answers.{Answer, given_in}
use Rattle.xl_core.specs.Core.{Core}
use Rattle.xl_core.specs.Queues.{stream_of}
use Rattle.xl_store.specs.declared.entry.Entry.{Entry}
use Rattle.xl_store.specs.Calls.{Call, Made}
use Rattle.xl_store.proofs.Making.{made_both}
use Rattle.xl_peers.specs.Steps.{Step, Called, Read, MayTell, frame, call_in, read_in, readings_in, permissions_in, drained_in, handed_in, handed_by}
use Rattle.xl_peers.specs.Steps.{calls, bytes_read, bytes_drained, frames_handed, read_answers, tell_answers, IsLast}
use Rattle.xl_peers.specs.Sessions.{Phase, IsSession, HandsFirst, NeedsMore, after_read, after_look}
use Rattle.xl_peers.specs.Sessions.Phase.{Asks, Hands, Looks}
use Rattle.xl_peers.specs.Going.{AreBytes, SoFar, Sent}
use Rattle.xl_peers.proofs.Growing.{append_known-twice, prepend_known-twice, tells_both, tells_same}

-- one step more
pub more : {A : Type 0} (f : Step → List A) (steps : List Step) (s : Step)
    → flat_map f (steps ++ s ∷ []) ≡ flat_map f steps ++ f s
more f steps s = flat_map-append f steps (s ∷ []) ∙ ap (λ l. flat_map f steps ++ l) (append-nil (f s))

-- no bytes were read, and nothing was handed over
pub first_stays : (steps : List Step) (s : Step) (rest : List ℕ) → read_in s ≡ [] → handed_in s ≡ []
    → HandsFirst steps rest
    → HandsFirst (steps ++ s ∷ []) rest
first_stays steps s rest read handed h = record {
  frames = h.frames;
  handed = more handed_in steps s ∙ ap (λ l. frames_handed steps ++ l) handed ∙ append-nil (frames_handed steps)
      ∙ h.handed;
  whole = more read_in steps s ∙ ap (λ l. bytes_read steps ++ l) read ∙ append-nil (bytes_read steps) ∙ h.whole;
  each = h.each;
}

-- bytes were read
pub first_read : (steps : List Step) (a : Reading) (rest : List ℕ) → HandsFirst steps rest
    → HandsFirst (steps ++ Read a ∷ []) (rest ++ bytes_of a)
first_read steps a rest h = record {
  frames = h.frames;
  handed = more handed_in steps (Read a) ∙ append-nil (frames_handed steps) ∙ h.handed;
  whole = more read_in steps (Read a) ∙ ap (λ l. l ++ bytes_of a) h.whole
      ∙ append_assoc (flat_map raw_bytes h.frames) rest (bytes_of a);
  each = h.each;
}

each_more : (fs : List RawFrame) (f : RawFrame) → AllByRecursion IsRaw fs → IsRaw f
    → AllByRecursion IsRaw (fs ++ f ∷ [])
each_more [] f h ok = (ok, tt)
each_more (g ∷ fs) f h ok = (h.0, each_more fs f h.1 ok)

-- the next frame was handed over
pub first_handed : (steps : List Step) (now : ℕ) (answer : Answer) (f : RawFrame) (rest : List ℕ) → IsRaw f
    → HandsFirst steps (raw_bytes f ++ rest) → HandsFirst (steps ++ frame now (raw_bytes f) answer ∷ []) rest
first_handed steps now answer f rest ok h =
    let s = frame now (raw_bytes f) answer in
    record {
      frames = h.frames ++ f ∷ [];
      handed = more handed_in steps s ∙ ap (λ l. l ++ raw_bytes f ∷ []) h.handed
          ∙ sym (map-append raw_bytes h.frames (f ∷ []));
      whole = more read_in steps s ∙ append-nil (bytes_read steps) ∙ h.whole
          ∙ sym (append_assoc (flat_map raw_bytes h.frames) (raw_bytes f) rest)
          ∙ ap (λ l. l ++ rest)
          (sym (flat_map-append raw_bytes h.frames (f ∷ [])
          ∙ ap (λ l. flat_map raw_bytes h.frames ++ l) (append-nil (raw_bytes f))));
      each = each_more h.frames f h.each ok;
    }

-- a read into a room that isn't empty gives some bytes, if any
pub some_got : (n : ℕ) (room : List ℕ) → 0 < length room → FitsRoom (read.Got n) room
    → reading_in room (read.Got n) ≢ Reading.Got []
some_got zero room some fits e = let h = fits.1 some in absurd (omega (arith, h))
some_got (suc n) [] some fits e = absurd (omega (arith, some))
some_got (suc n) (b ∷ room) some fits e = absurd cc

module _ (start : Core) (may_give : ℕ → Bool) (member : ℕ) (k0 : Knowledge Entry) (w0 : Wire) where
  -- a call that hands nothing over, and whose drained bytes were written
  pub so_called : (before after : Phase) (k new : Knowledge Entry) (w new_link : Wire) (held : List ℕ) (c : Call)
      (s : SoFar start may_give member k0 w0 before k w held)
      → handed_by c.event ≡ []
      → Made start k new (c ∷ [])
      → k.drawn ≤ new.drawn
      → Sent w (stream_of (given_in c.answer)) new_link
      → IsSession may_give member (s.steps ++ Called c ∷ []) after
      → SoFar start may_give member k0 w0 after new new_link held
  so_called before after k new w new_link held c s none made drawn sent run = record {
    steps = s.steps ++ Called c ∷ [];
    run = run;
    made = subst (λ cs. Made start k0 new cs) (sym (more call_in s.steps (Called c)))
        (made_both start k0 k new (calls s.steps) (c ∷ []) s.made made);
    drawn = let p = s.drawn in omega (arith, drawn, p);
    read = s.read ∙ ap (λ (known : Option (List ℕ)). prepend_known (bytes_read s.steps) known) (sym sent.left)
        ∙ ap (λ (bs : List ℕ). prepend_known bs new_link.left)
        (sym (more read_in s.steps (Called c) ∙ append-nil (bytes_read s.steps)));
    took = sent.took ∙ ap (λ (known : Option (List ℕ)). append_known known (stream_of (given_in c.answer))) s.took
        ∙ append_known-twice w0.took (bytes_drained s.steps) (stream_of (given_in c.answer))
        ∙ ap (append_known w0.took) (sym (more drained_in s.steps (Called c)));
    openings = sent.openings ∙ s.openings;
    readings = tells_same w0.readings w.readings new_link.readings (read_answers s.steps)
        (read_answers (s.steps ++ Called c ∷ [])) sent.readings
        (more readings_in s.steps (Called c) ∙ append-nil (read_answers s.steps)) s.readings;
    permissions = tells_same w0.permissions w.permissions new_link.permissions (tell_answers s.steps)
        (tell_answers (s.steps ++ Called c ∷ [])) sent.permissions
        (more permissions_in s.steps (Called c) ∙ append-nil (tell_answers s.steps)) s.permissions;
    later = let p = s.later in let q = sent.later in omega arith;
    first = first_stays s.steps (Called c) held refl none s.first;
    bytes = s.bytes;
  }

  pub called_last : (before after : Phase) (k new : Knowledge Entry) (w new_link : Wire) (held : List ℕ) (c : Call)
      (s : SoFar start may_give member k0 w0 before k w held)
      (none : handed_by c.event ≡ [])
      (made : Made start k new (c ∷ []))
      (drawn : k.drawn ≤ new.drawn)
      (sent : Sent w (stream_of (given_in c.answer)) new_link)
      (run : IsSession may_give member (s.steps ++ Called c ∷ []) after)
      → IsLast (so_called before after k new w new_link held c s none made drawn sent run).steps (Called c)
  unfolding so_called
  called_last before after k new w new_link held c s none made drawn sent run = (s.steps, refl)

  pub so_read : (k : Knowledge Entry) (w new_link : Wire) (held : List ℕ) (r : LinkRead) (room : List ℕ)
      → SoFar start may_give member k0 w0 Phase.Reads k w held
      → Reads w r room new_link
      → reading_in room r ≢ Reading.Got []
      → AreBytes (held ++ bytes_of (reading_in room r))
      → SoFar start may_give member k0 w0 (after_read (reading_in room r)) k new_link
      (held ++ bytes_of (reading_in room r))
  so_read k w new_link held r room s reads some fit =
      let a = reading_in room r in
      record {
        steps = s.steps ++ Read a ∷ [];
        run = IsSession.reads s.steps a s.run some;
        made = subst (λ cs. Made start k0 k cs) (sym (more call_in s.steps (Read a) ∙ append-nil (calls s.steps)))
            s.made;
        drawn = s.drawn;
        read = s.read ∙ ap (λ (known : Option (List ℕ)). prepend_known (bytes_read s.steps) known) reads.left
            ∙ prepend_known-twice (bytes_read s.steps) (bytes_of a) new_link.left
            ∙ ap (λ (bs : List ℕ). prepend_known bs new_link.left) (sym (more read_in s.steps (Read a)));
        took = reads.took ∙ s.took
            ∙ ap (append_known w0.took) (sym (more drained_in s.steps (Read a) ∙ append-nil (bytes_drained s.steps)));
        openings = reads.openings ∙ s.openings;
        readings = subst (λ (rs : List Reading). AddsTold w0.readings new_link.readings rs)
            (sym (more readings_in s.steps (Read a)))
            (tells_both w0.readings w.readings new_link.readings (read_answers s.steps) (a ∷ []) s.readings reads.readings);
        permissions = tells_same w0.permissions w.permissions new_link.permissions (tell_answers s.steps)
            (tell_answers (s.steps ++ Read a ∷ [])) reads.permissions
            (more permissions_in s.steps (Read a) ∙ append-nil (tell_answers s.steps)) s.permissions;
        later = let p = s.later in let q = reads.later in omega arith;
        first = first_read s.steps a held s.first;
        bytes = fit;
      }

  pub read_last : (k : Knowledge Entry) (w new_link : Wire) (held : List ℕ) (r : LinkRead) (room : List ℕ)
      (s : SoFar start may_give member k0 w0 Phase.Reads k w held)
      (reads : Reads w r room new_link)
      (some : reading_in room r ≢ Reading.Got [])
      (fit : AreBytes (held ++ bytes_of (reading_in room r)))
      → IsLast (so_read k w new_link held r room s reads some fit).steps (Read (reading_in room r))
  unfolding so_read
  read_last k w new_link held r room s reads some fit = (s.steps, refl)

  -- the link was asked whether its peer may be spoken to
  pub so_looked : (k : Knowledge Entry) (w new_link : Wire) (held : List ℕ) (answer : Bool)
      → SoFar start may_give member k0 w0 Looks k w held
      → Permits w answer new_link
      → SoFar start may_give member k0 w0 (after_look answer) k new_link held
  so_looked k w new_link held answer s p =
      let step = MayTell answer in
      record {
        steps = s.steps ++ step ∷ [];
        run = IsSession.looks s.steps answer s.run;
        made = subst (λ cs. Made start k0 k cs) (sym (more call_in s.steps step ∙ append-nil (calls s.steps)))
            s.made;
        drawn = s.drawn;
        read = s.read ∙ ap (λ (known : Option (List ℕ)). prepend_known (bytes_read s.steps) known) (sym p.left)
            ∙ ap (λ (bs : List ℕ). prepend_known bs new_link.left)
            (sym (more read_in s.steps step ∙ append-nil (bytes_read s.steps)));
        took = p.took ∙ s.took
            ∙ ap (append_known w0.took) (sym (more drained_in s.steps step ∙ append-nil (bytes_drained s.steps)));
        openings = p.openings ∙ s.openings;
        readings = tells_same w0.readings w.readings new_link.readings (read_answers s.steps)
            (read_answers (s.steps ++ step ∷ [])) p.readings
            (more readings_in s.steps step ∙ append-nil (read_answers s.steps)) s.readings;
        permissions = subst (λ (bs : List Bool). AddsTold w0.permissions new_link.permissions bs)
            (sym (more permissions_in s.steps step))
            (tells_both w0.permissions w.permissions new_link.permissions (tell_answers s.steps) (answer ∷ [])
            s.permissions p.permissions);
        later = let q = s.later in let same = p.faults in omega arith;
        first = first_stays s.steps step held refl refl s.first;
        bytes = s.bytes;
      }

  pub so_handed : (k new : Knowledge Entry) (w : Wire) (now : ℕ) (answer : Answer) (f : RawFrame) (rest : List ℕ)
      → SoFar start may_give member k0 w0 Hands k w (raw_bytes f ++ rest)
      → IsRaw f → may_give now ≡ true → AreBytes rest
      → Made start k new (record { event = Frame now (raw_bytes f); answer = answer } ∷ [])
      → k.drawn ≤ new.drawn
      → given_in answer ≡ []
      → SoFar start may_give member k0 w0 Hands new w rest
  so_handed k new w now answer f rest s ok may fit made drawn gave =
      let step = frame now (raw_bytes f) answer in
      let first = first_handed s.steps now answer f rest ok s.first in
      let nothing : drained_in step ≡ [] = ap stream_of gave in
      record {
        steps = s.steps ++ step ∷ [];
        run = IsSession.hands s.steps now (raw_bytes f) answer rest s.run may first;
        made = subst (λ cs. Made start k0 new cs) (sym (more call_in s.steps step))
            (made_both start k0 k new (calls s.steps) _ s.made made);
        drawn = let p = s.drawn in omega (arith, drawn, p);
        read = s.read ∙ ap (λ (bs : List ℕ). prepend_known bs w.left)
            (sym (more read_in s.steps step ∙ append-nil (bytes_read s.steps)));
        took = s.took ∙ ap (append_known w0.took)
            (sym (more drained_in s.steps step ∙ ap (λ l. bytes_drained s.steps ++ l) nothing
            ∙ append-nil (bytes_drained s.steps)));
        openings = s.openings;
        readings = tells_same w0.readings w.readings w.readings (read_answers s.steps) (read_answers (s.steps ++ step ∷ [])) refl
            (more readings_in s.steps step ∙ append-nil (read_answers s.steps)) s.readings;
        permissions = tells_same w0.permissions w.permissions w.permissions (tell_answers s.steps)
            (tell_answers (s.steps ++ step ∷ [])) refl
            (more permissions_in s.steps step ∙ append-nil (tell_answers s.steps)) s.permissions;
        later = s.later;
        first = first;
        bytes = fit;
      }

  -- all frames were handed over
  pub so_all : (k : Knowledge Entry) (w : Wire) (held : List ℕ) → SoFar start may_give member k0 w0 Hands k w held
      → NeedsMore held
      → SoFar start may_give member k0 w0 Asks k w held
  so_all k w held s none = record {
    steps = s.steps;
    run = IsSession.handed s.steps held s.run s.first none;
    made = s.made;
    drawn = s.drawn;
    read = s.read;
    took = s.took;
    openings = s.openings;
    readings = s.readings;
    permissions = s.permissions;
    later = s.later;
    first = s.first;
    bytes = s.bytes;
  }

  -- the pass made no call
  pub so_none : (p : Phase) (k new : Knowledge Entry) (w : Wire) (held : List ℕ)
      → SoFar start may_give member k0 w0 p k w held
      → Made start k new [] → k.drawn ≤ new.drawn → SoFar start may_give member k0 w0 p new w held
  so_none p k new w held s made drawn = record {
    steps = s.steps;
    run = s.run;
    made = subst (λ cs. Made start k0 new cs) (append-nil (calls s.steps))
        (made_both start k0 k new (calls s.steps) [] s.made made);
    drawn = let q = s.drawn in omega (arith, drawn, q);
    read = s.read;
    took = s.took;
    openings = s.openings;
    readings = s.readings;
    permissions = s.permissions;
    later = s.later;
    first = s.first;
    bytes = s.bytes;
  }
