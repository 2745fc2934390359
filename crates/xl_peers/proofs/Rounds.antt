-- Serving goes on by one deed.
use Rattle.std.proofs.Common.{◌≡◌, Bool, ◌≤◌, ◌++◌, ◌∷◌, ◌⊎◌, ℕ, Option, Some, List, [], true, refl, sym, ap, ap₂}
use Rattle.std.proofs.Common.{◌∙◌, append-nil, arith, subst, inl, inr}
use Rattle.std.specs.List.{flat_map}
use Rattle.std.proofs.lemmas.Grind.{flat_map-append}
use Rattle.std.specs.Io.KnownBytes.{prepend_known, append_known}
use Rattle.xl_base.specs.Faults.{Rose}
use Rattle.xl_turns.specs.declared.view.Knowledge.{Knowledge}
use Rattle.xl_turns.specs.declared.pass.Pass.{Pass}
use Rattle.xl_turns.specs.Passes.{known}
use Rattle.xl_links.specs.declared.link.Opening.{Opening}
use Rattle.xl_links.specs.Links.{Wire, Reading}
use Rattle.xl_links.specs.Tellings.{AddsTold}
use Rattle.xl_links.specs.Links as links
use Rattle.xl_core.specs.declared.event.CoreEvent.TheVariants.{Stopped}
use Rattle.xl_core.specs.Answers.{Told}
use Rattle.xl_core.specs.Core.{Core}
use Rattle.xl_store.specs.declared.entry.Entry.{Entry}
use Rattle.xl_store.specs.declared.store.Store.{Store}
use Rattle.xl_store.specs.declared.store.StoreEnd.TheVariants as refused
use Rattle.xl_store.specs.Calls.{Made}
use Rattle.xl_store.specs.Stores.{start_of, turns_of, Refused}
use Rattle.xl_store.proofs.Making.{made_none, made_both}
use Rattle.xl_peers.specs.declared.ends.End.{End}
use Rattle.xl_peers.specs.declared.ends.End.TheVariants as end
use Rattle.xl_peers.specs.declared.ends.Served.TheVariants as served
use Rattle.xl_peers.specs.Sessions.{Session, IsCutOff, IsCause}
use Rattle.xl_peers.specs.Steps.{bytes_drained, read_answers, tell_answers}
use Rattle.xl_peers.specs.Serving.{Deed, Asked, Opened, Talked, calls_in, read_in, readings_in, permissions_in, drained_in, written_in}
use Rattle.xl_peers.specs.Serving.{opened_in}
use Rattle.xl_peers.specs.Serving.{Round, after_answer, after_opening, after_session, served_of, IsServing, Serving}
use Rattle.xl_peers.specs.Serving.{Serves, Follows}
use Rattle.xl_peers.proofs.Growing.{append_known-none, append_known-twice, prepend_known-none, prepend_known-twice}
use Rattle.xl_peers.proofs.Growing.{tells_nothing, tells_both, tells_same}
use Rattle.xl_peers.proofs.Finishing.{refused_later}

-- one deed more
more : {A : Type 0} (f : Deed → List A) (deeds : List Deed) (d : Deed)
    → flat_map f (deeds ++ d ∷ []) ≡ flat_map f deeds ++ f d
more f deeds d = flat_map-append f deeds (d ∷ []) ∙ ap (λ l. flat_map f deeds ++ l) (append-nil (f d))

-- a deed that adds nothing
same : {A : Type 0} (f : Deed → List A) (deeds : List Deed) (d : Deed) → f d ≡ []
    → flat_map f (deeds ++ d ∷ []) ≡ flat_map f deeds
same f deeds d e = more f deeds d ∙ ap (λ l. flat_map f deeds ++ l) e ∙ append-nil (flat_map f deeds)

-- all was written, or the link's count rose
all_or_rose : (turns before after drawn : ℕ) (written drained : List ℕ) (e : End) (X : Type 0)
    → IsCause turns before after drawn e
    → (written ≡ drained) ⊎ ((e ≡ end.LinkFault) × X) → Rose before after ⊎ (written ≡ drained)
all_or_rose turns before after drawn written drained e X cause (inl same) = inr same
all_or_rose turns before after drawn written drained e X cause (inr cut) =
    inl (subst (λ (x : End). IsCause turns before after drawn x) cut.0 cause)

both_written : (a b c : ℕ) (xs ys us vs : List ℕ) → a ≤ b → b ≤ c → Rose a b ⊎ (xs ≡ us) → Rose b c ⊎ (ys ≡ vs)
    → Rose a c ⊎ (xs ++ ys ≡ us ++ vs)
both_written a b c xs ys us vs p q (inl r) h = inl (omega arith)
both_written a b c xs ys us vs p q (inr e) (inl r) = inl (omega arith)
both_written a b c xs ys us vs p q (inr e) (inr f) = inr (ap₂ ◌++◌ e f)

module _ (start : Core) (may : ℕ → Bool) (member : ℕ) (k0 : Knowledge Entry) (w0 : Wire) where
  pub asked : (k new : Knowledge Entry) (w : Wire) (answer : Bool) → Serving start may member k0 w0 Round.Asks k w
      → Made start k new (record { event = Stopped; answer = Told answer } ∷ []) → k.drawn ≤ new.drawn
      → Serving start may member k0 w0 (after_answer answer) new w
  asked k new w answer s made drawn =
      let d = Asked answer in
      record {
        deeds = s.deeds ++ d ∷ [];
        run = IsServing.asks s.deeds answer s.run;
        made = subst (λ cs. Made start k0 new cs) (sym (more calls_in s.deeds d))
            (made_both start k0 k new (flat_map calls_in s.deeds) _ s.made made);
        drawn = let p = s.drawn in omega (arith, drawn, p);
        read = s.read ∙ ap (λ (bs : List ℕ). prepend_known bs w.left) (sym (same read_in s.deeds d refl));
        took = s.took ∙ ap (append_known w0.took) (sym (same written_in s.deeds d refl));
        all = subst (λ (p : List ℕ × List ℕ). Rose w0.faults w.faults ⊎ (p.0 ≡ p.1))
            (λ i. (sym (same written_in s.deeds d refl) i, sym (same drained_in s.deeds d refl) i)) s.all;
        openings = subst (λ (os : List Opening). AddsTold w0.openings w.openings os)
            (sym (same opened_in s.deeds d refl)) s.openings;
        readings = tells_same w0.readings w.readings w.readings (flat_map readings_in s.deeds)
            (flat_map readings_in (s.deeds ++ d ∷ [])) refl (same readings_in s.deeds d refl) s.readings;
        permissions = tells_same w0.permissions w.permissions w.permissions (flat_map permissions_in s.deeds)
            (flat_map permissions_in (s.deeds ++ d ∷ [])) refl (same permissions_in s.deeds d refl) s.permissions;
        later = s.later;
      }

  pub asked_last : (turns : ℕ) (k new : Knowledge Entry) (w : Wire) (s : Serving start may member k0 w0 Round.Asks k w)
      → Made start k new (record { event = Stopped; answer = Told true } ∷ []) → k.drawn ≤ new.drawn
      → Follows start turns may member k0 w0 (Some served.Stopped) new w
  unfolding asked
  asked_last turns k new w s made drawn = record {
    round = Round.Over;
    serving = asked k new w true s made drawn;
    reason = inl (s.deeds, refl);
  }

  -- the store gave no turn
  pub asked_none : (round : Round) (k new : Knowledge Entry) (w : Wire) → Serving start may member k0 w0 round k w
      → Made start k new [] → k.drawn ≤ new.drawn → Serving start may member k0 w0 round new w
  asked_none round k new w s made drawn = record {
    deeds = s.deeds;
    run = s.run;
    made = subst (λ cs. Made start k0 new cs) (append-nil (flat_map calls_in s.deeds))
        (made_both start k0 k new (flat_map calls_in s.deeds) [] s.made made);
    drawn = let p = s.drawn in omega (arith, drawn, p);
    read = s.read;
    took = s.took;
    all = s.all;
    openings = s.openings;
    readings = s.readings;
    permissions = s.permissions;
    later = s.later;
  }

  pub opened : (k : Knowledge Entry) (w new_link : Wire) (answer : Opening)
      → Serving start may member k0 w0 Round.Opens k w
      → links.Opens w answer new_link → Serving start may member k0 w0 (after_opening answer) k new_link
  opened k w new_link answer s o =
      let d = Opened answer in
      record {
        deeds = s.deeds ++ d ∷ [];
        run = IsServing.opens s.deeds answer s.run;
        made = subst (λ cs. Made start k0 k cs) (sym (same calls_in s.deeds d refl)) s.made;
        drawn = s.drawn;
        read = s.read ∙ ap (λ (known : Option (List ℕ)). prepend_known (flat_map read_in s.deeds) known) (sym o.left)
            ∙ ap (λ (bs : List ℕ). prepend_known bs new_link.left) (sym (same read_in s.deeds d refl));
        took = o.took ∙ s.took ∙ ap (append_known w0.took) (sym (same written_in s.deeds d refl));
        all = subst (λ (p : List ℕ × List ℕ). Rose w0.faults new_link.faults ⊎ (p.0 ≡ p.1))
            (λ i. (sym (more written_in s.deeds d) i, sym (more drained_in s.deeds d) i))
            (both_written w0.faults w.faults new_link.faults (flat_map written_in s.deeds) []
            (flat_map drained_in s.deeds) [] s.later o.later s.all (inr refl));
        openings = subst (λ (os : List Opening). AddsTold w0.openings new_link.openings os)
            (sym (more opened_in s.deeds d))
            (tells_both w0.openings w.openings new_link.openings (flat_map opened_in s.deeds) (answer ∷ []) s.openings
            o.openings);
        readings = tells_same w0.readings w.readings new_link.readings (flat_map readings_in s.deeds)
            (flat_map readings_in (s.deeds ++ d ∷ [])) o.readings (same readings_in s.deeds d refl) s.readings;
        permissions = tells_same w0.permissions w.permissions new_link.permissions (flat_map permissions_in s.deeds)
            (flat_map permissions_in (s.deeds ++ d ∷ [])) o.permissions (same permissions_in s.deeds d refl) s.permissions;
        later = let p = s.later in let q = o.later in omega arith;
      }

  pub talked : (turns : ℕ) (k new : Knowledge Entry) (w new_link : Wire) (e : End)
      → Serving start may member k0 w0 Round.Talks k w
      → Session start turns may member k w e new new_link
      → Serving start may member k0 w0 (after_session (served_of e)) new new_link
  talked turns k new w new_link e s t =
      let d = Talked t.steps t.written e in
      record {
        deeds = s.deeds ++ d ∷ [];
        run = IsServing.talks s.deeds t.steps t.written e s.run t.talk;
        made = subst (λ cs. Made start k0 new cs) (sym (more calls_in s.deeds d))
            (made_both start k0 k new (flat_map calls_in s.deeds) _ s.made t.made);
        drawn = let p = s.drawn in let q = t.drawn in omega arith;
        read = s.read ∙ ap (λ (known : Option (List ℕ)). prepend_known (flat_map read_in s.deeds) known) t.read
            ∙ prepend_known-twice (flat_map read_in s.deeds) (read_in d) new_link.left
            ∙ ap (λ (bs : List ℕ). prepend_known bs new_link.left) (sym (more read_in s.deeds d));
        took = t.took ∙ ap (λ (known : Option (List ℕ)). append_known known t.written) s.took
            ∙ append_known-twice w0.took (flat_map written_in s.deeds) t.written
            ∙ ap (append_known w0.took) (sym (more written_in s.deeds d));
        all = subst (λ (p : List ℕ × List ℕ). Rose w0.faults new_link.faults ⊎ (p.0 ≡ p.1))
            (λ i. (sym (more written_in s.deeds d) i, sym (more drained_in s.deeds d) i))
            (both_written w0.faults w.faults new_link.faults (flat_map written_in s.deeds) t.written
            (flat_map drained_in s.deeds) (drained_in d) s.later t.later s.all
            (all_or_rose turns w.faults new_link.faults new.drawn t.written (bytes_drained t.steps) e
            (IsCutOff member t.steps t.written) t.cause t.talk.all));
        openings = subst (λ (os : List Opening). AddsTold w0.openings new_link.openings os)
            (sym (same opened_in s.deeds d refl))
            (subst (λ (known : Option (List Opening)). AddsTold w0.openings known (flat_map opened_in s.deeds))
            (sym t.openings) s.openings);
        readings = subst (λ (rs : List Reading). AddsTold w0.readings new_link.readings rs)
            (sym (more readings_in s.deeds d))
            (tells_both w0.readings w.readings new_link.readings (flat_map readings_in s.deeds) (read_answers t.steps)
            s.readings t.readings);
        permissions = subst (λ (bs : List Bool). AddsTold w0.permissions new_link.permissions bs)
            (sym (more permissions_in s.deeds d))
            (tells_both w0.permissions w.permissions new_link.permissions (flat_map permissions_in s.deeds)
            (tell_answers t.steps) s.permissions t.permissions);
        later = let p = s.later in let q = t.later in omega arith;
      }

  -- after a session the serving goes on, or is over for the same reason
  pub talked_on : (turns : ℕ) (k new : Knowledge Entry) (w new_link : Wire) (e : End)
      → Serving start may member k0 w0 Round.Talks k w
      → Session start turns may member k w e new new_link
      → Follows start turns may member k0 w0 (served_of e) new new_link
  unfolding talked
  talked_on turns k new w new_link end.End s t = talked turns k new w new_link end.End s t
  talked_on turns k new w new_link end.Stopped s t = record {
    round = Round.Over;
    serving = talked turns k new w new_link end.Stopped s t;
    reason = inr (t.steps, t.written, (s.deeds, refl));
  }
  talked_on turns k new w new_link (end.Framing r) s t = talked turns k new w new_link (end.Framing r) s t
  talked_on turns k new w new_link end.LinkFault s t = talked turns k new w new_link end.LinkFault s t
  talked_on turns k new w new_link end.OutOfMemory s t = talked turns k new w new_link end.OutOfMemory s t
  talked_on turns k new w new_link (end.StoreFull n) s t = record {
    round = Round.Over;
    serving = talked turns k new w new_link (end.StoreFull n) s t;
    reason = t.cause;
  }

-- nothing was done yet
pub serving_starts : (start : Core) (may : ℕ → Bool) (member : ℕ) (k0 : Knowledge Entry) (w0 : Wire)
    → Serving start may member k0 w0 Round.Asks k0 w0
serving_starts start may member k0 w0 = record {
  deeds = [];
  run = IsServing.begins;
  made = made_none start k0 k0 refl refl refl;
  drawn = omega arith;
  read = sym (prepend_known-none w0.left);
  took = sym (append_known-none w0.took);
  all = inr refl;
  openings = tells_nothing w0.openings;
  readings = tells_nothing w0.readings;
  permissions = tells_nothing w0.permissions;
  later = omega arith;
}

module _ {B K : Type 0} (store : Store B K) (may : ℕ → Bool) (member : ℕ) (k0 : Knowledge Entry) (w0 : Wire) where
  -- if all turns are drawn the serving is over
  pub full_on : (old new : Pass Entry) (w : Wire) (n : ℕ)
      → Serving (start_of store) may member k0 w0 Round.Asks (known old) w
      → Refused store old (refused.StoreFull n) new
      → Serves (start_of store) (turns_of store) may member k0 w0 (served.StoreFull n) (known new) w
  full_on old new w n s r = record {
    round = Round.Asks;
    serving = asked_none (start_of store) may member k0 w0 Round.Asks (known old) (known new) w s r.made
        (refused_later store may member k0 w0 (known old) (known new) (refused.StoreFull n) r.why);
    reason = (r.why.0, ap (λ (k : Knowledge Entry). k.drawn) r.why.2);
  }
