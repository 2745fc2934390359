-- A run, as its parts say it.
use Rattle.std.proofs.Common.{◌≡◌, ◌≤◌, ℕ, Option, List, [], ◌∷◌, ◌++◌, length, length-append, map, refl, sym, ap, ◌∙◌, arith}
use mathlib.Core.List.{IsPrefix}
use Rattle.xl_base.specs.Faults.{Rose}
use Rattle.xl_base.specs.declared.ids.TxId.{TxId}
use Rattle.xl_turns.specs.declared.view.Knowledge.{Knowledge}
use Rattle.xl_turns.specs.Knowing.{newcomer, all_shares}
use Rattle.xl_turns.specs.Places.{all_below}
use Rattle.xl_turns.proofs.Prefixes.{prefix_all, prefix_trans}
use Rattle.xl_links.specs.Requests.{Requests}
use Rattle.xl_links.specs.Ways.{Target}
use Rattle.xl_core.specs.Core.{Core}
use Rattle.xl_store.specs.declared.entry.Entry.{Entry}
use Rattle.xl_store.specs.declared.store.StoreEnd.{StoreEnd}
use Rattle.xl_store.specs.declared.store.StoreEnd.TheVariants as refused
use Rattle.xl_store.proofs.Making.{made_none, rise_wider, prefix_length}
use Rattle.xl_store.proofs.Journals.{stand_in_longer}
use Rattle.xl_heartbeat.specs.declared.pulse.Pulse.{Pulse}
use Rattle.xl_heartbeat.specs.declared.ends.BeatEnd.{BeatEnd}
use Rattle.xl_heartbeat.specs.declared.ends.Ending.{Ending}
use Rattle.xl_heartbeat.specs.declared.ends.Ending.TheVariants as ending
use Rattle.xl_heartbeat.specs.Outputs.{Output}
use Rattle.xl_heartbeat.specs.Beats.{taking_calls, TakesReports}
use Rattle.xl_workers.specs.declared.ends.RunEnd.{RunEnd}
use Rattle.xl_workers.specs.declared.ends.RunEnd.TheVariants as end
use Rattle.xl_workers.specs.declared.linking.NoLinks.{NoLinks}
use Rattle.xl_workers.specs.declared.linking.NoLinks.TheVariants as unlinked
use Rattle.xl_workers.specs.Linking.{HubSeen, AsksAll, AsksNoDoor, AsksUpToDoor, IsUnlinked, member_in}
use Rattle.xl_workers.specs.Submits.{Submitted, SubmittedFront}
use Rattle.xl_workers.specs.Sharing.{Setting, SharedOut, SubmitPart}
use Rattle.xl_workers.specs.Runs.{Doing, doing_of}
use Rattle.xl_workers.specs.Working.{Closes, Worked, TookLast, Lives, Lived, end_of, end_without}
use Rattle.xl_workers.proofs.Links.{none_front}
use Rattle.xl_workers.proofs.Shared.{stands, full_longer}
use Rattle.xl_workers.proofs.Outcomes.{outputs}

-- what closes a later pass's store closes an earlier one's
closes_earlier : (turns : ℕ) (old new : Knowledge Entry) (history : List Entry) → IsPrefix old.seen new.seen
    → old.drawn ≤ new.drawn → Closes turns new history → Closes turns old history
closes_earlier turns old new history begins drawn close = record {
  begins = prefix_trans old.seen new.seen history begins close.begins;
  drawn = let le = close.drawn in omega (arith, le, drawn);
  limit = close.limit;
}

-- a history whose places are none is empty
none_below : (history : List Entry) → [] ≡ all_below (length history) → history ≡ []
none_below [] empty = refl
none_below (e ∷ es) empty =
    let long = ap (length {A = ℕ}) empty in
    absurd (omega (arith, long, length-append (all_below (length es)) (length es ∷ [])))

-- reports that are taken after a heartbeat
module _ (start : Core) (turns : ℕ) (old new : Knowledge Entry) (o1 o2 : Output) (last : Ending) where
  -- no write's fault had ended it
  pub took_more : (beats : Ending) → (beats ≡ ending.WriteFault → ⊥) → TakesReports start turns old o1 last new o2
      → TookLast start turns beats old o1 last new o2
  took_more ending.Done other t =
      record { handed = t.handed; made = t.made; drawn = t.drawn; full = t.full; written = t.written }
  took_more ending.WriteFault other t = absurd (other refl)
  took_more ending.OutOfMemory other t =
      record { handed = t.handed; made = t.made; drawn = t.drawn; full = t.full; written = t.written }
  took_more (ending.StoreFull n) other t =
      record { handed = t.handed; made = t.made; drawn = t.drawn; full = t.full; written = t.written }

  -- a write's fault had: what they hand out goes elsewhere
  pub took_away : (e1 e2 : Output) → o2 ≡ o1 → TakesReports start turns old e1 last new e2
      → TookLast start turns ending.WriteFault old o1 last new o2
  took_away e1 e2 same t =
      record { handed = t.handed; made = t.made; drawn = t.drawn; full = t.full; written = same }

module _ (s : Setting) where
  shared_out : (pulse : Pulse) (door : Option (List ℕ)) (members : List ℕ) (old mid new : Knowledge Entry) (o1 o2 o3 : Output)
      (beats : BeatEnd) (last : Ending) (w : Worked s pulse door members old o1 beats mid o2)
      (t : TookLast s.start s.turns beats.run mid o2 last new o3)
      (history : List Entry) → Closes s.turns new history → new.mine ≡ all_below (length history)
      → SharedOut s pulse door members history old.mine beats last o1 o3
  shared_out pulse door members old mid new o1 o2 o3 beats last w t history close all =
      let before = closes_earlier s.turns mid new history t.made.begins t.drawn close in
      record {
        beat = w.beat;
        gate = w.gate;
        parts = w.parts;
        end = t.made.places;
        calls = w.calls;
        handed = t.handed;
        all = ap (λ (l : List ℕ). l ++ t.made.places) (sym w.mine) ∙ sym t.made.mine ∙ all;
        beating = w.beating history before;
        attending = w.attending history before;
        serving = w.serving history before;
        ending = record {
          stand = record {
            at = stand_in_longer s.start new.seen history t.made.places (taking_calls last t.handed) close.begins
                t.made.stand;
            rise = rise_wider (length mid.seen) (length new.seen) 0 (length history) t.made.places (omega arith)
                (prefix_length new.seen history close.begins) t.made.rise;
          };
          full = full_longer s.turns new.drawn (length history) last close.drawn close.limit t.full;
        };
        written = outputs w.calls (taking_calls last t.handed) o1 o2 o3 beats last w.written t.written;
      }

  pub lives_ran : (pulse : Pulse) (targets : List Target) (door : Option (List ℕ)) (ids : List TxId) (old_hub new_hub : HubSeen)
      (old mid new : Knowledge Entry) (o1 o2 o3 : Output) (beats : BeatEnd) (last : Ending)
      → AsksAll old_hub targets door new_hub
      → Worked s pulse door (map member_in targets) old o1 beats mid o2
      → TookLast s.start s.turns beats.run mid o2 last new o3
      → Lives s (doing_of ids targets door pulse old_hub new_hub o1 o3) ids (end.Ran beats last) old new
  lives_ran pulse targets door ids old_hub new_hub old mid new o1 o2 o3 beats last asked w t = record {
    asked = asked;
    share = t.made.share ∙ w.share;
    begins = prefix_trans old.seen mid.seen new.seen w.begins t.made.begins;
    by = λ history close all. (refl, shared_out pulse door (map member_in targets) old mid new o1 o2 o3 beats last w t history close all);
  }

  -- nothing ran, if memory runs out
  pub lives_none : (d : Doing) (k : Knowledge Entry) → k.share ≡ all_shares → d.new_output ≡ d.old_output
      → AsksNoDoor d.old_hub d.targets d.new_hub → Lives s d d.ids end.OutOfMemory k k
  lives_none d k share silent asked = record {
    asked = asked;
    share = share;
    begins = prefix_all k.seen;
    by = λ history close all. (prefix_all d.ids, record { all = all; silent = silent });
  }

  -- nothing ran, since there aren't all links
  pub lives_unlinked : (d : Doing) (k : Knowledge Entry) (why : NoLinks) → k.share ≡ all_shares → d.new_output ≡ d.old_output
      → IsUnlinked d.old_hub d.targets d.new_hub why → d.new_hub.asked.doors ≡ d.old_hub.asked.doors
      → Lives s d d.ids (end_without why) k k
  lives_unlinked d k unlinked.OutOfMemory share silent is doors =
      lives_none d k share silent (record { links = is; doors = doors })
  lives_unlinked d k (unlinked.LinkFault member) share silent is doors = record {
    asked = record { links = is.0; doors = doors };
    share = share;
    begins = prefix_all k.seen;
    by = λ history close all. (refl, record { all = all; silent = silent }, is.1);
  }

  -- nothing ran, since the hub couldn't make the door
  pub lives_doorless : (d : Doing) (k : Knowledge Entry) → k.share ≡ all_shares → d.new_output ≡ d.old_output
      → AsksUpToDoor d.old_hub d.targets d.door d.new_hub → Rose d.old_hub.faults d.new_hub.faults
      → Lives s d d.ids end.DoorFault k k
  lives_doorless d k share silent asked rose = record {
    asked = asked;
    share = share;
    begins = prefix_all k.seen;
    by = λ history close all. (refl, record { all = all; silent = silent }, rose);
  }

  -- submits keep the share of the first pass
  pub still_whole : (ids : List TxId) (old mid : Knowledge Entry) → old ≡ newcomer
      → Submitted s.start s.may_give old ids mid → mid.share ≡ all_shares
  still_whole ids old mid first sub = sub.made.share ∙ ap (λ (k : Knowledge Entry). k.share) first

  -- all ids were submitted by the first pass
  pub lived : (d : Doing) (old mid new : Knowledge Entry) (e : RunEnd) → old ≡ newcomer
      → Submitted s.start s.may_give old d.ids mid → Lives s d d.ids e mid new → Lived s d e new
  lived d old mid new e first sub lives = record {
    share = lives.share;
    run = λ history close all. record {
      done = d.ids;
      submits = mid.mine;
      submitting = record {
        calls = sub.calls;
        each = sub.each;
        stand = stands s.start old mid sub.calls history sub.made (ap (λ (k : Knowledge Entry). k.mine) first)
            (prefix_trans mid.seen new.seen history lives.begins close.begins);
      };
      by = lives.by history close all;
      asked = lives.asked;
    };
  }

  front_part : (old new : Knowledge Entry) (ids : List TxId) (why : StoreEnd) (history : List Entry) → old ≡ newcomer
      → (f : SubmittedFront s.start s.turns s.may_give old ids why new) → IsPrefix new.seen history
      → SubmitPart s history f.done new.mine
  front_part old new ids why history first f seen = record {
    calls = f.submitted.calls;
    each = f.submitted.each;
    stand = stands s.start old new f.submitted.calls history f.submitted.made
        (ap (λ (k : Knowledge Entry). k.mine) first) seen;
  }

  -- nothing happened: there were too few threads
  pub lived_unstarted : (d : Doing) (k : Knowledge Entry) → k ≡ newcomer → d.new_output ≡ d.old_output
      → d.new_hub.asked ≡ d.old_hub.asked → Lived s d end.TooFewThreads k
  lived_unstarted d k first silent unasked =
      let mine : k.mine ≡ [] = ap (λ (it : Knowledge Entry). it.mine) first in
      record {
        share = ap (λ (it : Knowledge Entry). it.share) first;
        run = λ history close all. record {
          done = [];
          submits = k.mine;
          submitting = record {
            calls = [];
            each = tt;
            stand = stands s.start k k [] history (made_none s.start k k refl refl refl) mine close.begins;
          };
          by = (none_below history (sym mine ∙ all), record { all = all; silent = silent });
          asked = unasked;
        };
      }

  -- a submit had no turn
  pub lived_front : (d : Doing) (old new : Knowledge Entry) (why : StoreEnd) → old ≡ newcomer
      → d.new_output ≡ d.old_output → d.new_hub.asked ≡ d.old_hub.asked
      → SubmittedFront s.start s.turns s.may_give old d.ids why new
      → Lived s d (end_of why) new
  lived_front d old new refused.OutOfMemory first silent unasked f = record {
    share = f.submitted.made.share ∙ ap (λ (k : Knowledge Entry). k.share) first;
    run = λ history close all. record {
      done = f.done;
      submits = new.mine;
      submitting = front_part old new d.ids refused.OutOfMemory history first f close.begins;
      by = ((f.next ∷ f.rest, sym f.front), record { all = all; silent = silent });
      asked = record {
        links = none_front d.old_hub d.new_hub d.targets (ap (λ (r : Requests). r.links) unasked);
        doors = ap (λ (r : Requests). r.doors) unasked;
      };
    };
  }
  lived_front d old new (refused.StoreFull n) first silent unasked f = record {
    share = f.submitted.made.share ∙ ap (λ (k : Knowledge Entry). k.share) first;
    run = λ history close all. record {
      done = f.done;
      submits = new.mine;
      submitting = front_part old new d.ids (refused.StoreFull n) history first f close.begins;
      by = (
        (f.next, f.rest, f.front),
        record { all = all; silent = silent },
        f.why.0,
        (let p = close.drawn in let q = close.limit in let e = f.why.1 in omega (arith, p, q, e)),
      );
      asked = unasked;
    };
  }
