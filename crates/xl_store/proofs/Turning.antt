-- One call in one turn.
use Rattle.std.proofs.Common.{◌≡◌, ℕ, ◌+◌, Bool, List, [], ◌∷◌, ◌++◌, length, refl, sym, ap, ◌∙◌, subst, arith, length-append, Option, None}
use Rattle.std.specs.Prelude.{IsSome}
use Rattle.std.specs.Global.{Box}
use Rattle.xl_tags.specs.Rings.{Ring, key_of}
use Rattle.xl_turns.specs.declared.view.Knowledge.{Knowledge}
use Rattle.xl_turns.specs.declared.pass.Pass.{Pass}
use Rattle.xl_turns.specs.declared.pass.Turn.{Turn}
use Rattle.xl_turns.specs.Histories.{IsLegal}
use Rattle.xl_turns.specs.Knowing.{with_drawn, after_turn}
use Rattle.xl_turns.specs.Passes.{known, knows, opening}
use Rattle.xl_io.specs.Keepers.{Held}
use Rattle.xl_core.specs.declared.event.CoreEvent.{CoreEvent}
use Rattle.xl_core.specs.Answers.{Answer}
use Rattle.xl_core.specs.Core.{Core, core_happens, core_asks}
use Rattle.xl_core.specs.Node.{Save, is_kept}
use Rattle.xl_core.specs.Issuing.Save.{Kept}
use Rattle.xl_core.specs.Keeping.{IsAsked}
use Rattle.xl_core.specs.Replies.{Answers}
use Rattle.xl_core.proofs.Concluding.{unasked}
use Rattle.xl_store.specs.declared.entry.Entry.{Entry}
use Rattle.xl_store.specs.declared.entry.Saved.{Saved}
use Rattle.xl_store.specs.declared.home.Home.{Home}
use Rattle.xl_store.specs.declared.page.Page.{Page}
use Rattle.xl_store.specs.declared.store.Store.{Store}
use Rattle.xl_store.specs.Entries.{IsAllowed, IsOutcome, Leads, entry_of, page_of, save_of, reply_of}
use Rattle.xl_store.specs.Homes.{IsCounted, Goes, AnswersHome, LeadsHome}
use Rattle.xl_store.specs.Stores.{start_of, Begun, Called}
use Rattle.xl_turns.proofs.JournalSteps.{runs_more}
use Rattle.xl_store.proofs.Journals.{after_all, after_runs}
use Rattle.xl_store.proofs.Keeping.{cores_run}
use Rattle.xl_store.proofs.Making.{made_one}
use Rattle.xl_store.proofs.Noting.{outcome_with, is_outcome}
use Rattle.xl_store.proofs.Peers.{peers_stay}

module _ {B K : Type 0}
    (held_by : K → Option Held) (saves_of : K → Option (List ℕ)) (faults_of : K → ℕ)
    (gives : K → ℕ → Bool → K → Type 0) where
  -- an event that asks no save leads from one home to the next
  pub goes_on : (before found after : Home B K) (event : CoreEvent) → found ≡ before
      → IsAllowed before.core event → core_asks before.core event ≡ None
      → after.core ≡ (core_happens found.core event Kept).core → after.keeper ≡ found.keeper
      → Goes held_by saves_of faults_of gives before (entry_of event None) after
  goes_on before found after event same allowed asks core keeper = record {
    core = record {
      allowed = allowed;
      outcome = subst (λ (o : Option ℕ). IsOutcome o None) (sym asks) refl;
      core = core ∙ ap (λ (h : Home B K). (core_happens h.core event Kept).core) same;
    };
    keeper = subst (λ (o : Option ℕ). IsAsked held_by saves_of faults_of gives o (is_kept Kept) before.keeper after.keeper) (sym asks)
        (subst (λ (k : K). IsAsked held_by saves_of faults_of gives None (is_kept Kept) before.keeper k)
        (sym (keeper ∙ ap (λ (h : Home B K). h.keeper) same)) (unasked held_by saves_of faults_of gives (is_kept Kept) before.keeper));
    counted = tt;
  }

  -- an event whose save was answered so leads from one home to the next, and is answered so
  pub answers_home : (before after : Home B K) (event : CoreEvent) (save : Save) (outcome : Option Saved) (answer : Answer)
      → IsAllowed before.core event
      → save_of outcome ≡ save
      → outcome ≡ outcome_with (core_asks before.core event) save
      → Answers (core_happens before.core event save) after.core answer
      → IsAsked held_by saves_of faults_of gives (core_asks before.core event) (is_kept save) before.keeper after.keeper
      → IsCounted outcome (faults_of before.keeper) (faults_of after.keeper)
      → after.kept ≡ before.kept
      → AnswersHome held_by saves_of faults_of gives before (entry_of event outcome) answer after
  answers_home before after event save outcome answer allowed same with_save does asked counted kept = record {
    goes = record {
      core = record {
        allowed = allowed;
        outcome = is_outcome (core_asks before.core event) save outcome
            (faults_of before.keeper) (faults_of after.keeper) with_save counted;
        core = does.core ∙ ap (λ (s : Save). (core_happens before.core event s).core) (sym same);
      };
      keeper = subst
          (λ (s : Save). IsAsked held_by saves_of faults_of gives
          (core_asks before.core event) (is_kept s) before.keeper after.keeper)
          (sym same) asked;
      counted = counted;
    };
    kept = kept;
    answer = ap (λ (s : Save). (core_happens before.core event s).answer) same ∙ sym does.answer;
  }

  -- a turn that was begun with a copy of what the event hands in
  pub begun_as : (store : Store B K) (old : Pass Entry) (copy event : CoreEvent)
      (turn : Turn (Box (Home B K)) Entry) (page : Page) → copy ≡ event
      → Begun held_by saves_of faults_of gives store old copy turn page
      → Begun held_by saves_of faults_of gives store old event turn page
  begun_as store old copy event turn page same b =
      subst (λ (e : CoreEvent). Begun held_by saves_of faults_of gives store old e turn page) same b

  -- what the pass has seen leads to some core
  pub seen_legal : (store : Store B K) (new : Pass Entry)
      → IsLegal (LeadsHome held_by saves_of faults_of gives) (opening store.lock) (known new).seen
      → IsLegal Leads (start_of store) (known new).seen
  seen_legal store new l =
      (l.0.value.core, cores_run held_by saves_of faults_of gives (opening store.lock) l.0 (known new).seen l.1)

  -- a peer of the core that the store was opened with is one of the core that the turn finds
  pub still_peer : (store : Store B K) (old : Pass Entry) (event : CoreEvent) (turn : Turn (Box (Home B K)) Entry)
      (page : Page) (member : ℕ) (found : Home B K) → found ≡ turn.object.value
      → Begun held_by saves_of faults_of gives store old event turn page
      → IsSome (key_of (start_of store).node.keys member) → IsSome (key_of found.core.node.keys member)
  still_peer store old event turn page member found same b peer =
      subst (λ (h : Home B K). IsSome (key_of h.core.node.keys member)) (sym same)
      (subst (λ (r : Ring). IsSome (key_of r member))
      (sym (peers_stay (start_of store) turn.object.value.core turn.journal
      (cores_run held_by saves_of faults_of gives (opening store.lock) turn.object turn.journal b.found))) peer)

  -- the core after all that the pass has then seen is the one that the turn's entry leads to
  pub core_then : (store : Store B K) (old : Pass Entry) (event : CoreEvent) (turn : Turn (Box (Home B K)) Entry)
      (page : Page) (seen : List Entry) (entry : Entry) (after : Core)
      → Begun held_by saves_of faults_of gives store old event turn page
      → Leads turn.object.value.core entry after → seen ≡ turn.journal ++ entry ∷ []
      → after_all (start_of store) seen ≡ after
  core_then store old event turn page seen entry after b leads is =
      ap (after_all (start_of store)) is
      ∙ after_runs (start_of store) after (turn.journal ++ entry ∷ [])
      (runs_more Leads (start_of store) turn.object.value.core after turn.journal entry
      (cores_run held_by saves_of faults_of gives (opening store.lock) turn.object turn.journal b.found) leads)

  pub called : (store : Store B K) (old new : Pass Entry) (event : CoreEvent) (outcome : Option Saved) (answer : Answer)
      (turn : Turn (Box (Home B K)) Entry) (page : Page) (done : List Entry) (found : Home B K) → found ≡ turn.object.value
      → Begun held_by saves_of faults_of gives store old event turn page
      → done ≡ page_of event outcome
      → known new ≡ after_turn (knows turn) (length turn.journal) (turn.journal ++ done)
      → IsLegal (LeadsHome held_by saves_of faults_of gives) (opening store.lock) (known new).seen
      → (reply_of found.core (entry_of event outcome)).answer ≡ answer
      → Called store old event answer new
  called store old new event outcome answer turn page done found same b written left legal said =
      let e : Entry = entry_of event outcome in
      let is : known new
      ≡ after_turn (with_drawn (known old) (length turn.journal + 1)) (length turn.journal) (turn.journal ++ e ∷ []) =
      left ∙ (λ i. after_turn (b.entered i) (length turn.journal) (turn.journal ++ written i)) in
      let seen : (known new).seen ≡ turn.journal ++ e ∷ [] = ap (λ (k : Knowledge Entry). k.seen) is in
      let long : length (known new).seen ≡ length turn.journal + 1 =
      ap (length {A = Entry}) seen ∙ length-append turn.journal (e ∷ []) in
      let drawn : (known new).drawn ≡ length turn.journal + 1 = ap (λ (k : Knowledge Entry). k.drawn) is in
      let runs = cores_run held_by saves_of faults_of gives (opening store.lock) turn.object turn.journal b.found in
      record {
        made = made_one (start_of store) turn.object.value.core (known old) (known new) turn.journal e answer
            b.begins runs is
            (ap (λ (h : Home B K). (reply_of h.core e).answer) (sym same) ∙ said);
        legal = seen_legal store new legal;
        last = record {
          earlier = turn.journal;
          entry = e;
          seen = seen;
          tells = refl;
          mine = ap (λ (k : Knowledge Entry). k.mine) is;
        };
        drawn = omega (arith, drawn, long);
        later = omega (arith, drawn, b.drawn);
        within = omega (arith, drawn, b.below);
      }
