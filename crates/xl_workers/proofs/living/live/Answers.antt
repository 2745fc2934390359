-- the pass begins with nothing known, and if there are too few threads it ends so; all ids are submitted before the links,
-- or one has no turn; and the joined pass has seen all that the heartbeat and each worker had
use Rattle.std.proofs.Common.{◌≡◌, ◌≤◌, ◌^◌, ℕ, Option, List, length, map, refl, sym, ap, ◌∙◌, subst, arith}
use Rattle.std.proofs.lemmas.List.{length-map}
use Rattle.std.specs.Prelude.{IsSome}
use Rattle.std.specs.List.{AllByRecursion}
use Rattle.xl_base.specs.declared.ids.TxId.{TxId}
use Rattle.xl_tags.specs.Rings.{key_of}
use Rattle.xl_turns.specs.Passes.{known}
use Rattle.xl_store.specs.Stores.{start_of, turns_of, retention_of}
use Rattle.xl_heartbeat.specs.Outputs.{output}
use Rattle.xl_heartbeat.proofs.Telling.{untold, still_told}
use Rattle.xl_workers.specs.declared.ends.RunEnd.{RunEnd}
use Rattle.xl_workers.specs.declared.ends.RunEnd.TheVariants as end
use Rattle.xl_workers.specs.declared.linking.Peer.{Peer}
use Rattle.xl_workers.specs.declared.hiring.Crew.{Crew}
use Rattle.xl_workers.specs.declared.worker.Worker.{Worker}
use Rattle.xl_links.specs.Doors.{Doorway}
use Rattle.xl_links.specs.Tellings.{AddsTold}
use Rattle.xl_links.specs.Ways.{Target}
use Rattle.xl_workers.specs.Linking.{member_of, contact_of, hub_seen, target_of, IsAsTold, IsDoor, IsDoorAsked}
use Rattle.xl_workers.specs.Serving.{IsReady}
use Rattle.xl_workers.specs.Submits.{Submitted, SubmittedFront}
use Rattle.xl_workers.specs.Sharing.{setting}
use Rattle.xl_workers.specs.Runs.{doing_of}
use Rattle.xl_workers.specs.Working.{Worked, Lived, end_without}
use Rattle.xl_workers.proofs.Pairs.{all_of_map, index_all}
use Rattle.xl_workers.proofs.Links.{same_members, all_front}
use Rattle.xl_workers.proofs.Starts.{enough_left, are_all, same_peers, same_mine, same_seen, worked_from}
use Rattle.xl_workers.proofs.Shared.{Joined, all_his, worked}
use Rattle.xl_workers.proofs.Lives.{lived, lived_unstarted, lived_front, lives_ran, lives_doorless, lives_none, lives_unlinked, still_whole}
use Rattle.xl_workers.proofs.Recordings.{nothing_recorded, submits_recorded, still_quiet, all_recorded}
use Rattle.xl_workers.proofs.living.live.Goals as goal
use Rattle.xl_workers.proofs.living.live.Goals.{After-drop-submits-2}

pub split-first-requires-clause-share : goal.split-first-requires-clause-share
split-first-requires-clause-share g c =
    let s = setting (start_of c.args.store.now) (turns_of c.args.store.now)
    (g.C.Clock.may_give c.args.host.now.clock.now) (g.H.Hub.gives c.args.hub.now) in
    let mid = known c.submit_all.new.pass in
    let share : mid.share ≡ 2 ^ 126 = still_whole s _ (known c.args.pass) mid c.requires.new c.in-Ok.ensures.all in
    omega (arith, share)

pub hire_all-first-requires-clause-peers : goal.hire_all-first-requires-clause-peers
hire_all-first-requires-clause-peers g c =
    all_of_map (λ (m : ℕ). IsSome (key_of (start_of c.args.store.now).node.keys m)) member_of
    c.in-Ok-open_links.peers.items
    (subst (λ (ms : List ℕ). AllByRecursion (λ (m : ℕ). IsSome (key_of (start_of c.args.store.now).node.keys m)) ms)
    (sym c.in-Ok-open_links.ensures.linked.members) c.requires.peers)

pub hire_all-first-requires-clause-share : goal.hire_all-first-requires-clause-share
hire_all-first-requires-clause-share g c =
    let s = setting (start_of c.args.store.now) (turns_of c.args.store.now)
    (g.C.Clock.may_give c.args.host.now.clock.now) (g.H.Hub.gives c.args.hub.now) in
    let ids : List TxId = c.args.plan.submits.items in
    let old = known c.args.pass in
    let mid = known c.submit_all.new.pass in
    let sub = subst (λ (l : List TxId). Submitted s.start s.may_give old l mid) c.deref.ensures.value c.in-Ok.ensures.all in
    let same = ap (length {A = ℕ}) c.in-Ok-open_links.ensures.linked.members in
    let peers : List (Peer g.row.H-L.Denot) = c.in-Ok-open_links.peers.items in
    let few : length peers ≤ 64 = omega (
      arith,
      same,
      length-map peers member_of,
      length-map c.args.plan.contacts.items contact_of,
      c.requires.few,
    ) in
    enough_left (length peers) mid (known c.split-first.result.0) (still_whole s ids old mid c.requires.new sub)
    c.split-first.ensures.first few

pub returns-then-not-can_run-clause-lived : goal.returns-then-not-can_run-clause-lived
returns-then-not-can_run-clause-lived g c =
    let s = setting (start_of c.args.store.now) (turns_of c.args.store.now)
    (g.C.Clock.may_give c.args.host.now.clock.now) (g.H.Hub.gives c.args.hub.now) in
    let hub = hub_seen (g.H.Hub.faults c.args.hub.now) (g.H.Hub.asked c.args.hub.now) in
    let o = output (g.O.Sink.held c.args.sink.now) (g.O.Sink.faults c.args.sink.now) in
    let d = doing_of c.args.plan.submits.items (map target_of c.args.plan.contacts.items) c.args.plan.door c.args.plan.pulse hub hub o o in
    lived_unstarted s d (known c.args.pass) c.requires.new refl refl

pub returns-in-Err-clause-lived : goal.returns-in-Err-clause-lived
returns-in-Err-clause-lived g c =
    let s = setting (start_of c.args.store.now) (turns_of c.args.store.now)
    (g.C.Clock.may_give c.args.host.now.clock.now) (g.H.Hub.gives c.args.hub.now) in
    let ids : List TxId = c.args.plan.submits.items in
    let targets = map target_of c.args.plan.contacts.items in
    let old_hub = hub_seen (g.H.Hub.faults c.args.hub.now) (g.H.Hub.asked c.args.hub.now) in
    let o = output (g.O.Sink.held c.args.sink.now) (g.O.Sink.faults c.args.sink.now) in
    let d = doing_of ids targets c.args.plan.door c.args.plan.pulse old_hub old_hub o o in
    let old = known c.args.pass in
    let mid = known c.submit_all.new.pass in
    let front = subst (λ (l : List TxId). SubmittedFront s.start s.turns s.may_give old l c.in-Err.end mid) c.deref.ensures.value
    c.in-Err.ensures.front in
    subst (λ (e : RunEnd). Lived s d e mid) (sym c.end_of.ensures)
    (lived_front s d old mid c.in-Err.end c.requires.new refl refl front)

pub returns-in-Err-open_links-clause-lived : goal.returns-in-Err-open_links-clause-lived
returns-in-Err-open_links-clause-lived g c =
    let s = setting (start_of c.args.store.now) (turns_of c.args.store.now)
    (g.C.Clock.may_give c.args.host.now.clock.now) (g.H.Hub.gives c.args.hub.now) in
    let ids : List TxId = c.args.plan.submits.items in
    let targets = map target_of c.args.plan.contacts.items in
    let old_hub = hub_seen (g.H.Hub.faults c.args.hub.now) (g.H.Hub.asked c.args.hub.now) in
    let new_hub = hub_seen (g.H.Hub.faults c.open_links.new.hub) (g.H.Hub.asked c.open_links.new.hub) in
    let old = known c.args.pass in
    let mid = known c.submit_all.new.pass in
    let sub = subst (λ (l : List TxId). Submitted s.start s.may_give old l mid) c.deref.ensures.value c.in-Ok.ensures.all in
    let share = still_whole s ids old mid c.requires.new sub in
    let o = output (g.O.Sink.held c.args.sink.now) (g.O.Sink.faults c.args.sink.now) in
    let d = doing_of ids targets c.args.plan.door c.args.plan.pulse old_hub new_hub o o in
    let why = c.in-Err-open_links.why in
    subst (λ (e : RunEnd). Lived s d e mid) (sym c.end_without.ensures)
    (lived s d old mid mid (end_without why) c.requires.new sub
    (lives_unlinked s d mid why share refl c.in-Err-open_links.ensures.unlinked c.in-Err-open_links.ensures.doors))

pub returns-in_default-clause-lived : goal.returns-in_default-clause-lived
returns-in_default-clause-lived g c =
    let s = setting (start_of c.args.store.now) (turns_of c.args.store.now)
    (g.C.Clock.may_give c.args.host.now.clock.now) (g.H.Hub.gives c.args.hub.now) in
    let ids : List TxId = c.args.plan.submits.items in
    let targets = map target_of c.args.plan.contacts.items in
    let old_hub = hub_seen (g.H.Hub.faults c.args.hub.now) (g.H.Hub.asked c.args.hub.now) in
    let new_hub = hub_seen (g.H.Hub.faults c.open_links.new.hub) (g.H.Hub.asked c.open_links.new.hub) in
    let old = known c.args.pass in
    let mid = known c.submit_all.new.pass in
    let sub = subst (λ (l : List TxId). Submitted s.start s.may_give old l mid) c.deref.ensures.value c.in-Ok.ensures.all in
    let share = still_whole s ids old mid c.requires.new sub in
    let o = output (g.O.Sink.held c.args.sink.now) (g.O.Sink.faults c.args.sink.now) in
    let d = doing_of ids targets c.args.plan.door c.args.plan.pulse old_hub new_hub o o in
    lived s d old mid mid end.OutOfMemory c.requires.new sub
    (lives_none s d mid share refl
    (record {
      links = all_front old_hub new_hub targets c.in-Ok-open_links.ensures.asked;
      doors = c.in-Ok-open_links.ensures.doors;
    }))

pub returns-in-Err-open_door-clause-lived : goal.returns-in-Err-open_door-clause-lived
returns-in-Err-open_door-clause-lived g c =
    let s = setting (start_of c.args.store.now) (turns_of c.args.store.now)
    (g.C.Clock.may_give c.args.host.now.clock.now) (g.H.Hub.gives c.args.hub.now) in
    let ids : List TxId = c.args.plan.submits.items in
    let targets = map target_of c.args.plan.contacts.items in
    let door = c.args.plan.door in
    let old_hub = hub_seen (g.H.Hub.faults c.args.hub.now) (g.H.Hub.asked c.args.hub.now) in
    let new_hub = hub_seen (g.H.Hub.faults c.open_door.new.hub) (g.H.Hub.asked c.open_door.new.hub) in
    let old = known c.args.pass in
    let mid = known c.submit_all.new.pass in
    let sub = subst (λ (l : List TxId). Submitted s.start s.may_give old l mid) c.deref.ensures.value c.in-Ok.ensures.all in
    let share = still_whole s ids old mid c.requires.new sub in
    let o = output (g.O.Sink.held c.args.sink.now) (g.O.Sink.faults c.args.sink.now) in
    let d = doing_of ids targets door c.args.plan.pulse old_hub new_hub o o in
    let links = subst (λ (told : Option (List Target)). AddsTold (g.H.Hub.asked c.args.hub.now).links told targets)
    (sym c.in-Err-open_door.ensures.links) c.in-Ok-open_links.ensures.asked in
    let asked = subst
    (λ (told : Option (List (List ℕ))). IsDoorAsked door told (g.H.Hub.asked c.open_door.new.hub).doors)
    c.in-Ok-open_links.ensures.doors c.in-Err-open_door.ensures.asked in
    let earlier = c.in-Ok-open_links.ensures.later in
    let failed = c.in-Err-open_door.ensures.failed in
    lived s d old mid mid end.DoorFault c.requires.new sub
    (lives_doorless s d mid share refl (c.in-Err-open_door.ensures.named, record { links = links; doors = asked })
    (omega (arith, earlier, failed)))

pub run-beats-requires-clause-ready : goal.run-beats-requires-clause-ready
run-beats-requires-clause-ready g c κs within =
    index_all (IsReady c.args.store.now) c.hire_all-first.result.1.workers.items c.hire_all-first.ensures.hired.ready

pub join_crew-pass-requires-clause-workers : goal.join_crew-pass-requires-clause-workers
join_crew-pass-requires-clause-workers g c =
    all_his c.args.store.now (g.C.Clock.may_give c.args.host.now.clock.now) g.H.L.Link.shows g.H.D.Door.shows
    c.hire_all-first.result.1.workers.items c.run-beats.new.crew.workers.items c.run-beats.ensures.served
    c.run-beats.ensures.long

-- what the run and the joins left of the passes
passes_joined : (g : _) (c : After-drop-submits-2 g) → Joined c.args.store.now
    (g.C.Clock.may_give c.args.host.now.clock.now) g.H.L.Link.shows g.H.D.Door.shows c.args.plan.pulse
    c.hire_all-first.result.0 c.split-first.result.1 c.run-beats.new.pass c.join-one.result c.join_crew-pass.result
    (output (g.O.Sink.held c.args.sink.now) (g.O.Sink.faults c.args.sink.now))
    (output (g.O.Sink.held c.run-beats.new.sink) (g.O.Sink.faults c.run-beats.new.sink)) c.run-beats.result
    c.hire_all-first.result.1.porter c.run-beats.new.crew.porter c.hire_all-first.result.1.workers.items
    c.run-beats.new.crew.workers.items
passes_joined g c =
    let store = c.args.store.now in
    let crew : Crew g.row.H-L.Denot g.row.H-D.Denot = c.hire_all-first.result.1 in
    let peers : List (Peer g.row.H-L.Denot) = c.in-Ok-open_links.peers.items in
    let s = setting (start_of store) (turns_of store) (g.C.Clock.may_give c.args.host.now.clock.now)
    (g.H.Hub.gives c.args.hub.now) in
    record {
      beating = c.run-beats.ensures.heartbeat;
      served = c.run-beats.ensures.served;
      long = c.run-beats.ensures.long;
      join = c.join-one.ensures.known;
      first_seen = c.join-one.ensures.one;
      beat_seen = c.join-one.ensures.other;
      keeping = c.run-beats.ensures.kept;
      joins = c.join_crew-pass.ensures.known;
      kept_seen = c.join_crew-pass.ensures.porter;
      one_seen = c.join_crew-pass.ensures.first;
      each = c.join_crew-pass.ensures.each;
      all = are_all store c.submit_all.new.pass c.split-first.result.0 c.split-first.result.1 c.hire_all-first.result.0 peers
          c.in-Ok-open_door.door crew c.hire_all-first.ensures c.split-first.ensures.first c.split-first.ensures.second
          (still_whole s _ (known c.args.pass) (known c.submit_all.new.pass) c.requires.new c.in-Ok.ensures.all);
    }

pub returns-clause-lived : goal.returns-clause-lived
returns-clause-lived g c =
    let store = c.args.store.now in
    let start = start_of store in
    let turns = turns_of store in
    let may = g.C.Clock.may_give c.args.host.now.clock.now in
    let shows = g.H.L.Link.shows in
    let gives = g.H.Hub.gives c.args.hub.now in
    let s = setting start turns may gives in
    let ids : List TxId = c.args.plan.submits.items in
    let targets = map target_of c.args.plan.contacts.items in
    let pulse = c.args.plan.pulse in
    let old_hub = hub_seen (g.H.Hub.faults c.args.hub.now) (g.H.Hub.asked c.args.hub.now) in
    let new_hub = hub_seen (g.H.Hub.faults c.open_door.new.hub) (g.H.Hub.asked c.open_door.new.hub) in
    let old = known c.args.pass in
    let pass = c.submit_all.new.pass in
    let mid = known pass in
    let sub = subst (λ (l : List TxId). Submitted start may old l mid) c.deref.ensures.value c.in-Ok.ensures.all in
    let first = c.split-first.result.0 in
    let heart = c.split-first.result.1 in
    let now = c.hire_all-first.result.0 in
    let crew : Crew g.row.H-L.Denot g.row.H-D.Denot = c.hire_all-first.result.1 in
    let after : Crew g.row.H-L.Denot g.row.H-D.Denot = c.run-beats.new.crew in
    let linked = c.in-Ok-open_links.ensures.linked in
    let peers : List (Peer g.row.H-L.Denot) = c.in-Ok-open_links.peers.items in
    let hired : List (Worker g.row.H-L.Denot) = crew.workers.items in
    let ended : List (Worker g.row.H-L.Denot) = after.workers.items in
    let address = c.args.plan.door in
    let doors = g.H.D.Door.shows in
    let door = c.in-Ok-open_door.door in
    let h = c.hire_all-first.ensures in
    let a = c.split-first.ensures.first in
    let b = c.split-first.ensures.second in
    let all = c.join_crew-pass.result in
    let o1 = output (g.O.Sink.held c.args.sink.now) (g.O.Sink.faults c.args.sink.now) in
    let o2 = output (g.O.Sink.held c.run-beats.new.sink) (g.O.Sink.faults c.run-beats.new.sink) in
    let o3 = output (g.O.Sink.held c.take_last-last.new.sink) (g.O.Sink.faults c.take_last-last.new.sink) in
    let beats = c.run-beats.result in
    let last = c.take_last-last.result in
    let new = known c.take_last-last.new.pass in
    let j = passes_joined g (goal.at.returns-clause-lived g c).After-drop-submits-2 in
    let same = same_peers store pass first heart now peers door crew h a b in
    let told = subst (λ (ps : List (Peer g.row.H-L.Denot)). AllByRecursion (IsAsTold gives.links shows) ps)
    (sym same) linked.told in
    let members = linked.members ∙ sym (same_members c.args.plan.contacts.items) in
    let is_door : IsDoor gives.door doors address crew.porter.door = subst
    (λ (it : Option g.row.H-D.Denot). IsDoor gives.door doors address it) (sym h.door)
    (subst (λ (it : Option Doorway). IsDoor it doors address door) c.in-Ok-open_links.ensures.door
    c.in-Ok-open_door.ensures.opened) in
    let by_peers = worked_from s pulse address (map member_of peers) mid (known now) (known all) o1 o2 beats
    (same_mine store pass first heart now peers door crew h a b)
    (same_seen store pass first heart now peers door crew h a b)
    (subst (λ (ps : List (Peer g.row.H-L.Denot)).
    Worked s pulse address (map member_of ps) (known now) o1 beats (known all) o2) same
    (worked store may shows doors pulse now heart c.run-beats.new.pass c.join-one.result
    all o1 o2 beats crew.porter after.porter hired ended j gives address is_door told)) in
    let by_targets = subst (λ (ms : List ℕ). Worked s pulse address ms mid o1 beats (known all) o2) members by_peers in
    let links = subst (λ (told : Option (List Target)). AddsTold (g.H.Hub.asked c.args.hub.now).links told targets)
    (sym c.in-Ok-open_door.ensures.links) c.in-Ok-open_links.ensures.asked in
    let asked = subst
    (λ (told : Option (List (List ℕ))). IsDoorAsked address told (g.H.Hub.asked c.open_door.new.hub).doors)
    c.in-Ok-open_links.ensures.doors c.in-Ok-open_door.ensures.asked in
    lived s (doing_of ids targets address pulse old_hub new_hub o1 o3) old mid new (end.Ran beats last) c.requires.new sub
    (lives_ran s pulse targets address ids old_hub new_hub mid (known all) new o1 o2 o3 beats last
    (record { links = links; doors = asked }) by_targets c.take_last-last.ensures.last)

pub returns-then-not-can_run-clause-told : goal.returns-then-not-can_run-clause-told
returns-then-not-can_run-clause-told g c =
    untold g.D.Board.show_gives (start_of c.args.store.now) c.args.outlets.now.bulletin (known c.args.pass).seen

pub returns-in-Err-clause-told : goal.returns-in-Err-clause-told
returns-in-Err-clause-told g c =
    untold g.D.Board.show_gives (start_of c.args.store.now) c.args.outlets.now.bulletin (known c.submit_all.new.pass).seen

pub returns-in-Err-open_links-clause-told : goal.returns-in-Err-open_links-clause-told
returns-in-Err-open_links-clause-told g c =
    untold g.D.Board.show_gives (start_of c.args.store.now) c.args.outlets.now.bulletin (known c.submit_all.new.pass).seen

pub returns-in-Err-open_door-clause-told : goal.returns-in-Err-open_door-clause-told
returns-in-Err-open_door-clause-told g c =
    untold g.D.Board.show_gives (start_of c.args.store.now) c.args.outlets.now.bulletin (known c.submit_all.new.pass).seen

pub returns-in_default-clause-told : goal.returns-in_default-clause-told
returns-in_default-clause-told g c =
    untold g.D.Board.show_gives (start_of c.args.store.now) c.args.outlets.now.bulletin (known c.submit_all.new.pass).seen

pub returns-clause-told : goal.returns-clause-told
returns-clause-told g c =
    let gives = g.D.Board.show_gives in
    let start = start_of c.args.store.now in
    let old = c.args.outlets.now.bulletin in
    let new = c.run-beats.new.outlets.bulletin in
    let all = (known c.join_crew-pass.result).seen in
    still_told gives start old new all (known c.take_last-last.new.pass).seen c.take_last-last.ensures.last.made.begins
    (still_told gives start old new (known c.join-one.result).seen all c.join_crew-pass.ensures.first
    (still_told gives start old new (known c.run-beats.new.pass).seen (known c.join-one.result).seen
    c.join-one.ensures.other c.run-beats.ensures.told))

pub returns-then-not-can_run-clause-recorded : goal.returns-then-not-can_run-clause-recorded
returns-then-not-can_run-clause-recorded g c =
    nothing_recorded g.R.Recorder.records (retention_of c.args.store.now) (turns_of c.args.store.now) (known c.args.pass)
    c.args.outlets.now.recorder c.requires.new

pub returns-in-Err-clause-recorded : goal.returns-in-Err-clause-recorded
returns-in-Err-clause-recorded g c =
    submits_recorded g.R.Recorder.records (retention_of c.args.store.now) (turns_of c.args.store.now)
    (start_of c.args.store.now) (g.C.Clock.may_give c.args.host.now.clock.now) (known c.args.pass)
    (known c.submit_all.new.pass) _ c.args.outlets.now.recorder c.requires.new c.in-Err.ensures.front.submitted

pub returns-in-Err-open_links-clause-recorded : goal.returns-in-Err-open_links-clause-recorded
returns-in-Err-open_links-clause-recorded g c =
    submits_recorded g.R.Recorder.records (retention_of c.args.store.now) (turns_of c.args.store.now)
    (start_of c.args.store.now) (g.C.Clock.may_give c.args.host.now.clock.now) (known c.args.pass)
    (known c.submit_all.new.pass) _ c.args.outlets.now.recorder c.requires.new c.in-Ok.ensures.all

pub returns-in_default-clause-recorded : goal.returns-in_default-clause-recorded
returns-in_default-clause-recorded g c =
    submits_recorded g.R.Recorder.records (retention_of c.args.store.now) (turns_of c.args.store.now)
    (start_of c.args.store.now) (g.C.Clock.may_give c.args.host.now.clock.now) (known c.args.pass)
    (known c.submit_all.new.pass) _ c.args.outlets.now.recorder c.requires.new c.in-Ok.ensures.all

pub returns-in-Err-open_door-clause-recorded : goal.returns-in-Err-open_door-clause-recorded
returns-in-Err-open_door-clause-recorded g c =
    submits_recorded g.R.Recorder.records (retention_of c.args.store.now) (turns_of c.args.store.now)
    (start_of c.args.store.now) (g.C.Clock.may_give c.args.host.now.clock.now) (known c.args.pass)
    (known c.submit_all.new.pass) _ c.args.outlets.now.recorder c.requires.new c.in-Ok.ensures.all

pub returns-clause-recorded : goal.returns-clause-recorded
returns-clause-recorded g c =
    let store = c.args.store.now in
    let may = g.C.Clock.may_give c.args.host.now.clock.now in
    let shows = g.H.L.Link.shows in
    let doors = g.H.D.Door.shows in
    let pass = c.submit_all.new.pass in
    let first = c.split-first.result.0 in
    let heart = c.split-first.result.1 in
    let now = c.hire_all-first.result.0 in
    let crew : Crew g.row.H-L.Denot g.row.H-D.Denot = c.hire_all-first.result.1 in
    let peers : List (Peer g.row.H-L.Denot) = c.in-Ok-open_links.peers.items in
    let door = c.in-Ok-open_door.door in
    let h = c.hire_all-first.ensures in
    let a = c.split-first.ensures.first in
    let b = c.split-first.ensures.second in
    let j = passes_joined g (goal.at.returns-clause-recorded g c).After-drop-submits-2 in
    let quiet = still_quiet store may shows doors j (known c.args.pass) (known pass) _ c.requires.new c.in-Ok.ensures.all
    (same_mine store pass first heart now peers door crew h a b)
    (same_seen store pass first heart now peers door crew h a b) in
    all_recorded store may shows doors j g.R.Recorder.records (retention_of store) c.args.outlets.now.recorder
    c.run-beats.new.outlets.recorder c.take_last-last.new.recorder (known c.take_last-last.new.pass) quiet
    c.run-beats.ensures.recorded c.take_last-last.ensures.recorded
