-- What is told of a part, by what the code has at hand.
use Rattle.std.proofs.Common.{◌≡◌, ℕ, ◌+◌, List, [], ◌∷◌, ◌++◌, length, drop, Some, ap, sym, ◌∙◌, append-nil, refl}
use Rattle.xl_lines.specs.Rules.{goes_on}
use Rattle.xl_running.specs.Running.{Running, happens, in_world, world_of}
use Rattle.xl_sched.specs.declared.event.Event.{Event}
use Rattle.xl_sched.specs.declared.event.What.{What}
use Rattle.xl_sched.specs.declared.event.What.TheVariants as what
use Rattle.xl_sched.specs.declared.line.Line.TheVariants as line
use Rattle.xl_sched.specs.declared.named.Named.{Named}
use Rattle.xl_tell.specs.declared.before.Before.{Before}
use Rattle.xl_tell.specs.Before.{Tells, told_by}
use Rattle.xl_tell.specs.Parts.{lines_of_parts, new_frames, new_holdings, part_lines, sent_lines}
use Rattle.xl_tell.specs.Tellings.{after_line, event_lines, opening}
use Rattle.xl_world.specs.Parts.{after_events, parts_at, parts_of}
use Rattle.xl_world.specs.Schedule.{after_event}
use Rattle.xl_world.specs.Sending.{Sent}
use Rattle.xl_world.specs.World.{World}
use Rattle.xl_world.proofs.Partwise.{parts_are_the_whole}
use Rattle.xl_tell.proofs.Writing.{then_written}

pub frames_written : (names others : List Named) (count : ℕ) (sent : List Sent) (before after : World) (old now : List ℕ) → others ≡ names → count ≡ length before.sent → sent ≡ after.sent → now ≡ old ++ sent_lines others (count + 1) (drop count sent) → now ≡ old ++ new_frames names before after
frames_written names others count sent before after old now same counted there is =
    is
    ∙ (ap (λ (ns : List Named). old ++ sent_lines ns (count + 1) (drop count sent)) same
    ∙ (ap (λ (k : ℕ). old ++ sent_lines names (k + 1) (drop k sent)) counted
    ∙ ap (λ (fs : List Sent). old ++ sent_lines names (length before.sent + 1) (drop (length before.sent) fs)) there))

pub holdings_written : (names others : List Named) (w v after : World) (e : Event) (before : Before) (old now : List ℕ) → others ≡ names → v ≡ w → after ≡ after_event w e → Tells v e before → now ≡ old ++ told_by others before after → now ≡ old ++ new_holdings names w e
holdings_written names others w v after e before old now same first later tells is =
    is
    ∙ (ap (λ (ns : List Named). old ++ told_by ns before after) same
    ∙ (ap (λ (u : World). old ++ told_by names before u) later
    ∙ (ap (λ (u : World). old ++ told_by names before (after_event u e)) (sym first)
    ∙ (ap (λ (xs : List ℕ). old ++ xs) (tells names)
    ∙ ap (λ (u : World). old ++ new_holdings names u e) first))))

-- the world behind an event's parts is that behind the event
pub whole_world : (r : Running) (e : Event) → in_world r (after_events (world_of r) (parts_of (world_of r) e)) ≡ happens r e
whole_world r e = ap (in_world r) (parts_are_the_whole (world_of r) e).world

-- an event that isn't taken apart is its one part
part_alone : (w : World) (at : ℕ) (happening : What) → (happening ≡ what.All → ⊥) → (happening ≡ what.Timers → ⊥) → parts_at w at happening ≡ record { at = at; what = happening } ∷ []
part_alone w at what.All all timers = absurd (all refl)
part_alone w at what.Timers all timers = absurd (timers refl)
part_alone w at happening all timers = refl

pub alone : (names : List Named) (n : ℕ) (w : World) (e : Event) → (e.what ≡ what.All → ⊥) → (e.what ≡ what.Timers → ⊥) → part_lines names n w e ≡ lines_of_parts names n w (parts_of w e)
alone names n w e all timers =
    sym (append-nil (part_lines names n w e)) ∙ ap (lines_of_parts names n w) (sym (part_alone w e.at e.what all timers))

-- an event in a line, once the world is open
pub event_written : (r first next : Running) (e : Event) (old opened now : List ℕ) → old ≡ [] → first ≡ in_world r (world_of r) → opened ≡ old ++ opening r → next ≡ happens first e → now ≡ opened ++ lines_of_parts first.reading.names first.reading.lines (world_of first) (parts_of (world_of first) e) → goes_on now next ≡ after_line r (line.Event e)
event_written r first next e old opened now empty is shown leads told =
    let f : Running → List ℕ = λ (s : Running). lines_of_parts s.reading.names s.reading.lines (world_of s) (parts_of (world_of s) e) in
    let text : now ≡ event_lines r e =
    then_written old (opening r) (f r) opened now shown (told ∙ ap (λ (s : Running). opened ++ f s) is) ∙ ap (λ (t : List ℕ). t ++ event_lines r e) empty in
    let state : next ≡ happens r e = leads ∙ ap (λ (s : Running). happens s e) is in
    ap (λ (t : List ℕ). goes_on t next) text ∙ ap (λ (s : Running). goes_on (event_lines r e) s) state

-- the world stays open
pub opened_so : (r first : Running) → first ≡ in_world r (world_of r) → first.world ≡ Some (world_of first)
opened_so r first is = ap (λ (s : Running). s.world) is ∙ ap (λ (w : World). Some w) (sym (ap world_of is))

pub stays_open : (r next : Running) (e : Event) → next ≡ happens r e → next.world ≡ Some (world_of next)
stays_open r next e leads = ap (λ (s : Running). s.world) leads ∙ ap (λ (w : World). Some w) (sym (ap world_of leads))
