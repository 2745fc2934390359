-- the parts of an event lead where it leads
use Rattle.std.proofs.Common.{◌≡◌, ℕ, List, ◌++◌, ap, sym, subst, ◌∙◌}
use Rattle.std.specs.Prelude.{OnOk}
use Rattle.std.specs.String.{string_bytes}
use Rattle.xl_running.specs.Running.{Running, in_world, world_of}
use Rattle.xl_sched.specs.declared.event.What.{What}
use Rattle.xl_world.specs.Parts.{after_events, parts_at}
use Rattle.xl_tell.specs.Parts.{lines_of_parts}
use Rattle.xl_tell.proofs.Telling.{alone, whole_world}
use Rattle.xl_tell.proofs.events.tell_event.Goals as goal

pub returns-in-All-clause-happens : goal.returns-in-All-clause-happens
returns-in-All-clause-happens c =
    let r = c.args.running.now in
    let e = c.args.event.now in
    subst (λ (next : Running). OnOk c.tell_all.result (c.tell_all.new.running ≡ next))
    (ap (λ (happening : What). in_world r (after_events (world_of r) (parts_at (world_of r) e.at happening))) (sym c.in-All.is) ∙ whole_world r e) c.tell_all.ensures.world

pub returns-in-All-clause-told : goal.returns-in-All-clause-told
returns-in-All-clause-told c =
    let r = c.args.running.now in
    let e = c.args.event.now in
    subst (λ (happening : What). OnOk c.tell_all.result (string_bytes c.tell_all.new.text ≡ string_bytes c.args.text.now ++ lines_of_parts r.reading.names r.reading.lines (world_of r) (parts_at (world_of r) e.at happening)))
    (sym c.in-All.is) c.tell_all.ensures.told

pub returns-in-Timers-clause-happens : goal.returns-in-Timers-clause-happens
returns-in-Timers-clause-happens c =
    let r = c.args.running.now in
    let e = c.args.event.now in
    subst (λ (next : Running). OnOk c.tell_timers.result (c.tell_timers.new.running ≡ next))
    (ap (λ (happening : What). in_world r (after_events (world_of r) (parts_at (world_of r) e.at happening))) (sym c.in-Timers.is) ∙ whole_world r e) c.tell_timers.ensures.world

pub returns-in-Timers-clause-told : goal.returns-in-Timers-clause-told
returns-in-Timers-clause-told c =
    let r = c.args.running.now in
    let e = c.args.event.now in
    subst (λ (happening : What). OnOk c.tell_timers.result (string_bytes c.tell_timers.new.text ≡ string_bytes c.args.text.now ++ lines_of_parts r.reading.names r.reading.lines (world_of r) (parts_at (world_of r) e.at happening)))
    (sym c.in-Timers.is) c.tell_timers.ensures.told

pub returns-in_default-clause-told : goal.returns-in_default-clause-told
returns-in_default-clause-told c =
    let r = c.args.running.now in
    let e = c.args.event.now in
    subst (λ (told : List ℕ). OnOk c.tell_part.result (string_bytes c.tell_part.new.text ≡ string_bytes c.args.text.now ++ told))
    (alone r.reading.names r.reading.lines (world_of r) e c.in_default.not-All c.in_default.not-Timers) c.tell_part.ensures.told
