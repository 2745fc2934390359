use Rattle.std.proofs.Common.{◌∙◌, ℕ, ap, sym, take}
use Rattle.xl_core.specs.Hearing.{bytes_as_sealed}
use Rattle.xl_core.specs.Sending.{sealed_bytes}
use Rattle.xl_tags.specs.Rings.{schedule_ring}
use Rattle.xl_world.specs.declared.sent.KeptFrame.TheVariants as frame
use Rattle.xl_world.specs.Worlds.{kept_seen}
use Rattle.xl_world.proofs.Framing.{seen_so}
use Rattle.xl_world.proofs.sent.Sent.put.Goals as goal

pub returns-in-Bytes-clause-kept : goal.returns-in-Bytes-clause-kept
returns-in-Bytes-clause-kept c =
    let from : ℕ = c.self.inside.from in
    let to : ℕ = c.self.inside.to in
    seen_so c.args.self.now (kept_seen from to (frame.Bytes c.in-Bytes.kept c.in-Bytes.address)) (take c.put_kept.result c.put_kept.new.room)
    (ap (kept_seen from to) (sym c.in-Bytes.is) ∙ c.self.view_is) (ap (bytes_as_sealed (schedule_ring to)) (sym c.put_kept.ensures.written))

pub returns-in-Said-clause-kept : goal.returns-in-Said-clause-kept
returns-in-Said-clause-kept c =
    let from : ℕ = c.self.inside.from in
    let to : ℕ = c.self.inside.to in
    seen_so c.args.self.now (kept_seen from to (frame.Said c.in-Said.said)) (take c.put_blank.result c.put_blank.new.room)
    (ap (kept_seen from to) (sym c.in-Said.is) ∙ c.self.view_is)
    (ap (sealed_bytes (schedule_ring from) from to) (sym c.body.ensures.value) ∙ sym c.put_blank.ensures.heard)
