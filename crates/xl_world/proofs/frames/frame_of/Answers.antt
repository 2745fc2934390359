use Rattle.std.proofs.Common.{◌≡◌, ◌+◌, ◌-◌, ◌∙◌, ℕ, ap, arith, drop, sym, take}
use Rattle.xl_world.specs.declared.frames.KeptBytes.{KeptBytes}
use Rattle.xl_world.specs.Sending.{with_address, sent_as}
use Rattle.xl_world.specs.Worlds.{frame_of_place}
use Rattle.xl_world.proofs.frames.frame_of.Goals as goal

pub returns-in-Bytes : goal.returns-in-Bytes
returns-in-Bytes c =
    let p : KeptBytes = c.in-Bytes.kept in
    let long : p.begins + p.length - p.begins ≡ p.length = omega arith in
    c.new.ensures
    ∙ (ap (λ (n : ℕ). sent_as p.from p.to (with_address p.address (take n (drop p.begins c.args.bytes.now)))) long
    ∙ ap (frame_of_place c.args.bytes.now c.args.all.now) (sym c.in-Bytes.is))
