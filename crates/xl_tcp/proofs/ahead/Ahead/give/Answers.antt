use Rattle.std.proofs.Common.{◌≡◌, length, take, drop, ℕ, ◌+◌, ◌-◌, List, arith, ap, ◌∙◌}
use Rattle.std.proofs.lemmas.List.{length-take-le}
use Rattle.xl_tcp.proofs.Fronts.{front_given}
use Rattle.xl_tcp.proofs.ahead.Ahead.give.Goals as goal

pub returns-else-self-len-clause-given : goal.returns-else-self-len-clause-given
returns-else-self-len-clause-given c =
    let count = c.min-count.result in
    let self = c.args.self.now in
    let same : self.given + count - self.given ≡ count = omega arith in
    let front : c.copy_from_slice.new.self ≡ take count (drop self.given self.bytes.items) =
    c.copy_from_slice.ensures.after
    ∙ ap (λ (n : ℕ). take n (drop self.given c.deref.result.now)) same
    ∙ ap (λ (xs : List ℕ). take count (drop self.given xs)) c.deref.ensures.value in
    let long : length c.copy_from_slice.new.self ≡ count =
    c.copy_from_slice.ensures.len ∙ length-take-le count c.args.room.now (omega (arith, c.min-count.ensures)) in
    front_given self.bytes.items c.copy_from_slice.new.self c.args.room.now self.given count front long
