use Rattle.std.proofs.Common.{◌+◌, ◌-◌, ◌++◌, ◌≡◌, List, ℕ, length, take, ap, ◌∙◌, arith}
use Rattle.std.proofs.lemmas.List.{with_items_is}
use Rattle.xl_wire.specs.Feeding.{held_in}
use Rattle.xl_wire.proofs.FeedLaws.{after_pushed, fed_of}
use Rattle.xl_wire.proofs.feed.Feed.push.Goals as goal

pub returns-clause-held : goal.returns-clause-held
returns-clause-held c =
    let i = c.self.inside in
    let added = c.add-self-inside in
    let count = c.min-count.result in
    let piece = take count c.args.piece.now in
    let long : length added.new.bytes ≡ i.bytes.len = omega (arith, added.auto.bytes, ap length c.deref_mut.ensures.value, i.bytes.ok.0) in
    ap (λ (x : List ℕ). fed_of (held_in x added.result (added.result + (i.end - i.start) + count)) i.refused) (with_items_is i.bytes added.new.bytes long)
    ∙ after_pushed i.bytes.items added.new.bytes c.args.piece.now i.start i.end added.result count i.refused c.args.self.now
    c.self.view_is c.self.invariant c.if-self.false c.min-count.ensures
    (added.ensures.held ∙ ap (λ (x : List ℕ). held_in x i.start i.end ++ piece) c.deref_mut.ensures.value)
