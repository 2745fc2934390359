use Rattle.std.proofs.Common.{◌+◌, ◌-◌, ◌++◌, List, ℕ, ap, ◌∙◌, arith}
use Rattle.xl_wire.proofs.FeedLaws.{pushed}
use Rattle.xl_wire.proofs.feed.add.Goals as goal

pub returns-clause-held : goal.returns-clause-held
returns-clause-held c =
    let from = c.make_room-from.result in
    let piece = c.args.piece.now in
    pushed c.make_room-from.new.bytes c.put.new.room piece from (from + (c.args.end - c.args.start)) (omega arith) c.put.ensures
    ∙ ap (λ (x : List ℕ). x ++ piece) c.make_room-from.ensures.held
