-- a built header follows the round's ledger and isn't known yet, so that only room can lack when it is added
use Rattle.std.proofs.Common.{◌∙◌, sym}
use Rattle.xl_core.specs.Node.{Node}
use Rattle.xl_core.specs.Rest.{node_seen}
use Rattle.xl_core.proofs.Building.{follows_by, fresh_by, no_room, known_then}
use Rattle.xl_core.proofs.node.Node.know.Goals as goal

pub returns-in-Err-clause-none : goal.returns-in-Err-clause-none
returns-in-Err-clause-none g c = λ _.
    let n : Node = node_seen c.self.inside in
    let m : Node = c.args.self.now in (
      no_room m.ledgers m.round.setting.previous c.args.h.now c.in-Err.field-0 (follows_by n m c.args.h.now c.self.view_is c.self.invariant.1.are c.self.invariant.0.known c.requires.built)
          (fresh_by n m c.args.h.now c.args.id.now c.find.result c.self.view_is c.requires.id c.find.ensures c.in_default.is) (sym c.in-Err.is ∙ c.add.ensures.exact),
      c.in-Err.ensures.refused,
    )

pub returns-in-Ok-clause-some : goal.returns-in-Ok-clause-some
returns-in-Ok-clause-some g c =
    let n : Node = node_seen c.self.inside in
    let m : Node = c.args.self.now in
    known_then m c.add.new.self m.round.setting.previous c.args.h.now c.in-Ok.ledger (follows_by n m c.args.h.now c.self.view_is c.self.invariant.1.are c.self.invariant.0.known c.requires.built)
    (fresh_by n m c.args.h.now c.args.id.now c.find.result c.self.view_is c.requires.id c.find.ensures c.in_default.is) (sym c.in-Ok.is ∙ c.add.ensures.exact) c.in-Ok.ensures.added
