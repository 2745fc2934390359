-- a node on its list takes its own as it takes any member's, and off its list it has no row that could change
use Rattle.std.proofs.Common.{◌∙◌, sym}
use Rattle.xl_wire.specs.declared.validation.Validation.{Validation}
use Rattle.xl_core.specs.Node.{Node}
use Rattle.xl_core.specs.Rest.{node_seen}
use Rattle.xl_core.proofs.Answered.{own_issued, own_reply, own_reply_off, saved_rest}
use Rattle.xl_core.proofs.node.Node.issue_saved.Goals as goal

pub returns : goal.returns
returns g c =
    let n : Node = node_seen c.self.inside in
    let v : Validation = record { id = c.args.id; seq = c.args.seq; signed = c.secs_of.result; full = c.args.full; validated = c.told.result } in
    own_reply (record n { kept = c.args.seq }) c.take.new.self v c.take.new.heard c.report_in.result (saved_rest n c.args.seq c.self.invariant.0.rest) c.take.ensures.exact (c.report_in.ensures c.take.new.self)
    ∙ own_issued n c.args.self.now c.args.seq c.args.id c.args.full c.secs_of.result c.told.result c.self.view_is c.secs_of.ensures c.told.ensures

pub returns-then-not-has : goal.returns-then-not-has
returns-then-not-has g c =
    let n : Node = node_seen c.self.inside in
    let v : Validation = record { id = c.args.id; seq = c.args.seq; signed = c.secs_of.result; full = c.args.full; validated = c.told.result } in
    own_reply_off (record n { kept = c.args.seq }) v (saved_rest n c.args.seq c.self.invariant.0.rest) (sym c.has.ensures ∙ c.if-not-has.true)
    ∙ own_issued n c.args.self.now c.args.seq c.args.id c.args.full c.secs_of.result c.told.result c.self.view_is c.secs_of.ensures c.told.ensures
