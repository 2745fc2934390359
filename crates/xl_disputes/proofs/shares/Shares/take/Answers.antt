use Rattle.std.proofs.Common.{◌<◌, length, get_or, ◌∙◌, ap, arith}
use Rattle.std.specs.Prelude.{Some, None}
use Rattle.xl_disputes.specs.Holdings.{changed, with_set, ids_in}
use Rattle.xl_disputes.proofs.Weighing.{released_free, set_twice}
use Rattle.xl_disputes.proofs.shares.Shares.take.Goals as goal

pub fill-requires-clause-free : goal.fill-requires-clause-free
fill-requires-clause-free c = λ d.
    let within : c.args.place < length c.args.self.now = omega (arith, c.requires.within, c.self.invariant.count, ap length c.self.view_is) in
    ap (λ hs. ids_in (get_or hs c.args.place d)) c.release.ensures ∙ released_free c.args.self.now c.args.place d within

pub returns-clause-taken : goal.returns-clause-taken
returns-clause-taken c =
    c.fill.ensures ∙ ap (changed (with_set (Some c.args.ids.now)) c.args.place) c.release.ensures ∙ set_twice (Some c.args.ids.now) None c.args.place c.args.self.now
