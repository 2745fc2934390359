-- the frame comes last
use Rattle.std.proofs.Common.{◌+◌, ◌++◌, ◌∷◌, ◌∙◌, [], ℕ, ap, arith, length, map, List}
use Rattle.xl_given.specs.Given.{Noted}
use Rattle.xl_given.specs.Kept.{noted_in}
use Rattle.xl_given.specs.declared.noted_frames.Place.{Place}
use Rattle.xl_given.proofs.Noting.{one_more}
use Rattle.xl_given.proofs.noted_frames.NotedFrames.push.Goals as goal

pub returns : goal.returns
returns c =
    let bytes : List ℕ = c.self.inside.bytes.items in
    let places : List Place = c.self.inside.places.items in
    let frame : List ℕ = c.args.frame.now in
    let x : Noted = record { member = c.args.member; journal = c.args.journal; entry = c.args.entry; frame = frame } in
    let p : Place = record { begins = c.len-begins.result; ends = c.len-begins.result + length frame; entry = c.args.entry; journal = c.args.journal; member = c.args.member } in
    ap (λ bs. map (noted_in bs) c.push.new.self.items) c.in_ok-extend_from_slice.ensures.items
    ∙ (ap (map (noted_in (bytes ++ frame))) c.in_ok-push.ensures.items
    ∙ (one_more bytes frame places p c.self.invariant (omega (arith, c.len-begins.ensures, c.self.inside.bytes.ok.0)) (omega arith)
    ∙ ap (λ xs. xs ++ x ∷ []) c.self.view_is))
