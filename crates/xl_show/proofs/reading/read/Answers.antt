-- a frame or a refusal that bytes begin with stays the same if more follow, and a frame has some bytes
use Rattle.std.proofs.Common.{◌++◌, List, ℕ, ap, sym, ◌∙◌, arith}
use Rattle.xl_show.specs.Texts.{frame_line, refusal_line}
use Rattle.xl_show.proofs.Extending.{frame_stays, refusal_stays, frame_there_and_some, lack_some}
use Rattle.xl_show.proofs.reading.read.Goals as goal

pub returns-in_ok-push_frame-in-Whole : goal.returns-in_ok-push_frame-in-Whole
returns-in_ok-push_frame-in-Whole c =
    let bytes = c.args.bytes.now in
    let frame = c.in-Whole.frame in
    let is = sym c.in-Whole.ensures.exact in
    let there = frame_there_and_some bytes frame c.in-Whole.length (λ i. omega (arith, c.type_inv.bytes i)) is in (
      frame,
      λ more. frame_stays bytes more frame c.in-Whole.length (λ i. omega (arith, c.type_inv.bytes i)) is,
      c.in_ok-push_frame-in-Whole.ensures ∙ ap (λ (xs : List ℕ). xs ++ frame_line frame) c.requires,
      there.0,
      there.1,
    )

pub returns-in-Need : goal.returns-in-Need
returns-in-Need c =
    let is = sym c.in-Need.ensures.exact in
    (is, c.requires, lack_some c.args.bytes.now c.in-Need.lack is)

pub returns-in_ok-push_refusal-in-Refused : goal.returns-in_ok-push_refusal-in-Refused
returns-in_ok-push_refusal-in-Refused c =
    let bytes = c.args.bytes.now in
    let refusal = c.in-Refused.refusal in (
      refusal,
      λ more. refusal_stays bytes more refusal (λ i. omega (arith, c.type_inv.bytes i)) (sym c.in-Refused.ensures.exact),
      c.in_ok-push_refusal-in-Refused.ensures ∙ ap (λ (xs : List ℕ). xs ++ refusal_line c.args.place refusal) c.requires,
    )
