use Rattle.std.proofs.Common.{◌≡◌, ◌+◌, ◌-◌, ℕ, List, arith, drop, length, length-drop, refl, sym, subst, take, take_all}
use Rattle.std.proofs.lemmas.List.{drop-drop}
use Rattle.xl_given.specs.Kept.{HasNoFirst, IsFirst}
use Rattle.xl_given.proofs.CutOff.{noted_all, noted_next}
use Rattle.xl_given.proofs.cutting.push_each.Goals as goal

-- the bytes that are left
left : (bytes : List ℕ) (at : ℕ) → take (length bytes - at) (drop at bytes) ≡ drop at bytes
left bytes at = take_all (length bytes - at) (drop at bytes) (omega (arith, length-drop at bytes))

pub loop-frame-preserved : goal.loop-frame-preserved
loop-frame-preserved c =
    let bytes : List ℕ = c.args.bytes.now in
    let at : ℕ = c.loop-frame.at in
    let frame : List ℕ = c.in-Some.frame.now in
    let first : IsFirst (drop at bytes) frame = subst (λ b. IsFirst b frame) (left bytes at) c.in-Some.ensures.some in
    record {
      within = omega (arith, first.within, length-drop at bytes, c.loop-frame.invariant.within);
      frames = noted_next c.args.member c.args.journal c.args.entry (drop at bytes) frame (drop (at + length frame) bytes)
          c.loop-frame.frames c.push.new.self _ first (sym (drop-drop (length frame) at bytes)) c.in_ok-push.ensures c.loop-frame.invariant.frames;
    }

pub returns : goal.returns
returns c =
    noted_all c.args.member c.args.journal c.args.entry (drop c.loop-frame.at c.args.bytes.now) c.loop-frame.frames _
    (subst HasNoFirst (left c.args.bytes.now c.loop-frame.at) (c.in_default.ensures.none refl)) c.loop-frame.invariant.frames
