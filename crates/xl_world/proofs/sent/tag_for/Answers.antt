use Rattle.std.proofs.Common.{◌≡◌, ◌≢◌, ◌≤◌, ◌∙◌, ℕ, List, None, length, ap, arith, subst, sym, refl}
use Rattle.std.proofs.lemmas.List.{take_all}
use Rattle.xl_tags.specs.Macs.{mac}
use Rattle.xl_tags.specs.PairKeys.{pair_key_of}
use Rattle.xl_tags.specs.Rings.{key_of, schedule_ring}
use Rattle.xl_tags.specs.Sealing.{before_tag}
use Rattle.xl_wire.specs.Kinds.{span}
use Rattle.xl_wire.specs.Raws.{RawFrame, SpellsRaw, raw_bytes, raw_frame}
use Rattle.xl_world.proofs.Lying.{key_of_own}
use Rattle.xl_world.proofs.Sealing.{differ, key_outside, same, tag_computed, tag_kept, tag_of_kept}
use Rattle.xl_world.proofs.sent.tag_for.Goals as goal
use Rattle.xl_world.proofs.sent.tag_for.Goals.{Else-raw-kept, in_default-new-via-in-Some+else-ne, in_default-new-via-in_default-new}

-- the bytes spell the frame
spells : (c : Else-raw-kept) → SpellsRaw (raw_frame c.in-Whole.raw) c.args.kept.now
spells c =
    let f : RawFrame = raw_frame c.in-Whole.raw in
    let all : length c.args.kept.now ≤ span f.body = omega (arith, c.if-raw-kept.false, c.in-Whole.raw.whole) in
    subst (SpellsRaw f) (take_all (span f.body) c.args.kept.now all) ((c.in-Whole.ensures.whole f).0 refl)

pub returns-in-Some : goal.returns-in-Some
returns-in-Some c =
    let s = spells (goal.at.returns-in-Some c).Else-raw-kept in
    let f : RawFrame = raw_frame c.in-Whole.raw in
    let to : ℕ = c.args.to in
    let from : c.in-Some.from ≡ f.from = c.in-Some.ensures.1 in
    let other : f.from ≢ to = subst (λ (m : ℕ). m ≢ to) from (differ c.in-Some.from to c.ne.result c.ne.ensures c.if-ne.true) in
    tag_of_kept to c.args.kept.now c.hmac.result f s
    (tag_computed to f c.in-Some.ensures.0 other
    ∙ ap (λ (m : ℕ). mac (pair_key_of to m) (before_tag (raw_bytes f))) (sym from)
    ∙ ap (λ (x : List ℕ). mac (pair_key_of to c.in-Some.from) (before_tag x)) (sym s.spelling)
    ∙ ap (mac (pair_key_of to c.in-Some.from)) (sym c.before_tag.ensures)
    ∙ ap (λ (k : List ℕ). mac k c.before_tag.result.now) (sym c.pair_key.ensures.value)
    ∙ sym c.hmac.ensures)

pub returns-in_default-new : goal.returns-in_default-new
returns-in_default-new c =
    let s = spells (goal.at.returns-in_default-new c).Else-raw-kept in
    let f : RawFrame = raw_frame c.in-Whole.raw in
    let to : ℕ = c.args.to in
    let none : key_of (schedule_ring to) f.from ≡ None = elim c.in_default-new.branch [
      | in_default-new-via-in-Some+else-ne w ↦ key_of_own to f.from w.in-Some.ensures.0.0 w.in-Some.ensures.0.1 (sym w.in-Some.ensures.1 ∙ same w.in-Some.from to w.ne.result w.ne.ensures w.if-ne.false)
      | in_default-new-via-in_default-new w ↦ key_outside to f.from w.in_default-new.ensures
    ] in
    tag_of_kept to c.args.kept.now f.tag f s (tag_kept to f none)
