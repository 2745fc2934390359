-- the frame that is split off what is held is handed out with its bytes, which are held no more
use Rattle.std.proofs.Common.{◌≡◌, ℕ, ◌-◌, ◌≤◌, List, length, take, drop, refl, sym, ap, subst, ◌∙◌, arith}
use Rattle.std.proofs.lemmas.List.{length-take}
use Rattle.xl_wire.specs.Feeding.{held_in}
use Rattle.xl_wire.specs.Feeding.Offer.{Frame}
use Rattle.xl_wire.specs.Heads.{split_of}
use Rattle.xl_wire.specs.Heads.Split.{Whole}
use Rattle.xl_wire.specs.Raws.{SpellsRaw, raw_frame}
use Rattle.xl_wire.proofs.FeedLaws.{frame_handed, frame_there}
use Rattle.xl_wire.proofs.feed.Feed.next.Goals as goal

pub invariant_of-self : goal.invariant_of-self
invariant_of-self c =
    let start = c.self.inside.start in
    let end = c.self.inside.end in
    let now = held_in c.deref.result.now start end in
    let there = frame_there now (raw_frame c.in-Whole.raw) ((c.in-Whole.ensures.whole (raw_frame c.in-Whole.raw)).0 refl) in
    record {
      ordered = omega (arith, there, c.in-Whole.raw.whole, length-take (end - start) (drop start c.deref.result.now), c.self.invariant.ordered);
      within = c.self.invariant.within;
      room = c.self.invariant.room;
    }

pub slice_bounds-self-end : goal.slice_bounds-self-end
slice_bounds-self-end c =
    let now = held_in c.deref.result.now c.self.inside.start c.self.inside.end in
    let there = frame_there now (raw_frame c.in-Whole.raw) ((c.in-Whole.ensures.whole (raw_frame c.in-Whole.raw)).0 refl) in
    omega (arith, there, c.in-Whole.raw.whole, length-take c.in-Whole.raw.length now)

pub returns-in-Whole : goal.returns-in-Whole
returns-in-Whole c =
    let start = c.self.inside.start in
    let end = c.self.inside.end in
    let raw = c.in-Whole.raw in
    let f = raw_frame raw in
    let held = held_in c.self.inside.bytes.items start end in
    let now = held_in c.deref.result.now start end in
    let same = ap (λ (x : List ℕ). held_in x start end) c.deref.ensures.value in
    let split = subst (λ (x : List ℕ). split_of x ≡ Whole f) same (sym c.in-Whole.ensures.exact) in
    let spelled = subst (λ (k : ℕ). SpellsRaw f (take k now)) (sym raw.whole) ((c.in-Whole.ensures.whole f).0 refl) in
    let there = frame_there now f ((c.in-Whole.ensures.whole f).0 refl) in
    let long : raw.length ≤ length held = omega (arith, there, raw.whole, ap length same) in
    let both = frame_handed c.self.inside.bytes.items start end raw.length c.self.inside.refused f c.args.self.now c.self.view_is c.self.invariant split raw.whole long in (
      (refl, (λ _. tt), both.0),
      record { answer = ap (λ (x : List ℕ). Frame (take raw.length x)) same ∙ both.1; parts = spelled; after = tt },
    )
