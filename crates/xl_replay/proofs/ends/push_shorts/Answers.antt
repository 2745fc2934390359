use Rattle.std.proofs.Common.{ℕ, List, ◌++◌, ap, ◌∙◌}
use Rattle.std.specs.String.{string_bytes}
use Rattle.xl_world.specs.Plans.{up_from}
use Rattle.xl_replay.specs.Texts.{shorts_of}
use Rattle.xl_texts.proofs.Numbering.{text_first, text_more}
use Rattle.xl_world.proofs.Numbers.{up_from_more}
use Rattle.xl_replay.proofs.Numbers.{up_from_none}
use Rattle.xl_replay.proofs.ends.push_shorts.Goals as goal

pub loop-i-init : goal.loop-i-init
loop-i-init c = text_first up_from up_from_none (λ i. shorts_of c.args.world.now i) 1 (string_bytes c.args.text.now)

pub loop-i-preserved : goal.loop-i-preserved
loop-i-preserved c =
    let f : ℕ → List ℕ = λ i. shorts_of c.args.world.now i in
    text_more up_from up_from_more f 1 c.loop-i.i (string_bytes c.args.text.now) (string_bytes c.loop-i.text) _ c.loop-i.auto.i c.loop-i.invariant
    (c.in_ok-push_shorts_of.ensures ∙ ap (λ (k : ℕ). string_bytes c.loop-i.text ++ f k) c.member.ensures)
