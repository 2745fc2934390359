use Rattle.std.proofs.Common.{ℕ, List, ◌++◌, ap, ◌∙◌}
use Rattle.std.specs.String.{string_bytes}
use Rattle.xl_pairs.specs.Texts.{list_in, pairs_of, up_from}
use Rattle.xl_texts.proofs.Numbering.{text_first, text_more}
use Rattle.xl_pairs.proofs.Numbering.{up_from_more, up_from_none}
use Rattle.xl_pairs.proofs.texts.push_pairs.Goals as goal

pub loop-i-init : goal.loop-i-init
loop-i-init c = text_first up_from up_from_none (λ i. pairs_of c.args.liars.now c.args.nodes.now i (list_in c.args.nodes.now i)) 1 (string_bytes c.args.text.now)

pub loop-i-preserved : goal.loop-i-preserved
loop-i-preserved c =
    let f : ℕ → List ℕ = λ i. pairs_of c.args.liars.now c.args.nodes.now i (list_in c.args.nodes.now i) in
    text_more up_from up_from_more f 1 c.loop-i.i (string_bytes c.args.text.now) (string_bytes c.loop-i.text) _ c.loop-i.auto.i c.loop-i.invariant
    (c.in_ok-push_pairs_of.ensures ∙ ap (λ (k : ℕ). string_bytes c.loop-i.text ++ f k) c.member.ensures)
