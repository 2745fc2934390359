-- The pairs with the numbers before j are in the text, and each turn adds that with j.
use Rattle.std.proofs.Common.{ℕ, List, ◌++◌, ◌≤◌, ap, sym, subst, ◌∙◌}
use Rattle.std.specs.Prelude.{◌-◌}
use Rattle.std.specs.List.{flat_map}
use Rattle.std.specs.String.{string_bytes}
use Rattle.xl_world.specs.Plans.{up_from}
use Rattle.xl_replay.specs.Texts.{short_pair}
use Rattle.xl_texts.proofs.Numbering.{text_first, text_more}
use Rattle.xl_world.proofs.Numbers.{up_from_more}
use Rattle.xl_replay.proofs.Numbers.{up_from_none}
use Rattle.xl_replay.proofs.ends.push_shorts_of.Goals as goal

pub loop-j-init : goal.loop-j-init
loop-j-init c =
    let f : ℕ → List ℕ = λ j. short_pair c.args.world.now c.args.i j in
    text_first up_from up_from_none f c.args.i (string_bytes c.args.text.now)
    ∙ ap (λ (k : ℕ). string_bytes c.args.text.now ++ flat_map f (up_from c.args.i (k - c.args.i))) (sym c.get-first.ensures.value)

pub loop-j-preserved : goal.loop-j-preserved
loop-j-preserved c =
    let f : ℕ → List ℕ = λ j. short_pair c.args.world.now c.args.i j in
    text_more up_from up_from_more f c.args.i c.loop-j.j (string_bytes c.args.text.now) (string_bytes c.loop-j.text) _ (subst (λ (k : ℕ). k ≤ c.loop-j.j) c.get-first.ensures.value c.loop-j.auto.j) c.loop-j.invariant
    (c.in_ok-push_pair.ensures ∙ ap (λ (k : ℕ). string_bytes c.loop-j.text ++ f k) c.member.ensures)
