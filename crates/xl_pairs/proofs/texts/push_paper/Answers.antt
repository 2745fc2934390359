use Rattle.std.proofs.Common.{◌≡◌, ◌+◌, ◌-◌, ◌*◌, ◌++◌, ℕ, List, length, subst, arith}
use Rattle.std.specs.Prelude.{OnOk}
use Rattle.std.specs.String.{string_bytes}
use Rattle.xl_pairs.specs.Texts.{paper_left, paper_right, paper_text}
use Rattle.xl_pairs.proofs.texts.push_paper.Goals as goal

same_text : (i i' j j' left left' right right' : ℕ) → i ≡ i' → j ≡ j' → left ≡ left' → right ≡ right' → paper_text i j left right ≡ paper_text i' j' left' right'
same_text i i' j j' left left' right right' ei ej el er = cc

pub returns : goal.returns
returns c =
    let a = c.args.a.now in
    let b = c.args.b.now in
    let left : 2 * c.overlap-left.result ≡ paper_left a b = omega (arith, c.overlap-left.ensures.value) in
    let right : c.len-size.result + 2 * (c.len.result - c.quorum.result + c.liars_shared.result) ≡ paper_right c.args.liars.now a b =
    omega (arith, c.len-size.ensures.value, c.len.ensures.value, c.quorum.ensures.value, c.liars_shared.ensures.value) in
    subst (λ (line : List ℕ). OnOk c.write_paper.result (string_bytes c.write_paper.new.text ≡ string_bytes c.args.text.now ++ line))
    (same_text c.get.result c.args.i c.get-2.result c.args.j _ (paper_left a b) _ (paper_right c.args.liars.now a b) c.get.ensures.value c.get-2.ensures.value left right) c.write_paper.ensures
