use Rattle.std.proofs.Common.{◌≡◌, ◌+◌, ◌++◌, ℕ, List, ap₂, subst}
use Rattle.std.specs.Prelude.{OnOk}
use Rattle.std.specs.String.{string_bytes}
use Rattle.xl_lists.specs.Quorums.{overlap, liars_shared, bound_of}
use Rattle.xl_pairs.specs.Texts.{pair_text}
use Rattle.xl_pairs.proofs.texts.push_pair.Goals as goal

same_text : (i i' j j' shared shared' lying lying' sum sum' bound bound' : ℕ) → i ≡ i' → j ≡ j' → shared ≡ shared' → lying ≡ lying' → sum ≡ sum' → bound ≡ bound' → pair_text i j shared lying sum bound ≡ pair_text i' j' shared' lying' sum' bound'
same_text i i' j j' shared shared' lying lying' sum sum' bound bound' ei ej es el eq eb = cc

pub returns : goal.returns
returns c =
    let a = c.args.a.now in
    let b = c.args.b.now in
    let same = same_text c.get.result c.args.i c.get-2.result c.args.j c.overlap-shared.result (overlap a.members b.members) c.liars_shared-lying.result (liars_shared c.args.liars.now a.members b.members) (c.quorum.result + c.quorum-2.result) (a.quorum + b.quorum) c.bound-bound.result (bound_of c.args.liars.now a b)
    c.get.ensures.value c.get-2.ensures.value c.overlap-shared.ensures.value c.liars_shared-lying.ensures.value (ap₂ (λ (x y : ℕ). x + y) c.quorum.ensures.value c.quorum-2.ensures.value) c.bound-bound.ensures.value in
    subst (λ (line : List ℕ). OnOk c.write_pair.result (string_bytes c.write_pair.new.text ≡ string_bytes c.args.text.now ++ line)) same c.write_pair.ensures
