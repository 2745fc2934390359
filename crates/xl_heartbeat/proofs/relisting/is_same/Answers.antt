use Rattle.std.proofs.Common.{ℕ, List, ◌≡◌, sym, ◌∙◌, subst}
use Rattle.std.specs.Cmp.{unsigned_Decides}
use Rattle.std.specs.Bool.{Decides}
use Rattle.std.proofs.lemmas.Slice.Eq.{slice_eq-Decides}
use Rattle.xl_base.specs.contracts.node_no.NodeNoPartialEq.TheImpl.{eq-value}
use Rattle.xl_heartbeat.proofs.SameLists.{decides_list}
use Rattle.xl_heartbeat.proofs.relisting.is_same.Goals as goal

pub returns-then-quorum : goal.returns-then-quorum
returns-then-quorum c =
    let xs : List ℕ = c.members.result.now in
    let bs : List ℕ = c.members-then-quorum.result.now in
    let d : Decides c.eq.result (xs ≡ bs) =
    slice_eq-Decides {A = ℕ} {E = eq-value.it} unsigned_Decides xs bs c.eq.result c.eq.ensures in
    decides_list c.args.a.now c.args.b.now c.eq.result
    (sym c.quorum.ensures.value ∙ c.if-quorum.true ∙ c.quorum-2.ensures.value)
    (subst (λ (zs : List ℕ). Decides c.eq.result (zs ≡ c.args.b.now.members)) c.members.ensures.value
    (subst (λ (ys : List ℕ). Decides c.eq.result (xs ≡ ys)) c.members-then-quorum.ensures.value d))
