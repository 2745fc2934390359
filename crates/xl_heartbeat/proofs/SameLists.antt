-- Two lists are the same if their members and their quorums are.
use Rattle.std.proofs.Common.{◌≡◌, Bool, ap, refl}
use Rattle.std.specs.Bool.{Decides}
use Rattle.xl_lists.specs.Lists.{TrustedList}

pub same_list : (a b : TrustedList) → a.members ≡ b.members → a.quorum ≡ b.quorum → a ≡ b
same_list a b m q = rw m (rw q refl)

pub decides_list : (a b : TrustedList) (r : Bool) → a.quorum ≡ b.quorum → Decides r (a.members ≡ b.members)
    → Decides r (a ≡ b)
decides_list a b r q d = (λ t. same_list a b (d.0 t) q, λ e. d.1 (ap (λ (l : TrustedList). l.members) e))
