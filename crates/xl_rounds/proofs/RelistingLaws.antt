-- A round loses what it knows of members that aren't on a list, one member after the other.
use Rattle.std.proofs.Common.{◌≡◌, ℕ, suc, ◌+◌, List, refl, ap, sym, ◌∙◌, arith}
use Rattle.std.proofs.lemmas.Bool.{cond_both}
use Rattle.xl_lists.specs.Lists.{is_on}
use Rattle.xl_rounds.specs.Rounds.{Round}
use Rattle.xl_rounds.specs.Relisting.{without_member, unless_listed, relisted_to}

pub relisted_more : (members : List ℕ) (n member : ℕ) (start r new : Round) → member ≡ n + 1 → r ≡ relisted_to members n start → new ≡ unless_listed members member r → new ≡ relisted_to members (n + 1) start
unfolding relisted_to
relisted_more members n member start r new is so_far done =
    let next : n + 1 ≡ suc n = omega arith in
    done ∙ ap (λ m. unless_listed members m r) (is ∙ next) ∙ ap (unless_listed members (suc n)) so_far ∙ sym (ap (λ m. relisted_to members m start) next)

pub none_relisted : (members : List ℕ) (start : Round) → start ≡ relisted_to members 0 start
unfolding relisted_to
none_relisted members start = refl

-- the setting stays
pub setting_stays : (members : List ℕ) (member : ℕ) (r : Round) → (unless_listed members member r).setting ≡ r.setting
setting_stays members member r = cond_both (is_on members member) r (without_member member r) (λ s. s.setting ≡ r.setting) (λ _. refl) (λ _. refl)
