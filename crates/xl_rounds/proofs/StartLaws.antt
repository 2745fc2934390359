-- Later proposals are handed one after the other.
use Rattle.std.proofs.Common.{◌≡◌, ℕ, suc, ◌+◌, ap, sym, ◌∙◌, refl, arith, List, Option, Some, None}
use Rattle.std.specs.Prelude.{Result, Ok, if◌then◌else◌}
use Rattle.std.proofs.lemmas.Bool.{cond_both}
use Rattle.xl_wire.specs.declared.proposal.Proposal.{Proposal}
use Rattle.xl_ledger.specs.declared.header.Header.{Header}
use Rattle.xl_rounds.specs.declared.placed.Placed.{Placed}
use Rattle.xl_rounds.specs.declared.placed.Placed.TheVariants.{Position}
use Rattle.xl_rounds.specs.declared.refusal.RoundRefusal.{RoundRefusal}
use Rattle.xl_rounds.specs.Rounds.{Round}
use Rattle.xl_rounds.specs.Proposals.{is_ours, is_past, answer, with_answer, with_proposal, without_later, with_handed, later_of, with_all_handed}

-- the round stays on its ledger
pub setting_answered : (a : Result Placed RoundRefusal) (member : ℕ) (p : Proposal) (r : Round) → (with_answer a member p r).setting ≡ r.setting
setting_answered (Ok Position) member p r = refl
setting_answered other member p r = refl

pub setting_handed : (ledgers : List Header) (member : ℕ) (later : Option Proposal) (now : ℕ) (r : Round) → (with_handed ledgers member later now r).setting ≡ r.setting
setting_handed ledgers member None now r = refl
setting_handed ledgers member (Some p) now r =
    cond_both (is_ours r p) (with_proposal ledgers member p now (without_later member r))
    (if is_past ledgers r.setting.previous p.prev then without_later member r else r) (λ (s : Round). s.setting ≡ r.setting)
    (λ _. setting_answered (answer ledgers (without_later member r) member p now) member p (without_later member r))
    (λ _. cond_both (is_past ledgers r.setting.previous p.prev) (without_later member r) r (λ (s : Round). s.setting ≡ r.setting) (λ _. refl) (λ _. refl))

-- one member more
pub handed_more : (ledgers : List Header) (n member now : ℕ) (start r new : Round) → member ≡ n + 1 → r ≡ with_all_handed ledgers n now start →
    new ≡ with_handed ledgers member (later_of r member) now r → new ≡ with_all_handed ledgers (n + 1) now start
unfolding with_all_handed
handed_more ledgers n member now start r new is so_far done =
    let next : n + 1 ≡ suc n = omega arith in
    done ∙ ap (λ m. with_handed ledgers m (later_of r m) now r) (is ∙ next)
    ∙ ap (λ (s : Round). with_handed ledgers (suc n) (later_of s (suc n)) now s) so_far
    ∙ sym (ap (λ m. with_all_handed ledgers m now start) next)

pub none_handed : (ledgers : List Header) (now : ℕ) (start : Round) → start ≡ with_all_handed ledgers 0 now start
unfolding with_all_handed
none_handed ledgers now start = refl
