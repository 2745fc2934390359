-- After a start no proposal waits that could be handed to the rule now, or never will be.
use Rattle.std.proofs.Common.{◌≡◌, ◌≢◌, ℕ, zero, suc, ◌-◌, ◌/◌, ◌≤◌, Bool, true, false, cond, List, [], ◌∷◌, get_or, set, ap, sym, refl, subst, ◌∙◌, arith, inl, inr, Option, Some, None}
use Rattle.std.specs.Prelude.{◌&&◌, ◌==◌, not, Result, Ok, Err, if◌then◌else◌}
use Rattle.std.proofs.lemmas.Bool.{cond_both, cases_eq}
use Rattle.std.proofs.lemmas.List.{get_or-set_other}
use Rattle.xl_base.specs.Ids.{same_id}
use Rattle.xl_wire.specs.declared.proposal.Proposal.{Proposal}
use Rattle.xl_ledger.specs.declared.header.Header.{Header}
use Rattle.xl_rounds.specs.declared.placed.Placed.{Placed}
use Rattle.xl_rounds.specs.declared.placed.Placed.TheVariants.{Position, Later, Gone}
use Rattle.xl_rounds.specs.declared.setting.Setting.{Setting}
use Rattle.xl_rounds.specs.declared.refusal.RoundRefusal.{RoundRefusal}
use Rattle.xl_rounds.specs.declared.refusal.RoundRefusal.TheVariants.{WrongPrev, OldPosition, Left, StaleProposal}
use Rattle.xl_rounds.specs.Positions.{position_of, is_old}
use Rattle.xl_rounds.specs.Settings.{setting_on}
use Rattle.xl_rounds.specs.Rounds.{Round, on_ledger}
use Rattle.xl_rounds.specs.Proposals.{is_past, is_ours, is_repeated, sequence_of, has_left, answer, with_answer, with_proposal, without_later, with_handed, later_of, with_all_handed}
use Rattle.xl_rounds.specs.Laws.{Waits, NoneWaitsInVain}
use Rattle.xl_rounds.specs.Numbers.{leaving}
use Rattle.xl_rounds.proofs.StartLaws.{setting_handed}

gone_at : {X : Type 0} (xs : List (Option X)) (k : ℕ) → get_or (set xs k None) k None ≡ None
gone_at [] k = refl
gone_at (z ∷ xs) zero = refl
gone_at (z ∷ xs) (suc k) = gone_at xs k

-- ---- the member that is handed

-- on our ledger nothing is kept for later
never_later : (ours past repeated gone old leaving : Bool) (wrong kept left stale : RoundRefusal) → ours ≡ true →
    cond (not ours && past) (Err wrong) (cond (not ours) (Ok Later) (cond repeated (Err kept) (cond gone (Err left) (cond old (Err stale) (cond leaving (Ok Gone) (Ok Position)))))) ≡ Ok Later → ⊥
never_later false past repeated gone old leaving wrong kept left stale is e = cc is
never_later true past false false false true wrong kept left stale is e = cc e
never_later true past repeated gone old leaving wrong kept left stale is e = cc e

none_left : (ledgers : List Header) (a : Result Placed RoundRefusal) (member now : ℕ) (p : Proposal) (r : Round) → answer ledgers r member p now ≡ a → is_ours r p ≡ true →
    later_of r member ≡ None → later_of (with_answer a member p r) member ≡ None
none_left ledgers (Ok Position) member now p r is ours none = none
none_left ledgers (Ok Gone) member now p r is ours none = none
none_left ledgers (Err why) member now p r is ours none = none
none_left ledgers (Ok Later) member now p r is ours none =
    absurd (never_later (is_ours r p) (is_past ledgers r.setting.previous p.prev) (is_repeated p.pseq (position_of r.positions member)) (has_left r member) (is_old now p) (p.pseq == leaving)
    (WrongPrev r.setting.previous_id) (OldPosition (sequence_of (position_of r.positions member))) (Left member) (StaleProposal now) ours is)

none_waits : (ledgers : List Header) (s : Round) (member : ℕ) → later_of s member ≡ None → Waits ledgers s member
none_waits ledgers s member none p is = absurd (cc (sym none ∙ is))

handed_waits : (ledgers : List Header) (member now : ℕ) (r : Round) (later : Option Proposal) → later_of r member ≡ later → Waits ledgers (with_handed ledgers member later now r) member
handed_waits ledgers member now r None is = none_waits ledgers r member is
handed_waits ledgers member now r (Some q) is =
    let out : Round = without_later member r in
    cond_both (is_ours r q) (with_proposal ledgers member q now out) (if is_past ledgers r.setting.previous q.prev then out else r) (λ (s : Round). Waits ledgers s member)
    (λ ours. none_waits ledgers (with_proposal ledgers member q now out) member
    (none_left ledgers (answer ledgers out member q now) member now q out refl ours (gone_at r.later (member - 1))))
    (λ not_ours. cond_both (is_past ledgers r.setting.previous q.prev) out r (λ (s : Round). Waits ledgers s member)
    (λ past. none_waits ledgers out member (gone_at r.later (member - 1)))
    (λ not_past p has.
    let same : q ≡ p = cc (sym is ∙ has) in
    (subst (λ (x : Proposal). is_ours r x ≡ false) same not_ours, subst (λ (x : Proposal). is_past ledgers r.setting.previous x.prev ≡ false) same not_past)))

-- ---- the others

answered_other : (a : Result Placed RoundRefusal) (member other : ℕ) (p : Proposal) (r : Round) → other - 1 ≢ member - 1 → later_of (with_answer a member p r) other ≡ later_of r other
answered_other (Ok Position) member other p r differs = refl
answered_other (Ok Gone) member other p r differs = refl
answered_other (Err why) member other p r differs = refl
answered_other (Ok Later) member other p r differs = get_or-set_other r.later (member - 1) (other - 1) (Some p) None differs

handed_other : (ledgers : List Header) (member other now : ℕ) (r : Round) (later : Option Proposal) → other - 1 ≢ member - 1 →
    later_of (with_handed ledgers member later now r) other ≡ later_of r other
handed_other ledgers member other now r None differs = refl
handed_other ledgers member other now r (Some q) differs =
    let out : Round = without_later member r in
    let stays : later_of out other ≡ later_of r other = get_or-set_other r.later (member - 1) (other - 1) None None differs in
    cond_both (is_ours r q) (with_proposal ledgers member q now out) (if is_past ledgers r.setting.previous q.prev then out else r) (λ (s : Round). later_of s other ≡ later_of r other)
    (λ _. answered_other (answer ledgers out member q now) member other q out differs ∙ stays)
    (λ _. cond_both (is_past ledgers r.setting.previous q.prev) out r (λ (s : Round). later_of s other ≡ later_of r other) (λ _. stays) (λ _. refl))

still_waits : (ledgers : List Header) (old new : Round) (member : ℕ) → later_of new member ≡ later_of old member → new.setting ≡ old.setting → Waits ledgers old member → Waits ledgers new member
still_waits ledgers old new member same setting waits p has =
    let before = waits p (sym same ∙ has) in (
      ap (λ (s : Setting). same_id p.prev s.previous_id) setting ∙ before.0,
      ap (λ (s : Setting). is_past ledgers s.previous p.prev) setting ∙ before.1,
    )

-- ---- all of them

all_wait : (ledgers : List Header) (n now : ℕ) (r : Round) (member : ℕ) → 1 ≤ member → member ≤ n → Waits ledgers (with_all_handed ledgers n now r) member
unfolding with_all_handed
all_wait ledgers zero now r member first last = absurd (omega arith)
all_wait ledgers (suc n) now r member first last =
    let before : Round = with_all_handed ledgers n now r in
    let later : Option Proposal = later_of before (suc n) in
    elim (cases_eq member (suc n)) [
      | inl same ↦ subst (λ (m : ℕ). Waits ledgers (with_handed ledgers (suc n) later now before) m) (sym same) (handed_waits ledgers (suc n) now before later refl)
      | inr differs ↦
          let apart : member - 1 ≢ suc n - 1 = omega (arith, differs) in
          still_waits ledgers before (with_handed ledgers (suc n) later now before) member (handed_other ledgers (suc n) member now before later apart)
          (setting_handed ledgers (suc n) later now before) (all_wait ledgers n now r member first (omega (arith, differs)))
    ]

pub none_waits_in_vain : NoneWaitsInVain
none_waits_in_vain ledgers previous mode now r member first last = all_wait ledgers 64 (now / 1000) (on_ledger (setting_on ledgers previous mode now) r) member first last
