-- Positions only get newer.
use Rattle.std.proofs.Common.{◌≡◌, ℕ, zero, suc, ◌-◌, ◌<◌, Bool, true, false, cond, List, [], ◌∷◌, get_or, set, ap, sym, refl, ◌∙◌, inl, inr, arith, Option, Some, None}
use Rattle.std.specs.Prelude.{◌⊎◌, ◌&&◌, ◌==◌, not, nat_le, Result, Ok, Err}
use Rattle.std.proofs.lemmas.Bool.{leb-false}
use Rattle.xl_wire.specs.declared.proposal.Proposal.{Proposal}
use Rattle.xl_ledger.specs.declared.header.Header.{Header}
use Rattle.xl_rounds.specs.declared.placed.Placed.{Placed}
use Rattle.xl_rounds.specs.declared.placed.Placed.TheVariants.{Position, Later, Gone}
use Rattle.xl_rounds.specs.declared.refusal.RoundRefusal.{RoundRefusal}
use Rattle.xl_rounds.specs.declared.refusal.RoundRefusal.TheVariants.{WrongPrev, OldPosition, Left, StaleProposal}
use Rattle.xl_rounds.specs.Positions.{position_of, is_old}
use Rattle.xl_rounds.specs.Rounds.{Round}
use Rattle.xl_rounds.specs.Proposals.{is_past, is_ours, is_repeated, sequence_of, has_left, answer, with_answer}
use Rattle.xl_rounds.specs.Laws.{PositionsAreNewer}
use Rattle.xl_rounds.specs.Numbers.{leaving}

-- what stands at a place that was written
put_at : {X : Type 0} (xs : List (Option X)) (k : ℕ) (x y : X) → get_or xs k None ≡ Some x → get_or (set xs k (Some y)) k None ≡ Some y
put_at [] k x y is = absurd (cc is)
put_at (z ∷ xs) zero x y is = refl
put_at (z ∷ xs) (suc k) x y is = put_at xs k x y is

gone_at : {X : Type 0} (xs : List (Option X)) (k : ℕ) → get_or (set xs k None) k None ≡ None
gone_at [] k = refl
gone_at (z ∷ xs) zero = refl
gone_at (z ∷ xs) (suc k) = gone_at xs k

-- a proposal becomes the member's position only if its sequence isn't repeated
placed_if : (past other repeated gone old leaving : Bool) (ours : RoundRefusal) (kept left stale : RoundRefusal) →
    cond past (Err ours) (cond other (Ok Later) (cond repeated (Err kept) (cond gone (Err left) (cond old (Err stale) (cond leaving (Ok Gone) (Ok Position)))))) ≡ Ok Position → repeated ≡ false
placed_if true other repeated gone old leaving ours kept left stale e = absurd (cc e)
placed_if false true repeated gone old leaving ours kept left stale e = absurd (cc e)
placed_if false false true gone old leaving ours kept left stale e = absurd (cc e)
placed_if false false false gone old leaving ours kept left stale e = refl

by_answer : (a : Result Placed RoundRefusal) (ledgers : List Header) (member : ℕ) (p : Proposal) (now : ℕ) (r : Round) (kept next : Proposal) → answer ledgers r member p now ≡ a →
    position_of r.positions member ≡ Some kept → position_of (with_answer a member p r).positions member ≡ Some next → (next ≡ kept) ⊎ (kept.pseq < next.pseq)
by_answer (Err why) ledgers member p now r kept next is had has = inl (cc (sym has ∙ had))
by_answer (Ok Later) ledgers member p now r kept next is had has = inl (cc (sym has ∙ had))
by_answer (Ok Gone) ledgers member p now r kept next is had has = absurd (cc (sym (gone_at r.positions.members (member - 1)) ∙ has))
by_answer (Ok Position) ledgers member p now r kept next is had has =
    let same : Some next ≡ Some p = sym has ∙ put_at r.positions.members (member - 1) kept p had in
    let new : is_repeated p.pseq (position_of r.positions member) ≡ false =
    placed_if (not (is_ours r p) && is_past ledgers r.setting.previous p.prev) (not (is_ours r p)) (is_repeated p.pseq (position_of r.positions member)) (has_left r member) (is_old now p) (p.pseq == leaving)
    (WrongPrev r.setting.previous_id) (OldPosition (sequence_of (position_of r.positions member))) (Left member) (StaleProposal now) is in
    let above : nat_le p.pseq kept.pseq ≡ false = sym (ap (is_repeated p.pseq) had) ∙ new in
    let is_next : next ≡ p = cc same in
    inr (omega (arith, leb-false p.pseq kept.pseq above, ap (λ (q : Proposal). q.pseq) is_next))

pub positions_are_newer : PositionsAreNewer
positions_are_newer ledgers member p now r kept next had has = by_answer (answer ledgers r member p now) ledgers member p now r kept next refl had has
