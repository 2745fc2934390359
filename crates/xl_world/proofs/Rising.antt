-- What a node issues rises, over all its lives, whatever its saves are answered.
use Rattle.std.proofs.Common.{◌≡◌, ℕ, ◌<◌, ◌≤◌, Bool, true, false, cond, List, [], ◌∷◌, ◌++◌, append_assoc, refl, arith, sym, ◌∙◌, subst, inl, inr, Some, None, ap}
use Rattle.std.specs.Prelude.{◌==◌, ◌&&◌, IsTrue, IfSome, nat_lt, option_map, option_to_list}
use Rattle.std.specs.declared.option.Option.{Option}
use Rattle.std.proofs.lemmas.Bool.{and_parts, or_cases, eqb-true, ltb-true}
use Rattle.xl_base.specs.Ids.{same_id}
use Rattle.xl_base.specs.declared.ids.LedgerId.{LedgerId}
use Rattle.xl_lists.specs.Agreement.{has_said}
use Rattle.xl_lists.specs.declared.said.SaidLedger.{SaidLedger}
use Rattle.xl_lists.proofs.Agreement.{same_id-true}
use Rattle.xl_ledger.specs.declared.header.Header.{Header}
use Rattle.xl_ledger.specs.Headers.{header_id}
use Rattle.xl_rounds.specs.Rounds.{is_proposing}
use Rattle.xl_wire.specs.declared.validation.Validation.{Validation}
use Rattle.xl_core.specs.declared.event.CoreEvent.{CoreEvent}
use Rattle.xl_core.proofs.Beside.{node_or_beside}
use Rattle.xl_core.specs.declared.hearing.Speech.{Speech}
use Rattle.xl_core.specs.declared.hearing.Speech.TheVariants as speech
use Rattle.xl_core.specs.declared.refusal.Refusal.TheVariants.{NotAfter}
use Rattle.xl_core.specs.Answers.{Done}
use Rattle.xl_core.specs.Core.{Core, CoreReply, core_happens}
use Rattle.xl_core.specs.CoreLives.{CoreHappening, core_after}
use Rattle.xl_core.specs.Issuing.Save.{Kept as AnsweredOk, Failed as AnsweredFailed}
use Rattle.xl_core.specs.Node.{Node, Event, Frame, Issue, Timer, Submit, Relist, Reply, Save, happens, at_moment, own_validation, issued_unless_off, refusing_reply, reply_with, issuing_reply, taken_reply, timer_reply, timer_outcome, validates}
use Rattle.xl_core.proofs.Frames.{hearing_either}
use Rattle.xl_core.proofs.Timing.{timing_by, submit_either, relist_either}
use Rattle.xl_world.specs.World.{said_by}
use Rattle.xl_world.specs.Lives.{Life, first_of, last_of, issued_over, issued_by, NeverBehind}

-- AT THE NODE

-- what is issued is above the number that was kept, and is kept then; and that number never falls
record Keeps (kept : ℕ) (issued : Option Validation) (then_kept : ℕ) : Type 0 where
  pub above : IfSome issued (λ v. (kept < v.seq) × (then_kept ≡ v.seq))
  pub stays : kept ≤ then_kept

abbrev KeepsBy : ℕ → Reply → Type 0
KeepsBy kept r = Keeps kept r.issued r.node.kept

issue_keeps : (n : Node) (v : Validation) (b : Bool) (off : Option ℕ) (save : Save) → (b ≡ true → n.kept < v.seq) →
    KeepsBy n.kept (cond b (issued_unless_off n off save v) (refusing_reply n (NotAfter n.kept)))
issue_keeps n v true None AnsweredOk above = record { above = (above refl, refl); stays = omega (arith, above refl) }
issue_keeps n v true None (AnsweredFailed count) above = record { above = tt; stays = omega arith }
issue_keeps n v true (Some failed) save above = record { above = tt; stays = omega arith }
issue_keeps n v false off save above = record { above = tt; stays = omega arith }

taking_keeps : (n : Node) (from : ℕ) (what : Speech) → KeepsBy n.kept (taken_reply n from what)
taking_keeps n from (speech.Validation v) = record { above = tt; stays = omega arith }
taking_keeps n from other = record { above = tt; stays = omega arith }

validating_keeps : (n : Node) (h : Header) (full b : Bool) (save : Save) → KeepsBy n.kept (cond b (issuing_reply n h.seq (header_id h) full save) (reply_with n Done []))
validating_keeps n h full true save = issue_keeps n (own_validation n h.seq (header_id h) full) (nat_lt n.kept h.seq) n.failed_save save (λ e. ltb-true _ _ e)
validating_keeps n h full false save = record { above = tt; stays = omega arith }

timer_keeps : (n : Node) (save : Save) → KeepsBy n.kept (timer_reply (timer_outcome n) save)
timer_keeps n save =
    timing_by (λ t. KeepsBy n.kept (timer_reply t save)) n
    (λ r beat said. record { above = tt; stays = omega arith })
    (λ ledgers r said h place moved_on _.
    let m : Node = record n { ledgers = ledgers; round = r } in
    let v = validating_keeps m h (is_proposing r.setting.mode) (validates m moved_on) save in record { above = v.above; stays = v.stays })

happens_keeps : (n : Node) (e : Event) (save : Save) → KeepsBy n.kept (happens n e save)
happens_keeps n (Issue now seq id full) save =
    let m : Node = at_moment now n in issue_keeps m (own_validation m seq id full) (nat_lt m.kept seq) m.failed_save save (λ e. ltb-true _ _ e)
happens_keeps n (Timer now) save = timer_keeps (at_moment now n) save
happens_keeps n (Submit now tx) save =
    submit_either (KeepsBy n.kept) (at_moment now n) tx (λ _. record { above = tt; stays = omega arith }) (record { above = tt; stays = omega arith })
happens_keeps n (Frame now bytes) save =
    hearing_either (KeepsBy n.kept) (at_moment now n) bytes (λ _. record { above = tt; stays = omega arith }) (λ said _. taking_keeps (at_moment now n) said.from said.what)
happens_keeps n (Relist now list) save =
    relist_either (KeepsBy n.kept) (at_moment now n) list (λ _. record { above = tt; stays = omega arith }) (λ _. record { above = tt; stays = omega arith })

-- AT THE CORE

core_keeps_on : (core : Core) (e : CoreEvent) (save : Save) → let r : CoreReply = core_happens core e save in Keeps core.node.kept r.issued r.core.node.kept
core_keeps_on core e save =
    node_or_beside (λ r. Keeps core.node.kept r.issued r.core.node.kept) core e save (λ n _. happens_keeps core.node n save)
    (λ after a same. record { above = tt; stays = omega (arith, ap (λ (n : Node). n.kept) same) })

-- OVER LIVES

-- each is of a later sequence than the one before, and the first is above this
abbrev RisesFrom : ℕ → List SaidLedger → Type 0
RisesFrom k [] = Unit {0}
RisesFrom k (x ∷ xs) = (k < x.seq) × RisesFrom x.seq xs

-- so they do from a lower number
from_lower : (j k : ℕ) (xs : List SaidLedger) → j ≤ k → RisesFrom k xs → RisesFrom j xs
from_lower j k [] le rises = tt
from_lower j k (x ∷ xs) le rises = (omega (arith, le, rises.0), rises.1)

-- what is said in one step, and then in others from the number that is kept behind it
rises_on : (kept then_kept me : ℕ) (o : Option Validation) (xs : List SaidLedger) → Keeps kept o then_kept → RisesFrom then_kept xs →
    RisesFrom kept (option_to_list (option_map (said_by me) o) ++ xs)
rises_on kept then_kept me None xs keeps rises = from_lower kept then_kept xs keeps.stays rises
rises_on kept then_kept me (Some v) xs keeps rises = (keeps.above.0, subst (λ (k : ℕ). RisesFrom k xs) keeps.above.1 rises)

-- what happenings say and what comes behind them
life_rises : (core : Core) (hs : List CoreHappening) (xs : List SaidLedger) → RisesFrom (core_after core hs).node.kept xs → RisesFrom core.node.kept (issued_over core hs ++ xs)
life_rises core [] xs rises = rises
life_rises core (h ∷ hs) xs rises =
    let r : CoreReply = core_happens core h.event h.save in
    subst (RisesFrom core.node.kept) (sym (append_assoc (option_to_list (option_map (said_by core.node.me) r.issued)) (issued_over r.core hs) xs))
    (rises_on core.node.kept r.core.node.kept core.node.me r.issued (issued_over r.core hs ++ xs) (core_keeps_on core h.event h.save) (life_rises r.core hs xs rises))

lives_rise : (kept : ℕ) (lives : List Life) → NeverBehind kept lives → RisesFrom kept (issued_by lives)
lives_rise kept [] never = tt
lives_rise kept (l ∷ ls) never =
    from_lower kept l.kept (issued_by (l ∷ ls)) never.0
    (life_rises (first_of l) l.happenings (issued_by ls) (lives_rise (last_of l).node.kept ls never.1))

is_that : (x : SaidLedger) (m s : ℕ) (id : LedgerId) → ((x.member == m && x.seq == s) && same_id x.id id) ≡ true → (x.seq ≡ s) × (x.id ≡ id)
is_that x m s id h =
    let both = and_parts (x.member == m && x.seq == s) _ h in
    (eqb-true _ _ (and_parts (x.member == m) _ both.0).1, same_id-true _ _ both.1)

-- what rises from a number is above it
above_it : (k : ℕ) (xs : List SaidLedger) → RisesFrom k xs → (m s : ℕ) (a : LedgerId) → IsTrue (has_said xs m s a) → k < s
above_it k [] rises m s a h = cc
above_it k (x ∷ xs) rises m s a h =
    elim (or_cases ((x.member == m && x.seq == s) && same_id x.id a) (has_said xs m s a) h) [
      | inl here ↦ omega (arith, rises.0, (is_that x m s a here).0)
      | inr later ↦ let far : x.seq < s = above_it x.seq xs rises.1 m s a later in omega (arith, rises.0, far)
    ]

-- what rises says one ledger of a sequence
once_if_rising : (k : ℕ) (xs : List SaidLedger) → RisesFrom k xs → (m s : ℕ) (a b : LedgerId) → IsTrue (has_said xs m s a) → IsTrue (has_said xs m s b) → a ≡ b
once_if_rising k [] rises m s a b first second = cc
once_if_rising k (x ∷ xs) rises m s a b first second =
    elim (or_cases ((x.member == m && x.seq == s) && same_id x.id a) (has_said xs m s a) first) [
      | inl here_a ↦ elim (or_cases ((x.member == m && x.seq == s) && same_id x.id b) (has_said xs m s b) second) [
        | inl here_b ↦ sym (is_that x m s a here_a).1 ∙ (is_that x m s b here_b).1
        | inr later_b ↦ let far : x.seq < s = above_it x.seq xs rises.1 m s b later_b in absurd (omega (arith, far, (is_that x m s a here_a).0))
      ]
      | inr later_a ↦ elim (or_cases ((x.member == m && x.seq == s) && same_id x.id b) (has_said xs m s b) second) [
        | inl here_b ↦ let far : x.seq < s = above_it x.seq xs rises.1 m s a later_a in absurd (omega (arith, far, (is_that x m s b here_b).0))
        | inr later_b ↦ once_if_rising x.seq xs rises.1 m s a b later_a later_b
      ]
    ]

-- over all its lives a node whose keeper never falls behind says one ledger of a sequence
pub lives_say_once : (lives : List Life) → NeverBehind 0 lives → (m s : ℕ) (a b : LedgerId) → IsTrue (has_said (issued_by lives) m s a) → IsTrue (has_said (issued_by lives) m s b) → a ≡ b
lives_say_once lives never = once_if_rising 0 (issued_by lives) (lives_rise 0 lives never)
