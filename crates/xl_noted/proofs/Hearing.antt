-- What a node hears of a member changes nothing that it holds of the others.
use Rattle.std.proofs.Common.{◌≡◌, ◌≢◌, ◌⊎◌, ℕ, ◌+◌, ◌-◌, ◌≤◌, ◌/◌, false, inl, inr, length, List, [], ◌∷◌, refl, sym, ap, ◌∙◌, arith, cond, Option, Some, None, Result, Ok, Err}
use Rattle.std.specs.Prelude.{◌==◌, max, map, if◌then◌else◌}
use Rattle.std.specs.Option.{is_none, option_and_then}
use Rattle.std.proofs.lemmas.Bool.{cond_both, cond-false, eqb-true}
use Rattle.std.proofs.lemmas.Bool.Decides.{nat_tests}
use Rattle.std.proofs.lemmas.List.{get_or-set_other}
use Rattle.xl_base.specs.declared.ids.TxId.{TxId}
use Rattle.xl_base.specs.Sets.{is_below}
use Rattle.xl_disputes.specs.Rising.{with_tx}
use Rattle.xl_wire.specs.declared.proposal.Proposal.{Proposal}
use Rattle.xl_wire.specs.declared.validation.Validation.{Validation}
use Rattle.xl_wire.specs.Heads.{raw_in}
use Rattle.xl_validations.specs.declared.row.Row.{Row}
use Rattle.xl_validations.specs.Rows.{at_member, current_of, refusal, row_at, row_of, with_validation}
use Rattle.xl_rounds.specs.declared.placed.Placed.{Placed}
use Rattle.xl_rounds.specs.declared.placed.Placed.TheVariants as placed
use Rattle.xl_rounds.specs.declared.refusal.RoundRefusal.{RoundRefusal}
use Rattle.xl_rounds.specs.Positions.{Positions, position_of, with_position}
use Rattle.xl_rounds.specs.Proposals.{with_answer}
use Rattle.xl_rounds.specs.Rounds.{Round, our_position}
use Rattle.xl_core.specs.declared.hearing.Speech.{Speech}
use Rattle.xl_core.specs.declared.hearing.Speech.TheVariants as speech
use Rattle.xl_core.specs.declared.refusal.Refusal.{Refusal}
use Rattle.xl_core.specs.Hearing.{said_in}
use Rattle.xl_core.specs.Node.{Node, at_moment, bytes_reply, frame_refusal, proposal_answer, reply_unless, second_of, take, taken_reply}
use Rattle.xl_core.proofs.Current.{none_expire}
use Rattle.xl_noted.specs.Hearing.{LeavesOthers, LeavesRest}
use Rattle.xl_noted.proofs.Currents.{AreCurrent}

-- A ROW

pub other_row : (from k : ℕ) (f : Row → Row) (rows : List Row) → ((row : Row) → (f row).member ≡ row.member) → k ≢ from → row_of (at_member from f rows) k ≡ row_of rows k
other_row from k f [] same other = refl
other_row from k f (row ∷ rows) same other =
    cond_both (row.member == from) (f row ∷ rows) (row ∷ at_member from f rows) (λ rs. row_of rs k ≡ row_of (row ∷ rows) k)
    (λ is.
    let not_k : (row.member == k) ≡ false = differs row.member k (λ e. other (sym e ∙ eqb-true row.member from is)) in
    cond-false ((f row).member == k) (Some (f row)) (row_of rows k) (ap (λ (j : ℕ). j == k) (same row) ∙ not_k) ∙ sym (cond-false (row.member == k) (Some row) (row_of rows k) not_k))
    (λ _. ap (λ (o : Option Row). cond (row.member == k) (Some row) o) (other_row from k f rows same other))
  where
    differs : (a b : ℕ) → a ≢ b → (a == b) ≡ false
    differs a b other = grind (arith, nat_tests, other)

pub taken_member : (now : ℕ) (v : Validation) (row : Row) → (take now v row).member ≡ row.member
taken_member now v row = cond_both (is_none (refusal row now v)) (with_validation v row) row (λ r. r.member ≡ row.member) (λ _. refl) (λ _. refl)

-- A POSITION

other_position : (m k : ℕ) (p : Option Proposal) (a : Positions) → 1 ≤ m → 1 ≤ k → k ≢ m → position_of (with_position m p a) k ≡ position_of a k
other_position m k p a low lower other = get_or-set_other a.members (m - 1) (k - 1) p None (λ e. other (omega (arith, low, lower, e)))

-- WHAT IS HEARD

-- a round that stays, except for what it holds of the member, and what is pending
abbrev pub RoundLeaves : ℕ → Round → Round → Type 0
RoundLeaves m r later =
    (later.phase ≡ r.phase) × (later.setting ≡ r.setting) × (our_position later ≡ our_position r) × (later.positions.own ≡ r.positions.own)
    × ((k : ℕ) → 1 ≤ k → k ≢ m → position_of later.positions k ≡ position_of r.positions k)

answered : (m : ℕ) (p : Proposal) (r : Round) (place : Result Placed RoundRefusal) → 1 ≤ m → RoundLeaves m r (with_answer place m p r)
answered m p r (Ok placed.Position) low = (refl, refl, refl, refl, λ k lower other. other_position m k (Some p) r.positions low lower other)
answered m p r (Ok placed.Later) low = (refl, refl, refl, refl, λ k _ _. refl)
answered m p r (Ok placed.Gone) low = (refl, refl, refl, refl, λ k lower other. other_position m k None r.positions low lower other)
answered m p r (Err why) low = (refl, refl, refl, refl, λ k _ _. refl)

-- the same but for its round
with_round : (m : ℕ) (n : Node) (r : Round) → RoundLeaves m n.round r → LeavesOthers m n (record n { round = r })
with_round m n r leaves = record {
  list = refl;
  kept = refl;
  failed_save = refl;
  phase = leaves.0;
  setting = leaves.1;
  position = leaves.2;
  own = leaves.3;
  rows = λ k _. refl;
  positions = leaves.4;
}

itself : (m : ℕ) (n : Node) → LeavesOthers m n n
itself m n = with_round m n n.round (refl, refl, refl, refl, λ k _ _. refl)

taken : (m : ℕ) (n : Node) (what : Speech) → 1 ≤ m → LeavesOthers m n (taken_reply n m what).node
taken m n (speech.Validation v) low = record {
  list = refl;
  kept = refl;
  failed_save = refl;
  phase = refl;
  setting = refl;
  position = refl;
  own = refl;
  rows = λ k other. ap (option_and_then (λ (row : Row). row.current)) (other_row m k (take (second_of n) v) n.rows (taken_member (second_of n) v) other);
  positions = λ k _ _. refl;
}
taken m n (speech.Header h) low = record {
  list = refl;
  kept = refl;
  failed_save = refl;
  phase = refl;
  setting = refl;
  position = refl;
  own = refl;
  rows = λ k _. refl;
  positions = λ k _ _. refl;
}
taken m n (speech.Proposal p) low =
    let place : Result Placed RoundRefusal = proposal_answer n m p in
    with_round m n (with_answer place m p n.round) (answered m p n.round place low)
taken m n (speech.TxSet ids) low = with_round m n _ (refl, refl, refl, refl, λ k _ _. refl)
taken m n (speech.Tx tx) low = with_round m n _ (refl, refl, refl, refl, λ k _ _. refl)

heard_by : (m : ℕ) (n : Node) (what : Speech) (o : Option Refusal) → 1 ≤ m → LeavesOthers m n (reply_unless n o (taken_reply n m what)).node
heard_by m n what None low = taken m n what low
heard_by m n what (Some why) low = itself m n

-- WHAT ELSE STAYS

-- a transaction that comes is one more
one_more : (tx : TxId) (ids : List TxId) → (with_tx tx ids ≡ ids) ⊎ (length (with_tx tx ids) ≡ length ids + 1)
one_more tx [] = inr refl
one_more tx (id ∷ ids) =
    cond_both (is_below id tx) (id ∷ with_tx tx ids) (if is_below tx id then tx ∷ id ∷ ids else id ∷ ids) (λ (xs : List TxId). (xs ≡ id ∷ ids) ⊎ (length xs ≡ length (id ∷ ids) + 1))
    (λ _. elim (one_more tx ids) [
      | inl same ↦ inl (ap (λ (xs : List TxId). id ∷ xs) same)
      | inr more ↦ inr (omega (arith, more))
    ])
    (λ _. cond_both (is_below tx id) (tx ∷ id ∷ ids) (id ∷ ids) (λ (xs : List TxId). (xs ≡ id ∷ ids) ⊎ (length xs ≡ length (id ∷ ids) + 1)) (λ _. inr (omega arith)) (λ _. inl refl))

answered_rest : (m : ℕ) (p : Proposal) (n : Node) (place : Result Placed RoundRefusal) → LeavesRest (speech.Proposal p) n (record n { round = with_answer place m p n.round })
answered_rest m p n (Ok placed.Position) = (refl, refl, refl, refl)
answered_rest m p n other = (refl, refl, refl, refl)

itself_rest : (what : Speech) (n : Node) → LeavesRest what n n
itself_rest (speech.Validation v) n = (refl, refl)
itself_rest (speech.Header h) n = (refl, refl, refl)
itself_rest (speech.Proposal p) n = (refl, refl, refl, refl)
itself_rest (speech.TxSet ids) n = (refl, refl, refl, refl, refl)
itself_rest (speech.Tx tx) n = (refl, refl, refl, refl, inl refl)

taken_rest : (m : ℕ) (n : Node) (what : Speech) → LeavesRest what n (taken_reply n m what).node
taken_rest m n (speech.Validation v) = (refl, refl)
taken_rest m n (speech.Header h) = (refl, refl, refl)
taken_rest m n (speech.Proposal p) = answered_rest m p n (proposal_answer n m p)
taken_rest m n (speech.TxSet ids) = (refl, refl, refl, refl, refl)
taken_rest m n (speech.Tx tx) = (refl, refl, refl, refl, one_more tx n.round.pending)

heard_rest : (m : ℕ) (n : Node) (what : Speech) (o : Option Refusal) → LeavesRest what n (reply_unless n o (taken_reply n m what)).node
heard_rest m n what None = taken_rest m n what
heard_rest m n what (Some why) = itself_rest what n

-- A MOMENT LATER

-- within a second no row changes
pub within : (at : ℕ) (n : Node) → AreCurrent n → max n.time at / 1000 ≡ n.time / 1000 → map (row_at (max n.time at / 1000)) n.rows ≡ n.rows
within at n current same = ap (λ (s : ℕ). map (row_at s) n.rows) same ∙ none_expire (n.time / 1000) n.rows current

at_second : (m at : ℕ) (n later : Node) → AreCurrent n → max n.time at / 1000 ≡ n.time / 1000 → LeavesOthers m (at_moment at n) later → LeavesOthers m n later
at_second m at n later current same leaves = record {
  list = leaves.list;
  kept = leaves.kept;
  failed_save = leaves.failed_save;
  phase = leaves.phase;
  setting = leaves.setting;
  position = leaves.position;
  own = leaves.own;
  rows = λ k other. leaves.rows k other ∙ ap (λ (rows : List Row). current_of rows k) (within at n current same);
  positions = leaves.positions;
}

-- so of what else it is
rest_at_second : (at : ℕ) (n later : Node) (what : Speech) → map (row_at (max n.time at / 1000)) n.rows ≡ n.rows → LeavesRest what (at_moment at n) later → LeavesRest what n later
rest_at_second at n later (speech.Validation v) still leaves = leaves
rest_at_second at n later (speech.Header h) still leaves = (leaves.0 ∙ still, leaves.1, leaves.2)
rest_at_second at n later (speech.Proposal p) still leaves = (leaves.0, leaves.1 ∙ still, leaves.2, leaves.3)
rest_at_second at n later (speech.TxSet ids) still leaves = (leaves.0, leaves.1 ∙ still, leaves.2, leaves.3, leaves.4)
rest_at_second at n later (speech.Tx tx) still leaves = (leaves.0, leaves.1 ∙ still, leaves.2, leaves.3, leaves.4)

-- what a node hears within a second leaves what it holds of all but who says it
pub hearing_leaves : (at : ℕ) (n : Node) (bytes : List ℕ) → AreCurrent n → max n.time at / 1000 ≡ n.time / 1000 → 1 ≤ (said_in (raw_in bytes)).from →
    LeavesOthers (said_in (raw_in bytes)).from n (bytes_reply (at_moment at n) bytes).node
hearing_leaves at n bytes current same low =
    let m : ℕ = (said_in (raw_in bytes)).from in
    at_second m at n (bytes_reply (at_moment at n) bytes).node current same
    (heard_by m (at_moment at n) (said_in (raw_in bytes)).what (frame_refusal (at_moment at n) bytes) low)

-- and of what else it is all but what that kind may change
pub hearing_leaves_rest : (at : ℕ) (n : Node) (bytes : List ℕ) → AreCurrent n → max n.time at / 1000 ≡ n.time / 1000 →
    LeavesRest (said_in (raw_in bytes)).what n (bytes_reply (at_moment at n) bytes).node
hearing_leaves_rest at n bytes current same =
    let said = said_in (raw_in bytes) in
    rest_at_second at n (bytes_reply (at_moment at n) bytes).node said.what (within at n current same)
    (heard_rest said.from (at_moment at n) said.what (frame_refusal (at_moment at n) bytes))
