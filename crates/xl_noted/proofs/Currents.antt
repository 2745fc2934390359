-- The validations that a node's rows hold are current in the second of its time, over every event.
use Rattle.std.proofs.Common.{◌≡◌, ◌/◌, ℕ, Bool, List, [], ◌∷◌, refl, sym, subst, Option, Some, None}
use Rattle.std.specs.Prelude.{◌==◌, All, map, nat_lt, max, unwrap_or}
use Rattle.std.proofs.lemmas.Bool.{cond_both}
use Rattle.std.proofs.lemmas.List.Elements.{All-cons, All-head, All-nil, All-tail}
use Rattle.xl_base.specs.declared.ids.LedgerId.{LedgerId}
use Rattle.xl_wire.specs.declared.validation.Validation.{Validation}
use Rattle.xl_validations.specs.declared.row.Row.{Row}
use Rattle.xl_validations.specs.declared.refusal.ValRefusal.{ValRefusal}
use Rattle.xl_validations.specs.Rows.{at_member, empty_row, refusal_of, relisted, row_at, row_for, row_of}
use Rattle.xl_ledger.specs.declared.header.Header.{Header as LedgerHeader}
use Rattle.xl_ledger.specs.Headers.{header_id}
use Rattle.xl_rounds.specs.Rounds.{is_proposing}
use Rattle.xl_core.specs.declared.hearing.Speech.{Speech}
use Rattle.xl_core.specs.declared.hearing.Speech.TheVariants as speech
use Rattle.xl_core.specs.declared.refusal.Refusal.TheVariants.{NotAfter}
use Rattle.xl_core.specs.Answers.{Done}
use Rattle.xl_core.specs.Node.{Event, Frame, Issue, Node, Relist, Save, Submit, Timer, at_moment, happens, issued_reply, issued_unless_off, issuing_reply, own_validation, refusing_reply, reply_with, second_of, take, taken_reply, timer_outcome, timer_reply, validates, validating_built}
use Rattle.xl_core.specs.Issuing.Save.{Kept, Failed}
use Rattle.xl_core.specs.Rest.{IsCurrent}
use Rattle.xl_core.proofs.Current.{current_then, taken_current}
use Rattle.xl_core.proofs.Frames.{hearing_either}
use Rattle.xl_core.proofs.Members.{nobody_changes, refused_stays, taken_changes}
use Rattle.xl_core.proofs.Timing.{timing_by, submit_either, relist_either}

abbrev pub AreCurrent : Node → Type 0
AreCurrent n = All (IsCurrent (second_of n)) n.rows

-- ROWS

-- a row that takes a validation, or refuses it, or isn't there
by_row : (s from : ℕ) (v : Validation) (rows : List Row) → All (IsCurrent s) rows → (o : Option Row) → row_of rows from ≡ o → (p : Option ValRefusal) → refusal_of rows from s v ≡ p → All (IsCurrent s) (at_member from (take s v) rows)
by_row s from v rows each None nobody p is = subst (All (IsCurrent s)) (sym (nobody_changes from (take s v) rows nobody)) each
by_row s from v rows each (Some row) there (Some why) is = subst (All (IsCurrent s)) (sym (refused_stays from s v why rows is)) each
by_row s from v rows each (Some row) there None is = subst (All (IsCurrent s)) (sym (taken_changes from s v rows is)) (taken_current s from v rows is each)

taken_rows : (s from : ℕ) (v : Validation) (rows : List Row) → All (IsCurrent s) rows → All (IsCurrent s) (at_member from (take s v) rows)
taken_rows s from v rows each = by_row s from v rows each (row_of rows from) refl (refusal_of rows from s v) refl

-- the row of a member, or an empty one
row_current : (s : ℕ) (rows : List Row) (m : ℕ) → All (IsCurrent s) rows → IsCurrent s (row_for rows m)
row_current s [] m each = tt
row_current s (row ∷ rows) m each =
    cond_both (row.member == m) (Some row) (row_of rows m) (λ o. IsCurrent s (unwrap_or o (empty_row m))) (λ _. All-head (IsCurrent s) row rows each)
    (λ _. row_current s rows m (All-tail (IsCurrent s) row rows each))

relisted_rows : (s : ℕ) (members : List ℕ) (rows : List Row) → All (IsCurrent s) rows → All (IsCurrent s) (relisted members rows)
relisted_rows s [] rows each = All-nil (IsCurrent s)
relisted_rows s (m ∷ ms) rows each = All-cons (IsCurrent s) (row_for rows m) (relisted ms rows) (row_current s rows m each) (relisted_rows s ms rows each)

-- EVERY EVENT

issued_current : (n : Node) (save : Save) (v : Validation) → AreCurrent n → AreCurrent (issued_reply n (second_of n) save v).node
issued_current n Kept v each = taken_rows (second_of n) n.me v n.rows each
issued_current n (Failed count) v each = each

unless_current : (n : Node) (off : Option ℕ) (save : Save) (v : Validation) → AreCurrent n → AreCurrent (issued_unless_off n off save v).node
unless_current n None save v each = issued_current n save v each
unless_current n (Some failed) save v each = each

taking_current : (n : Node) (from : ℕ) (what : Speech) → AreCurrent n → AreCurrent (taken_reply n from what).node
taking_current n from (speech.Validation v) each = taken_rows (second_of n) from v n.rows each
taking_current n from other each = each

issuing_current : (n : Node) (seq : ℕ) (id : LedgerId) (full : Bool) (save : Save) → AreCurrent n → AreCurrent (issuing_reply n seq id full save).node
issuing_current n seq id full save each =
    cond_both (nat_lt n.kept seq) (issued_unless_off n n.failed_save save (own_validation n seq id full)) (refusing_reply n (NotAfter n.kept)) (λ reply. AreCurrent reply.node)
    (λ _. unless_current n n.failed_save save (own_validation n seq id full) each) (λ _. each)

validating_current : (n : Node) (h : LedgerHeader) (moved_on : Bool) (save : Save) → AreCurrent n → AreCurrent (validating_built n h moved_on save).node
validating_current n h moved_on save each =
    cond_both (validates n moved_on) (issuing_reply n h.seq (header_id h) (is_proposing n.round.setting.mode) save) (reply_with n Done []) (λ reply. AreCurrent reply.node)
    (λ _. issuing_current n h.seq (header_id h) (is_proposing n.round.setting.mode) save each) (λ _. each)

timer_current : (n : Node) (save : Save) → AreCurrent n → AreCurrent (timer_reply (timer_outcome n) save).node
timer_current n save each =
    timing_by (λ t. AreCurrent (timer_reply t save).node) n
    (λ r told said. each)
    (λ ledgers r said h place moved_on _. validating_current (record n { ledgers = ledgers; round = r }) h moved_on save each)

then_current : (now : ℕ) (n : Node) → AreCurrent (at_moment now n)
then_current now n = current_then (max n.time now / 1000) n.rows

pub happens_current : (n : Node) (e : Event) (save : Save) → AreCurrent (happens n e save).node
happens_current n (Issue now seq id full) save = issuing_current (at_moment now n) seq id full save (then_current now n)
happens_current n (Timer now) save = timer_current (at_moment now n) save (then_current now n)
happens_current n (Submit now tx) save =
    submit_either (λ reply. AreCurrent reply.node) (at_moment now n) tx (λ _. then_current now n) (then_current now n)
happens_current n (Frame now bytes) save =
    hearing_either (λ reply. AreCurrent reply.node) (at_moment now n) bytes (λ _. then_current now n) (λ said _. taking_current (at_moment now n) said.from said.what (then_current now n))
happens_current n (Relist now list) save =
    relist_either (λ reply. AreCurrent reply.node) (at_moment now n) list (λ _. then_current now n) (λ _. relisted_rows (max n.time now / 1000) list.members (map (row_at (max n.time now / 1000)) n.rows) (then_current now n))
