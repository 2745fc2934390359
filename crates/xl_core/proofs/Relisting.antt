-- A node goes over to another list.
use Rattle.std.proofs.Common.{◌≡◌, ℕ, ◌+◌, ◌<◌, ◌==◌, true, false, List, [], ◌∷◌, ◌++◌, length, get_or, drop, refl, arith, ap, sym, ◌∙◌, Option, Some, None, subst, append_assoc, Ok}
use Rattle.std.specs.Prelude.{All, IfSome, map, find, filter_map, option_map, nat_eq, unwrap_or}
use Rattle.std.specs.List.{IsDistinct, cons_option}
use Rattle.std.specs.Option.{option_and_then}
use Rattle.std.proofs.lemmas.Bool.{cond_both, cond-true, cond-false, eq-eqb}
use Rattle.std.proofs.lemmas.Bool.Decides.{nat_tests}
use Rattle.std.proofs.lemmas.List.{drop_more}
use Rattle.std.proofs.lemmas.List.Elements.{All-nil, All-cons, All-head, All-tail}
use Rattle.xl_lists.specs.Lists.{TrustedList, IsValid}
use Rattle.xl_tags.specs.Opening.{HasKeys}
use Rattle.xl_wire.specs.declared.validation.Validation.{Validation}
use Rattle.xl_validations.specs.declared.row.Row.{Row}
use Rattle.xl_validations.specs.Rows.{empty_row, row_of, row_for, current_of, relisted}
use Rattle.xl_validations.proofs.Splitting.{members, middle}
use Rattle.xl_rounds.specs.Rounds.{Round}
use Rattle.xl_core.specs.declared.last.LastReport.{LastReport}
use Rattle.xl_core.specs.declared.report.Report.{Report}
use Rattle.xl_core.specs.Lasts.{last_after, over_another_list}
use Rattle.xl_core.specs.Node.{Node, Reply, arises_in, arisen_in, report_of, second_of}
use Rattle.xl_core.specs.Replies.{list_reply}
use Rattle.xl_core.specs.Rest.{IsCurrent, IsReady}
use Rattle.xl_core.proofs.Living.{set_rest}

-- WHAT THE MEMBERS' ROWS HOLD

flipped : (a b : ℕ) → nat_eq a b ≡ false → (a == b) ≡ false
flipped a b e = grind (arith, nat_tests)

-- a row stands under its member, if nobody before it has that number
its_row : (front : List Row) (row : Row) (back : List Row) → IsDistinct nat_eq (members (front ++ row ∷ back)) → row_of (front ++ row ∷ back) row.member ≡ Some row
unfolding IsDistinct
its_row [] row back distinct = cond-true (row.member == row.member) (Some row) (row_of back row.member) (eq-eqb row.member row.member refl)
its_row (r ∷ front) row back distinct =
    cond-false (r.member == row.member) (Some r) (row_of (front ++ row ∷ back) row.member) (flipped r.member row.member (middle r.member front row back distinct.0)) ∙ its_row front row back distinct.1

-- what the members' rows hold, one member after the other, is what the rows hold
currents_after : (front back : List Row) → IsDistinct nat_eq (members (front ++ back)) → filter_map (λ m. current_of (front ++ back) m) (members back) ≡ filter_map (λ row. row.current) back
currents_after front [] distinct = refl
currents_after front (row ∷ back) distinct =
    let rest = currents_after (front ++ row ∷ []) back (subst (λ (rs : List Row). IsDistinct nat_eq (members rs)) (sym (append_assoc front (row ∷ []) back)) distinct) in
    let moved : filter_map (λ m. current_of (front ++ row ∷ back) m) (members back) ≡ filter_map (λ r. r.current) back =
    subst (λ (rs : List Row). filter_map (λ m. current_of rs m) (members back) ≡ filter_map (λ r. r.current) back) (append_assoc front (row ∷ []) back) rest in
    ap (λ (o : Option Row). cons_option (option_and_then (λ r. r.current) o) (filter_map (λ m. current_of (front ++ row ∷ back) m) (members back))) (its_row front row back distinct)
    ∙ ap (cons_option row.current) moved

pub currents_by_members : (rows : List Row) (ms : List ℕ) → map (λ row. row.member) rows ≡ ms → IsDistinct nat_eq ms → filter_map (λ m. current_of rows m) ms ≡ filter_map (λ row. row.current) rows
currents_by_members rows ms is distinct =
    subst (λ (ks : List ℕ). filter_map (λ m. current_of rows m) ks ≡ filter_map (λ row. row.current) rows) is
    (currents_after [] rows (subst (IsDistinct nat_eq) (sym is) distinct))

-- what arises in what these members' rows hold
abbrev pub arisen_among : ℕ → List Row → LastReport → List ℕ → Option Report
arisen_among quorum rows last ms = option_map report_of (find (arises_in quorum rows last) (filter_map (λ m. current_of rows m) ms))

-- a member whose row holds nothing, or nothing that arises, is passed over
pub passed_over : (quorum : ℕ) (rows : List Row) (last : LastReport) (ms : List ℕ) (i m d : ℕ) → i < length ms → get_or ms i d ≡ m → IfSome (current_of rows m) (λ v. arises_in quorum rows last v ≡ false) →
    arisen_among quorum rows last (drop (i + 1) ms) ≡ arisen_among quorum rows last (drop i ms)
passed_over quorum rows last ms i m d within is passes =
    sym (ap (arisen_among quorum rows last) (drop_more ms i d within ∙ ap (λ (k : ℕ). k ∷ drop (i + 1) ms) is) ∙ ap (option_map report_of) (over (current_of rows m) passes))
  where
    over : (o : Option Validation) → IfSome o (λ v. arises_in quorum rows last v ≡ false) →
        find (arises_in quorum rows last) (cons_option o (filter_map (λ k. current_of rows k) (drop (i + 1) ms))) ≡ find (arises_in quorum rows last) (filter_map (λ k. current_of rows k) (drop (i + 1) ms))
    over None passes = refl
    over (Some v) passes = cond-false (arises_in quorum rows last v) (Some v) _ passes

-- and one whose row holds what arises is found
pub found_there : (quorum : ℕ) (rows : List Row) (last : LastReport) (ms : List ℕ) (i m d : ℕ) (v : Validation) → i < length ms → get_or ms i d ≡ m → current_of rows m ≡ Some v → arises_in quorum rows last v ≡ true →
    arisen_among quorum rows last (drop i ms) ≡ Some (report_of v)
found_there quorum rows last ms i m d v within is holds arises =
    ap (arisen_among quorum rows last) (drop_more ms i d within ∙ ap (λ (k : ℕ). k ∷ drop (i + 1) ms) is)
    ∙ ap (λ (o : Option Validation). option_map report_of (find (arises_in quorum rows last) (cons_option o (filter_map (λ k. current_of rows k) (drop (i + 1) ms))))) holds
    ∙ ap (option_map report_of) (cond-true (arises_in quorum rows last v) (Some v) _ arises)

-- THE NODE THEN

-- what the new rows hold is current
relisted_current : (second : ℕ) (ms : List ℕ) (rows : List Row) → All (IsCurrent second) rows → All (IsCurrent second) (relisted ms rows)
relisted_current second [] rows each = All-nil (IsCurrent second)
relisted_current second (m ∷ ms) rows each = All-cons (IsCurrent second) (row_for rows m) (relisted ms rows) (kept rows each) (relisted_current second ms rows each)
  where
    kept : (rs : List Row) → All (IsCurrent second) rs → IsCurrent second (row_for rs m)
    kept [] each = tt
    kept (r ∷ rs) each =
        cond_both (r.member == m) (Some r) (row_of rs m) (λ o. IsCurrent second (unwrap_or o (empty_row m)))
        (λ _. All-head (IsCurrent second) r rs each) (λ _. kept rs (All-tail (IsCurrent second) r rs each))

-- it is ready
pub list_ready : (n : Node) (list : TrustedList) (rows : List Row) (round : Round) (report : Option Report) → IsReady n → IsValid list → HasKeys n.keys list.members → rows ≡ relisted list.members n.rows →
    round.setting ≡ n.round.setting → report ≡ arisen_in list.quorum rows (over_another_list n.last) →
    IsReady (record n { list = list; rows = rows; round = round; last = last_after (over_another_list n.last) report })
list_ready n list rows round report ready valid keyed rows_are setting report_is =
    subst (λ (o : Option Report). IsReady (record n { list = list; rows = rows; round = round; last = last_after (over_another_list n.last) o })) (sym report_is)
    (subst (λ (rs : List Row). IsReady (record n { list = list; rows = rs; round = round; last = last_after (over_another_list n.last) (arisen_in list.quorum rs (over_another_list n.last)) })) (sym rows_are)
    (let rest = set_rest n list valid in
    record {
      rest = record { valid = rest.valid; members = rest.members; reported = rest.reported };
      keyed = record { own = ready.keyed.own; listed = keyed };
      time = ready.time;
      current = relisted_current (second_of n) list.members n.rows ready.current;
      known = subst (λ s. s.previous < length n.ledgers.headers) (sym setting) ready.known;
    }))

abbrev so : Node → TrustedList → List Row → Round → Option Report → Reply
so n list rows round o = list_reply (Ok o) (record n { list = list; rows = rows; round = round; last = last_after (over_another_list n.last) o })
