-- The law of reports: a report arises exactly if a quorum holds what is new, and sequences rise between two changes of
-- the list.
use Rattle.std.proofs.Common.{◌≡◌, ℕ, zero, suc, Bool, ◌+◌, ◌<◌, ◌≤◌, true, false, List, [], ◌∷◌, ◌++◌, get_or, refl, arith, ap, sym, ◌∙◌, inl, inr, Option, Some, None, subst}
use Rattle.std.specs.Prelude.{◌==◌, ◌&&◌, ◌||◌, not, All, IfSome, map, find, filter_map, option_map, option_to_list, nat_lt}
use Rattle.std.specs.Option.{is_none}
use Rattle.std.specs.List.Sorted.{IsStrictlyIncreasing}
use Rattle.std.proofs.lemmas.Bool.{and_parts, and_from, or_cases, or_left, or_right, cond_both, eqb-true, eq-eqb, ltb-true, lt-ltb, false_from_ne_true}
use Rattle.std.proofs.lemmas.List.Elements.{All-cons, All-nil, All-map, All-weaker}
use Rattle.xl_base.specs.Ids.{same_id}
use Rattle.xl_base.specs.declared.ids.LedgerId.{LedgerId}
use Rattle.xl_lists.specs.Lists.{TrustedList}
use Rattle.xl_lists.proofs.Agreement.{same_id-true, same_id_itself}
use Rattle.xl_wire.specs.declared.validation.Validation.{Validation}
use Rattle.xl_validations.specs.Rows.{count_full}
use Rattle.xl_ledger.specs.declared.header.Header.{Header}
use Rattle.xl_ledger.specs.Headers.{header_id}
use Rattle.xl_rounds.specs.Rounds.{is_proposing}
use Rattle.xl_core.specs.Answers.{Answer, Took, Done}
use Rattle.xl_core.specs.declared.hearing.Speech.{Speech}
use Rattle.xl_core.specs.declared.hearing.Speech.TheVariants as speech
use Rattle.xl_core.specs.declared.item.Item.TheVariants.{Tx}
use Rattle.xl_core.specs.declared.last.LastReport.{LastReport}
use Rattle.xl_core.specs.declared.refusal.Refusal.{Refusal}
use Rattle.xl_core.specs.declared.refusal.Refusal.TheVariants.{NotAfter}
use Rattle.xl_core.specs.declared.report.Report.{Report}
use Rattle.xl_core.specs.declared.taken.Taken.TheVariants.{Validation as TakenValidation}
use Rattle.xl_core.specs.Lasts.{is_news, last_after}
use Rattle.xl_core.specs.Lives.{Happening, SetNoList, sets_list, node_after, reports_in, last_of, set_then, set_after, IsNew, ReportsArise, ReportsRise}
use Rattle.xl_core.specs.Node.{Node, Event, Issue, Frame, Timer, Submit, Relist, Quiet, Reply, Save, issued_unless_off, opened_node, happens, issued_reply, issuing_reply, reply_with, reply_unless, timer_reply, timer_outcome, validates, validating_built, with_tx, with_list, with_saved, refusing_reply, reporting_reply, with_taken, arises, new_report, report_of, taken_reply, bytes_reply, at_moment, second_of, own_validation, key_refusal}
use Rattle.xl_core.specs.Issuing.Save.{Kept, Failed}
use Rattle.xl_core.specs.Rest.{IsAtRest}
use Rattle.xl_core.proofs.Answered.{few_rows}
use Rattle.xl_core.proofs.Arising.{held_once, parts_of, same_report}
use Rattle.xl_core.proofs.Counts.{find_passes}
use Rattle.xl_core.proofs.Frames.{hearing_either}
use Rattle.xl_core.proofs.Living.{happens_rest, life_rest}
use Rattle.xl_core.proofs.Opening.{opened_at_rest}
use Rattle.xl_core.proofs.Timing.{timing_by, submit_either}

-- WHAT AN EVENT REPORTS

-- what was last reported when rows report, after an event has set the list or not
abbrev barred : LastReport → Bool → LastReport
barred last sets = record { report = last.report; relisted = last.relisted || sets }

-- a reply's report has its quorum and is news, and it is the last one then
pub record Reports (last : LastReport) (sets : Bool) (reply : Reply) : Type 0 where
  pub last_is : reply.node.last ≡ last_after (barred last sets) reply.report
  pub quorum : IfSome reply.report (λ r. reply.node.list.quorum ≤ count_full r.seq r.id reply.node.rows)
  pub news : IfSome reply.report (λ r. is_news (barred last sets) r.seq r.id ≡ true)

or-false : (b : Bool) → (b || false) ≡ b
or-false true = refl
or-false false = refl

or-true : (b : Bool) → (b || true) ≡ true
or-true true = refl
or-true false = refl

unbarred : (last : LastReport) → last ≡ barred last false
unbarred last = ap (λ (b : Bool). let l : LastReport = record { report = last.report; relisted = b } in l) (sym (or-false last.relisted))

-- nothing is reported
quiet : (last : LastReport) (reply : Reply) → reply.node.last ≡ last → reply.report ≡ None → Reports last false reply
quiet last reply same none = record {
  last_is = same ∙ unbarred last ∙ sym (ap (last_after (barred last false)) none);
  quorum = subst (λ o. IfSome o (λ r. reply.node.list.quorum ≤ count_full r.seq r.id reply.node.rows)) (sym none) tt;
  news = subst (λ o. IfSome o (λ r. is_news (barred last false) r.seq r.id ≡ true)) (sym none) tt;
}

-- a fact of what is found is one of its report
mapped : (P : Report → Type 0) (o : Option Validation) → IfSome o (λ v. P (report_of v)) → IfSome (option_map report_of o) P
mapped P None h = tt
mapped P (Some v) h = h

if_some : {X : Type 0} (P Q : X → Type 0) → ((x : X) → P x → Q x) → (o : Option X) → IfSome o P → IfSome o Q
if_some P Q h None p = tt
if_some P Q h (Some x) p = h x p

-- rows report
rows_report : (last : LastReport) (sets : Bool) (m : Node) (a : Answer) (issued : Option Validation) → m.last ≡ barred last sets → Reports last sets (reporting_reply m a issued)
rows_report last sets m a issued same =
    let passes = find_passes (arises m) (filter_map (λ row. row.current) m.rows) in
    let o : Option Validation = find (arises m) (filter_map (λ row. row.current) m.rows) in
    record {
      last_is = ap (λ l. last_after l (new_report m)) same;
      quorum = mapped (λ r. m.list.quorum ≤ count_full r.seq r.id m.rows) o
          (if_some (λ v. arises m v ≡ true) _ (λ v e. (parts_of m.list.quorum m.rows m.last v e).0) o passes);
      news = mapped (λ r. is_news (barred last sets) r.seq r.id ≡ true) o
          (if_some (λ v. arises m v ≡ true) _ (λ v e. ap (λ l. is_news l v.seq v.id) (sym same) ∙ (parts_of m.list.quorum m.rows m.last v e).1) o passes);
    }

issued_reports : (n : Node) (now : ℕ) (save : Save) (v : Validation) → Reports n.last false (issued_reply n now save v)
issued_reports n now Kept v = rows_report n.last false (with_saved n now v) Done (Some v) (unbarred n.last)
issued_reports n now (Failed count) v = quiet n.last (issued_reply n now (Failed count) v) refl refl

unless_reports : (n : Node) (off : Option ℕ) (save : Save) (v : Validation) → Reports n.last false (issued_unless_off n off save v)
unless_reports n None save v = issued_reports n (second_of n) save v
unless_reports n (Some failed) save v = quiet n.last (issued_unless_off n (Some failed) save v) refl refl

taking_reports : (n : Node) (from : ℕ) (what : Speech) → Reports n.last false (taken_reply n from what)
taking_reports n from (speech.Validation v) = rows_report n.last false (with_taken n (second_of n) from v) (Took TakenValidation) None (unbarred n.last)
taking_reports n from (speech.Header h) = quiet n.last (taken_reply n from (speech.Header h)) refl refl
taking_reports n from (speech.Proposal p) = quiet n.last (taken_reply n from (speech.Proposal p)) refl refl
taking_reports n from (speech.TxSet ids) = quiet n.last (taken_reply n from (speech.TxSet ids)) refl refl
taking_reports n from (speech.Tx tx) = quiet n.last (taken_reply n from (speech.Tx tx)) refl refl

hearing_reports : (n : Node) (bytes : List ℕ) → Reports n.last false (bytes_reply n bytes)
hearing_reports n bytes = hearing_either (Reports n.last false) n bytes (λ why. quiet n.last (refusing_reply n why) refl refl) (λ said _. taking_reports n said.from said.what)

issuing_reports : (n : Node) (seq : ℕ) (id : LedgerId) (full : Bool) (save : Save) → Reports n.last false (issuing_reply n seq id full save)
issuing_reports n seq id full save =
    cond_both (nat_lt n.kept seq) (issued_unless_off n n.failed_save save (own_validation n seq id full)) (refusing_reply n (NotAfter n.kept)) (Reports n.last false)
    (λ _. unless_reports n n.failed_save save (own_validation n seq id full)) (λ _. quiet n.last (refusing_reply n (NotAfter n.kept)) refl refl)

validating_reports : (n : Node) (h : Header) (moved_on : Bool) (save : Save) → Reports n.last false (validating_built n h moved_on save)
validating_reports n h moved_on save =
    cond_both (validates n moved_on) (issuing_reply n h.seq (header_id h) (is_proposing n.round.setting.mode) save) (reply_with n Done []) (Reports n.last false)
    (λ _. issuing_reports n h.seq (header_id h) (is_proposing n.round.setting.mode) save) (λ _. quiet n.last (reply_with n Done []) refl refl)

timer_reports : (n : Node) (save : Save) → Reports n.last false (timer_reply (timer_outcome n) save)
timer_reports n save =
    timing_by (λ t. Reports n.last false (timer_reply t save)) n
    (λ round told said. quiet n.last (timer_reply (Quiet (record n { round = round }) told said) save) refl refl)
    (λ ledgers round said h place moved_on _.
    let news = validating_reports (record n { ledgers = ledgers; round = round }) h moved_on save in record { last_is = news.last_is; quorum = news.quorum; news = news.news })

list_reports : (n : Node) (list : TrustedList) (o : Option Refusal) → Reports n.last (is_none o) (reply_unless n o (reporting_reply (with_list n list) Done None))
list_reports n list None = rows_report n.last true (with_list n list) Done None (ap (λ (b : Bool). let l : LastReport = record { report = n.last.report; relisted = b } in l) (sym (or-true n.last.relisted)))
list_reports n list (Some why) = quiet n.last (refusing_reply n why) refl refl

pub happens_reports : (n : Node) (e : Event) (save : Save) → Reports n.last (sets_list n e) (happens n e save)
happens_reports n (Issue now seq id full) save = issuing_reports (at_moment now n) seq id full save
happens_reports n (Timer now) save = timer_reports (at_moment now n) save
happens_reports n (Submit now tx) save =
    let m : Node = at_moment now n in
    submit_either (Reports n.last false) m tx (λ why. quiet n.last (refusing_reply m why) refl refl) (quiet n.last (reply_with (with_tx m tx) Done (Tx tx ∷ [])) refl refl)
happens_reports n (Frame now bytes) save = hearing_reports (at_moment now n) bytes
happens_reports n (Relist now list) save = list_reports (at_moment now n) list (key_refusal (at_moment now n) list)

-- A LIFE

-- what a node remembers of its last report after these happenings is what they say
abbrev Remembers : Node → Option Report → Bool → List Happening → Type 0
Remembers n before set hs = n.last ≡ record { report = before; relisted = set } →
    (node_after n hs).last ≡ record { report = last_of before (reports_in n hs); relisted = set_after n set hs }

last_by : (n : Node) (before : Option Report) (set : Bool) (h : Happening) (hs : List Happening) → n.last ≡ record { report = before; relisted = set } → ((m : Node) (b : Option Report) (s : Bool) → Remembers m b s hs) →
    (o : Option Report) → (happens n h.event h.save).report ≡ o →
    (node_after n (h ∷ hs)).last ≡ record { report = last_of before (reports_in n (h ∷ hs)); relisted = set_after n set (h ∷ hs) }
last_by n before set h hs same rest None none =
    let m : Node = (happens n h.event h.save).node in
    let sets : Bool = sets_list n h.event in
    let is : m.last ≡ record { report = before; relisted = set || sets } = (happens_reports n h.event h.save).last_is ∙ ap (last_after (barred n.last sets)) none ∙ ap (λ l. barred l sets) same in
    rest m before (set || sets) is ∙ ap (λ (o : Option Report). let l : LastReport = record { report = last_of before (option_to_list o ++ reports_in m hs); relisted = set_after m (set_then set sets o) hs } in l) (sym none)
last_by n before set h hs same rest (Some r) some =
    let m : Node = (happens n h.event h.save).node in
    let sets : Bool = sets_list n h.event in
    let is : m.last ≡ record { report = Some r; relisted = false } = (happens_reports n h.event h.save).last_is ∙ ap (last_after (barred n.last sets)) some in
    rest m (Some r) false is ∙ ap (λ (o : Option Report). let l : LastReport = record { report = last_of before (option_to_list o ++ reports_in m hs); relisted = set_after m (set_then set sets o) hs } in l) (sym some)

last_then : (n : Node) (before : Option Report) (set : Bool) (life : List Happening) → Remembers n before set life
last_then n before set [] same = same
last_then n before set (h ∷ hs) same = last_by n before set h hs same (λ m b s. last_then m b s hs) (happens n h.event h.save).report refl

-- what is news is new, and the other way round
new_of : (before : Option Report) (set : Bool) (r : Report) → is_news (record { report = before; relisted = set }) r.seq r.id ≡ true → IsNew before set r
new_of None set r news = tt
new_of (Some l) set r news =
    elim (or_cases (nat_lt l.seq r.seq) (set && not (l.seq == r.seq && same_id l.id r.id)) news) [
      | inl above ↦ inl (ltb-true l.seq r.seq above)
      | inr other ↦
          let parts = and_parts set (not (l.seq == r.seq && same_id l.id r.id)) other in
          inr (
            parts.0,
            λ same.
                let itself : (l.seq == r.seq && same_id l.id r.id) ≡ true = and_from _ _ (eq-eqb l.seq r.seq (ap (λ (x : Report). x.seq) same)) (subst (λ (x : Report). same_id l.id x.id ≡ true) same (same_id_itself l.id)) in
                let never : false ≡ true = sym (ap not itself) ∙ parts.1 in
                cc,
          )
    ]

news_of : (before : Option Report) (set : Bool) (r : Report) → IsNew before set r → is_news (record { report = before; relisted = set }) r.seq r.id ≡ true
news_of None set r new = refl
news_of (Some l) set r new =
    elim new [
      | inl above ↦ or_left (nat_lt l.seq r.seq) _ (lt-ltb l.seq r.seq above)
      | inr (was_set, differs) ↦
          let apart : (l.seq == r.seq && same_id l.id r.id) ≡ false = false_from_ne_true (l.seq == r.seq && same_id l.id r.id) (λ itself.
          let parts = and_parts (l.seq == r.seq) (same_id l.id r.id) itself in
          differs (same_report l.seq r.seq l.id r.id (eqb-true l.seq r.seq parts.0) (same_id-true l.id r.id parts.1))) in
          or_right (nat_lt l.seq r.seq) _ (and_from set (not (l.seq == r.seq && same_id l.id r.id)) was_set (ap not apart))
    ]

-- THE LAW

-- a report that has its quorum and is news arises
arises_now : (n : Node) (last : LastReport) (sets : Bool) (reply : Reply) (r : Report) → IsAtRest reply.node → Reports last sets reply → reply.node.list.quorum ≤ count_full r.seq r.id reply.node.rows →
    is_news (barred last sets) r.seq r.id ≡ true → (o : Option Report) → reply.report ≡ o → reply.report ≡ Some r
arises_now n last sets reply r rest is enough news None none =
    let still : reply.node.last ≡ barred last sets = is.last_is ∙ ap (last_after (barred last sets)) none in
    let never : true ≡ false = sym news ∙ (ap (λ l. is_news l r.seq r.id) (sym still) ∙ rest.reported r.seq r.id enough) in
    cc
arises_now n last sets reply r rest is enough news (Some q) some =
    let also : reply.node.list.quorum ≤ count_full q.seq q.id reply.node.rows = subst (λ o. IfSome o (λ x. reply.node.list.quorum ≤ count_full x.seq x.id reply.node.rows)) some is.quorum in
    let same = held_once reply.node.list.quorum reply.node.rows (few_rows reply.node reply.node.rows rest.valid rest.members) q.seq r.seq q.id r.id also enough in
    some ∙ ap (λ x. Some x) (same_report q.seq r.seq q.id r.id same.0 same.1)

pub reports_arise : ReportsArise
reports_arise settings now kept life next r valid fit next_fit =
    let first : Node = opened_node settings now kept in
    let n : Node = node_after first life in
    let reply : Reply = happens n next.event next.save in
    let sets : Bool = sets_list n next.event in
    let before : Option Report = last_of None (reports_in first life) in
    let set : Bool = set_after first false life in
    let last : n.last ≡ record { report = before; relisted = set } = last_then first None false life refl in
    let is : Reports n.last sets reply = happens_reports n next.event next.save in
    let rest : IsAtRest reply.node = happens_rest n next.event next.save next_fit (life_rest first life fit (opened_at_rest settings now kept valid)) in (
      λ arises. (
        subst (λ o. IfSome o (λ x. reply.node.list.quorum ≤ count_full x.seq x.id reply.node.rows)) arises is.quorum,
        new_of before (set || sets) r (ap (λ l. is_news (barred l sets) r.seq r.id) (sym last) ∙ subst (λ o. IfSome o (λ x. is_news (barred n.last sets) x.seq x.id ≡ true)) arises is.news),
      ),
      λ (enough, new). arises_now n n.last sets reply r rest is enough (ap (λ l. is_news (barred l sets) r.seq r.id) last ∙ news_of before (set || sets) r new) reply.report refl,
    )

-- RISING

rising_cons : (y : ℕ) (xs : List ℕ) → IsStrictlyIncreasing xs → All (λ x. y < x) xs → IsStrictlyIncreasing (y ∷ xs)
rising_cons y xs rising above zero within = above 0 0 (omega (arith, within))
rising_cons y xs rising above (suc k) within =
    subst (λ (j : ℕ). get_or xs k 0 < get_or (y ∷ xs) j 0) {x = suc (k + 1)} {y = suc k + 1} (omega arith) (rising k (omega (arith, within)))

-- what is reported after a report, while no list is set, is above it
pub record Rises (last : LastReport) (reports : List Report) : Type 0 where
  pub rising : IsStrictlyIncreasing (map (λ r. r.seq) reports)
  pub above : (l : Report) → last ≡ record { report = Some l; relisted = false } → All (λ r. l.seq < r.seq) reports

first_above : (l r : Report) → is_news (record { report = Some l; relisted = false }) r.seq r.id ≡ true → l.seq < r.seq
first_above l r news =
    elim (or_cases (nat_lt l.seq r.seq) false news) [
      | inl above ↦ ltb-true l.seq r.seq above
      | inr never ↦ absurd cc
    ]

-- a report, or none, and then what rises
comes_first : (last after : LastReport) (o : Option Report) (more : List Report) → after ≡ last_after last o → Rises after more → IsStrictlyIncreasing (map (λ r. r.seq) (option_to_list o ++ more))
comes_first last after None more same rises = rises.rising
comes_first last after (Some r) more same rises = rising_cons r.seq (map (λ q. q.seq) more) rises.rising (All-map (λ x. r.seq < x) (λ q. q.seq) more (rises.above r same))

above_both : (l : Report) (last after : LastReport) (o : Option Report) (more : List Report) → after ≡ last_after last o → IfSome o (λ r. is_news last r.seq r.id ≡ true) → Rises after more → last ≡ record { report = Some l; relisted = false } →
    All (λ r. l.seq < r.seq) (option_to_list o ++ more)
above_both l last after None more same news rises is = rises.above l (same ∙ is)
above_both l last after (Some r) more same news rises is =
    let low : l.seq < r.seq = first_above l r (ap (λ x. is_news x r.seq r.id) (sym is) ∙ news) in
    All-cons (λ q. l.seq < q.seq) r more low (All-weaker (λ q. r.seq < q.seq) (λ q. l.seq < q.seq) (λ q h. omega (arith, low, h)) more (rises.above r same))

rises_in : (n : Node) (life : List Happening) → SetNoList n life → Rises n.last (reports_in n life)
rises_in n [] none = record { rising = λ k within. absurd (omega (arith, within)); above = λ l _. All-nil (λ r. l.seq < r.seq) }
rises_in n (h ∷ hs) none =
    let reply : Reply = happens n h.event h.save in
    let is : Reports n.last false reply = subst (λ b. Reports n.last b reply) none.0 (happens_reports n h.event h.save) in
    let bar : barred n.last false ≡ n.last = sym (unbarred n.last) in
    let after : reply.node.last ≡ last_after n.last reply.report = is.last_is ∙ ap (λ l. last_after l reply.report) bar in
    let news : IfSome reply.report (λ r. is_news n.last r.seq r.id ≡ true) = subst (λ l. IfSome reply.report (λ r. is_news l r.seq r.id ≡ true)) bar is.news in
    let rest : Rises reply.node.last (reports_in reply.node hs) = rises_in reply.node hs none.1 in
    record {
      rising = comes_first n.last reply.node.last reply.report (reports_in reply.node hs) after rest;
      above = λ l same. above_both l n.last reply.node.last reply.report (reports_in reply.node hs) after news rest same;
    }

pub reports_rise : ReportsRise
reports_rise settings now kept life first more none =
    let n : Node = node_after (opened_node settings now kept) life in
    let reply : Reply = happens n first.event first.save in
    let is = happens_reports n first.event first.save in
    comes_first (barred n.last (sets_list n first.event)) reply.node.last reply.report (reports_in reply.node more) is.last_is (rises_in reply.node more none)
