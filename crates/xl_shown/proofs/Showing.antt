-- What an entry shows, by the core's step.
use Rattle.std.proofs.Common.{◌≡◌, ℕ, Bool, true, false, refl, ap, ◌∙◌, arith, Option, Some, None}
use Rattle.std.specs.Prelude.{◌==◌, ◌&&◌, ◌||◌, not, nat_lt, IfSome}
use Rattle.std.proofs.lemmas.Bool.{cond-true, cond-false, eqb-true}
use Rattle.xl_base.specs.Ids.{same_id}
use Rattle.xl_lists.proofs.Agreement.{same_id_itself}
use Rattle.xl_core.specs.Answers.{Answer}
use Rattle.xl_core.specs.Core.{Core}
use Rattle.xl_core.specs.Lasts.{is_news, last_after}
use Rattle.xl_core.specs.Lives.{sets_list}
use Rattle.xl_core.specs.Node as nodes
use Rattle.xl_core.specs.Node.{Node, happens}
use Rattle.xl_core.specs.declared.event.CoreEvent.{CoreEvent}
use Rattle.xl_core.specs.declared.event.CoreEvent.TheVariants.{Issue, Frame, Timer, Submit, Relist}
use Rattle.xl_core.specs.declared.last.LastReport.{LastReport}
use Rattle.xl_core.specs.declared.report.Report.{Report}
use Rattle.xl_core.proofs.Reporting.{happens_reports}
use Rattle.xl_store.specs.declared.entry.Saved.{Saved}
use Rattle.xl_store.specs.Entries.{entry_of, reply_of, save_of}
use Rattle.xl_audit.specs.Leading.{IsDeed}
use Rattle.xl_shown.specs.Showing.{issued_in, same_report, arisen_between}

-- THE REPORT THAT ARISES

same_itself : (o : Option Report) → same_report o o ≡ true
same_itself None = refl
same_itself (Some r) = same_pair (r.seq == r.seq) (same_id r.id r.id) (itself r.seq) (same_id_itself r.id)
  where
    same_pair : (a b : Bool) → a ≡ true → b ≡ true → (a && b) ≡ true
    same_pair true true e d = refl
    same_pair true false e d = cc
    same_pair false b e d = cc

    itself : (n : ℕ) → (n == n) ≡ true
    itself n = grind (arith)

none_between : (o : Option Report) → arisen_between o o ≡ None
none_between o = cond-true (same_report o o) None o (same_itself o)

-- what is news isn't the last report
news_differs : (last : LastReport) (r : Report) → is_news last r.seq r.id ≡ true → same_report last.report (Some r) ≡ false
news_differs last r = by last.report
  where
    not_both : (lt eq same relisted : Bool) → (eq ≡ true → lt ≡ false) → (lt || (relisted && not (eq && same))) ≡ true
        → (eq && same) ≡ false
    not_both lt false same relisted less e = refl
    not_both lt true false relisted less e = refl
    not_both true true true relisted less e = absurd (let no = less refl in cc)
    not_both false true true true less e = absurd cc
    not_both false true true false less e = absurd cc

    by : (o : Option Report)
        → is_news (let l : LastReport = record { report = o; relisted = last.relisted } in l) r.seq r.id ≡ true
        → same_report o (Some r) ≡ false
    by None e = refl
    by (Some q) e =
        not_both (nat_lt q.seq r.seq) (q.seq == r.seq) (same_id q.id r.id) last.relisted
        (λ eq. let same : q.seq ≡ r.seq = eqb-true q.seq r.seq eq in grind (arith)) e

-- the last report, after an event has set the list or not
abbrev barred : LastReport → Bool → LastReport
barred last sets = record { report = last.report; relisted = last.relisted || sets }

arisen_by : (last now : LastReport) (sets : Bool) (report : Option Report) → now ≡ last_after (barred last sets) report
    → IfSome report (λ r. is_news (barred last sets) r.seq r.id ≡ true) → arisen_between last.report now.report ≡ report
arisen_by last now sets None is news =
    ap (λ (l : LastReport). arisen_between last.report l.report) is ∙ none_between last.report
arisen_by last now sets (Some r) is news =
    ap (λ (l : LastReport). arisen_between last.report l.report) is
    ∙ cond-false (same_report last.report (Some r)) None (Some r) (news_differs (barred last sets) r news)

stepped_arisen : (n : Node) (e : nodes.Event) (save : nodes.Save)
    → arisen_between n.last.report (happens n e save).node.last.report ≡ (happens n e save).report
stepped_arisen n e save =
    let is = happens_reports n e save in
    arisen_by n.last (happens n e save).node.last (sets_list n e) (happens n e save).report is.last_is is.news

pub arisen_is : (core : Core) (event : CoreEvent) (outcome : Option Saved)
    → let r = reply_of core (entry_of event outcome) in
    arisen_between core.node.last.report r.core.node.last.report ≡ r.report
arisen_is core (Issue now seq id full) outcome = stepped_arisen core.node (nodes.Issue now seq id full) (save_of outcome)
arisen_is core (Frame now bytes) outcome = stepped_arisen core.node (nodes.Frame now bytes) (save_of outcome)
arisen_is core (Timer now) outcome = stepped_arisen core.node (nodes.Timer now) (save_of outcome)
arisen_is core (Submit now tx) outcome = stepped_arisen core.node (nodes.Submit now tx) (save_of outcome)
arisen_is core (Relist now list) outcome = stepped_arisen core.node (nodes.Relist now list) (save_of outcome)
arisen_is core other outcome = none_between core.node.last.report

-- THE VALIDATION THAT IS ISSUED

-- it is told by what the core's step answers
pub issued_is : (me : ℕ) (event : CoreEvent) (told said : Answer) → (IsDeed event → told ≡ said)
    → issued_in me event told ≡ issued_in me event said
issued_is me (Issue now seq id full) told said is = ap (issued_in me (Issue now seq id full)) (is tt)
issued_is me (Timer now) told said is = ap (issued_in me (Timer now)) (is tt)
issued_is me other told said is = refl
