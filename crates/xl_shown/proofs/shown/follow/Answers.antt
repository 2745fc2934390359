-- a right entry shows what the core's step says
use Rattle.std.proofs.Common.{◌≡◌, ◌∙◌, ℕ, List, ap, sym, subst, refl, true, Option, Some, None}
use Rattle.std.proofs.lemmas.Bool.{cond-true}
use Rattle.xl_lists.specs.declared.said.SaidLedger.{SaidLedger}
use Rattle.xl_core.specs.Core.{Core}
use Rattle.xl_core.specs.Deeds.{answer_of}
use Rattle.xl_core.specs.Node.{Node}
use Rattle.xl_core.specs.declared.last.LastReport.{LastReport}
use Rattle.xl_core.specs.declared.report.Report.{Report}
use Rattle.xl_store.specs.declared.entry.Entry.{Entry}
use Rattle.xl_store.specs.Entries.{reply_of}
use Rattle.xl_audit.specs.Laws.{written_with}
use Rattle.xl_audit.specs.Rights.{is_right}
use Rattle.xl_shown.specs.Showing.{MayHear, arisen_between, frame_in, given_in, heard_in, issued_in, shown_of}
use Rattle.xl_shown.specs.declared.hearing.Heard.{Heard}
use Rattle.xl_shown.specs.declared.shown.Shown.{Shown}
use Rattle.xl_shown.proofs.Answering.{heard_told}
use Rattle.xl_shown.proofs.Showing.{arisen_is, issued_is}
use Rattle.xl_shown.proofs.shown.follow.Goals as goal

abbrev shown_with : ℕ → List ℕ → Option Heard → Option SaidLedger → Option Report → List ℕ → Shown
shown_with me frame heard issued report given =
    record { me = me; frame = frame; heard = heard; issued = issued; report = report; given = given }

same : (m n : ℕ) (f g : List ℕ) (h k : Option Heard) (i j : Option SaidLedger) (r q : Option Report) (x y : List ℕ)
    → m ≡ n → f ≡ g → h ≡ k → i ≡ j → r ≡ q → x ≡ y → Some (shown_with m f h i r x) ≡ Some (shown_with n g k j q y)
same m n f g h k i j r q x y a b e d o p = rw (a, b, e, d, o, p) refl

pub returns-clause-shown : goal.returns-clause-shown
returns-clause-shown c =
    let core : Core = c.args.auditor.now in
    let e : Entry = c.args.entry in
    let right : c.in_ok-judge.field-0 ≡ true = c.if-not-branch.false in
    let after : c.core-4.result.now ≡ (reply_of core e).core = c.core-4.ensures ∙ c.in_ok-judge.ensures.core right in
    let me = c.me-me.ensures ∙ (ap (λ (n : Node). n.me) c.node.ensures.value ∙ ap (λ (k : Core). k.node.me) c.core.ensures) in
    let before = c.last.ensures ∙ (ap (λ (n : Node). n.last) c.node-2.ensures.value ∙ ap (λ (k : Core). k.node.last) c.core-2.ensures) in
    let now_last = c.last-2.ensures ∙ (ap (λ (n : Node). n.last) c.node-3.ensures.value ∙ ap (λ (k : Core). k.node.last) after) in
    same c.me-me.result core.node.me c.frame_in.result (frame_in e.event) c.heard_by_answer.result (heard_in core e.event)
    c.issued.result _ c.arisen.result _ c.in_ok-given_in.field-0 (given_in e.event c.args.reply.now) me c.frame_in.ensures
    (c.heard_by_answer.ensures
    ∙ heard_told core e.event e.outcome c.heard_if_sealed-may_hear.result (answer_of c.judge.new.answer)
    (subst (λ (k : Core). MayHear k e.event c.heard_if_sealed-may_hear.result) c.core-3.ensures c.heard_if_sealed-may_hear.ensures)
    (c.in_ok-judge.ensures.told right))
    (c.issued.ensures ∙ (ap (λ m. issued_in m e.event (answer_of c.judge.new.answer)) me
    ∙ issued_is core.node.me e.event (answer_of c.judge.new.answer) (reply_of core e).answer (c.in_ok-judge.ensures.told right)))
    (c.arisen.ensures ∙ (ap (λ (l : LastReport). arisen_between l.report c.last-2.result.now.report) before
    ∙ (ap (λ (l : LastReport). arisen_between core.node.last.report l.report) now_last ∙ arisen_is core e.event e.outcome)))
    c.in_ok-given_in.ensures
    ∙ sym (cond-true (is_right core (written_with e c.args.reply.now)) (Some (shown_of core (written_with e c.args.reply.now))) None
    (sym c.in_ok-judge.ensures.value ∙ right))
