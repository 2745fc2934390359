-- What a life shows backs what it reports.
use Rattle.std.proofs.Common.{ℕ, List, [], ◌∷◌, ◌++◌, append_assoc, refl, arith, sym, ◌∙◌, subst, Some, None}
use Rattle.std.specs.Prelude.{◌==◌, ◌&&◌, All, IsTrue, IfSome, option_map, option_to_list, slice_index_or, Result}
use Rattle.std.specs.declared.option.Option.{Option}
use Rattle.std.proofs.lemmas.Bool.{or_left, or_right}
use Rattle.std.proofs.lemmas.List.Folds.{list_any-append}
use Rattle.std.proofs.lemmas.List.Elements.{All-append, All-cons, All-head, All-tail, All-nil, All-weaker}
use Rattle.xl_base.specs.Ids.{same_id}
use Rattle.xl_base.specs.declared.ids.LedgerId.{LedgerId}
use Rattle.xl_lists.specs.Agreement.{has_said, vouches, IsGenuine, IsBacked}
use Rattle.xl_lists.specs.Lists.{IsValid}
use Rattle.xl_lists.specs.declared.report.Report.{Report as Reported}
use Rattle.xl_lists.specs.declared.said.SaidLedger.{SaidLedger}
use Rattle.xl_lists.proofs.Agreement.{now_said}
use Rattle.xl_lists.proofs.Counting.{count_weaker}
use Rattle.xl_lists.proofs.Forking.{quorums_show}
use Rattle.xl_wire.specs.declared.validation.Validation.{Validation}
use Rattle.xl_core.specs.declared.event.CoreEvent.{CoreEvent}
use Rattle.xl_core.specs.declared.event.CoreEvent.TheVariants.{Frame}
use Rattle.xl_core.specs.declared.hearing.Spoken.{Spoken}
use Rattle.xl_core.specs.declared.refusal.Refusal.{Refusal}
use Rattle.xl_core.specs.declared.report.Report.{Report}
use Rattle.xl_core.specs.Core.{Core, CoreReply, core_happens}
use Rattle.xl_core.specs.CoreLives.{CoreHappening}
use Rattle.xl_core.specs.Node.{Node}
use Rattle.xl_core.specs.Rest.{IsAtRest}
use Rattle.xl_core.proofs.Opening.{opened_at_rest}
use Rattle.xl_world.specs.Disk.{resting}
use Rattle.xl_world.specs.Lives.{first_of, reported_over}
use Rattle.xl_world.specs.World.{IsFitEvent, said_by, reported_by}
use Rattle.xl_world.proofs.CoreSteps.{CoreHeard, core_says, opened_core_says}
use Rattle.xl_world.proofs.Lives.{core_rest, core_quorum}
use Rattle.xl_world.proofs.Runs.{heard_weaker}
use Rattle.xl_world.proofs.Seats.{Seat, IsWell, if_some, report_backed}
use Rattle.xl_world.proofs.Settling.{ReplySays, core_weaker}
use Rattle.xl_world.proofs.Standing.{CoreSays}
use Rattle.xl_evidence.specs.Evidence.{heard_by, said_so, shown_in, shown_over, shown_by, reported_in, ReportsAreShown, ForksAreShown}

-- what was said stays said, whatever is said behind it
said_more : (said more : List SaidLedger) (m s : ℕ) (id : LedgerId) → IsTrue (has_said said m s id) → IsTrue (has_said (said ++ more) m s id)
said_more said more m s id h = list_any-append (λ x. x.member == m && x.seq == s && same_id x.id id) said more ∙ or_left _ _ h

-- what is said behind it is said too
said_behind : (said more : List SaidLedger) (m s : ℕ) (id : LedgerId) → IsTrue (has_said more m s id) → IsTrue (has_said (said ++ more) m s id)
said_behind said more m s id h = list_any-append (λ x. x.member == m && x.seq == s && same_id x.id id) said more ∙ or_right _ _ h

genuine_more : (said more : List SaidLedger) (x : SaidLedger) → IsGenuine [] said x → IsGenuine [] (said ++ more) x
genuine_more said more x h = said_more said more x.member x.seq x.id h

genuine_behind : (said more : List SaidLedger) (x : SaidLedger) → IsGenuine [] more x → IsGenuine [] (said ++ more) x
genuine_behind said more x h = said_behind said more x.member x.seq x.id h

-- one thing that is said
one_said : (x : SaidLedger) → IsGenuine [] (x ∷ []) x
one_said x = now_said [] x

backed_more : (said more : List SaidLedger) (r : Reported) → IsBacked [] said r → IsBacked [] (said ++ more) r
backed_more said more r backed = record {
  once = backed.once;
  quorum = omega (arith, backed.quorum, count_weaker (vouches [] said r.seq r.id) (vouches [] (said ++ more) r.seq r.id) (λ m h. said_more said more m r.seq r.id h) r.list.members);
}

-- what is heard is shown
heard_shown : (core : Core) (e : CoreEvent) (more : List SaidLedger) → CoreHeard (IsGenuine [] (option_to_list (heard_by core e) ++ more)) core.node e
heard_shown core (Frame now bytes) more = λ from v is.
    subst (λ (r : Result Spoken Refusal). IsGenuine [] (option_to_list (said_so r) ++ more) (said_by from v)) (sym is)
    (genuine_more (said_by from v ∷ []) more (said_by from v) (one_said (said_by from v)))
heard_shown core other more = tt

-- what is issued is shown
issued_shown : (before : List SaidLedger) (me : ℕ) (o : Option Validation) →
    IfSome o (λ v. IsGenuine [] (before ++ option_to_list (option_map (said_by me) o)) (said_by me v))
issued_shown before me None = tt
issued_shown before me (Some v) = genuine_behind before (said_by me v ∷ []) (said_by me v) (one_said (said_by me v))

-- what is shown of a report
abbrev IsShown : List SaidLedger → Reported → Type 0
IsShown said r = IsValid r.list × IsBacked [] said r

shown_more : (said more : List SaidLedger) (r : Reported) → IsShown said r → IsShown (said ++ more) r
shown_more said more r shown = (shown.0, backed_more said more r shown.1)

-- what stands at the core behind a happening was shown before or is shown in it
stands_then : (seen : List SaidLedger) (core : Core) (h : CoreHappening) → CoreSays (IsGenuine [] seen) core →
    ReplySays (IsGenuine [] (seen ++ shown_in core h)) (core_happens core h.event h.save)
stands_then seen core h says =
    let r : CoreReply = core_happens core h.event h.save in
    let now : List SaidLedger = shown_in core h in
    let P : SaidLedger → Type 0 = IsGenuine [] (seen ++ now) in
    let heard : List SaidLedger = option_to_list (heard_by core h.event) in
    core_says P core h.event h.save
    (core_weaker (IsGenuine [] seen) P (genuine_more seen now) core says)
    (heard_weaker (IsGenuine [] now) P (genuine_behind seen now) core.node h.event
    (heard_shown core h.event (option_to_list (option_map (said_by core.node.me) r.issued))))
    (if_some (λ v. IsGenuine [] now (said_by core.node.me v)) (λ v. P (said_by core.node.me v))
    (λ v is. genuine_behind seen now (said_by core.node.me v) is) r.issued (issued_shown heard core.node.me r.issued))

-- the list of what is reported is one
list_valid : (n : Node) (o : Option Report) → IsValid n.list → All (λ (r : Reported). IsValid r.list) (option_to_list (option_map (reported_by n) o))
list_valid n None valid = All-nil (λ (r : Reported). IsValid r.list)
list_valid n (Some q) valid = All-cons (λ (r : Reported). IsValid r.list) (reported_by n q) [] valid (All-nil (λ (r : Reported). IsValid r.list))

both_all : (P Q : Reported → Type 0) (rs : List Reported) → All P rs → All Q rs → All (λ r. P r × Q r) rs
both_all P Q rs p q i d within = (p i d within, q i d within)

-- what a happening reports is shown by then
reply_shown : (seen : List SaidLedger) (core : Core) (h : CoreHappening) → IsAtRest core.node → IsFitEvent h.event → CoreSays (IsGenuine [] seen) core →
    let r = core_happens core h.event h.save in All (IsShown (seen ++ shown_in core h)) (option_to_list (option_map (reported_by r.core.node) r.report))
reply_shown seen core h rest fit says =
    let r : CoreReply = core_happens core h.event h.save in
    let rest' : IsAtRest r.core.node = core_rest core h.event h.save fit rest in
    let p : Seat = record { node = r.core.node; disk = resting r.core.node.kept } in
    let well : IsWell p = record { members = rest'.members; valid = rest'.valid; in_force = refl } in
    both_all (λ x. IsValid x.list) (IsBacked [] (seen ++ shown_in core h)) _
    (list_valid r.core.node r.report rest'.valid)
    (report_backed [] (seen ++ shown_in core h) p well (stands_then seen core h says).core.rows r.report (core_quorum core h.event h.save))

-- each report of happenings is shown, by what was shown before and by them
life_shown : (seen : List SaidLedger) (core : Core) (hs : List CoreHappening) → IsAtRest core.node → All (λ h. IsFitEvent h.event) hs → CoreSays (IsGenuine [] seen) core →
    All (IsShown (seen ++ shown_over core hs)) (reported_over core hs)
life_shown seen core [] rest fit says = All-nil (IsShown (seen ++ []))
life_shown seen core (h ∷ hs) rest fit says =
    let r : CoreReply = core_happens core h.event h.save in
    let now : List SaidLedger = shown_in core h in
    let later : List SaidLedger = shown_over r.core hs in
    let fit_h : IsFitEvent h.event = All-head (λ x. IsFitEvent x.event) h hs fit in
    subst (λ (l : List SaidLedger). All (IsShown l) (reported_over core (h ∷ hs))) (append_assoc seen now later)
    (All-append (IsShown ((seen ++ now) ++ later)) (option_to_list (option_map (reported_by r.core.node) r.report)) (reported_over r.core hs)
    (All-weaker (IsShown (seen ++ now)) (IsShown ((seen ++ now) ++ later)) (shown_more (seen ++ now) later) _ (reply_shown seen core h rest fit_h says))
    (life_shown (seen ++ now) r.core hs (core_rest core h.event h.save fit_h rest) (All-tail (λ x. IsFitEvent x.event) h hs fit) (stands_then seen core h says).core))

pub reports_are_shown : ReportsAreShown
reports_are_shown l fit =
    life_shown [] (first_of l) l.happenings (opened_at_rest l.settings l.moment l.kept fit.list) fit.fit (opened_core_says (IsGenuine [] []) l.settings l.moment l.kept)

pub forks_are_shown : ForksAreShown
forks_are_shown here there fit_here fit_there i d i_in j e j_in =
    let r : Reported = slice_index_or (reported_in here) i d in
    let q : Reported = slice_index_or (reported_in there) j e in
    let by_r = reports_are_shown here fit_here i d i_in in
    let by_q = reports_are_shown there fit_there j e j_in in
    quorums_show r.list q.list (λ m. has_said (shown_by here) m r.seq r.id) (λ m. has_said (shown_by there) m q.seq q.id)
    by_r.0 by_q.0 by_r.1.quorum by_q.1.quorum
