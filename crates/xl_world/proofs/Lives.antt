-- Lives in which nothing forged comes agree in what they report.
use Rattle.std.proofs.Common.{◌≡◌, ℕ, Bool, true, false, List, [], ◌∷◌, ◌++◌, refl, arith, ap, sym, ◌∙◌, subst, inl, inr, Option, Some, None, Ok}
use Rattle.std.specs.Prelude.{◌==◌, ◌&&◌, ◌||◌, ◌⊎◌, ◌≤◌, All, Contains, IsTrue, IfOk, IfSome, map, count_by, nat_eq, option_map, option_to_list, slice_index_or, Result}
use Rattle.std.specs.List.{IsDistinct}
use Rattle.std.proofs.lemmas.Bool.{and_from, and_parts, cases_Bool, eq-eqb, eqb-true, or_left, or_right}
use Rattle.std.proofs.lemmas.List.Elements.{All-append, All-cons, All-contains, All-head, All-nil, All-tail, All-weaker}
use Rattle.xl_base.specs.declared.ids.LedgerId.{LedgerId}
use Rattle.xl_lists.specs.Agreement.{has_said, vouches}
use Rattle.xl_lists.specs.Lists.{is_on}
use Rattle.xl_lists.specs.Quorums.{Enough}
use Rattle.xl_lists.specs.declared.report.Report.{Report as Reported}
use Rattle.xl_lists.specs.declared.said.SaidLedger.{SaidLedger}
use Rattle.xl_lists.proofs.Agreement.{same_id-true, same_id_itself}
use Rattle.xl_lists.proofs.Counting.{count_image, quorums_share}
use Rattle.xl_wire.specs.declared.validation.Validation.{Validation}
use Rattle.xl_validations.specs.Rows.{is_full_of, count_full}
use Rattle.xl_validations.specs.declared.row.Row.{Row}
use Rattle.xl_tags.specs.Rings.{Ring}
use Rattle.xl_core.specs.declared.event.CoreEvent.{CoreEvent}
use Rattle.xl_core.specs.declared.event.CoreEvent.TheVariants.{Frame}
use Rattle.xl_core.specs.declared.hearing.Speech.TheVariants as speech
use Rattle.xl_core.specs.declared.hearing.Spoken.{Spoken}
use Rattle.xl_core.specs.declared.refusal.Refusal.{Refusal}
use Rattle.xl_core.specs.declared.report.Report.{Report}
use Rattle.xl_core.specs.Answers.{Answer, Gave, given_in}
use Rattle.xl_core.specs.Core.{Core, CoreReply, core_happens}
use Rattle.xl_core.specs.CoreLives.{CoreHappening, given_over}
use Rattle.xl_core.specs.Hearing.{spoken_in}
use Rattle.xl_core.specs.Node.{Node, Save}
use Rattle.xl_core.specs.Rest.{IsAtRest}
use Rattle.xl_core.proofs.Heard.{heard_parts, not_itself}
use Rattle.xl_core.proofs.Living.{happens_rest}
use Rattle.xl_core.proofs.Beside.{node_or_beside}
use Rattle.xl_core.specs.Lives.{IsFitEvent as IsFitForNode}
use Rattle.xl_core.proofs.Opening.{opened_at_rest}
use Rattle.xl_core.proofs.Reporting.{happens_reports}
use Rattle.xl_world.specs.Lives.{Life, first_of, given_by, issued_over, issued_by, reported_over, reports_of, IsUnforged, AreUnforged, IsLife, AreLives, HeadlineOfLives}
use Rattle.xl_world.specs.Sending.{Sent}
use Rattle.xl_world.specs.World.{IsFitEvent, said_by, reported_by, sent_in}
use Rattle.xl_world.proofs.CoreSteps.{CoreHeard, core_says, opened_core_says}
use Rattle.xl_world.proofs.Keeping.{core_keeps}
use Rattle.xl_world.proofs.Rising.{lives_say_once}
use Rattle.xl_world.proofs.Settling.{ReplySays}
use Rattle.xl_world.proofs.Speaking.{heard_said}
use Rattle.xl_world.proofs.Standing.{CoreSays, FrameSays, RowSays, said_in}

-- LISTS

all_left : {X : Type 0} (P : X → Type 0) (xs ys : List X) → All P (xs ++ ys) → All P xs
all_left P [] ys each = All-nil P
all_left P (x ∷ xs) ys each = All-cons P x xs (All-head P x (xs ++ ys) each) (all_left P xs ys (All-tail P x (xs ++ ys) each))

all_right : {X : Type 0} (P : X → Type 0) (xs ys : List X) → All P (xs ++ ys) → All P ys
all_right P [] ys each = each
all_right P (x ∷ xs) ys each = all_right P xs ys (All-tail P x (xs ++ ys) each)

-- what is said in a list is said in it
abbrev IsSaid : List SaidLedger → SaidLedger → Type 0
IsSaid said x = IsTrue (has_said said x.member x.seq x.id)

each_said : (xs : List SaidLedger) → All (IsSaid xs) xs
each_said [] = All-nil (IsSaid [])
each_said (x ∷ xs) =
    All-cons (IsSaid (x ∷ xs)) x xs
    (or_left _ _ (and_from _ _ (and_from _ _ (eq-eqb x.member x.member refl) (eq-eqb x.seq x.seq refl)) (same_id_itself x.id)))
    (All-weaker (IsSaid xs) (IsSaid (x ∷ xs)) (λ y h. or_right _ _ h) xs (each_said xs))

-- what is said in one step, and later
issued_first : (Q : SaidLedger → Type 0) (me : ℕ) (o : Option Validation) (more : List SaidLedger) → All Q (option_to_list (option_map (said_by me) o) ++ more) →
    IfSome o (λ v. Q (said_by me v)) × All Q more
issued_first Q me None more each = (tt, each)
issued_first Q me (Some v) more each = (All-head Q (said_by me v) more each, All-tail Q (said_by me v) more each)

if_some : {X : Type 0} (P Q : X → Type 0) → ((x : X) → P x → Q x) → (o : Option X) → IfSome o P → IfSome o Q
if_some P Q h None p = tt
if_some P Q h (Some x) p = h x p

-- WHAT IS GIVEN

abbrev BytesSay : (SaidLedger → Type 0) → List ℕ → Type 0
BytesSay P bytes = IfSome (said_in bytes) P

unmapped : (P : SaidLedger → Type 0) (from to : ℕ) (frames : List (List ℕ)) → All (FrameSays P) (map (λ bytes. let f : Sent = record { from = from; to = to; bytes = bytes } in f) frames) → All (BytesSay P) frames
unmapped P from to [] each = All-nil (BytesSay P)
unmapped P from to (x ∷ xs) each = All-cons (BytesSay P) x xs (All-head (FrameSays P) _ _ each) (unmapped P from to xs (All-tail (FrameSays P) _ _ each))

given_of : (P : SaidLedger → Type 0) (from : ℕ) (a : Answer) → All (FrameSays P) (sent_in from a) → All (BytesSay P) (given_in a)
given_of P from (Gave to frames) each = unmapped P from to frames each
given_of P from other each = All-nil (BytesSay P)

-- if it is of the node's own number
abbrev OwnSays : (SaidLedger → Type 0) → ℕ → SaidLedger → Type 0
OwnSays Q i x = x.member ≡ i → Q x

-- a node hears nothing under its own number
heard_others : (Q : SaidLedger → Type 0) (i : ℕ) (n : Node) (e : CoreEvent) → n.keys.me ≡ i → CoreHeard (OwnSays Q i) n e
heard_others Q i n (Frame now bytes) keys = λ from v is same. absurd (not_itself n.keys n.list.members bytes (record { from = from; what = speech.Validation v }) is (same ∙ sym keys))
heard_others Q i n other keys = tt

-- what holds of all that a core issues holds of all that it gives under its number
given_says : (Q : SaidLedger → Type 0) (i : ℕ) (core : Core) (hs : List CoreHappening) → core.node.keys.me ≡ i → CoreSays (OwnSays Q i) core → All Q (issued_over core hs) →
    All (BytesSay (OwnSays Q i)) (given_over core hs)
given_says Q i core [] keys says issued = All-nil (BytesSay (OwnSays Q i))
given_says Q i core (h ∷ hs) keys says issued =
    let r : CoreReply = core_happens core h.event h.save in
    let first = issued_first Q core.node.me r.issued (issued_over r.core hs) issued in
    let now : ReplySays (OwnSays Q i) r =
    core_says (OwnSays Q i) core h.event h.save says (heard_others Q i core.node h.event keys)
    (if_some (λ v. Q (said_by core.node.me v)) (λ v. OwnSays Q i (said_by core.node.me v)) (λ v q _. q) r.issued first.0) in
    All-append (BytesSay (OwnSays Q i)) (given_in r.answer) (given_over r.core hs)
    (given_of (OwnSays Q i) r.core.node.me r.answer now.sent)
    (given_says Q i r.core hs (ap (λ (ring : Ring). ring.me) (core_keeps core h.event h.save).1 ∙ keys) now.core first.1)

-- so over lives
lives_give : (liars : List ℕ) (lives : ℕ → List Life) (Q : SaidLedger → Type 0) (i : ℕ) (ls : List Life) → All (IsLife liars lives i) ls → All Q (issued_by ls) →
    All (BytesSay (OwnSays Q i)) (given_by ls)
lives_give liars lives Q i [] are issued = All-nil (BytesSay (OwnSays Q i))
lives_give liars lives Q i (l ∷ ls) are issued =
    All-append (BytesSay (OwnSays Q i)) (given_over (first_of l) l.happenings) (given_by ls)
    (given_says Q i (first_of l) l.happenings (All-head (IsLife liars lives i) l ls are).keys (opened_core_says (OwnSays Q i) l.settings l.moment l.kept)
    (all_left Q (issued_over (first_of l) l.happenings) (issued_by ls) issued))
    (lives_give liars lives Q i ls (All-tail (IsLife liars lives i) l ls are) (all_right Q (issued_over (first_of l) l.happenings) (issued_by ls) issued))

-- WHAT COMES

-- the test of who may have said a ledger: a liar, or who issued it in its lives
abbrev vouched : List ℕ → (ℕ → List Life) → ℕ → LedgerId → ℕ → Bool
vouched liars lives s id m = vouches liars (issued_by (lives m)) s id m

abbrev IsVouched : List ℕ → (ℕ → List Life) → SaidLedger → Type 0
IsVouched liars lives x = IsTrue (vouched liars lives x.seq x.id x.member)

given_vouched : (liars : List ℕ) (lives : ℕ → List Life) → AreLives liars lives → (n : Node) (bytes : List ℕ) (from : ℕ) (v : Validation) →
    spoken_in n.keys n.list.members bytes ≡ Ok (record { from = from; what = speech.Validation v }) → is_on liars from ≡ false → Contains (given_by (lives from)) bytes →
    IsTrue (has_said (issued_by (lives from)) from v.seq v.id)
given_vouched liars lives are n bytes from v is honest given =
    let Q : SaidLedger → Type 0 = IsSaid (issued_by (lives from)) in
    let says : BytesSay (OwnSays Q from) bytes =
    All-contains (BytesSay (OwnSays Q from)) (given_by (lives from)) bytes (lives_give liars lives Q from (lives from) (are from honest).0 (each_said (issued_by (lives from)))) given in
    subst (λ o. IfSome o (OwnSays Q from))
    (heard_said n.keys n.list.members bytes from v (heard_parts n.keys n.list.members bytes (record { from = from; what = speech.Validation v }) is)) says refl

-- what comes unforged is vouched for
heard_vouched : (liars : List ℕ) (lives : ℕ → List Life) → AreLives liars lives → (core : Core) (e : CoreEvent) → IsUnforged liars lives core e → CoreHeard (IsVouched liars lives) core.node e
heard_vouched liars lives are core (Frame now bytes) fair = λ from v is.
    let either : IsTrue (is_on liars from) ⊎ Contains (given_by (lives from)) bytes =
    subst (λ (r : Result Spoken Refusal). IfOk r (λ said. IsTrue (is_on liars said.from) ⊎ Contains (given_by (lives said.from)) bytes)) is fair in
    elim (cases_Bool (is_on liars from)) [
      | inl liar ↦ or_left _ _ liar
      | inr honest ↦ elim either [
        | inl liar ↦ or_left _ _ liar
        | inr given ↦ or_right _ _ (given_vouched liars lives are core.node bytes from v is honest given)
      ]
    ]
heard_vouched liars lives are core other fair = tt

-- WHAT IS REPORTED

pub core_rest : (core : Core) (e : CoreEvent) (save : Save) → IsFitEvent e → IsAtRest core.node → IsAtRest (core_happens core e save).core.node
core_rest core e save fit rest =
    node_or_beside (λ r. IsAtRest r.core.node) core e save (λ n is. happens_rest core.node n save (subst (λ o. IfSome o IsFitForNode) is fit) rest) (λ after a same. subst IsAtRest (sym same) rest)

pub core_quorum : (core : Core) (e : CoreEvent) (save : Save) → let r : CoreReply = core_happens core e save in IfSome r.report (λ q. r.core.node.list.quorum ≤ count_full q.seq q.id r.core.node.rows)
core_quorum core e save =
    node_or_beside (λ r. IfSome r.report (λ q. r.core.node.list.quorum ≤ count_full q.seq q.id r.core.node.rows)) core e save (λ n _. (happens_reports core.node n save).quorum) (λ after a same. tt)

module _ (liars : List ℕ) (lives : ℕ → List Life) where
  -- a quorum of the report's list, on which each member stands once, is vouched for
  abbrev HasQuorum : Reported → Type 0
  HasQuorum r = IsDistinct nat_eq r.list.members × (r.list.quorum ≤ count_by (vouched liars lives r.seq r.id) r.list.members)

  -- at what a row holds
  at_current : (seq : ℕ) (id : LedgerId) (m : ℕ) (current : Option Validation) → IfSome current (λ u. IsVouched liars lives (said_by m u)) → is_full_of seq id current ≡ true →
      vouched liars lives seq id m ≡ true
  at_current seq id m None says full = cc
  at_current seq id m (Some u) says full =
      let parts = and_parts (u.full && u.seq == seq) _ full in
      subst (λ (x : LedgerId). vouched liars lives seq x m ≡ true) (same_id-true _ _ parts.1)
      (subst (λ (s : ℕ). vouched liars lives s u.id m ≡ true) (eqb-true _ _ (and_parts u.full _ parts.0).1) says)

  count_rows : (seq : ℕ) (id : LedgerId) (rows : List Row) → All (RowSays (IsVouched liars lives)) rows → count_full seq id rows ≤ count_by (vouched liars lives seq id) (map (λ row. row.member) rows)
  count_rows seq id rows says =
      count_image (λ row. is_full_of seq id row.current) (vouched liars lives seq id) (λ row. row.member) rows
      (All-weaker (RowSays (IsVouched liars lives)) _ (λ row. at_current seq id row.member row.current) rows says)

  report_has : (n : Node) → IsAtRest n → All (RowSays (IsVouched liars lives)) n.rows → (o : Option Report) → IfSome o (λ q. n.list.quorum ≤ count_full q.seq q.id n.rows) →
      All HasQuorum (option_to_list (option_map (reported_by n) o))
  report_has n rest says None h = All-nil HasQuorum
  report_has n rest says (Some q) h =
      All-cons HasQuorum (reported_by n q) []
      (rest.valid.once, subst (λ (ms : List ℕ). n.list.quorum ≤ count_by (vouched liars lives q.seq q.id) ms) rest.members (omega (arith, h, count_rows q.seq q.id n.rows says)))
      (All-nil HasQuorum)

  -- what a core reports in unforged happenings
  life_reports : AreLives liars lives → (i : ℕ) (core : Core) (hs : List CoreHappening) → core.node.me ≡ i → IsAtRest core.node → All (λ h. IsFitEvent h.event) hs →
      AreUnforged liars lives core hs → CoreSays (IsVouched liars lives) core → All (IsSaid (issued_by (lives i))) (issued_over core hs) → All HasQuorum (reported_over core hs)
  life_reports are i core [] me rest fit fair says issued = All-nil HasQuorum
  life_reports are i core (h ∷ hs) me rest fit fair says issued =
      let r : CoreReply = core_happens core h.event h.save in
      let Q : SaidLedger → Type 0 = IsSaid (issued_by (lives i)) in
      let first = issued_first Q core.node.me r.issued (issued_over r.core hs) issued in
      let rest' : IsAtRest r.core.node = core_rest core h.event h.save (All-head (λ x. IsFitEvent x.event) h hs fit) rest in
      let now : ReplySays (IsVouched liars lives) r =
      core_says (IsVouched liars lives) core h.event h.save says (heard_vouched liars lives are core h.event fair.0)
      (if_some (λ v. Q (said_by core.node.me v)) (λ v. IsVouched liars lives (said_by core.node.me v))
      (λ v q. or_right _ _ (subst (λ (k : ℕ). IsTrue (has_said (issued_by (lives k)) core.node.me v.seq v.id)) (sym me) q)) r.issued first.0) in
      All-append HasQuorum (option_to_list (option_map (reported_by r.core.node) r.report)) (reported_over r.core hs)
      (report_has r.core.node rest' now.core.rows r.report (core_quorum core h.event h.save))
      (life_reports are i r.core hs ((core_keeps core h.event h.save).0 ∙ me) rest' (All-tail (λ x. IsFitEvent x.event) h hs fit) fair.1 now.core first.1)

  lives_report : AreLives liars lives → (i : ℕ) (ls : List Life) → All (IsLife liars lives i) ls → All (IsSaid (issued_by (lives i))) (issued_by ls) → All HasQuorum (reports_of ls)
  lives_report are i [] each issued = All-nil HasQuorum
  lives_report are i (l ∷ ls) each issued =
      let Q : SaidLedger → Type 0 = IsSaid (issued_by (lives i)) in
      let is : IsLife liars lives i l = All-head (IsLife liars lives i) l ls each in
      All-append HasQuorum (reported_over (first_of l) l.happenings) (reports_of ls)
      (life_reports are i (first_of l) l.happenings is.me (opened_at_rest l.settings l.moment l.kept is.list) is.fit is.unforged
      (opened_core_says (IsVouched liars lives) l.settings l.moment l.kept) (all_left Q (issued_over (first_of l) l.happenings) (issued_by ls) issued))
      (lives_report are i ls (All-tail (IsLife liars lives i) l ls each) (all_right Q (issued_over (first_of l) l.happenings) (issued_by ls) issued))

  -- who vouches and is no liar issued it
  honest_said : (liar said : Bool) → liar ≡ false → (liar || said) ≡ true → said ≡ true
  honest_said liar said e h = cc

  two_agree : AreLives liars lives → (r q : Reported) → HasQuorum r → HasQuorum q → Enough liars r.list q.list → r.seq ≡ q.seq → r.id ≡ q.id
  two_agree are r q by_r by_q enough same =
      let found =
      quorums_share (vouched liars lives r.seq r.id) (vouched liars lives q.seq q.id) (is_on liars) r.list.members q.list.members by_r.0 by_q.0 (omega (arith, by_r.1, by_q.1, enough)) in
      let m : ℕ = found.0 in
      let first : IsTrue (has_said (issued_by (lives m)) m r.seq r.id) = honest_said (is_on liars m) _ found.1.honest found.1.first in
      let second : IsTrue (has_said (issued_by (lives m)) m q.seq q.id) = honest_said (is_on liars m) _ found.1.honest found.1.second in
      lives_say_once (lives m) (are m found.1.honest).1 m q.seq r.id q.id (subst (λ (s : ℕ). IsTrue (has_said (issued_by (lives m)) m s r.id)) same first) second

pub headline_of_lives : HeadlineOfLives
headline_of_lives liars lives are i j honest_i honest_j k d k_in l e l_in =
    two_agree liars lives are (slice_index_or (reports_of (lives i)) k d) (slice_index_or (reports_of (lives j)) l e)
    (lives_report liars lives are i (lives i) (are i honest_i).0 (each_said (issued_by (lives i))) k d k_in)
    (lives_report liars lives are j (lives j) (are j honest_j).0 (each_said (issued_by (lives j))) l e l_in)
