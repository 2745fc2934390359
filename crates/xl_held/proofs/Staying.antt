-- Of what stays nothing is told.
use Rattle.std.proofs.Common.{◌≡◌, ℕ, Bool, true, false, List, [], ◌∷◌, ◌++◌, length, refl, sym, ap, ◌∙◌, inl, inr, arith, Option, Some, None}
use Rattle.std.specs.Prelude.{◌==◌, ◌&&◌, ◌+◌, ◌-◌, ◌⊎◌, if◌then◌else◌, nat_lt}
use Rattle.std.specs.List.{flat_map}
use Rattle.std.specs.Cmp.Lexicographic.{pointwise}
use Rattle.std.specs.Str.{bytes_eq}
use Rattle.std.proofs.lemmas.Bool.{cond-true, eq-eqb}
use Rattle.std.proofs.lemmas.Bool.Decides.{nat_tests}
use Rattle.std.proofs.lemmas.List.{append-nil}
use Rattle.xl_world.specs.Plans.{up_from}
use Rattle.std.proofs.lemmas.Slice.Eq.{bytes_eq-Decides}
use Rattle.xl_base.specs.declared.ids.LedgerId.{LedgerId}
use Rattle.xl_base.specs.declared.ids.TxId.{TxId}
use Rattle.xl_lists.specs.Lists.{TrustedList}
use Rattle.xl_core.specs.declared.last.LastReport.{LastReport}
use Rattle.xl_core.specs.declared.report.Report.{Report}
use Rattle.xl_core.specs.Node.{Node, preferred}
use Rattle.xl_ledger.specs.Registries.{Ledgers}
use Rattle.xl_noted.specs.Noted.{noted, round_noted}
use Rattle.xl_noted.specs.Same.{are_same_ids, is_same_bool, is_same_id, is_same_last, is_same_list, is_same_mode, is_same_number, is_same_phase, is_same_position, is_same_proposal, is_same_report, is_same_row, is_same_validation}
use Rattle.xl_rounds.specs.declared.phase.Mode.{Mode}
use Rattle.xl_rounds.specs.declared.phase.Mode.TheVariants.{Proposing, Observing, SwitchedLedger}
use Rattle.xl_rounds.specs.declared.phase.Phase.{Phase}
use Rattle.xl_rounds.specs.declared.phase.Phase.TheVariants.{Open, Establish, Accepted}
use Rattle.xl_rounds.specs.declared.setting.Setting.{Setting}
use Rattle.xl_rounds.specs.Positions.{count, count_agreeing}
use Rattle.xl_rounds.specs.Rounds.{Round, our_position}
use Rattle.xl_sched.specs.declared.named.Named.{Named}
use Rattle.xl_validations.specs.declared.row.Row.{Row}
use Rattle.xl_wire.specs.declared.proposal.Proposal.{Proposal}
use Rattle.xl_wire.specs.declared.validation.Validation.{Validation}
use Rattle.xl_held.specs.Changes.{agreement_changed, is_same_round, ledgers_changed, round_changed, settings_changed, unless}
use Rattle.xl_held.specs.Lines.{agreement_line, issuing_line, kept_line, known_line, ledger_line, ledger_lines, list_line, pending_line, position_line, prefers_line, report_line, round_line, set_line, time_line}

-- WHAT IS THE SAME AS ITSELF

bytes_itself : (bytes : List ℕ) → bytes_eq bytes bytes ≡ true
bytes_itself bytes = (bytes_eq-Decides bytes bytes).1 refl

pub number_itself : (n : ℕ) → (n == n) ≡ true
number_itself n = eq-eqb n n refl

both : (a b : Bool) → a ≡ true → b ≡ true → (a && b) ≡ true
both a b is other = rw (is, other) refl

bool_itself : (b : Bool) → is_same_bool b b ≡ true
bool_itself true = refl
bool_itself false = refl

id_itself : (o : Option LedgerId) → is_same_id o o ≡ true
id_itself None = refl
id_itself (Some id) = bytes_itself id.0

seq_itself : (o : Option ℕ) → is_same_number o o ≡ true
seq_itself None = refl
seq_itself (Some n) = number_itself n

validation_itself : (v : Validation) → is_same_validation v v ≡ true
validation_itself v = rw (number_itself v.seq, number_itself v.signed, bool_itself v.full, bytes_itself v.id.0, id_itself v.validated) refl

pub row_itself : (o : Option Validation) → is_same_row o o ≡ true
row_itself None = refl
row_itself (Some v) = validation_itself v

proposal_itself : (p : Proposal) → is_same_proposal p p ≡ true
proposal_itself p = rw (number_itself p.pseq, number_itself p.close, number_itself p.time, bytes_itself p.prev.0, bytes_itself p.set.0) refl

pub position_itself : (o : Option Proposal) → is_same_position o o ≡ true
position_itself None = refl
position_itself (Some p) = proposal_itself p

phase_itself : (p : Phase) → is_same_phase p p ≡ true
phase_itself Open = refl
phase_itself Establish = refl
phase_itself Accepted = refl

mode_itself : (m : Mode) → is_same_mode m m ≡ true
mode_itself Proposing = refl
mode_itself Observing = refl
mode_itself SwitchedLedger = refl

members_themselves : (ms : List ℕ) → pointwise (λ (x y : ℕ). x == y) ms ms ≡ true
members_themselves [] = refl
members_themselves (m ∷ ms) = both (m == m) (pointwise (λ (x y : ℕ). x == y) ms ms) (number_itself m) (members_themselves ms)

list_itself : (list : TrustedList) → is_same_list list list ≡ true
list_itself list = both (list.quorum == list.quorum) (pointwise (λ (x y : ℕ). x == y) list.members list.members) (number_itself list.quorum) (members_themselves list.members)

pub ids_themselves : (ids : List TxId) → are_same_ids ids ids ≡ true
ids_themselves [] = refl
ids_themselves (id ∷ ids) = both (bytes_eq id.0 id.0) (are_same_ids ids ids) (bytes_itself id.0) (ids_themselves ids)

report_itself : (o : Option Report) → is_same_report o o ≡ true
report_itself None = refl
report_itself (Some r) = both (r.seq == r.seq) (bytes_eq r.id.0 r.id.0) (number_itself r.seq) (bytes_itself r.id.0)

last_itself : (last : LastReport) → is_same_last last last ≡ true
last_itself last = both (is_same_bool last.relisted last.relisted) (is_same_report last.report last.report) (bool_itself last.relisted) (report_itself last.report)

-- ids that are one more are others
not_both : (a b : Bool) → b ≡ false → (a && b) ≡ false
not_both true b is = is
not_both false b is = refl

one_more_differs : (ids others : List TxId) → length others ≡ length ids + 1 → are_same_ids ids others ≡ false
one_more_differs [] [] more = absurd (omega (arith, more))
one_more_differs [] (id ∷ others) more = refl
one_more_differs (id ∷ ids) [] more = absurd (omega (arith, more))
one_more_differs (id ∷ ids) (other ∷ others) more = not_both (bytes_eq id.0 other.0) (are_same_ids ids others) (one_more_differs ids others (omega (arith, more)))

-- so of ids that came one by one it is enough to count them
pub counted : (ids others : List TxId) → (others ≡ ids) ⊎ (length others ≡ length ids + 1) → (length ids == length others) ≡ are_same_ids ids others
counted ids others came = elim came [
  | inl same ↦ ap (λ (xs : List TxId). length ids == length xs) same ∙ (number_itself (length ids) ∙ (sym (ids_themselves ids) ∙ ap (are_same_ids ids) (sym same)))
  | inr more ↦ differs (length ids) (length others) more ∙ sym (one_more_differs ids others more)
]
  where
    differs : (a b : ℕ) → b ≡ a + 1 → (a == b) ≡ false
    differs a b more = grind (arith, nat_tests, more)

-- of no more ledgers none is told
pub none_came : (names : List Named) (i known : ℕ) (n : Node) → length n.ledgers.headers ≡ known → ledgers_changed names i known n ≡ []
unfolding up_from
none_came names i known n is =
    let less : nat_lt (length n.ledgers.headers) known ≡ false = not_less (length n.ledgers.headers) known is in
    let none : length n.ledgers.headers - known ≡ 0 = omega (arith, is) in
    ap (λ (b : Bool). (if b then known_line i (length n.ledgers.headers) else []) ++ ledger_lines names i n.ledgers.headers known) less
    ∙ ap (λ (k : ℕ). flat_map (λ place. ledger_line names i n.ledgers.headers place) (up_from known k)) none
  where
    not_less : (a b : ℕ) → a ≡ b → nat_lt a b ≡ false
    not_less a b same = grind (arith, nat_tests, same)

-- nothing behind it
pub drop_end : (xs ys : List ℕ) → ys ≡ [] → xs ++ ys ≡ xs
drop_end xs ys none = ap (λ (zs : List ℕ). xs ++ zs) none ∙ append-nil xs

-- so nothing is told of it
pub unless_same : (b : Bool) (line : List ℕ) → b ≡ true → unless b line ≡ []
unless_same b line is = cond-true b [] line is

-- its list stays
pub list_stays : (i : ℕ) (n later : Node) → later.list ≡ n.list → unless (is_same_list n.list later.list) (list_line i later.list) ≡ []
list_stays i n later list = unless_same (is_same_list n.list later.list) (list_line i later.list) (ap (is_same_list n.list) list ∙ list_itself n.list)

-- so do its kept number and whether it issues
pub settings_stay : (i : ℕ) (n later : Node) → later.kept ≡ n.kept → later.failed_save ≡ n.failed_save → later.list ≡ n.list → settings_changed i (noted n) later ≡ unless (n.time == later.time) (time_line i later.time)
settings_stay i n later same_kept same_failed same_list =
    let time : List ℕ = unless (n.time == later.time) (time_line i later.time) in
    let kept : unless (n.kept == later.kept) (kept_line i later.kept) ≡ [] =
    unless_same (n.kept == later.kept) (kept_line i later.kept) (ap (λ (k : ℕ). n.kept == k) same_kept ∙ number_itself n.kept) in
    let failed : unless (is_same_number n.failed_save later.failed_save) (issuing_line i later.failed_save) ≡ [] =
    unless_same (is_same_number n.failed_save later.failed_save) (issuing_line i later.failed_save) (ap (is_same_number n.failed_save) same_failed ∙ seq_itself n.failed_save) in
    let failing : List ℕ = unless (is_same_number n.failed_save later.failed_save) (issuing_line i later.failed_save) in
    let listed : List ℕ = unless (is_same_list n.list later.list) (list_line i later.list) in
    ap (λ (xs : List ℕ). time ++ xs ++ failing ++ listed) kept
    ∙ (ap (λ (xs : List ℕ). xs ++ failing ++ listed) (append-nil time)
    ∙ (ap (λ (xs : List ℕ). time ++ xs ++ listed) failed
    ∙ (ap (λ (xs : List ℕ). xs ++ listed) (append-nil time)
    ∙ (ap (λ (xs : List ℕ). time ++ xs) (list_stays i n later same_list) ∙ append-nil time))))

-- its last report
pub report_stays : (names : List Named) (i : ℕ) (n later : Node) → later.last ≡ n.last → unless (is_same_last n.last later.last) (report_line names i later.last) ≡ []
report_stays names i n later same = unless_same (is_same_last n.last later.last) (report_line names i later.last) (ap (is_same_last n.last) same ∙ last_itself n.last)

-- what it prefers
pub preference_stays : (names : List Named) (i : ℕ) (n later : Node) → later.ledgers ≡ n.ledgers → later.rows ≡ n.rows → later.kept ≡ n.kept → unless (is_same_report (preferred n) (preferred later)) (prefers_line names i (preferred later)) ≡ []
preference_stays names i n later ledgers rows kept =
    let same : preferred later ≡ preferred n =
    ap (λ (ls : Ledgers). preferred (record n { ledgers = ls; rows = later.rows; kept = later.kept })) ledgers
    ∙ (ap (λ (rs : List Row). preferred (record n { rows = rs; kept = later.kept })) rows ∙ ap (λ (k : ℕ). preferred (record n { kept = k })) kept) in
    unless_same (is_same_report (preferred n) (preferred later)) (prefers_line names i (preferred later)) (ap (is_same_report (preferred n)) same ∙ report_itself (preferred n))

-- its own part, but for what is pending
pub part_stays : (names : List Named) (i : ℕ) (r later : Round) → later.phase ≡ r.phase → later.setting ≡ r.setting → our_position later ≡ our_position r → later.positions.own ≡ r.positions.own →
    round_changed names i (round_noted r) later ≡ unless (are_same_ids r.pending later.pending) (pending_line names i later.pending)
part_stays names i r later same_phase same_setting same_position same_own =
    let position : List ℕ = unless (is_same_proposal (our_position r) (our_position later)) (position_line names i (our_position later)) in
    let own : List ℕ = unless (are_same_ids r.positions.own later.positions.own) (set_line names i later.positions.own) in
    let pending : List ℕ = unless (are_same_ids r.pending later.pending) (pending_line names i later.pending) in
    let phase : is_same_phase r.phase later.phase ≡ true = ap (is_same_phase r.phase) same_phase ∙ phase_itself r.phase in
    let mode : is_same_mode r.setting.mode later.setting.mode ≡ true = ap (λ (s : Setting). is_same_mode r.setting.mode s.mode) same_setting ∙ mode_itself r.setting.mode in
    let started : (r.setting.started == later.setting.started) ≡ true = ap (λ (s : Setting). r.setting.started == s.started) same_setting ∙ number_itself r.setting.started in
    let same : is_same_round (round_noted r) later ≡ true = rw (phase, mode, started) refl in
    ap (λ (xs : List ℕ). xs ++ position ++ own ++ pending) (unless_same (is_same_round (round_noted r) later) (round_line i later) same)
    ∙ (ap (λ (xs : List ℕ). xs ++ own ++ pending)
    (unless_same (is_same_proposal (our_position r) (our_position later)) (position_line names i (our_position later)) (ap (is_same_proposal (our_position r)) same_position ∙ proposal_itself (our_position r)))
    ∙ ap (λ (xs : List ℕ). xs ++ pending)
    (unless_same (are_same_ids r.positions.own later.positions.own) (set_line names i later.positions.own) (ap (are_same_ids r.positions.own) same_own ∙ ids_themselves r.positions.own)))

-- how many of the members' positions name its set
pub agreement_stays : (i : ℕ) (r later : Round) → later.positions.members ≡ r.positions.members → later.positions.own ≡ r.positions.own → agreement_changed i (round_noted r) later ≡ []
agreement_stays i r later members same_own =
    let agreeing : count_agreeing later.positions ≡ count_agreeing r.positions =
    ap (λ (ms : List (Option Proposal)). count_agreeing (record r.positions { members = ms; own = later.positions.own })) members
    ∙ ap (λ (own : List TxId). count_agreeing (record r.positions { own = own })) same_own in
    let all : count later.positions ≡ count r.positions = ap (λ (ms : List (Option Proposal)). count (record r.positions { members = ms })) members in
    unless_same (count_agreeing r.positions == count_agreeing later.positions && count r.positions == count later.positions) (agreement_line i later)
    (both (count_agreeing r.positions == count_agreeing later.positions) (count r.positions == count later.positions)
    (ap (λ (k : ℕ). count_agreeing r.positions == k) agreeing ∙ number_itself (count_agreeing r.positions)) (ap (λ (k : ℕ). count r.positions == k) all ∙ number_itself (count r.positions)))
