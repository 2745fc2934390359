-- A node that was asked something within a second holds nothing else that it didn't hold before.
use Rattle.std.proofs.Common.{◌≡◌, ℕ, suc, zero, Bool, true, false, List, [], ◌∷◌, ◌++◌, length, refl, sym, ap, ◌∙◌, arith, Option, Some, None, append_assoc}
use Rattle.std.specs.Prelude.{◌==◌, ◌-◌, count_by, map, is_some, slice_index_or}
use Rattle.std.specs.List.{flat_map}
use Rattle.xl_lists.proofs.Counting.{count_by-cons}
use Rattle.xl_lists.specs.Lists.{IsValid, TrustedList, is_on}
use Rattle.xl_core.specs.Node.{Node, preferred}
use Rattle.xl_ledger.specs.Registries.{Ledgers}
use Rattle.xl_noted.specs.declared.members.NotedMember.{NotedMember}
use Rattle.xl_noted.specs.Asking.{LeavesForBeat, LeavesForIssue, is_still, issue_noted}
use Rattle.xl_noted.specs.Hearing.{LeavesOthers}
use Rattle.xl_noted.specs.Noted.{member_noted, noted, round_noted}
use Rattle.xl_noted.specs.Same.{are_same_ids, is_same_list, is_same_number, is_same_position, is_same_report, is_same_row}
use Rattle.xl_rounds.specs.Positions.{Positions, count, position_of}
use Rattle.xl_rounds.specs.Rounds.{Round, our_position}
use Rattle.xl_sched.specs.declared.named.Named.{Named}
use Rattle.xl_validations.specs.declared.row.Row.{Row}
use Rattle.xl_validations.specs.Rows.{current_of}
use Rattle.xl_wire.specs.declared.proposal.Proposal.{Proposal}
use Rattle.xl_held.specs.Asking.{beat_told, beaten, issue_told}
use Rattle.xl_held.specs.Changes.{agreement_changed, changed_lines, ledgers_changed, proposal_changed, proposals_changed, reports_changed, round_changed, row_changed, rows_changed, unless}
use Rattle.xl_held.specs.Lines.{issuing_line, kept_line, list_line, pending_line, prefers_line, proposal_line, row_line, time_line}
use Rattle.xl_held.proofs.Staying.{agreement_stays, drop_end, ids_themselves, list_stays, none_came, part_stays, preference_stays, report_stays, settings_stay, unless_same}
use Rattle.xl_held.proofs.Untold.{no_agreement, no_ledgers, no_pending, no_proposal, on_first, on_more, position_of_noted, proposals, row_stays, rows}
use Rattle.xl_held.proofs.Untold as untold

-- AN ISSUE

module _ (names : List Named) (i : ℕ) (n later : Node) (leaves : LeavesForIssue n later) (valid : IsValid n.list) (on : is_on n.list.members n.me ≡ true) where
  -- with the kept number and the failed save of later it leaves the others
  abbrev saved : Node
  saved = record n { kept = later.kept; failed_save = later.failed_save }

  others : LeavesOthers n.me saved later
  others = record {
    list = leaves.list;
    kept = refl;
    failed_save = refl;
    phase = ap (λ (r : Round). r.phase) leaves.round;
    setting = ap (λ (r : Round). r.setting) leaves.round;
    position = ap our_position leaves.round;
    own = ap (λ (r : Round). r.positions.own) leaves.round;
    rows = leaves.rows;
    positions = λ k _ _. ap (λ (r : Round). position_of r.positions k) leaves.round;
  }

  abbrev its_settings : List ℕ
  its_settings =
      unless (n.time == later.time) (time_line i later.time) ++ unless (n.kept == later.kept) (kept_line i later.kept)
      ++ unless (is_same_number n.failed_save later.failed_save) (issuing_line i later.failed_save)

  abbrev its_row : List ℕ
  its_row = unless (is_same_row (current_of n.rows n.me) (current_of later.rows n.me)) (row_line names i n.me (current_of later.rows n.me))

  abbrev before : List NotedMember
  before = map (member_noted n) n.list.members

  round_stays : round_changed names i (round_noted n.round) later.round ≡ []
  round_stays = untold.its_round names i n.me saved later others valid on ∙ no_pending names i n.me saved later others valid on (ap (λ (r : Round). r.pending) leaves.round)

  proposals_stay : proposals_changed names i before later ≡ []
  proposals_stay = proposals names i n.me saved later others valid on ∙ no_proposal names i n.me saved later others valid on (ap (λ (r : Round). r.positions.members) leaves.round)

  pub issue_told_so : issue_told names i (issue_noted n) later ≡ changed_lines names i (noted n) later
  issue_told_so =
      let listed : List ℕ = unless (is_same_list n.list later.list) (list_line i later.list) in
      let own : List ℕ = rows_changed names i before later in
      let ledgers : List ℕ = ledgers_changed names i (length n.ledgers.headers) later in
      let reports : List ℕ = reports_changed names i (noted n) later in
      let round : List ℕ = round_changed names i (round_noted n.round) later.round in
      let positions : List ℕ = proposals_changed names i before later in
      let agreement : List ℕ = agreement_changed i (round_noted n.round) later.round in
      sym (
      drop_end (its_settings ++ listed ++ own ++ ledgers ++ reports ++ round ++ positions) agreement (no_agreement names i n.me saved later others valid on (ap (λ (r : Round). r.positions.members) leaves.round))
      ∙ (drop_end (its_settings ++ listed ++ own ++ ledgers ++ reports ++ round) positions proposals_stay
      ∙ (drop_end (its_settings ++ listed ++ own ++ ledgers ++ reports) round round_stays
      ∙ (ap (λ (xs : List ℕ). xs ++ own ++ ledgers ++ reports) (drop_end its_settings listed (list_stays i n later leaves.list))
      ∙ (ap (λ (xs : List ℕ). its_settings ++ xs ++ ledgers ++ reports) (rows names i n.me saved later others valid on)
      ∙ ap (λ (xs : List ℕ). xs ++ reports) (drop_end (its_settings ++ its_row) ledgers (no_ledgers names i n.me saved later others valid on leaves.ledgers))))))
      )

-- A BEAT

-- what is the same of each member is the same of all
same_of_each : (f g : ℕ → List ℕ) (ms : List ℕ) → ((k : ℕ) → is_on ms k ≡ true → f k ≡ g k) → flat_map f ms ≡ flat_map g ms
same_of_each f g [] same = refl
same_of_each f g (m ∷ ms) same =
    ap (λ (xs : List ℕ). xs ++ flat_map f ms) (same m (on_first m ms)) ∙ ap (λ (xs : List ℕ). g m ++ xs) (same_of_each f g ms (λ k on. same k (on_more k m ms on)))

abbrev nothing_of : ℕ → List ℕ
nothing_of k = []

none_of_each : (ms : List ℕ) → flat_map nothing_of ms ≡ []
none_of_each [] = refl
none_of_each (m ∷ ms) = none_of_each ms

-- where none is counted none stands
none_counted : (ps : List (Option Proposal)) (k : ℕ) → count_by is_some ps ≡ 0 → slice_index_or ps k None ≡ None
none_counted [] k none = refl
none_counted (None ∷ ps) zero none = refl
none_counted (None ∷ ps) (suc k) none =
    let nobody : Option Proposal = None in
    none_counted ps k (omega (arith, none, count_by-cons is_some nobody ps))
none_counted (Some p ∷ ps) k none = absurd (omega (arith, none, count_by-cons is_some (Some p) ps))

pub nobody_stands : (a : Positions) (m : ℕ) → count a ≡ 0 → position_of a m ≡ None
nobody_stands a m none = none_counted a.members (m - 1) none

-- so nothing is told of positions, if nobody had one and nobody has
pub no_first_proposals : (names : List Named) (i : ℕ) (n : Node) → count n.round.positions ≡ 0 → proposals_changed names i [] n ≡ []
no_first_proposals names i n none =
    same_of_each (proposal_changed names i [] n) nothing_of n.list.members
    (λ k _. ap (λ (o : Option Proposal). unless (is_same_position None o) (proposal_line names i k o)) (nobody_stands n.round.positions k none))
    ∙ none_of_each n.list.members

-- nothing is told of a round that is what it was
round_itself : (names : List Named) (i : ℕ) (r : Round) → round_changed names i (round_noted r) r ≡ []
round_itself names i r =
    part_stays names i r r refl refl refl refl
    ∙ unless_same (are_same_ids r.pending r.pending) (pending_line names i r.pending) (ids_themselves r.pending)

module _ (names : List Named) (i : ℕ) (n later : Node) (leaves : LeavesForBeat n later) (none : count n.round.positions ≡ 0) where
  abbrev noted_before : List NotedMember
  noted_before = map (member_noted n) n.list.members

  rows_stay : rows_changed names i noted_before later ≡ []
  rows_stay =
      ap (λ (l : TrustedList). flat_map (row_changed names i noted_before later) l.members) leaves.list
      ∙ (same_of_each (row_changed names i noted_before later) nothing_of n.list.members
      (λ k on. row_stays names i n later k on (ap (λ (rs : List Row). current_of rs k) leaves.rows))
      ∙ none_of_each n.list.members)

  ledgers_stay : ledgers_changed names i (length n.ledgers.headers) later ≡ []
  ledgers_stay = none_came names i (length n.ledgers.headers) later (ap (λ (ls : Ledgers). length ls.headers) leaves.ledgers)

  reports_stay : reports_changed names i (noted n) later ≡ []
  reports_stay =
      ap (λ (xs : List ℕ). xs ++ unless (is_same_report (preferred n) (preferred later)) (prefers_line names i (preferred later))) (report_stays names i n later leaves.last)
      ∙ preference_stays names i n later leaves.ledgers leaves.rows leaves.kept

  first_proposals : proposals_changed names i noted_before later ≡ proposals_changed names i [] later
  first_proposals =
      same_of_each (proposal_changed names i noted_before later) (proposal_changed names i [] later) later.list.members
      (λ k on. ap (λ (o : Option Proposal). unless (is_same_position o (position_of later.round.positions k)) (proposal_line names i k (position_of later.round.positions k)))
      (position_of_noted n k n.list.members (sym (ap (λ (l : TrustedList). is_on l.members k) leaves.list) ∙ on) ∙ nobody_stands n.round.positions k none))

  abbrev its_time : List ℕ
  its_time = unless (n.time == later.time) (time_line i later.time)

  abbrev its_round : List ℕ
  its_round = round_changed names i (round_noted n.round) later.round

  abbrev its_agreement : List ℕ
  its_agreement = agreement_changed i (round_noted n.round) later.round

  -- a timer changes its time and its round
  of_beat : changed_lines names i (noted n) later ≡ its_time ++ its_round ++ proposals_changed names i [] later ++ its_agreement
  of_beat =
      let own : List ℕ = rows_changed names i noted_before later in
      let ledgers : List ℕ = ledgers_changed names i (length n.ledgers.headers) later in
      let reports : List ℕ = reports_changed names i (noted n) later in
      let positions : List ℕ = proposals_changed names i noted_before later in
      ap (λ (xs : List ℕ). xs ++ own ++ ledgers ++ reports ++ its_round ++ positions ++ its_agreement) (settings_stay i n later leaves.kept leaves.failed_save leaves.list)
      ∙ (ap (λ (xs : List ℕ). xs ++ ledgers ++ reports ++ its_round ++ positions ++ its_agreement) (drop_end its_time own rows_stay)
      ∙ (ap (λ (xs : List ℕ). xs ++ reports ++ its_round ++ positions ++ its_agreement) (drop_end its_time ledgers ledgers_stay)
      ∙ (ap (λ (xs : List ℕ). xs ++ its_round ++ positions ++ its_agreement) (drop_end its_time reports reports_stay)
      ∙ ap (λ (xs : List ℕ). its_time ++ its_round ++ xs ++ its_agreement) first_proposals)))

  together : its_time ++ beaten names i (round_noted n.round) later ≡ its_time ++ its_round ++ proposals_changed names i [] later ++ its_agreement
  together =
      sym (append_assoc its_time (its_round ++ proposals_changed names i [] later) its_agreement)
      ∙ ap (λ (xs : List ℕ). xs ++ its_agreement) (sym (append_assoc its_time its_round (proposals_changed names i [] later)))

  -- a round that is open still is what it was
  nothing_beaten : later.round ≡ record n.round { ready = None } → beaten names i (round_noted n.round) later ≡ []
  nothing_beaten same =
      ap (λ (xs : List ℕ). xs ++ proposals_changed names i [] later ++ its_agreement) (ap (round_changed names i (round_noted n.round)) same ∙ round_itself names i n.round)
      ∙ (ap (λ (xs : List ℕ). xs ++ its_agreement) (no_first_proposals names i later (ap (λ (r : Round). count r.positions) same ∙ none))
      ∙ (ap (agreement_changed i (round_noted n.round)) same ∙ agreement_stays i n.round n.round refl refl))

  pub beat_told_so : beat_told names i n.time n.round.setting.previous (round_noted n.round) later ≡ changed_lines names i (noted n) later
  beat_told_so = by (is_still n.round.setting.previous later.round) refl
    where
      by : (still : Bool) → is_still n.round.setting.previous later.round ≡ still → beat_told names i n.time n.round.setting.previous (round_noted n.round) later ≡ changed_lines names i (noted n) later
      by true is =
          ap (λ (b : Bool). its_time ++ unless b (beaten names i (round_noted n.round) later)) is
          ∙ (ap (λ (xs : List ℕ). its_time ++ xs) (sym (nothing_beaten (leaves.still is)))
          ∙ (together ∙ sym of_beat))
      by false is =
          ap (λ (b : Bool). its_time ++ unless b (beaten names i (round_noted n.round) later)) is
          ∙ (together ∙ sym of_beat)
