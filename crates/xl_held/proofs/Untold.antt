-- A node that hears something of a member within a second holds nothing else that it didn't hold before.
use Rattle.std.proofs.Common.{◌≡◌, ◌≢◌, ℕ, Bool, true, false, List, [], ◌∷◌, ◌++◌, length, refl, sym, ap, ◌∙◌, subst, inl, inr, arith, Option, Some}
use Rattle.std.specs.Prelude.{◌==◌, ◌||◌, ◌+◌, ◌⊎◌, map, nat_eq}
use Rattle.std.specs.List.{AllByRecursion, IsDistinct, flat_map, list_any}
use Rattle.std.specs.Option.{option_and_then}
use Rattle.std.proofs.lemmas.Bool.{cases_eq, cond_both, eq-eqb, eqb-true}
use Rattle.std.proofs.lemmas.Bool.Decides.{nat_tests}
use Rattle.std.proofs.lemmas.List.{append-nil}
use Rattle.xl_lists.specs.Lists.{IsValid, TrustedList, is_on}
use Rattle.xl_lists.proofs.Rising.{on_in_range}
use Rattle.xl_core.specs.Node.{Node, preferred}
use Rattle.xl_ledger.specs.Registries.{Ledgers}
use Rattle.xl_noted.specs.declared.members.NotedMember.{NotedMember}
use Rattle.xl_noted.specs.Hearing.{LeavesOthers, ledgers_noted, pending_noted, position_noted, vote_noted}
use Rattle.xl_noted.specs.Noted.{member_noted, noted, noted_of, position_before, round_noted, row_before}
use Rattle.xl_noted.specs.Same.{are_same_ids, is_same_last, is_same_position, is_same_report, is_same_row}
use Rattle.xl_rounds.specs.Positions.{position_of}
use Rattle.xl_rounds.specs.Rounds.{Round}
use Rattle.xl_sched.specs.declared.named.Named.{Named}
use Rattle.xl_validations.specs.declared.row.Row.{Row}
use Rattle.xl_validations.specs.Rows.{current_of}
use Rattle.xl_wire.specs.declared.proposal.Proposal.{Proposal}
use Rattle.xl_wire.specs.declared.validation.Validation.{Validation}
use Rattle.xl_held.specs.Changes.{agreement_changed, changed_lines, ledgers_changed, proposal_changed, proposals_changed, round_changed, row_changed, rows_changed, settings_changed, unless}
use Rattle.xl_held.specs.Hearing.{header_heard, proposal_heard, set_heard, tx_heard, vote_heard}
use Rattle.xl_held.specs.Lines.{pending_line, prefers_line, proposal_line, report_line, row_line, time_line}
use Rattle.xl_held.proofs.Staying.{agreement_stays, counted, drop_end, ids_themselves, none_came, number_itself, part_stays, position_itself, preference_stays, report_stays, row_itself, settings_stay, unless_same}

-- THE LIST'S MEMBERS

-- a number that is on a list was noted
noted_on : (n : Node) (k : ℕ) (ms : List ℕ) → is_on ms k ≡ true → noted_of (map (member_noted n) ms) k ≡ Some (member_noted n k)
noted_on n k [] on = absurd cc
noted_on n k (m ∷ ms) on =
    cond_both (m == k) (Some (member_noted n m)) (noted_of (map (member_noted n) ms) k) (λ o. o ≡ Some (member_noted n k))
    (λ is. ap (λ (j : ℕ). Some (member_noted n j)) (eqb-true m k is))
    (λ is_not. noted_on n k ms (later k m ms is_not on))
  where
    flipped : (a b : ℕ) → (a == b) ≡ false → (b == a) ≡ false
    flipped a b e = grind (arith, nat_tests, e)

    later : (k m : ℕ) (ms : List ℕ) → (m == k) ≡ false → is_on (m ∷ ms) k ≡ true → is_on ms k ≡ true
    later k m ms is_not on = sym (ap (λ (b : Bool). b || list_any (λ j. k == j) ms) (flipped m k is_not)) ∙ on

row_of_noted : (n : Node) (k : ℕ) (ms : List ℕ) → is_on ms k ≡ true → row_before (map (member_noted n) ms) k ≡ current_of n.rows k
row_of_noted n k ms on = ap (option_and_then (λ (known : NotedMember). known.row)) (noted_on n k ms on)

pub position_of_noted : (n : Node) (k : ℕ) (ms : List ℕ) → is_on ms k ≡ true → position_before (map (member_noted n) ms) k ≡ position_of n.round.positions k
position_of_noted n k ms on = ap (option_and_then (λ (known : NotedMember). known.position)) (noted_on n k ms on)

-- a row of theirs that stays
pub row_stays : (names : List Named) (i : ℕ) (n later : Node) (k : ℕ) → is_on n.list.members k ≡ true → current_of later.rows k ≡ current_of n.rows k → row_changed names i (map (member_noted n) n.list.members) later k ≡ []
row_stays names i n later k on same =
    unless_same (is_same_row (row_before (map (member_noted n) n.list.members) k) (current_of later.rows k)) (row_line names i k (current_of later.rows k))
    (ap (λ (o : Option Validation). is_same_row o (current_of later.rows k)) (row_of_noted n k n.list.members on)
    ∙ (ap (is_same_row (current_of n.rows k)) same ∙ row_itself (current_of n.rows k)))

-- each of them is on it
pub on_more : (k m : ℕ) (ms : List ℕ) → is_on ms k ≡ true → is_on (m ∷ ms) k ≡ true
on_more k m ms on = right (k == m) (list_any (λ j. k == j) ms) on
  where
    right : (a b : Bool) → b ≡ true → (a || b) ≡ true
    right true b is = refl
    right false b is = is

pub on_first : (m : ℕ) (ms : List ℕ) → is_on (m ∷ ms) m ≡ true
on_first m ms = ap (λ (b : Bool). b || list_any (λ j. m == j) ms) (number_itself m)

-- of what is nothing except for one number nothing else is left
none_left : (f : ℕ → List ℕ) (m : ℕ) (ms : List ℕ) → ((k : ℕ) → is_on ms k ≡ true → k ≢ m → f k ≡ []) → is_on ms m ≡ false → flat_map f ms ≡ []
none_left f m [] none off = refl
none_left f m (k ∷ ks) none off =
    let parts = neither (m == k) (list_any (λ j. m == j) ks) off in
    ap (λ (xs : List ℕ). xs ++ flat_map f ks) (none k (on_first k ks) (differs m k parts.0))
    ∙ none_left f m ks (λ j on other. none j (on_more j k ks on) other) parts.1
  where
    neither : (a b : Bool) → (a || b) ≡ false → (a ≡ false) × (b ≡ false)
    neither true b e = absurd cc
    neither false b e = (refl, e)

    false_true : false ≡ true → ⊥
    false_true e = cc

    differs : (m k : ℕ) → (m == k) ≡ false → k ≢ m
    differs m k is_not same = false_true (sym is_not ∙ eq-eqb m k (sym same))

-- a number that differs from each isn't on it
off_rest : (m : ℕ) (ms : List ℕ) → AllByRecursion (λ y. nat_eq m y ≡ false) ms → is_on ms m ≡ false
off_rest m [] each = refl
off_rest m (k ∷ ks) each = rw (flipped m k each.0) (off_rest m ks each.1)
  where
    flipped : (a b : ℕ) → nat_eq a b ≡ false → (a == b) ≡ false
    flipped a b e = grind (arith, nat_tests, e)

one_left : (f : ℕ → List ℕ) (m : ℕ) (ms : List ℕ) → IsDistinct nat_eq ms → ((k : ℕ) → is_on ms k ≡ true → k ≢ m → f k ≡ []) → is_on ms m ≡ true → flat_map f ms ≡ f m
unfolding IsDistinct
one_left f m [] once none on = absurd cc
one_left f m (k ∷ ks) once none on = elim (cases_eq k m) [
  | inl same ↦
      let rest : flat_map f ks ≡ [] =
      none_left f m ks (λ j there other. none j (on_more j k ks there) other) (subst (λ (j : ℕ). is_on ks j ≡ false) same (off_rest k ks once.0)) in
      ap (λ (xs : List ℕ). f k ++ xs) rest ∙ (append-nil (f k) ∙ ap f same)
  | inr other ↦
      ap (λ (xs : List ℕ). xs ++ flat_map f ks) (none k (on_first k ks) other)
      ∙ one_left f m ks once.1 (λ j there differs. none j (on_more j k ks there) differs) (still m k ks (λ same. other (sym same)) on)
]
  where
    differs : (a b : ℕ) → a ≢ b → (a == b) ≡ false
    differs a b other = grind (arith, nat_tests, other)

    still : (m k : ℕ) (ks : List ℕ) → m ≢ k → is_on (k ∷ ks) m ≡ true → is_on ks m ≡ true
    still m k ks other on = sym (ap (λ (b : Bool). b || list_any (λ j. m == j) ks) (differs m k other)) ∙ on

-- WHAT IS TOLD

module _ (names : List Named) (i m : ℕ) (n later : Node) (leaves : LeavesOthers m n later) (valid : IsValid n.list) (on : is_on n.list.members m ≡ true) where
  abbrev before : List NotedMember
  before = map (member_noted n) n.list.members

  settings : settings_changed i (noted n) later ≡ unless (n.time == later.time) (time_line i later.time)
  settings = settings_stay i n later leaves.kept leaves.failed_save leaves.list

  row_none : (k : ℕ) → is_on n.list.members k ≡ true → k ≢ m → row_changed names i before later k ≡ []
  row_none k there other = row_stays names i n later k there (leaves.rows k other)

  abbrev pub its_row : List ℕ
  its_row = unless (is_same_row (current_of n.rows m) (current_of later.rows m)) (row_line names i m (current_of later.rows m))

  pub rows : rows_changed names i before later ≡ its_row
  rows =
      ap (λ (ms : List ℕ). flat_map (row_changed names i before later) ms) (ap (λ (l : TrustedList). l.members) leaves.list)
      ∙ (one_left (row_changed names i before later) m n.list.members valid.once row_none on
      ∙ ap (λ (o : Option Validation). unless (is_same_row o (current_of later.rows m)) (row_line names i m (current_of later.rows m))) (row_of_noted n m n.list.members on))

  proposal_none : (k : ℕ) → is_on n.list.members k ≡ true → k ≢ m → proposal_changed names i before later k ≡ []
  proposal_none k there other =
      unless_same (is_same_position (position_before before k) (position_of later.round.positions k)) (proposal_line names i k (position_of later.round.positions k))
      (ap (λ (o : Option Proposal). is_same_position o (position_of later.round.positions k)) (position_of_noted n k n.list.members there)
      ∙ (ap (is_same_position (position_of n.round.positions k)) (leaves.positions k (on_in_range n.list.members valid.numbers k there).0 other) ∙ position_itself (position_of n.round.positions k)))

  abbrev pub its_proposal : List ℕ
  its_proposal = unless (is_same_position (position_of n.round.positions m) (position_of later.round.positions m)) (proposal_line names i m (position_of later.round.positions m))

  pub proposals : proposals_changed names i before later ≡ its_proposal
  proposals =
      ap (λ (ms : List ℕ). flat_map (proposal_changed names i before later) ms) (ap (λ (l : TrustedList). l.members) leaves.list)
      ∙ (one_left (proposal_changed names i before later) m n.list.members valid.once proposal_none on
      ∙ ap (λ (o : Option Proposal). unless (is_same_position o (position_of later.round.positions m)) (proposal_line names i m (position_of later.round.positions m))) (position_of_noted n m n.list.members on))

  pub its_round : round_changed names i (round_noted n.round) later.round ≡ unless (are_same_ids n.round.pending later.round.pending) (pending_line names i later.round.pending)
  its_round = part_stays names i n.round later.round leaves.phase leaves.setting leaves.position leaves.own

  abbrev its_time : List ℕ
  its_time = unless (n.time == later.time) (time_line i later.time)

  abbrev pub its_ledgers : List ℕ
  its_ledgers = ledgers_changed names i (length n.ledgers.headers) later

  abbrev pub its_report : List ℕ
  its_report = unless (is_same_last n.last later.last) (report_line names i later.last)

  abbrev pub its_preference : List ℕ
  its_preference = unless (is_same_report (preferred n) (preferred later)) (prefers_line names i (preferred later))

  abbrev pub its_pending : List ℕ
  its_pending = unless (are_same_ids n.round.pending later.round.pending) (pending_line names i later.round.pending)

  abbrev pub its_agreement : List ℕ
  its_agreement = agreement_changed i (round_noted n.round) later.round

  -- what a hearing may change
  heard : changed_lines names i (noted n) later ≡ its_time ++ its_row ++ its_ledgers ++ (its_report ++ its_preference) ++ its_pending ++ its_proposal ++ its_agreement
  heard =
      let reports : List ℕ = its_report ++ its_preference in
      ap (λ (xs : List ℕ). xs ++ rows_changed names i before later ++ its_ledgers ++ reports ++ round_changed names i (round_noted n.round) later.round ++ proposals_changed names i before later ++ its_agreement) settings
      ∙ (ap (λ (xs : List ℕ). its_time ++ xs ++ its_ledgers ++ reports ++ round_changed names i (round_noted n.round) later.round ++ proposals_changed names i before later ++ its_agreement) rows
      ∙ (ap (λ (xs : List ℕ). its_time ++ its_row ++ its_ledgers ++ reports ++ xs ++ proposals_changed names i before later ++ its_agreement) its_round
      ∙ ap (λ (xs : List ℕ). its_time ++ its_row ++ its_ledgers ++ reports ++ its_pending ++ xs ++ its_agreement) proposals))

  -- WHAT STAYS

  no_row : later.rows ≡ n.rows → its_row ≡ []
  no_row same =
      unless_same (is_same_row (current_of n.rows m) (current_of later.rows m)) (row_line names i m (current_of later.rows m))
      (ap (λ (rs : List Row). is_same_row (current_of n.rows m) (current_of rs m)) same ∙ row_itself (current_of n.rows m))

  pub no_ledgers : later.ledgers ≡ n.ledgers → its_ledgers ≡ []
  no_ledgers same = none_came names i (length n.ledgers.headers) later (ap (λ (ls : Ledgers). length ls.headers) same)

  pub no_pending : later.round.pending ≡ n.round.pending → its_pending ≡ []
  no_pending same =
      unless_same (are_same_ids n.round.pending later.round.pending) (pending_line names i later.round.pending) (ap (are_same_ids n.round.pending) same ∙ ids_themselves n.round.pending)

  pub no_proposal : later.round.positions.members ≡ n.round.positions.members → its_proposal ≡ []
  no_proposal same =
      unless_same (is_same_position (position_of n.round.positions m) (position_of later.round.positions m)) (proposal_line names i m (position_of later.round.positions m))
      (ap (λ (ms : List (Option Proposal)). is_same_position (position_of n.round.positions m) (position_of (record n.round.positions { members = ms }) m)) same ∙ position_itself (position_of n.round.positions m))

  pub no_agreement : later.round.positions.members ≡ n.round.positions.members → its_agreement ≡ []
  no_agreement same = agreement_stays i n.round later.round same leaves.own

  -- WHAT IS TOLD OF EACH KIND

  pub vote_told : later.ledgers ≡ n.ledgers → later.round ≡ n.round → vote_heard names i (vote_noted n m) later ≡ changed_lines names i (noted n) later
  vote_told ledgers round =
      let front : List ℕ = its_time ++ its_row in
      let reports : List ℕ = its_report ++ its_preference in
      let members : later.round.positions.members ≡ n.round.positions.members = ap (λ (r : Round). r.positions.members) round in
      sym (
      heard
      ∙ (drop_end (front ++ its_ledgers ++ reports ++ its_pending ++ its_proposal) its_agreement (no_agreement members)
      ∙ (drop_end (front ++ its_ledgers ++ reports ++ its_pending) its_proposal (no_proposal members)
      ∙ (drop_end (front ++ its_ledgers ++ reports) its_pending (no_pending (ap (λ (r : Round). r.pending) round))
      ∙ ap (λ (xs : List ℕ). xs ++ reports) (drop_end front its_ledgers (no_ledgers ledgers)))))
      )

  only_time : later.ledgers ≡ n.ledgers → later.rows ≡ n.rows → later.last ≡ n.last → its_time ++ its_row ++ its_ledgers ++ (its_report ++ its_preference) ≡ its_time
  only_time ledgers rows last =
      ap (λ (xs : List ℕ). xs ++ its_ledgers ++ (its_report ++ its_preference)) (drop_end its_time its_row (no_row rows))
      ∙ (ap (λ (xs : List ℕ). xs ++ (its_report ++ its_preference)) (drop_end its_time its_ledgers (no_ledgers ledgers))
      ∙ drop_end its_time (its_report ++ its_preference) (ap (λ (xs : List ℕ). xs ++ its_preference) (report_stays names i n later last) ∙ preference_stays names i n later ledgers rows leaves.kept))

  pub proposal_told : later.ledgers ≡ n.ledgers → later.rows ≡ n.rows → later.last ≡ n.last → later.round.pending ≡ n.round.pending → proposal_heard names i (position_noted n m) later ≡ changed_lines names i (noted n) later
  proposal_told ledgers rows last pending =
      sym (
      heard
      ∙ (ap (λ (xs : List ℕ). xs ++ its_pending ++ its_proposal ++ its_agreement) (only_time ledgers rows last)
      ∙ ap (λ (xs : List ℕ). xs ++ its_proposal ++ its_agreement) (drop_end its_time its_pending (no_pending pending)))
      )

  -- without what is held of the members' positions
  no_positions : later.round.positions.members ≡ n.round.positions.members → (xs : List ℕ) → xs ++ its_proposal ++ its_agreement ≡ xs
  no_positions members xs = drop_end (xs ++ its_proposal) its_agreement (no_agreement members) ∙ drop_end xs its_proposal (no_proposal members)

  pub header_told : later.rows ≡ n.rows → later.last ≡ n.last → later.round ≡ n.round → header_heard names i (ledgers_noted n) later ≡ changed_lines names i (noted n) later
  header_told rows last round =
      let reports : List ℕ = its_report ++ its_preference in
      sym (
      heard
      ∙ (no_positions (ap (λ (r : Round). r.positions.members) round) (its_time ++ its_row ++ its_ledgers ++ reports ++ its_pending)
      ∙ (drop_end (its_time ++ its_row ++ its_ledgers ++ reports) its_pending (no_pending (ap (λ (r : Round). r.pending) round))
      ∙ (ap (λ (xs : List ℕ). xs ++ its_ledgers ++ reports) (drop_end its_time its_row (no_row rows))
      ∙ ap (λ (xs : List ℕ). its_time ++ its_ledgers ++ (xs ++ its_preference)) (report_stays names i n later last))))
      )

  pub set_told : later.ledgers ≡ n.ledgers → later.rows ≡ n.rows → later.last ≡ n.last → later.round.pending ≡ n.round.pending → later.round.positions.members ≡ n.round.positions.members → set_heard i n.time later ≡ changed_lines names i (noted n) later
  set_told ledgers rows last pending members =
      sym (
      heard
      ∙ (no_positions members (its_time ++ its_row ++ its_ledgers ++ (its_report ++ its_preference) ++ its_pending)
      ∙ (ap (λ (xs : List ℕ). xs ++ its_pending) (only_time ledgers rows last) ∙ drop_end its_time its_pending (no_pending pending)))
      )

  pub tx_told : later.ledgers ≡ n.ledgers → later.rows ≡ n.rows → later.last ≡ n.last → later.round.positions.members ≡ n.round.positions.members → (later.round.pending ≡ n.round.pending) ⊎ (length later.round.pending ≡ length n.round.pending + 1) → tx_heard names i (pending_noted n) later ≡ changed_lines names i (noted n) later
  tx_told ledgers rows last members came =
      ap (λ (b : Bool). its_time ++ unless b (pending_line names i later.round.pending)) (counted n.round.pending later.round.pending came)
      ∙ sym (
      heard
      ∙ (no_positions members (its_time ++ its_row ++ its_ledgers ++ (its_report ++ its_preference) ++ its_pending)
      ∙ ap (λ (xs : List ℕ). xs ++ its_pending) (only_time ledgers rows last))
      )
