-- What a node has said stays covered by what its keeper may hold.
use Rattle.std.proofs.Common.{◌≡◌, ◌≢◌, ℕ, zero, suc, ◌<◌, ◌≤◌, ◌/◌, Bool, true, false, cond, List, [], ◌∷◌, ◌++◌, length, drop, refl, ap, sym, ◌∙◌, subst, arith, inl, inr, Option, Some, None, Ok, append_assoc}
use Rattle.std.specs.Prelude.{◌==◌, All, IfSome, map, max, nat_lt, option_map, replicate, Result, Err}
use Rattle.xl_base.specs.declared.ids.LedgerId.{LedgerId}
use Rattle.std.specs.Option.{option_and_then, is_none}
use Rattle.std.proofs.lemmas.Bool.{cond_both, cond-true, cond-false, eqb-true, false_from_ne_true, ltb-true}
use Rattle.std.proofs.lemmas.List.Elements.{All-append, All-cons, All-nil, All-head, All-tail, All-weaker, All-map, All-drop, All-set}
use Rattle.std.proofs.lemmas.Option.{same_Some}
use Rattle.xl_base.specs.declared.ids.TxId.{TxId}
use Rattle.xl_ledger.specs.declared.header.Header.{Header}
use Rattle.xl_ledger.specs.Headers.{header_id}
use Rattle.xl_rounds.specs.declared.heartbeat.Said.{Said}
use Rattle.xl_rounds.specs.Rounds.{is_proposing}
use Rattle.xl_rounds.specs.declared.placed.Placed.{Placed}
use Rattle.xl_rounds.specs.declared.refusal.RoundRefusal.{RoundRefusal}
use Rattle.xl_core.specs.Answers.{Done}
use Rattle.xl_core.specs.Building.{said_items}
use Rattle.xl_core.proofs.Timing.{timing_by, submit_either, relist_either}
use Rattle.xl_core.specs.declared.settings.Settings.{Settings}
use Rattle.xl_io.specs.Keepers.{Held, MayHold, after_save}
use Rattle.xl_queues.specs.Queues.{Backlog, no_items, with_item}
use Rattle.xl_wire.specs.declared.validation.Validation.{Validation}
use Rattle.xl_validations.specs.declared.row.Row.{Row}
use Rattle.xl_validations.specs.Rows.{row_of, row_at, unexpired, is_current, refusal, with_validation, at_member, empty_row, row_for, relisted}
use Rattle.xl_validations.proofs.Relisting.{its_current, its_member}
use Rattle.xl_lists.specs.Lists.{TrustedList}
use Rattle.xl_core.specs.declared.hearing.Spoken.{Spoken}
use Rattle.xl_core.specs.declared.hearing.Speech.{Speech}
use Rattle.xl_core.specs.declared.hearing.Speech.TheVariants as speech
use Rattle.xl_core.specs.declared.refusal.Refusal.{Refusal}
use Rattle.xl_core.specs.declared.refusal.Refusal.TheVariants.{NotAfter}
use Rattle.xl_core.specs.Hearing.{spoken_in}
use Rattle.xl_core.specs.Answers.{given_in, handed_in}
use Rattle.xl_core.specs.Node.{Node, Reply, Save, proposal_answer, placed_as, taken_reply, bytes_reply, issued_reply, issued_unless_off, issuing_reply, asks_for, asks_of, reply_with, timer_reply, validates, validating_built, refusing_reply, at_moment, second_of, own_validation, take, unless_failed, is_kept, opened_node}
use Rattle.xl_core.specs.Issuing.Save.{Kept, Failed}
use Rattle.xl_core.specs.Queues.{with_items, at_number, after_taking, waiting_at}
use Rattle.xl_core.specs.Core.{Core, after_reply, with_queues, greeted_frames, given_for, core_happens, core_asks}
use Rattle.xl_core.specs.declared.event.CoreEvent.TheVariants.{Issue, Frame, Timer, Submit, Drain, Relist}
use Rattle.xl_core.specs.declared.item.Item.{Item}
use Rattle.xl_core.specs.declared.item.Item.TheVariants.{Validation as ValidationItem, Tx, TxSet, Proposal, Header as HeaderItem}
use Rattle.xl_core.specs.Stops.{IsCovered, IsItemCovered, own_current}
use Rattle.xl_queues.specs.Broadcasts.{queue_of, pushed_to_all}
use Rattle.xl_core.proofs.Frames.{hearing_either}

-- A ROW

-- what the row of a number has taken, if it has one
abbrev current_of : List Row → ℕ → Option Validation
current_of rows me = option_and_then (λ row. row.current) (row_of rows me)

abbrev AtMost : ℕ → Option Validation → Type 0
AtMost kept o = IfSome o (λ v. v.seq ≤ kept)

-- each item that waits is covered
abbrev pub AllCovered : ℕ → List (Backlog Item) → Type 0
AllCovered kept waiting = All (λ q. All (IsItemCovered kept) q.items) waiting

differs : (m n : ℕ) → m ≢ n → (m == n) ≡ false
differs m n other = false_from_ne_true (m == n) (λ e. other (eqb-true m n e))

taking_member : (now : ℕ) (v : Validation) (row : Row) → (take now v row).member ≡ row.member
taking_member now v row = cond_both (is_none (refusal row now v)) (with_validation v row) row (λ r. r.member ≡ row.member) (λ _. refl) (λ _. refl)

-- another number's row stays
other_row : (from me : ℕ) (f : Row → Row) → ((row : Row) → (f row).member ≡ row.member) → from ≢ me → (rows : List Row) → row_of (at_member from f rows) me ≡ row_of rows me
other_row from me f same other [] = refl
other_row from me f same other (row ∷ rows) =
    cond_both (row.member == from) (f row ∷ rows) (row ∷ at_member from f rows) (λ rs. row_of rs me ≡ row_of (row ∷ rows) me)
    (λ is.
    let not_me : (row.member == me) ≡ false = subst (λ (m : ℕ). (m == me) ≡ false) (sym (eqb-true row.member from is)) (differs from me other) in
    cond-false ((f row).member == me) (Some (f row)) (row_of rows me) (ap (λ (m : ℕ). m == me) (same row) ∙ not_me) ∙ sym (cond-false (row.member == me) (Some row) (row_of rows me) not_me))
    (λ _. ap (λ (o : Option Row). cond (row.member == me) (Some row) o) (other_row from me f same other rows))

-- a row expires
expired_most : (kept s : ℕ) (o : Option Validation) → AtMost kept o → AtMost kept (unexpired s o)
expired_most kept s None most = most
expired_most kept s (Some v) most = cond_both (is_current s v) (Some v) None (AtMost kept) (λ _. most) (λ _. tt)

current_then : (kept s me : ℕ) (rows : List Row) → AtMost kept (current_of rows me) → AtMost kept (current_of (map (row_at s) rows) me)
current_then kept s me [] most = most
current_then kept s me (row ∷ rows) most =
    split (row.member == me) (current_then kept s me rows) most
  where
    split : (b : Bool) → (AtMost kept (current_of rows me) → AtMost kept (current_of (map (row_at s) rows) me)) →
        AtMost kept (option_and_then (λ r. r.current) (cond b (Some row) (row_of rows me))) → AtMost kept (option_and_then (λ r. r.current) (cond b (Some (row_at s row)) (row_of (map (row_at s) rows) me)))
    split true rest h = expired_most kept s row.current h
    split false rest h = rest h

-- the own row takes what is issued, or stays
taking_most : (kept now : ℕ) (v : Validation) (row : Row) → v.seq ≤ kept → AtMost kept row.current → AtMost kept (take now v row).current
taking_most kept now v row le most = cond_both (is_none (refusal row now v)) (with_validation v row) row (λ r. AtMost kept r.current) (λ _. le) (λ _. most)

own_taken : (kept me now : ℕ) (v : Validation) (rows : List Row) → v.seq ≤ kept → AtMost kept (current_of rows me) → AtMost kept (current_of (at_member me (take now v) rows) me)
own_taken kept me now v [] le most = most
own_taken kept me now v (row ∷ rows) le most =
    split (row.member == me) (own_taken kept me now v rows le) refl most
  where
    split : (b : Bool) → (AtMost kept (current_of rows me) → AtMost kept (current_of (at_member me (take now v) rows) me)) → (row.member == me) ≡ b → AtMost kept (option_and_then (λ r. r.current) (cond b (Some row) (row_of rows me))) →
        AtMost kept (option_and_then (λ r. r.current) (row_of (cond b (take now v row ∷ rows) (row ∷ at_member me (take now v) rows)) me))
    split true rest is h =
        subst (λ (o : Option Row). AtMost kept (option_and_then (λ r. r.current) o)) (sym (cond-true ((take now v row).member == me) (Some (take now v row)) (row_of rows me) (ap (λ (m : ℕ). m == me) (taking_member now v row) ∙ is)))
        (taking_most kept now v row le h)
    split false rest is h =
        subst (λ (o : Option Row). AtMost kept (option_and_then (λ r. r.current) o)) (sym (cond-false (row.member == me) (Some row) (row_of (at_member me (take now v) rows) me) is))
        (rest h)

most_later : (old new : ℕ) (o : Option Validation) → old ≤ new → AtMost old o → AtMost new o
most_later old new None le most = most
most_later old new (Some v) le most = omega (arith, le, most)

-- HEARING

-- what is heard neither changes the own row, but by the time, nor the kept number, and issues nothing
pub record IsAside (n : Node) (reply : Reply) : Type 0 where
  pub kept : reply.node.kept ≡ n.kept
  pub own : own_current reply.node ≡ own_current n
  pub items : reply.items ≡ []

aside : (n : Node) (why : Refusal) → IsAside n (refusing_reply n why)
aside n why = record { kept = refl; own = refl; items = refl }

taking_aside : (n : Node) (from : ℕ) (what : Speech) → from ≢ n.me → IsAside n (taken_reply n from what)
taking_aside n from (speech.Validation v) other = record {
  kept = refl;
  own = ap (λ (o : Option Row). option_and_then (λ row. row.current) o) (other_row from n.me (take (second_of n) v) (taking_member (second_of n) v) other n.rows);
  items = refl;
}
taking_aside n from what other = record { kept = refl; own = refl; items = refl }

hearing_aside : (n : Node) (bytes : List ℕ) → ((said : Spoken) → spoken_in n.keys n.list.members bytes ≡ Ok said → said.from ≢ n.me) → IsAside n (bytes_reply n bytes)
hearing_aside n bytes others = hearing_either (IsAside n) n bytes (aside n) (λ said is. taking_aside n said.from said.what (others said is))

-- hearing leaves the kept number, and hands out and gives nothing
pub record IsHearing (n : Node) (reply : Reply) : Type 0 where
  pub kept : reply.node.kept ≡ n.kept
  pub given : given_in reply.answer ≡ []
  pub handed : handed_in reply.answer ≡ []

place_given : (r : Result Placed RoundRefusal) → given_in (placed_as r) ≡ []
place_given (Ok became) = refl
place_given (Err why) = refl

place_handed : (r : Result Placed RoundRefusal) → handed_in (placed_as r) ≡ []
place_handed (Ok became) = refl
place_handed (Err why) = refl

taking_keeps : (n : Node) (from : ℕ) (what : Speech) → IsHearing n (taken_reply n from what)
taking_keeps n from (speech.Proposal p) = record {
  kept = refl;
  given = place_given (proposal_answer n from p);
  handed = place_handed (proposal_answer n from p);
}
taking_keeps n from other = record { kept = refl; given = refl; handed = refl }

pub heard_keeps : (n : Node) (now : ℕ) (bytes : List ℕ) → IsHearing (at_moment now n) (bytes_reply (at_moment now n) bytes)
heard_keeps n now bytes =
    let m : Node = at_moment now n in
    hearing_either (IsHearing m) m bytes (λ _. record { kept = refl; given = refl; handed = refl }) (λ said _. taking_keeps m said.from said.what)

-- a step that issues nothing
step_covered : (held : Held) (core : Core) (reply : Reply) → reply.node.kept ≡ core.node.kept → AtMost core.node.kept (own_current reply.node) → reply.items ≡ [] → IsCovered held core → IsCovered held (after_reply core reply).core
step_covered held core reply same own none was = record {
  saved = λ n may. omega (arith, was.saved n may, same);
  own = subst (λ (k : ℕ). AtMost k (own_current reply.node)) (sym same) own;
  waiting = subst (λ (k : ℕ). AllCovered k (with_items core.waiting reply.items)) (sym same)
      (subst (λ (xs : List Item). AllCovered core.node.kept (with_items core.waiting xs)) (sym none) was.waiting);
}

pub frame_covered : (held : Held) (core : Core) (now : ℕ) (bytes : List ℕ) → ((said : Spoken) → spoken_in core.node.keys core.node.list.members bytes ≡ Ok said → said.from ≢ core.node.me) → IsCovered held core →
    IsCovered held (core_happens core (Frame now bytes) Kept).core
frame_covered held core now bytes others was =
    let m : Node = at_moment now core.node in
    let reply : Reply = bytes_reply m bytes in
    let beside = hearing_aside m bytes others in
    step_covered held core reply beside.kept
    (subst (AtMost core.node.kept) (sym beside.own) (current_then core.node.kept (max core.node.time now / 1000) core.node.me core.node.rows was.own))
    beside.items was

-- ISSUING

-- an item that is covered stays so as the kept number rises
still_covered : (old kept : ℕ) → old ≤ kept → (item : Item) → IsItemCovered old item → IsItemCovered kept item
still_covered old kept le (ValidationItem v) covered = omega (arith, covered, le)
still_covered old kept le (Tx tx) covered = tt
still_covered old kept le (TxSet id) covered = tt
still_covered old kept le (Proposal p) covered = tt
still_covered old kept le (HeaderItem ledger) covered = tt

-- each item of a queue, with this one
items_most : (old kept : ℕ) (q : Backlog Item) (item : Item) → old ≤ kept → IsItemCovered kept item → All (IsItemCovered old) q.items → All (IsItemCovered kept) (with_item 64 q item).items
items_most old kept q item le at most =
    let all : All (IsItemCovered kept) (q.items ++ item ∷ []) = All-append (IsItemCovered kept) q.items (item ∷ []) (All-weaker (IsItemCovered old) (IsItemCovered kept) (still_covered old kept le) q.items most)
    (All-cons (IsItemCovered kept) item [] at (All-nil (IsItemCovered kept))) in
    cond_both (nat_lt (length q.items) 64) (q.items ++ item ∷ []) (drop 1 (q.items ++ item ∷ [])) (All (IsItemCovered kept)) (λ _. all) (λ _. All-drop (IsItemCovered kept) 1 (q.items ++ item ∷ []) all)

queues_most : (old kept : ℕ) (item : Item) (waiting : List (Backlog Item)) → old ≤ kept → IsItemCovered kept item → AllCovered old waiting → AllCovered kept (pushed_to_all 64 waiting item)
queues_most old kept item waiting le at was =
    All-map (λ q. All (IsItemCovered kept) q.items) (λ q. with_item 64 q item) waiting
    (All-weaker (λ q. All (IsItemCovered old) q.items) (λ q. All (IsItemCovered kept) (with_item 64 q item).items) (λ q most. items_most old kept q item le at most) waiting was)

-- with more items
many_most : (kept : ℕ) (items : List Item) (waiting : List (Backlog Item)) → All (IsItemCovered kept) items → AllCovered kept waiting → AllCovered kept (with_items waiting items)
many_most kept [] waiting each was = was
many_most kept (item ∷ items) waiting each was =
    many_most kept items (pushed_to_all 64 waiting item) (All-tail (IsItemCovered kept) item items each) (queues_most kept kept item waiting (omega arith) (All-head (IsItemCovered kept) item items each) was)

pub items_then : (xs ys : List Item) (waiting : List (Backlog Item)) → with_items (with_items waiting xs) ys ≡ with_items waiting (xs ++ ys)
items_then [] ys waiting = refl
items_then (x ∷ xs) ys waiting = items_then xs ys (pushed_to_all 64 waiting x)

-- a position that is said
said_covered : (kept : ℕ) (said : Option Said) → All (IsItemCovered kept) (said_items said)
said_covered kept None = All-nil (IsItemCovered kept)
said_covered kept (Some said) =
    let position : All (IsItemCovered kept) (Proposal said.proposal ∷ []) = All-cons (IsItemCovered kept) (Proposal said.proposal) [] tt (All-nil (IsItemCovered kept)) in
    cond_both said.with_set (TxSet said.proposal.set ∷ Proposal said.proposal ∷ []) (Proposal said.proposal ∷ []) (All (IsItemCovered kept))
    (λ _. All-cons (IsItemCovered kept) (TxSet said.proposal.set) (Proposal said.proposal ∷ []) tt position) (λ _. position)

-- the node's time and rows, before it issues
later_covered : (held : Held) (core : Core) (now : ℕ) → IsCovered held core → IsCovered held (record core { node = at_moment now core.node })
later_covered held core now was = record {
  saved = was.saved;
  own = current_then core.node.kept (max core.node.time now / 1000) core.node.me core.node.rows was.own;
  waiting = was.waiting;
}

-- a save of a greater number
saves_covered : (held : Held) (core : Core) (save : Save) (v : Validation) → core.node.kept < v.seq → IsCovered held core →
    IsCovered (after_save held (Some v.seq) (is_kept save)) (after_reply core (issued_reply core.node (second_of core.node) save v)).core
saves_covered held core Kept v above was = record {
  saved = λ n may. elim may [
    | inl is ↦ omega (arith, is)
    | inr asked ↦ absurd (none_asked n asked)
  ];
  own = own_taken v.seq core.node.me (second_of core.node) v core.node.rows (omega arith) (most_later core.node.kept v.seq (own_current core.node) (omega (arith, above)) was.own);
  waiting = queues_most core.node.kept v.seq (ValidationItem v) core.waiting (omega (arith, above)) (omega arith) was.waiting;
}
  where
    none_asked : (n : ℕ) → None ≡ Some n → ⊥
    none_asked n e = cc
saves_covered held core (Failed count) v above was = record {
  saved = λ n may. elim may [
    | inl is ↦ was.saved n (inl is)
    | inr asked ↦ omega (arith, same n asked, above)
  ];
  own = was.own;
  waiting = was.waiting;
}
  where
    same : (n : ℕ) → Some v.seq ≡ Some n → v.seq ≡ n
    same n e = cc

unless_covered : (held : Held) (core : Core) (off : Option ℕ) (save : Save) (v : Validation) → core.node.kept < v.seq → IsCovered held core →
    IsCovered (after_save held (unless_failed off v.seq) (is_kept save)) (after_reply core (issued_unless_off core.node off save v)).core
unless_covered held core None save v above was = saves_covered held core save v above was
unless_covered held core (Some failed) save v above was = record { saved = was.saved; own = was.own; waiting = was.waiting }

issuing_covered : (held : Held) (core : Core) (seq : ℕ) (save : Save) (v : Validation) (b : Bool) → nat_lt core.node.kept seq ≡ b → v.seq ≡ seq → IsCovered held core →
    IsCovered (after_save held (cond b (unless_failed core.node.failed_save seq) None) (is_kept save)) (after_reply core (cond b (issued_unless_off core.node core.node.failed_save save v) (refusing_reply core.node (NotAfter core.node.kept)))).core
issuing_covered held core seq save v true above same was =
    subst (λ (s : ℕ). IsCovered (after_save held (unless_failed core.node.failed_save s) (is_kept save)) (after_reply core (issued_unless_off core.node core.node.failed_save save v)).core) same
    (unless_covered held core core.node.failed_save save v (omega (arith, ltb-true core.node.kept seq above, same)) was)
issuing_covered held core seq save v false above same was = record { saved = was.saved; own = was.own; waiting = was.waiting }

pub issue_covered : (held : Held) (core : Core) (now seq : ℕ) (id : LedgerId) (full : Bool) (save : Save) → IsCovered held core →
    IsCovered (after_save held (core_asks core (Issue now seq id full)) (is_kept save)) (core_happens core (Issue now seq id full) save).core
issue_covered held core now seq id full save was =
    let m : Node = at_moment now core.node in
    issuing_covered held (record core { node = m }) seq save (own_validation m seq id full) (nat_lt m.kept seq) refl refl (later_covered held core now was)

-- HANDING IN

pub submit_covered : (held : Held) (core : Core) (now : ℕ) (tx : TxId) (save : Save) → IsCovered held core → IsCovered held (core_happens core (Submit now tx) save).core
submit_covered held core now tx save was =
    let m : Node = at_moment now core.node in
    let moved : IsCovered held (record core { node = m }) = later_covered held core now was in
    submit_either (λ r. IsCovered held (after_reply core r).core) m tx
    (λ _. record { saved = moved.saved; own = moved.own; waiting = moved.waiting })
    (record { saved = moved.saved; own = moved.own; waiting = queues_most m.kept m.kept (Tx tx) core.waiting (omega arith) tt moved.waiting })

-- ANOTHER LIST

-- the own row is kept, or empty
relisted_most : (kept me : ℕ) (ms : List ℕ) (rows : List Row) → AtMost kept (current_of rows me) → AtMost kept (current_of (relisted ms rows) me)
relisted_most kept me [] rows most = tt
relisted_most kept me (m ∷ ms) rows most =
    cond_both ((row_for rows m).member == me) (Some (row_for rows m)) (row_of (relisted ms rows) me) (λ o. AtMost kept (option_and_then (λ r. r.current) o))
    (λ same. subst (AtMost kept) (sym (its_current rows m)) (subst (λ (k : ℕ). AtMost kept (current_of rows k)) (sym (sym (its_member rows m) ∙ eqb-true (row_for rows m).member me same)) most))
    (λ _. relisted_most kept me ms rows most)

pub relist_covered : (held : Held) (core : Core) (now : ℕ) (list : TrustedList) (save : Save) → IsCovered held core → IsCovered held (core_happens core (Relist now list) save).core
relist_covered held core now list save was =
    let m : Node = at_moment now core.node in
    let moved : IsCovered held (record core { node = m }) = later_covered held core now was in
    relist_either (λ r. IsCovered held (after_reply core r).core) m list
    (λ _. record { saved = moved.saved; own = moved.own; waiting = moved.waiting })
    (λ _. record { saved = moved.saved; own = relisted_most m.kept m.me list.members m.rows moved.own; waiting = moved.waiting })

-- THE TIMER

-- what was built is validated, or not
validating_covered : (held : Held) (core : Core) (h : Header) (full : Bool) (save : Save) (b : Bool) → IsCovered held core →
    IsCovered (after_save held (cond b (asks_for core.node h.seq) None) (is_kept save)) (after_reply core (cond b (issuing_reply core.node h.seq (header_id h) full save) (reply_with core.node Done []))).core
validating_covered held core h full save true was = issuing_covered held core h.seq save (own_validation core.node h.seq (header_id h) full) (nat_lt core.node.kept h.seq) refl refl was
validating_covered held core h full save false was = record { saved = was.saved; own = was.own; waiting = was.waiting }

pub timer_covered : (held : Held) (core : Core) (now : ℕ) (save : Save) → IsCovered held core →
    IsCovered (after_save held (core_asks core (Timer now)) (is_kept save)) (core_happens core (Timer now) save).core
timer_covered held core now save was =
    let m : Node = at_moment now core.node in
    let moved : IsCovered held (record core { node = m }) = later_covered held core now was in
    timing_by (λ t. IsCovered (after_save held (asks_of t) (is_kept save)) (after_reply core (timer_reply t save)).core) m
    (λ r told said. record { saved = moved.saved; own = moved.own; waiting = many_most m.kept (said_items said) core.waiting (said_covered m.kept said) moved.waiting })
    (λ ledgers r said h place moved_on _.
    let built : Node = record m { ledgers = ledgers; round = r } in
    let front : List Item = said_items said ++ HeaderItem (header_id h) ∷ [] in
    let sent : Core = record core { node = built; waiting = with_items core.waiting front } in
    let before : IsCovered held sent = record {
      saved = moved.saved;
      own = moved.own;
      waiting = many_most m.kept front core.waiting
          (All-append (IsItemCovered m.kept) (said_items said) (HeaderItem (header_id h) ∷ []) (said_covered m.kept said) (All-cons (IsItemCovered m.kept) (HeaderItem (header_id h)) [] tt (All-nil (IsItemCovered m.kept)))) moved.waiting;
    } in
    let v : Reply = validating_built built h moved_on save in
    let after = validating_covered held sent h (is_proposing r.setting.mode) save (validates built moved_on) before in
    record {
      saved = after.saved;
      own = after.own;
      waiting = subst (AllCovered v.node.kept) (items_then front v.items core.waiting ∙ ap (with_items core.waiting) (append_assoc (said_items said) (HeaderItem (header_id h) ∷ []) v.items)) after.waiting;
    })

pub timer_covers : (before after : Held) (old new : Option Held) (core : Core) (now : ℕ) (save : Save) →
    new ≡ option_map (λ held. after_save held (core_asks core (Timer now)) (is_kept save)) old → old ≡ Some before → new ≡ Some after → IsCovered before core →
    IsCovered after (core_happens core (Timer now) save).core
timer_covers before after old new core now save is was_told is_told was =
    let told : Some (after_save before (core_asks core (Timer now)) (is_kept save)) ≡ Some after =
    sym (is ∙ ap (λ (o : Option Held). option_map (λ held. after_save held (core_asks core (Timer now)) (is_kept save)) o) was_told) ∙ is_told in
    subst (λ (h : Held). IsCovered h (core_happens core (Timer now) save).core) (same_Some (after_save before (core_asks core (Timer now)) (is_kept save)) after told) (timer_covered before core now save was)

-- what the keeper was and is told to hold
pub issue_covers : (before after : Held) (old new : Option Held) (core : Core) (now seq : ℕ) (id : LedgerId) (full : Bool) (save : Save) →
    new ≡ option_map (λ held. after_save held (core_asks core (Issue now seq id full)) (is_kept save)) old → old ≡ Some before → new ≡ Some after → IsCovered before core →
    IsCovered after (core_happens core (Issue now seq id full) save).core
issue_covers before after old new core now seq id full save is was_told is_told was =
    let told : Some (after_save before (core_asks core (Issue now seq id full)) (is_kept save)) ≡ Some after =
    sym (is ∙ ap (λ (o : Option Held). option_map (λ held. after_save held (core_asks core (Issue now seq id full)) (is_kept save)) o) was_told) ∙ is_told in
    subst (λ (h : Held). IsCovered h (core_happens core (Issue now seq id full) save).core) (some_same _ after told) (issue_covered before core now seq id full save was)
  where
    some_same : (a b : Held) → Some a ≡ Some b → a ≡ b
    some_same a b e = cc

-- DRAINING

-- what waits for one number
pub waiting_covered : (kept : ℕ) (waiting : List (Backlog Item)) (number : ℕ) → AllCovered kept waiting → All (IsItemCovered kept) (waiting_at waiting number).items
waiting_covered kept waiting zero was = All-nil (IsItemCovered kept)
waiting_covered kept waiting (suc place) was = at_place waiting place was
  where
    at_place : (qs : List (Backlog Item)) (k : ℕ) → AllCovered kept qs → All (IsItemCovered kept) (queue_of qs k).items
    at_place [] k each = All-nil (IsItemCovered kept)
    at_place (q ∷ qs) zero each = All-head (λ x. All (IsItemCovered kept) x.items) q qs each
    at_place (q ∷ qs) (suc k) each = at_place qs k (All-tail (λ x. All (IsItemCovered kept) x.items) q qs each)

drained_most : (kept number : ℕ) (waiting : List (Backlog Item)) (taken : List (Option (List ℕ))) → AllCovered kept waiting → AllCovered kept (at_number waiting number (after_taking taken))
drained_most kept zero waiting taken was = was
drained_most kept (suc place) waiting taken was =
    All-set (λ q. All (IsItemCovered kept) q.items) waiting place (after_taking taken (queue_of waiting place))
    (All-drop (IsItemCovered kept) (length taken) (queue_of waiting place).items (waiting_covered kept waiting (suc place) was)) was

pub drain_covered : (held : Held) (core : Core) (member room : ℕ) → IsCovered held core → IsCovered held (core_happens core (Drain member room) Kept).core
drain_covered held core member room was = record {
  saved = was.saved;
  own = was.own;
  waiting = drained_most core.node.kept member core.waiting (drop (length (greeted_frames core member)) (given_for core member room)) was.waiting;
}

-- OPENING

empty_most : (kept me : ℕ) (members : List ℕ) → AtMost kept (current_of (map empty_row members) me)
empty_most kept me [] = tt
empty_most kept me (m ∷ ms) =
    cond_both (m == me) (Some (empty_row m)) (row_of (map empty_row ms) me) (λ o. AtMost kept (option_and_then (λ row. row.current) o)) (λ _. tt) (λ _. empty_most kept me ms)

-- nothing is said yet
pub opened_covered : (held : Held) (settings : Settings) (now kept : ℕ) → ((n : ℕ) → MayHold held n → kept ≤ n) → IsCovered held (with_queues (opened_node settings now kept))
opened_covered held settings now kept holds = record {
  saved = holds;
  own = empty_most kept settings.me settings.list.members;
  waiting = nothing_waits 64;
}
  where
    nothing_waits : (n : ℕ) → AllCovered kept (replicate n no_items)
    nothing_waits zero = All-nil (λ q. All (IsItemCovered kept) q.items)
    nothing_waits (suc n) = All-cons (λ q. All (IsItemCovered kept) q.items) no_items (replicate n no_items) (All-nil (IsItemCovered kept)) (nothing_waits n)
