-- What a history leaves of the entries that are kept.
use Rattle.std.proofs.Common.{◌≡◌, ◌≤◌, ℕ, ◌+◌, ◌-◌, ◌<◌, ◌^◌, Bool, true, false, not, cond, List, [], ◌∷◌, ◌++◌, length, take, drop, reverse, get_or, refl, sym, ap, ◌∙◌, subst, arith, append_assoc, append-nil, length-append, Option, Some, None}
use Rattle.std.specs.Global.{Box}
use Rattle.std.specs.List.{prefix_len}
use Rattle.std.proofs.lemmas.List.{drop-append-le, length-drop, length-reverse, reverse-append}
use Rattle.std.proofs.lemmas.List.Sums.{prefix_len-le-length}
use Rattle.std.proofs.Math.Seq.{take-append_seam, drop-append-add}
use Rattle.xl_io.specs.Keepers.{Held}
use Rattle.xl_core.specs.Core.{Core, core_asks}
use Rattle.xl_core.specs.Keeping.{IsAsked}
use Rattle.xl_core.specs.Node.{is_kept}
use Rattle.xl_turns.specs.Histories.{Runs}
use Rattle.xl_store.specs.declared.entry.Entry.{Entry}
use Rattle.xl_store.specs.declared.home.Home.{Home}
use Rattle.xl_store.specs.declared.retention.Retention.{Retention}
use Rattle.xl_store.specs.declared.retention.Retention.TheVariants as retention
use Rattle.xl_store.specs.declared.retention.Kept.{Kept}
use Rattle.xl_store.specs.declared.retention.Kept.TheVariants as kept
use Rattle.xl_store.specs.Entries.{save_of, Leads}
use Rattle.xl_store.specs.Homes.{IsCounted, Goes, LeadsHome}
use Rattle.xl_store.specs.Retentions.{how_many, is_something, keeps_any, kept_of, kept_with, left_in, left_of, handed_on, passed_by, passed_on, passed_with, since_reports, through_reports, from_place, takes_reports}

-- an entry that isn't kept over a taking of reports
abbrev passes : Entry → Bool
passes e = not (takes_reports e.event)

-- the place up to which reports were taken, with one entry more
through_more : (es : List Entry) (e : Entry)
    → through_reports (es ++ e ∷ []) ≡ cond (takes_reports e.event) (length es + 1) (through_reports es)
through_more es e =
    (λ i. length-append es (e ∷ []) i - prefix_len passes (reverse-append es (e ∷ []) i)) ∙ by (takes_reports e.event)
  where
    by : (b : Bool) → length es + 1 - cond (not b) (1 + prefix_len passes (reverse es)) 0
        ≡ cond b (length es + 1) (through_reports es)
    by true = omega arith
    by false = omega (arith, prefix_len-le-length passes (reverse es), length-reverse es)

through_below : (es : List Entry) → through_reports es ≤ length es
through_below es = omega arith

-- so many stand there, and the others behind them
through_since : (es : List Entry) → through_reports es + length (since_reports es) ≡ length es
through_since es = omega (arith, length-drop (through_reports es) es, through_below es)

-- what is kept of a history, with one entry more
kept_more : (k : Retention) (es : List Entry) (e : Entry)
    → kept_with (kept_of k es) (takes_reports e.event) (e ∷ []) ≡ kept_of k (es ++ e ∷ [])
kept_more retention.Nothing es e = refl
kept_more retention.Whole es e = refl
kept_more retention.Passing es e =
    by (takes_reports e.event) (through_reports (es ++ e ∷ [])) (through_more es e)
  where
    by : (b : Bool) (place : ℕ) → place ≡ cond b (length es + 1) (through_reports es)
        → kept_with (kept.Passing (through_reports es) (since_reports es)) b (e ∷ [])
        ≡ kept.Passing place (drop place (es ++ e ∷ []))
    by true place is =
        let all : through_reports es + (length (since_reports es) + 1) ≡ length es + 1 = omega (arith, through_since es) in
        let none : drop (length es + 1) (es ++ e ∷ []) ≡ [] = drop-append-add es (e ∷ []) 1 in
        (λ i. kept.Passing (all i) (sym none i)) ∙ ap (λ (n : ℕ). kept.Passing n (drop n (es ++ e ∷ []))) (sym is)
    by false place is =
        ap (kept.Passing (through_reports es)) (sym (drop-append-le (through_reports es) es (e ∷ []) (through_below es)))
        ∙ ap (λ (n : ℕ). kept.Passing n (drop n (es ++ e ∷ []))) (sym is)

some_if : (k : Retention) (es : List Entry) → is_something (kept_of k es) ≡ keeps_any k
some_if retention.Nothing es = refl
some_if retention.Whole es = refl
some_if retention.Passing es = refl

few : (k : Retention) (es : List Entry) → how_many (kept_of k es) ≤ length es
few retention.Nothing es = omega arith
few retention.Whole es = omega arith
few retention.Passing es = omega (arith, through_since es)

pub only_one : (a b : Entry) → a ∷ [] ≡ b ∷ [] → a ≡ b
only_one a b same = ap (λ (l : List Entry). get_or l 0 a) same

-- whether the page has a node, and the room for it
pub node_if : (k : Retention) (node : Bool) (kept : Kept) (es : List Entry) → kept ≡ kept_of k es
    → node ≡ keeps_any k → node ≡ is_something kept
node_if k node kept es is same = same ∙ sym (ap is_something is ∙ some_if k es)

pub room_if : (k : Retention) (kept : Kept) (es page : List Entry) (e : Entry) → kept ≡ kept_of k es
    → page ≡ e ∷ [] → length es < 2 ^ 62 → how_many kept + length page < 2 ^ 63
room_if k kept es page e is one below =
    omega (arith, ap (length {A = Entry}) one, ap how_many is, few k es, below)

pub left_is : (k : Retention) (es : List Entry) → left_in (kept_of k es) ≡ left_of k es
left_is retention.Nothing es = refl
left_is retention.Whole es = refl
left_is retention.Passing es = refl

-- what an entry hands on, of what is kept and of the history
pub passed_is : (k : Retention) (es : List Entry) (e : Entry)
    → passed_with (kept_of k es) (takes_reports e.event) (e ∷ []) ≡ passed_by k es e
passed_is retention.Nothing es e = refl
passed_is retention.Whole es e = refl
passed_is retention.Passing es e = refl

-- an entry by which reports are taken hands on what the history says of its last
pub handed_last : (k : Retention) (earlier seen : List Entry) (e : Entry) → takes_reports e.event ≡ true
    → seen ≡ earlier ++ e ∷ [] → passed_by k earlier e ≡ handed_on k seen
handed_last retention.Nothing earlier seen e takes is = refl
handed_last retention.Whole earlier seen e takes is = refl
handed_last retention.Passing earlier seen e takes is =
    let long : length seen - 1 ≡ length earlier =
    omega (arith, ap (length {A = Entry}) is, length-append earlier (e ∷ [])) in
    let front : take (length seen - 1) seen ≡ earlier =
    (λ i. take (long i) (is i)) ∙ take-append_seam earlier (e ∷ []) in
    let place : through_reports (take (length seen - 1) seen) ≡ through_reports earlier = ap through_reports front in
    let rest : drop (through_reports earlier) seen ≡ since_reports earlier ++ e ∷ [] =
    ap (drop (through_reports earlier)) is
    ∙ drop-append-le (through_reports earlier) earlier (e ∷ []) (through_below earlier) in
    ap (λ (b : Bool). passed_on b (through_reports earlier) (since_reports earlier ++ e ∷ [])) takes
    ∙ ap (λ (es : List Entry). Some (record { first = through_reports earlier; entries = es })) (sym rest)
    ∙ ap (λ (n : ℕ). Some (from_place n seen)) (sym place)

module _ {B K : Type 0}
    (held_by : K → Option Held) (saves_of : K → Option (List ℕ)) (faults_of : K → ℕ)
    (gives : K → ℕ → Bool → K → Type 0) where
  kept_run : (k : Retention) (a b : Box (Home B K)) (done es : List Entry) → a.value.kept ≡ kept_of k done
      → Runs (LeadsHome held_by saves_of faults_of gives) a es b → b.value.kept ≡ kept_of k (done ++ es)
  kept_run k a b done [] is r =
      ap (λ (x : Box (Home B K)). x.value.kept) (sym r) ∙ is ∙ ap (kept_of k) (sym (append-nil done))
  kept_run k a b done (e ∷ es) is r =
      kept_run k r.0 b (done ++ e ∷ []) es
      (r.1.1 ∙ ap (λ (x : Kept). kept_with x (takes_reports e.event) (e ∷ [])) is ∙ kept_more k done e) r.2
      ∙ ap (kept_of k) (append_assoc done (e ∷ []) es)

  -- of the whole history that is kept which the store was opened for
  pub kept_all : (k : Retention) (a b : Box (Home B K)) (es : List Entry) → a.value.kept ≡ kept_of k []
      → Runs (LeadsHome held_by saves_of faults_of gives) a es b → b.value.kept ≡ kept_of k es
  kept_all k a b es opened r = kept_run k a b [] es opened r

  -- what an entry does doesn't depend on what is kept
  pub goes_so : (before done after : Home B K) (e : Entry) → Goes held_by saves_of faults_of gives before e done
      → after.core ≡ done.core → after.keeper ≡ done.keeper
      → Goes held_by saves_of faults_of gives before e after
  goes_so before done after e goes core keeper = record {
    core = subst (λ (c : Core). Leads before.core e c) (sym core) goes.core;
    keeper = subst (λ (k : K). IsAsked held_by saves_of faults_of gives
        (core_asks before.core e.event) (is_kept (save_of e.outcome)) before.keeper k) (sym keeper) goes.keeper;
    counted = subst (λ (k : K). IsCounted e.outcome (faults_of before.keeper) (faults_of k)) (sym keeper) goes.counted;
  }
