-- A node at its opening is at rest: no row holds a validation.
use Rattle.std.proofs.Common.{◌≡◌, ℕ, Bool, ◌≤◌, ◌/◌, List, [], ◌∷◌, refl, arith, ap, sym, ◌∙◌, subst, false}
use Rattle.std.specs.Prelude.{map, max}
use Rattle.xl_base.specs.declared.ids.LedgerId.{LedgerId}
use Rattle.xl_lists.specs.Lists.{IsValid}
use Rattle.xl_core.specs.declared.settings.Settings.{Settings}
use Rattle.xl_lists.proofs.Counting.{count_by-cons}
use Rattle.xl_validations.specs.Rows.{empty_row, is_full_of, count_full}
use Rattle.xl_queues.specs.Queues.{Backlog, no_items}
use Rattle.xl_core.specs.declared.item.Item.{Item}
use Rattle.xl_core.specs.declared.report.Report.{Report}
use Rattle.xl_core.specs.Greetings.{none_greeted}
use Rattle.xl_core.specs.Queues.{none_waiting}
use Rattle.xl_core.specs.Core.{Core, with_queues}
use Rattle.xl_core.specs.Node.{Node, opened_node}
use Rattle.xl_core.specs.Rest.{IsAtRest, IsKeyed, IsReady}
use Rattle.xl_core.proofs.Current.{opened_current}
use Rattle.xl_base.specs.Moments.{greatest_millis}
use Rattle.xl_ledger.specs.Registries.{Ledgers, only_root}
use Rattle.xl_tags.specs.Rings.{Ring}
use Rattle.xl_rounds.specs.Rounds.{Round, first_round as opened_round}
use Rattle.xl_ledger.specs.declared.header.Header.{Header}
use Rattle.xl_rounds.specs.declared.phase.Mode.{Mode}
use Rattle.xl_core.specs.Building.{usual_mode}
use Rattle.xl_validations.specs.declared.row.Row.{Row}
use Rattle.xl_core.proofs.Members.{members_opened}

none_counted : (members : List ℕ) (seq : ℕ) (id : LedgerId) → count_full seq id (map empty_row members) ≡ 0
none_counted [] seq id = refl
none_counted (m ∷ ms) seq id = omega (arith, count_by-cons (λ row. is_full_of seq id row.current) (empty_row m) (map empty_row ms), none_counted ms seq id)

pub opened_at_rest : (settings : Settings) (now kept : ℕ) → IsValid settings.list → IsAtRest (opened_node settings now kept)
opened_at_rest settings now kept valid = record {
  valid = valid;
  members = members_opened settings.list.members;
  reported = λ seq id enough. absurd (omega (arith, enough, none_counted settings.list.members seq id, valid.some, valid.majority));
}

-- its first round is on the root
pub first_round : (ledgers : List Header) (root : ℕ) (mode : Mode) (validating : Bool) (time : ℕ) → root ≡ 0 → mode ≡ usual_mode validating → opened_round ledgers root mode time ≡ opened_round ledgers 0 (usual_mode validating) time
first_round ledgers root mode validating time is_root is_mode =
    ap (λ (r : ℕ). opened_round ledgers r mode time) is_root ∙ ap (λ (m : Mode). opened_round ledgers 0 m time) is_mode

-- and ready, as the code has its parts
pub opened_ready : (settings : Settings) (now kept time : ℕ) (ledgers : Ledgers) (rows : List Row) (round : Round) (keys : Ring) → IsValid settings.list → IsKeyed settings.me settings.list.members settings.keys → now ≤ greatest_millis →
    time ≡ max now 1000 → ledgers ≡ only_root settings.limit → rows ≡ map empty_row settings.list.members →
    round ≡ opened_round ledgers.headers 0 (usual_mode settings.validating) time → keys ≡ settings.keys →
    IsReady (record (opened_node settings now kept) { time = time; ledgers = ledgers; rows = rows; round = round; keys = keys })
opened_ready settings now kept time ledgers rows round keys valid keyed le time_is ledgers_are rows_are round_is keys_are =
    subst (λ (t : ℕ). IsReady (record (opened_node settings now kept) { time = t; ledgers = ledgers; rows = rows; round = round; keys = keys })) (sym time_same)
    (subst (λ (r : Ledgers). IsReady (record (opened_node settings now kept) { ledgers = r; rows = rows; round = round; keys = keys })) (sym ledgers_are)
    (subst (λ (rs : List Row). IsReady (record (opened_node settings now kept) { rows = rs; round = round; keys = keys })) (sym rows_are)
    (subst (λ (k : Ring). IsReady (record (opened_node settings now kept) { round = round; keys = k })) (sym keys_are)
    (record {
      rest = record { valid = at_rest.valid; members = at_rest.members; reported = at_rest.reported };
      keyed = keyed;
      time = omega (arith, le);
      current = opened_current (max 1000 now / 1000) settings.list.members;
      known = omega (arith, ap (λ (r : Round). r.setting.previous) round_is);
    }))))
  where
    time_same : time ≡ max 1000 now
    time_same = omega (arith, time_is)

    at_rest : IsAtRest (opened_node settings now kept)
    at_rest = opened_at_rest settings now kept valid

-- a core of these parts has nothing waiting
pub emptied : (m n : Node) (waiting : List (Backlog Item)) (untaken : Backlog Report) → m ≡ n → waiting ≡ none_waiting → untaken ≡ no_items →
    (let core : Core = record { node = m; waiting = waiting; greetings = none_greeted; untaken = untaken; stopped = false } in core) ≡ with_queues n
emptied m n waiting untaken node_is waits_is untaken_is =
    ap (λ (x : Node). let core : Core = record { node = x; waiting = waiting; greetings = none_greeted; untaken = untaken; stopped = false } in core) node_is
    ∙ ap (λ (ws : List (Backlog Item)). let core : Core = record { node = n; waiting = ws; greetings = none_greeted; untaken = untaken; stopped = false } in core) waits_is
    ∙ ap (λ (q : Backlog Report). let core : Core = record { node = n; waiting = none_waiting; greetings = none_greeted; untaken = q; stopped = false } in core) untaken_is
