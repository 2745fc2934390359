-- What a node keeps as a header is added to its ledgers.
use Rattle.std.proofs.Common.{◌≡◌, ℕ, ◌<◌, ◌≤◌, List, [], ◌∷◌, length, ap, arith, sym, subst, length-append}
use Rattle.xl_rounds.specs.Rounds.{Round}
use Rattle.xl_ledger.specs.declared.header.Header.{Header}
use Rattle.xl_ledger.specs.Chains.{Joins, AreLedgers}
use Rattle.xl_ledger.specs.Registries.{Ledgers, with_header}
use Rattle.xl_validations.specs.declared.row.Row.{Row}
use Rattle.xl_validations.specs.Tallies.{IsNewest}
use Rattle.xl_validations.proofs.Knowing.{newest_added}
use Rattle.xl_core.specs.Node.{Node}
use Rattle.xl_core.specs.Rest.{IsReady}

-- it is the newest
pub is_newest : (old new : Ledgers) (h : Header) (place : ℕ) → AreLedgers old.headers → Joins old.headers h → new ≡ with_header old h → place ≡ length old.headers → IsNewest new.headers place
is_newest old new h place are joins is at =
    subst (λ (n : ℕ). IsNewest new.headers n) (sym at)
    (subst (λ (r : Ledgers). IsNewest r.headers (length old.headers)) (sym is)
    (newest_added old.headers h are joins))

pub longer : (old new : Ledgers) (h : Header) → new ≡ with_header old h → length old.headers ≤ length new.headers
longer old new h is = omega (arith, ap (λ (r : Ledgers). length r.headers) is, length-append old.headers (h ∷ []))

-- the rest of the node stays ready
pub still_ready : (n : Node) (ledgers : Ledgers) (rows : List Row) → rows ≡ n.rows → length n.ledgers.headers ≤ length ledgers.headers → IsReady n → IsReady (record n { ledgers = ledgers; rows = rows })
still_ready n ledgers rows same more ready =
    subst (λ (rs : List Row). IsReady (record n { ledgers = ledgers; rows = rs })) (sym same)
    (record {
      rest = record { valid = ready.rest.valid; members = ready.rest.members; reported = ready.rest.reported };
      keyed = record { own = ready.keyed.own; listed = ready.keyed.listed };
      time = ready.time;
      current = ready.current;
      known = omega (arith, ready.known, more);
    })

-- so it does in another round on a known ledger
pub round_ready : (n : Node) (r : Round) → r.setting.previous < length n.ledgers.headers → IsReady n → IsReady (record n { round = r })
round_ready n r known ready = record {
  rest = record { valid = ready.rest.valid; members = ready.rest.members; reported = ready.rest.reported };
  keyed = record { own = ready.keyed.own; listed = ready.keyed.listed };
  time = ready.time;
  current = ready.current;
  known = known;
}
