-- What a node keeps between its events. Source: what the code of this crate relies on.
use Rattle.std.specs.Prelude.{◌≡◌, ℕ, ◌<◌, ◌≤◌, true, false, List, length, map, All, IfSome}
use Rattle.xl_tags.specs.Opening.{HasKeys}
use Rattle.xl_tags.specs.Rings.{Ring}
use Rattle.xl_base.specs.declared.ids.LedgerId.{LedgerId}
use Rattle.xl_base.specs.Moments.{greatest_millis}
use Rattle.xl_lists.specs.Lists.{IsValid}
use Rattle.xl_validations.specs.declared.row.Row.{Row}
use Rattle.xl_validations.specs.Rows.{count_full, is_current}
use Rattle.xl_core.specs.declared.last.LastReport.{LastReport}
use Rattle.xl_core.specs.declared.node.Node.TheInside.{Inside}
use Rattle.xl_core.specs.Lasts.{is_news}
use Rattle.xl_core.specs.Node.{Node, second_of}

-- what a quorum of rows holds is no news
abbrev pub NothingArises : ℕ → List Row → LastReport → Type 0
NothingArises quorum rows last = (seq : ℕ) (id : LedgerId) → quorum ≤ count_full seq id rows →
    is_news last seq id ≡ false

pub record IsAtRest (n : Node) : Type 0 where
  pub valid : IsValid n.list
  -- there is a row for each member, in the order of the list
  pub members : map (λ row. row.member) n.rows ≡ n.list.members
  -- nothing is left to report
  pub reported : NothingArises n.list.quorum n.rows n.last

-- the keys are its own, and it has one for each other member of its list
pub record IsKeyed (me : ℕ) (members : List ℕ) (keys : Ring) : Type 0 where
  pub own : keys.me ≡ me
  pub listed : HasKeys keys members

-- the validation that a row holds is current at a second
abbrev pub IsCurrent : ℕ → Row → Type 0
IsCurrent second row = IfSome row.current (λ v. is_current second v ≡ true)

-- what the type keeps; the round is on a known ledger
pub record IsReady (n : Node) : Type 0 where
  pub rest : IsAtRest n
  pub keyed : IsKeyed n.me n.list.members n.keys
  pub time : n.time ≤ greatest_millis
  -- no validation would expire in the second of its time
  pub current : All (IsCurrent (second_of n)) n.rows
  pub known : n.round.setting.previous < length n.ledgers.headers

-- a node of the code, as the definitions see it
abbrev pub node_seen : {B : Type 0} → Inside B → Node
node_seen n = record {
  me = n.me;
  list = n.list;
  keys = n.keys.value;
  validating = n.validating;
  speak = n.speak;
  time = n.time;
  ledgers = n.registry;
  rows = n.table.rows;
  round = n.round;
  kept = n.kept;
  failed_save = n.failed_save;
  last = n.last;
}
