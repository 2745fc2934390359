-- The state of a node: the ledgers that it knows, its rows, its round, the last sequence that it saved, and what it has
-- reported; and what came of an event.
-- Source: Chase and MacBrough, "Analysis of the XRP Ledger Consensus Protocol" (2018), and rippled's Consensus and
-- Validations.
use Rattle.std.specs.Prelude.{ℕ, ◌/◌, ◌&&◌, max, Bool, List, [], ◌∷◌, map, filter_map, find, option_map, nat_le, if◌then◌else◌}
use Rattle.std.specs.Prelude.{Some, None}
use Rattle.std.specs.declared.option.Option.{Option}
use Rattle.std.specs.Option.{is_none}
use Rattle.xl_lists.specs.Lists.{TrustedList}
use Rattle.xl_tags.specs.Rings.{Ring}
use Rattle.xl_wire.specs.declared.validation.Validation.{Validation}
use Rattle.xl_validations.specs.declared.row.Row.{Row}
use Rattle.xl_validations.specs.Rows.{refusal, with_validation, at_member, count_full, empty_row, row_at}
use Rattle.xl_ledger.specs.Registries.{Ledgers, only_root}
use Rattle.xl_rounds.specs.Rounds.{Round, first_round as opened_round}
use Rattle.xl_core.specs.declared.last.LastReport.{LastReport}
use Rattle.xl_core.specs.declared.report.Report.{Report}
use Rattle.xl_core.specs.declared.settings.Settings.{Settings}
use Rattle.xl_core.specs.declared.refusal.Refusal.{Refusal}
use Rattle.xl_core.specs.declared.item.Item.{Item}
use Rattle.xl_core.specs.declared.item.Item.TheVariants.{Validation as ValidationItem}
use Rattle.xl_core.specs.Answers.{Answer, Refused}
use Rattle.xl_core.specs.Building.{usual_mode}
use Rattle.xl_core.specs.Lasts.{none_reported, is_news, last_after}

pub record Node : Type 0 where
  pub me : ℕ
  -- the list in force
  pub list : TrustedList
  -- the keys that it shares with others
  pub keys : Ring
  -- whether it is a validator
  pub validating : Bool
  -- the version of its validations
  pub speak : ℕ
  -- the greatest moment since it opened, in milliseconds; at least 1,000
  pub time : ℕ
  pub ledgers : Ledgers
  pub rows : List Row
  pub round : Round
  -- the last sequence that was saved
  pub kept : ℕ
  -- the sequence whose save failed since the node opened: it issues nothing then
  pub failed_save : Option ℕ
  -- the last report since the node opened, and whether the list was set after it
  pub last : LastReport

-- what came of it: the node then, what it answers, what waits for every peer, what it issued, and what it reports
pub record Reply : Type 0 where
  pub node : Node
  pub answer : Answer
  pub items : List Item
  pub issued : Option Validation
  pub report : Option Report

-- the least moment of a node, in milliseconds: a whole second
abbrev pub least_time : ℕ
least_time = 1000

-- a node opened with its settings, at a moment, and with the number that its keeper holds; its first round is on
-- the root
abbrev pub opened_node : Settings → ℕ → ℕ → Node
opened_node s now kept = record {
  me = s.me;
  list = s.list;
  keys = s.keys;
  validating = s.validating;
  speak = s.speak;
  time = max least_time now;
  ledgers = only_root s.limit;
  rows = map empty_row s.list.members;
  round = opened_round (only_root s.limit).headers 0 (usual_mode s.validating) (max least_time now);
  kept = kept;
  failed_save = None;
  last = none_reported;
}

-- the settings that it was opened with, except for the list, which is the one in force
abbrev pub settings_of : Node → Settings
settings_of n = record {
  me = n.me;
  list = n.list;
  keys = n.keys;
  limit = n.ledgers.limit;
  validating = n.validating;
  speak = n.speak;
}

-- the second of its time
abbrev pub second_of : Node → ℕ
second_of n = n.time / 1000

-- the node at a moment: its time never goes back, and validations that are no longer current are removed
abbrev pub at_moment : ℕ → Node → Node
at_moment now n = record n { time = max n.time now; rows = map (row_at (max n.time now / 1000)) n.rows }

-- whether a quorum of rows holds it as a full validation, and it is news
abbrev pub arises_in : ℕ → List Row → LastReport → Validation → Bool
arises_in quorum rows last v = nat_le quorum (count_full v.seq v.id rows) && is_news last v.seq v.id

abbrev pub arises : Node → Validation → Bool
arises n v = arises_in n.list.quorum n.rows n.last v

abbrev pub report_of : Validation → Report
report_of v = record { seq = v.seq; id = v.id }

-- what a validation gives to report
abbrev pub report_if : Bool → Validation → Option Report
report_if arises v = if arises then Some (report_of v) else None

-- what rows give to report under a quorum
abbrev pub arisen_in : ℕ → List Row → LastReport → Option Report
arisen_in quorum rows last =
    option_map report_of (find (arises_in quorum rows last) (filter_map (λ row. row.current) rows))

-- what a node's rows give to report
abbrev pub new_report : Node → Option Report
new_report n = arisen_in n.list.quorum n.rows n.last

-- it answers this, and these items wait for every peer; nothing is issued or reported
abbrev pub reply_with : Node → Answer → List Item → Reply
reply_with n answer items = record { node = n; answer = answer; items = items; issued = None; report = None }

abbrev pub refusing_reply : Node → Refusal → Reply
refusing_reply n why = reply_with n (Refused why) []

-- the refusal, if there is a cause; else this reply
abbrev pub reply_unless : Node → Option Refusal → Reply → Reply
reply_unless n None reply = reply
reply_unless n (Some why) reply = refusing_reply n why

-- what is issued waits for every peer
abbrev pub items_of : Option Validation → List Item
items_of None = []
items_of (Some v) = ValidationItem v ∷ []

-- the rows report what arises in them
abbrev pub reporting_reply : Node → Answer → Option Validation → Reply
reporting_reply n answer issued = record {
  node = record n { last = last_after n.last (new_report n) };
  answer = answer;
  items = items_of issued;
  issued = issued;
  report = new_report n;
}

-- the sender's row takes the validation, unless it refuses it
abbrev pub take : ℕ → Validation → Row → Row
take now v row = if is_none (refusal row now v) then with_validation v row else row

abbrev pub with_taken : Node → ℕ → ℕ → Validation → Node
with_taken n now from v = record n { rows = at_member from (take now v) n.rows }

-- its own row takes the validation
abbrev pub with_own : Node → Validation → Node
with_own n v = with_taken n (second_of n) n.me v
