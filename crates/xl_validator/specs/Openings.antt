-- What settings say of the core that a node is opened with, and of what is run with it. Source: this project's own.
use Rattle.std.specs.Prelude.{ℕ, ◌==◌, ◌||◌, List, filter, map, fold, option_map}
use Rattle.std.specs.declared.option.Option.{Option}
use Rattle.xl_base.specs.declared.ids.TxId.{TxId}
use Rattle.xl_links.specs.Ways.{Target}
use Rattle.xl_tags.specs.Rings.{Ring, no_keys, with_key}
use Rattle.xl_core.specs.declared.settings.Settings.{Settings as CoreSettings}
use Rattle.xl_core.specs.Core.{Core, with_queues}
use Rattle.xl_core.specs.Node.{opened_node}
use Rattle.xl_lists.specs.Lists.{all_numbers}
use Rattle.xl_heartbeat.specs.declared.pulse.Pulse.{Pulse}
use Rattle.xl_heartbeat.specs.declared.rolls_text.RollsText.{RollsText}
use Rattle.xl_heartbeat.specs.declared.timing.Timing.{Timing}
use Rattle.xl_settings.specs.declared.settings.Settings.{Settings}
use Rattle.xl_settings.specs.Peers.{PeerSetting, is_peer}

abbrev pub with_peer : Ring → PeerSetting → Ring
with_peer ring peer = with_key ring peer.number peer.key

-- the keys that a member shares with its peers
abbrev pub ring_of : ℕ → List PeerSetting → Ring
ring_of me peers = fold with_peer (no_keys me) peers

abbrev pub core_settings : Settings → CoreSettings
core_settings s = record {
  me = s.me;
  list = s.list;
  keys = ring_of s.me s.peers;
  limit = s.limit;
  validating = s.validating;
  speak = s.speak;
}

-- the core at its opening, at a moment and with the number that was kept
abbrev pub opening_core : Settings → ℕ → ℕ → Core
opening_core s moment kept = with_queues (opened_node (core_settings s) moment kept)

-- the members that a roll may name while it runs: me and its peers
abbrev pub nameable : ℕ → List PeerSetting → List ℕ
nameable me peers = filter (λ m. m == me || is_peer peers m) all_numbers

abbrev pub rolls_at : ℕ → List PeerSetting → List ℕ → RollsText
rolls_at me peers path = record { path = path; members = nameable me peers }

-- the text of rolls that is looked at, if the settings name one
abbrev pub rolls_of : Settings → Option RollsText
rolls_of s = option_map (rolls_at s.me s.peers) s.rolls

-- when its beats come
abbrev pub timing_of : Settings → ℕ → Timing
timing_of s moment = record { opened = moment; every = s.heartbeat_ms; run = s.run_ms }

-- what its heartbeat goes by: the list that was last set is at first the one that the core is opened with
abbrev pub pulse_of : Settings → ℕ → Pulse
pulse_of s moment = record {
  timing = timing_of s moment;
  publishing = s.publishing;
  list = s.list;
  rolls = rolls_of s;
}

abbrev pub number_of : PeerSetting → ℕ
number_of peer = peer.number

-- the link that is opened to a peer: it is to the number, and in the way, that the settings name
abbrev pub target_at : PeerSetting → Target
target_at peer = record { member = peer.number; reach = peer.reach }

-- what a run is to do: its turns, the ids that it submits, the links and the door that it opens, and what its heartbeat
-- goes by
pub record Task : Type 0 where
  pub turns : ℕ
  pub submits : List TxId
  pub targets : List Target
  pub door : Option (List ℕ)
  pub pulse : Pulse

abbrev pub task_of : Settings → ℕ → Task
task_of s moment = record {
  turns = s.turns;
  submits = s.submit;
  targets = map target_at s.peers;
  door = s.submit_at;
  pulse = pulse_of s moment;
}
