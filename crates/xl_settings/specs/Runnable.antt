-- What all settings keep, so that a node can be opened with them. Source: this project's own limits.
use Rattle.std.specs.Prelude.{◌≡◌, ◌≤◌, ℕ, true, false, List, IfSome}
use Rattle.xl_ledger.specs.Limits.{greatest_limit, least_limit}
use Rattle.xl_publish.specs.declared.publishing.Publishing.{Publishing}
use Rattle.xl_publish.specs.Forces.{list_at}
use Rattle.xl_settings.specs.Limits.{greatest_turns, least_heartbeat_ms, greatest_heartbeat_ms, greatest_journal_bytes, greatest_run_ms, usual_speak, greatest_speak}
use Rattle.xl_settings.specs.declared.settings.Settings.{Settings}
use Rattle.xl_settings.specs.Peers.{PeerSetting, are_peers}
use Rattle.xl_settings.specs.Publishers.{named_by}

-- whatever list the publishers' rolls make at any second, each of its members but me is a peer
abbrev pub AreEverPeers : ℕ → List PeerSetting → Publishing → Type 0
AreEverPeers me peers publishing = (second : ℕ) →
    IfSome (list_at publishing.publishers.kept second publishing.threshold) (λ list.
    are_peers me list.members peers ≡ true)

pub record AreRunnable (s : Settings) : Type 0 where
  pub limit : (least_limit ≤ s.limit) × (s.limit ≤ greatest_limit)
  pub turns : (1 ≤ s.turns) × (s.turns ≤ greatest_turns)
  pub heartbeat : (least_heartbeat_ms ≤ s.heartbeat_ms) × (s.heartbeat_ms ≤ greatest_heartbeat_ms)
  pub run : s.run_ms ≤ greatest_run_ms
  pub peers : are_peers s.me s.list.members s.peers ≡ true
  pub ever : IfSome s.publishing (AreEverPeers s.me s.peers)
  -- each member but me that a kept roll names is a peer
  pub named : IfSome s.publishing (λ p. are_peers s.me (named_by p.publishers) s.peers ≡ true)
  -- the version of its validations is 1 or 2
  pub speak : (usual_speak ≤ s.speak) × (s.speak ≤ greatest_speak)
  -- a journal that is written behind the run is written to no file
  pub apart : IfSome s.journal_file (λ _. s.journal ≡ false)
  pub bytes : (1 ≤ s.journal_bytes) × (s.journal_bytes ≤ greatest_journal_bytes)
  pub threshold : IfSome s.publishing (λ p. (1 ≤ p.threshold) × (p.threshold ≤ 16))
