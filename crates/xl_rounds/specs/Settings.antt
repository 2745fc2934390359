-- What a round is on. Source: classical rippled's Consensus; the resolution of an odd one is this profile's.
use Rattle.std.specs.Prelude.{ℕ, ◌+◌, ◌%◌, ◌==◌, List, if◌then◌else◌}
use Rattle.std.specs.List.{list_any}
use Rattle.xl_ledger.specs.declared.header.Header.{Header}
use Rattle.xl_ledger.specs.Chains.{header_at, id_at}
use Rattle.xl_closetime.specs.Resolutions.{resolutions, next_resolution}
use Rattle.xl_rounds.specs.Numbers.{usual_resolution}
use Rattle.xl_rounds.specs.declared.phase.Mode.{Mode}
use Rattle.xl_rounds.specs.declared.setting.Setting.{Setting}

-- a resolution that isn't one of the six counts as the usual one
abbrev pub counted_resolution : ℕ → ℕ
counted_resolution r = if list_any (λ a. a == r) resolutions then r else usual_resolution

-- the resolution on a ledger: its lowest flag says that there was no agreement on its close time
abbrev pub resolution_on : Header → ℕ
resolution_on h = next_resolution (counted_resolution h.resolution) (h.flags % 2 == 0) (h.seq + 1)

abbrev pub setting_on : List Header → ℕ → Mode → ℕ → Setting
setting_on ledgers previous mode now = record {
  previous = previous;
  previous_id = id_at ledgers previous;
  mode = mode;
  started = now;
  resolution = resolution_on (header_at ledgers previous);
}
