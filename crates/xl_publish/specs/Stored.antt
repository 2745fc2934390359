-- How a kept roll is stored. Source: what the code of this crate keeps. No public clause cites this file.
use Rattle.std.specs.Prelude.{ℕ, ◌≤◌, List, take}
use Rattle.xl_publish.specs.Fields.{IsShaped}

-- the bytes stand at the front of the room
abbrev pub stored_bytes : List ℕ → ℕ → List ℕ
stored_bytes room len = take len room

pub record IsStored (room : List ℕ) (len : ℕ) : Type 0 where
  pub within : len ≤ 309
  pub shaped : IsShaped (stored_bytes room len)
