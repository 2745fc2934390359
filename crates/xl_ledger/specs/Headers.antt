-- Headers of ledgers: the one spelling of each, its id, and the header of the ledger that follows.
-- Source: rippled's LedgerHeader and its hash; the account hash of a built ledger is this profile's.
use Rattle.std.specs.Prelude.{◌≡◌, ℕ, ◌+◌, ◌-◌, ◌^◌, ◌<◌, ◌==◌, List, [], ◌∷◌, ◌++◌, length, min, if◌then◌else◌}
use Rattle.byteorder.specs.Endian.{big_bytes}
use Rattle.xl_base.specs.Hashes.{half}
use Rattle.xl_base.specs.declared.ids.LedgerId.{LedgerId}
use Rattle.xl_base.specs.declared.ids.SetId.{SetId}
use Rattle.xl_ledger.specs.declared.header.Header.{Header}

-- the fields in their order, numbers with their highest byte first
abbrev pub spelling : Header → List ℕ
spelling h =
    big_bytes 4 h.seq ++ big_bytes 8 h.drops ++ h.parent.0 ++ h.tx_hash ++ h.account_hash
    ++ big_bytes 4 h.parent_close ++ big_bytes 4 h.close ++ h.resolution ∷ h.flags ∷ []

-- what has a spelling
pub record IsHeader (h : Header) : Type 0 where
  pub seq : h.seq < 2 ^ 32
  pub drops : h.drops < 2 ^ 64
  pub parent : length h.parent.0 ≡ 32
  pub tx_hash : length h.tx_hash ≡ 32
  pub account_hash : length h.account_hash ≡ 32
  pub parent_close : h.parent_close < 2 ^ 32
  pub close : h.close < 2 ^ 32
  pub resolution : h.resolution < 2 ^ 8
  pub flags : h.flags < 2 ^ 8

-- the half hash of `LWR`, a zero byte, and the header
abbrev pub header_id : Header → LedgerId
header_id h = record { 0 = half ((0x4C ∷ 0x57 ∷ 0x52 ∷ 0 ∷ []) ++ spelling h) }

-- the half hash of `STA`, a zero byte, the parent's account hash, and the set
abbrev pub account_hash_after : Header → SetId → List ℕ
account_hash_after parent set = half ((0x53 ∷ 0x54 ∷ 0x41 ∷ 0 ∷ []) ++ parent.account_hash ++ set.0)

-- the close time that was agreed on; without one, which 0 says, a second after the parent's, at most the last
abbrev pub close_after : Header → ℕ → ℕ
close_after parent close = if close == 0 then min (parent.close + 1) (2 ^ 32 - 1) else close

-- the header of the ledger that follows the parent by this set
abbrev pub next_header : LedgerId → Header → SetId → ℕ → ℕ → Header
next_header parent_id parent set close resolution = record {
  seq = parent.seq + 1;
  drops = parent.drops;
  parent = parent_id;
  tx_hash = set.0;
  account_hash = account_hash_after parent set;
  parent_close = parent.close;
  close = close_after parent close;
  resolution = resolution;
  flags = if close == 0 then 1 else 0;
}
