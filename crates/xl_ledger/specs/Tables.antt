-- How ledgers are stored, and found by their ids: each id has its bucket, and each ledger leads to the one before it
-- there. Source: hash tables with chained buckets (Knuth, The Art of Computer Programming, section 6.4); the limits are
-- this profile's.
use Rattle.std.specs.Prelude.{◌≡◌, ℕ, zero, suc, ◌%◌, ◌<◌, ◌≤◌, ◌==◌, List, length, map, slice_get, slice_index_or, Option, Some, None, if◌then◌else◌}
use Rattle.byteorder.specs.Endian.{big_number}
use Rattle.xl_base.specs.declared.ids.LedgerId.{LedgerId}
use Rattle.xl_ledger.specs.declared.header.Header.{Header}
use Rattle.xl_ledger.specs.declared.ledger.Ledger.{Ledger}
use Rattle.xl_ledger.specs.Chains.{root_id, ids, AreLedgers}
use Rattle.xl_ledger.specs.Jumps.{AreJumps}
use Rattle.xl_ledger.specs.Limits.{least_limit, greatest_limit}

-- the bucket of an id, of this many
abbrev pub bucket_of : ℕ → LedgerId → ℕ
bucket_of buckets id = big_number 4 id.0 % buckets

-- the last of the first n ledgers whose id is of this bucket
abbrev pub last_in : List LedgerId → ℕ → ℕ → ℕ → Option ℕ
last_in known buckets bucket zero = None
last_in known buckets bucket (suc n) =
    if bucket_of buckets (slice_index_or known n root_id) == bucket then Some n else last_in known buckets bucket n

abbrev pub headers_of : List Ledger → List Header
headers_of ledgers = map (λ l. l.header) ledgers

-- what each ledger is stored with
pub record IsPlaced (headers : List Header) (buckets place : ℕ) (l : Ledger) : Type 0 where
  pub id : slice_index_or (ids headers) place root_id ≡ l.id
  pub jumps : AreJumps headers place l.jumps
  pub before : l.before ≡ last_in (ids headers) buckets (bucket_of buckets l.id) place

-- the jumps of each ledger lead where they should
pub record HaveJumps (ledgers : List Ledger) : Type 0 where
  pub known : AreLedgers (headers_of ledgers)
  pub each : (place : ℕ) (l : Ledger) → slice_get ledgers place ≡ Some l → AreJumps (headers_of ledgers) place l.jumps

-- the buckets lead to all ledgers
pub record IsIndexed (ledgers : List Ledger) (table : List (Option ℕ)) : Type 0 where
  pub known : AreLedgers (headers_of ledgers)
  pub some : 0 < length table
  pub each : (place : ℕ) (l : Ledger) → slice_get ledgers place ≡ Some l
      → IsPlaced (headers_of ledgers) (length table) place l
  pub last : (bucket : ℕ) → bucket < length table
      → slice_index_or table bucket None ≡ last_in (ids (headers_of ledgers)) (length table) bucket (length ledgers)

-- there is room for as many ledgers as the limit says
pub record HasRoom (count limit capacity : ℕ) : Type 0 where
  pub least : least_limit ≤ limit
  pub most : limit ≤ greatest_limit
  pub within : count ≤ limit
  pub reserved : limit ≤ capacity

pub record IsSound (ledgers : List Ledger) (table : List (Option ℕ)) (limit capacity : ℕ) : Type 0 where
  pub indexed : IsIndexed ledgers table
  pub room : HasRoom (length ledgers) limit capacity
