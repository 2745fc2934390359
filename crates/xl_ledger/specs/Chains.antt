-- Ledgers in the order in which they were added, and the chain of each: the ledgers from the root to it, by parents.
-- A ledger is named by its place in this order; the root is the first.
-- Source: Chase and MacBrough, "Analysis of the XRP Ledger Consensus Protocol" (2018); rippled's ledgers and ancestors.
use Rattle.std.specs.Prelude.{◌≡◌, ℕ, zero, suc, ◌+◌, ◌<◌, ◌==◌, List, [], ◌∷◌, ◌++◌, length, map, take, replicate, position, slice_index_or, Option, Some, None, unwrap_or, if◌then◌else◌}
use Rattle.xl_base.specs.Ids.{same_id}
use Rattle.xl_base.specs.declared.ids.LedgerId.{LedgerId}
use Rattle.xl_ledger.specs.declared.header.Header.{Header}
use Rattle.xl_ledger.specs.Headers.{header_id}

-- the id of the root, which is no hash
abbrev pub root_id : LedgerId
root_id = record { 0 = replicate 32 0 }

abbrev pub root_header : Header
root_header = record {
  seq = 0;
  drops = 100000000000000000;
  parent = root_id;
  tx_hash = replicate 32 0;
  account_hash = replicate 32 0;
  parent_close = 0;
  close = 0;
  resolution = 30;
  flags = 0;
}

-- the id of each ledger
abbrev pub ids : List Header → List LedgerId
ids [] = []
ids (root ∷ added) = root_id ∷ map header_id added

abbrev pub header_at : List Header → ℕ → Header
header_at ledgers place = slice_index_or ledgers place root_header

abbrev pub id_at : List Header → ℕ → LedgerId
id_at ledgers place = slice_index_or (ids ledgers) place root_id

abbrev pub seq_at : List Header → ℕ → ℕ
seq_at ledgers place = (header_at ledgers place).seq

-- the ledger of an id, if one is known
abbrev pub place_of : List Header → LedgerId → Option ℕ
place_of ledgers id = position (same_id id) (ids ledgers)

-- the ledger that a ledger follows; the root follows none
abbrev pub parent_of : List Header → ℕ → Option ℕ
parent_of ledgers place = if place == 0 then None else place_of ledgers (header_at ledgers place).parent

abbrev pub above : List Header → ℕ → ℕ
above ledgers place = unwrap_or (parent_of ledgers place) 0

-- the ledger, and this many above it, the highest first
abbrev pub lineage : List Header → ℕ → ℕ → List ℕ
lineage ledgers zero place = place ∷ []
lineage ledgers (suc n) place = lineage ledgers n (above ledgers place) ++ place ∷ []

-- the ledgers from the root to this one: as many are above it as its sequence says
abbrev pub chain : List Header → ℕ → List ℕ
chain ledgers place = lineage ledgers (seq_at ledgers place) place

-- the last element of the longest front that two lists share, or another value if there is none
abbrev pub last_common : ℕ → List ℕ → List ℕ → ℕ
last_common last [] ys = last
last_common last (x ∷ xs) [] = last
last_common last (x ∷ xs) (y ∷ ys) = if x == y then last_common x xs ys else last

-- the last ledger that both chains have; they share the root
abbrev pub common_of : List Header → ℕ → ℕ → ℕ
common_of ledgers a b = last_common 0 (chain ledgers a) (chain ledgers b)

-- a header that can be added: its id is new, it follows a known ledger, and its sequence is the next
pub record Joins (ledgers : List Header) (h : Header) : Type 0 where
  pub fresh : place_of ledgers (header_id h) ≡ None
  pub parent : ℕ
  pub follows : place_of ledgers h.parent ≡ Some parent
  pub next : h.seq ≡ seq_at ledgers parent + 1

-- the root, and then headers each of which could be added when it came
pub record AreLedgers (ledgers : List Header) : Type 0 where
  pub some : 0 < length ledgers
  pub root : header_at ledgers 0 ≡ root_header
  pub each : (place : ℕ) → 0 < place → place < length ledgers → Joins (take place ledgers) (header_at ledgers place)
