-- Registries: which headers are added, and why others aren't. Source: rippled; the limit is this profile's.
use Rattle.std.specs.Prelude.{ℕ, ◌+◌, ◌==◌, not, nat_le, List, [], ◌∷◌, ◌++◌, length, Option, is_some, unwrap_or}
use Rattle.xl_base.specs.Refusals.{refused_if, first_of}
use Rattle.xl_ledger.specs.declared.header.Header.{Header}
use Rattle.xl_ledger.specs.declared.refusal.AddRefusal.{AddRefusal}
use Rattle.xl_ledger.specs.declared.refusal.AddRefusal.TheVariants.{Known, Orphan, WrongSeq, Full}
use Rattle.xl_ledger.specs.Headers.{header_id}
use Rattle.xl_ledger.specs.Chains.{root_header, seq_at, place_of}

-- the headers of the known ledgers in the order in which they were added, the root first, and how many there may be
pub record Ledgers : Type 0 where
  pub headers : List Header
  pub limit : ℕ

abbrev pub only_root : ℕ → Ledgers
only_root limit = record { headers = root_header ∷ []; limit = limit }

abbrev pub with_header : Ledgers → Header → Ledgers
with_header r h = record { headers = r.headers ++ h ∷ []; limit = r.limit }

-- the ledger that a header follows, and its sequence
abbrev pub parent_place : List Header → Header → ℕ
parent_place ledgers h = unwrap_or (place_of ledgers h.parent) 0

abbrev pub parent_seq : List Header → Header → ℕ
parent_seq ledgers h = seq_at ledgers (parent_place ledgers h)

-- the first cause, in this order, for which a header isn't added
abbrev pub add_refusal : Ledgers → Header → Option AddRefusal
add_refusal r h = first_of (
    refused_if (is_some (place_of r.headers (header_id h))) (Known (header_id h))
    ∷ refused_if (not (is_some (place_of r.headers h.parent))) (Orphan h.parent)
    ∷ refused_if (not (h.seq == parent_seq r.headers h + 1)) (WrongSeq (parent_seq r.headers h) h.seq)
    ∷ refused_if (nat_le r.limit (length r.headers)) (Full r.limit)
    ∷ [])
