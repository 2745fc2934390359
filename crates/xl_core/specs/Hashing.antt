-- What is kept of hashes. Source: what the code of this crate keeps. No public clause cites this file.
use Rattle.std.specs.Prelude.{◌≡◌}
use Rattle.xl_ledger.specs.declared.header.Header.{Header}
use Rattle.xl_ledger.specs.Headers.{header_id, next_header}
use Rattle.xl_core.specs.declared.last_built.Basis.{Basis}
use Rattle.xl_core.specs.declared.last_built.NextLedger.{NextLedger}
use Rattle.xl_core.specs.declared.last_built.BuiltLedger.{BuiltLedger}

-- the header of the ledger that is built on this
abbrev pub header_on : Basis → Header
header_on b = next_header b.terms.parent_id b.parent b.terms.set b.terms.close b.terms.resolution

-- it is the ledger that is built on this
pub record IsNext (basis : Basis) (next : NextLedger) : Type 0 where
  pub header : next.header ≡ header_on basis
  pub id : next.id ≡ header_id next.header

abbrev pub IsNextKept : BuiltLedger → Type 0
IsNextKept built = IsNext built.basis built.next
