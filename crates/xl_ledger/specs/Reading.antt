-- How the fields of a header lie in its bytes. Source: rippled's LedgerHeader.
use Rattle.std.specs.Prelude.{ℕ, List, take, drop, slice_index}
use Rattle.byteorder.specs.Endian.{big_number}
use Rattle.xl_ledger.specs.declared.header.Header.{Header}

-- what the fields hold
abbrev pub header_in : List ℕ → Header
header_in bytes = record {
  seq = big_number 4 bytes;
  drops = big_number 8 (drop 4 bytes);
  parent = record { 0 = take 32 (drop 12 bytes) };
  tx_hash = take 32 (drop 44 bytes);
  account_hash = take 32 (drop 76 bytes);
  parent_close = big_number 4 (drop 108 bytes);
  close = big_number 4 (drop 112 bytes);
  resolution = slice_index bytes 116;
  flags = slice_index bytes 117;
}
