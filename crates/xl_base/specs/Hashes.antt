-- The hash that ledgers and sets are named by. Source: rippled's SHA-512Half; SHA-512 is that of FIPS 180-4.
use Rattle.std.specs.Prelude.{ℕ, List, take}
use Rattle.sha2.specs.Sha512.{sha512}

-- the first 32 bytes of SHA-512
abbrev pub half : List ℕ → List ℕ
half bytes = take 32 (sha512 bytes)
