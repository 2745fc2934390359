-- Tags of bytes: HMAC over SHA-256. Source: RFC 2104, section 2; SHA-256 is that of FIPS 180-4.
use Rattle.std.specs.Prelude.{ℕ, ◌-◌, nat_lt, List, ◌++◌, length, map, replicate, bit_xor, if◌then◌else◌}
use Rattle.sha2.specs.Sha256.{sha256}

-- the key, or its hash if it is longer than a block of 64 bytes
abbrev pub shortened : List ℕ → List ℕ
shortened key = if nat_lt 64 (length key) then sha256 key else key

-- filled with zero bytes to a block
abbrev pub key_block : List ℕ → List ℕ
key_block key = shortened key ++ replicate (64 - length (shortened key)) 0

-- each byte of the key's block, changed by the pad's byte
abbrev pub padded : ℕ → List ℕ → List ℕ
padded pad key = map (λ byte. bit_xor byte pad) (key_block key)

abbrev pub inner_pad : ℕ
inner_pad = 0x36

abbrev pub outer_pad : ℕ
outer_pad = 0x5C

-- the tag of the bytes under the key
abbrev pub mac : List ℕ → List ℕ → List ℕ
mac key bytes = sha256 (padded outer_pad key ++ sha256 (padded inner_pad key ++ bytes))
