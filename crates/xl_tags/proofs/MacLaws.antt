-- Tags are 32 bytes.
use Rattle.std.proofs.Common.{◌≡◌, ℕ, List, length}
use Rattle.sha2.proofs.Facts256.{length-sha256}
use Rattle.xl_tags.specs.Macs.{mac}

pub length-mac : (key bytes : List ℕ) → length (mac key bytes) ≡ 32
length-mac key bytes = length-sha256 _
