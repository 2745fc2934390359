-- What is kept of a key, so that its two pads are hashed once.
-- Source: RFC 2104, section 4. No public clause cites this file.
use Rattle.std.specs.Prelude.{ℕ, List}
use Rattle.sha2.specs.Hashers.{Holds256}
use Rattle.xl_tags.specs.Macs.{padded, inner_pad, outer_pad}
use Rattle.xl_tags.specs.declared.macs.Pads.{Pads}

-- each hasher has taken its pad in, and nothing else
pub record ArePads (pads : Pads) (key : List ℕ) : Type 0 where
  pub inner : Holds256 pads.inner (padded inner_pad key)
  pub outer : Holds256 pads.outer (padded outer_pad key)
