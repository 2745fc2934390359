-- How long bodies and frames are at most. Source: this project's own layout, in which a set has at most 256 ids.
use Rattle.std.specs.Prelude.{ℕ}

-- a count of 2 bytes and 256 ids of 32 bytes
abbrev pub longest_body : ℕ
longest_body = 8194

-- and the 46 bytes around it
abbrev pub longest_frame : ℕ
longest_frame = 8240
