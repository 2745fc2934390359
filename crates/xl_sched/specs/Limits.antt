-- How much a schedule may have. Source: this project's schedule language; a frame's greatest length is that of its format.
use Rattle.std.specs.Prelude.{ℕ}

-- the most lines
abbrev pub most_lines : ℕ
most_lines = 1000000

-- the most bytes of a line, without the byte that ends it
abbrev pub most_bytes : ℕ
most_bytes = 17000

-- the most bytes of a raw frame
abbrev pub most_raw_bytes : ℕ
most_raw_bytes = 8240

-- the most ledgers that a node may know, the root counted
abbrev pub most_ledgers : ℕ
most_ledgers = 16384

-- the most lines that set a list
abbrev pub most_lists : ℕ
most_lists = 1024

-- the most names, `root` not counted
abbrev pub most_names : ℕ
most_names = 4096
