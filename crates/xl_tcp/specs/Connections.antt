-- The bytes that a connection has read ahead. Source: this project's own, so that two peers may write to each other at
-- once.
use Rattle.std.specs.Prelude.{ℕ, List, drop}
use Rattle.xl_tcp.specs.declared.ahead.Ahead.{Ahead}

-- the bytes that reads are still to give
abbrev pub bytes_ahead : Ahead → List ℕ
bytes_ahead ahead = drop ahead.given ahead.bytes.items
