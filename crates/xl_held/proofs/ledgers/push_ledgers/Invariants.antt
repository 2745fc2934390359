use Rattle.std.proofs.Common.{◌≡◌, ◌++◌}
use Rattle.std.specs.String.{string_bytes}
use Rattle.xl_held.specs.Lines.{ledger_lines}
use Rattle.xl_held.proofs.ledgers.push_ledgers.Given as goal

-- the ledgers from this place on are left
abbrev pub invariant-loop-place : goal.invariant-loop-place
invariant-loop-place l = string_bytes l.text ++ ledger_lines l.reader.names l.number l.registry.headers l.place ≡ string_bytes l.initial.text ++ ledger_lines l.reader.names l.number l.registry.headers l.first
