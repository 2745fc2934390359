use Rattle.std.proofs.Common.{◌≡◌, ◌≤◌, replicate, None, vec_len, vec_capacity}
use Rattle.xl_ledger.proofs.table.empty_table.Given as goal

abbrev pub invariant-loop : goal.invariant-loop
invariant-loop l = (vec_len l.table ≡ l.counter) × (l.buckets ≤ vec_capacity l.table) × (l.table.items ≡ replicate l.counter None)
