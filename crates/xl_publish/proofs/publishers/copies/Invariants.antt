use Rattle.std.proofs.Common.{◌≡◌, ◌<◌, ℕ, None, get_or, length}
use Rattle.xl_publish.proofs.publishers.copies.Given as goal

-- the places so far are copied
abbrev pub invariant-loop-place : goal.invariant-loop-place
invariant-loop-place l = record {
  long : length l.copies ≡ 16;
  same : (i : ℕ) → i < l.place → get_or l.copies i None ≡ get_or l.kept i None;
}
