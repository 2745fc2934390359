use Rattle.std.proofs.Common.{◌≡◌, take, length}
use Rattle.xl_lists.specs.Marks.{is_marked}
use Rattle.xl_lists.proofs.Rising.{passed}
use Rattle.xl_lists.proofs.marks.Marks.members.Given as goal

abbrev pub invariant-loop-number : goal.invariant-loop-number
invariant-loop-number l = record {
  room : length l.places ≡ 64;
  count : l.len ≡ length (passed (is_marked l.self.bits) l.number);
  front : take l.len l.places ≡ passed (is_marked l.self.bits) l.number;
}
