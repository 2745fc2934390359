use Rattle.std.proofs.Common.{arith}
use Rattle.xl_wire.specs.Streams.{opened}
use Rattle.xl_wire.proofs.StreamLaws.{handed, settled, one_list}
use Rattle.xl_wire.proofs.laws.cut_anywhere.Goals as goal

pub returns : goal.returns
returns c = record {
  handed = λ acts more rest ok a. handed acts more rest ok opened (λ i. omega arith) a;
  settled = λ acts ok none. settled acts ok opened (λ i. omega arith) none;
  one = one_list;
}
