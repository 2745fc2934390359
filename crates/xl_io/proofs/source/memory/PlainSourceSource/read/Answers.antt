use Rattle.std.proofs.Common.{◌≡◌, Some, ap, length, take, drop}
use Rattle.std.proofs.lemmas.Grind.{common_steps}
use Rattle.std.proofs.Common.{arith}
use Rattle.xl_io.proofs.Pieces.{front_and_rest}
use Rattle.xl_io.proofs.source.memory.PlainSourceSource.read.Goals as goal

pub returns-clause-bytes : goal.returns-clause-bytes
returns-clause-bytes c =
    let bytes = c.args.self.now.bytes.items in
    let given = c.args.self.now.given in
    let count = c.min-count.result in
    let same : c.copy_from_slice.new.self ≡ take count (drop given bytes) = grind (arith, common_steps) in
    let long : length c.copy_from_slice.new.self ≡ count = grind (arith, common_steps) in
    ap Some (front_and_rest bytes c.args.room.now c.copy_from_slice.new.self given count same long)
