-- what is copied is the front of the bytes not yet given, and those behind it are left
use Rattle.std.proofs.Common.{◌≡◌, Some, ap, arith, refl, inl, length, take, drop}
use Rattle.std.proofs.lemmas.Grind.{common_steps}
use Rattle.xl_io.proofs.Pieces.{front_and_rest}
use Rattle.xl_links.proofs.link.plain.PlainLinkLink.read.Goals as goal

pub returns-clause-read : goal.returns-clause-read
returns-clause-read c =
    let bytes = c.args.self.now.bytes.items in
    let given = c.args.self.now.given in
    let count = c.piece_of-count.result in
    let same : c.copy_from_slice.new.self ≡ take count (drop given bytes) = grind (arith, common_steps) in
    let long : length c.copy_from_slice.new.self ≡ count = grind (arith, common_steps) in
    record {
      fits = (grind (arith, common_steps), grind (arith, common_steps));
      left = ap Some (front_and_rest bytes c.args.room.now c.copy_from_slice.new.self given count same long);
      took = refl;
      openings = refl;
      readings = inl refl;
      permissions = refl;
      later = omega arith;
      failed = λ no. absurd cc;
      exact = λ other. refl;
    }
