-- half of the pass is the porter's, and the other half is enough for the workers
use Rattle.std.proofs.Common.{length, refl, ap, arith}
use Rattle.std.proofs.lemmas.Nat.{pow_pos}
use Rattle.xl_turns.specs.declared.view.Knowledge.{Knowledge}
use Rattle.xl_store.specs.declared.entry.Entry.{Entry}
use Rattle.xl_workers.proofs.hiring.hire_all.Goals as goal

pub split-first-requires-clause-share : goal.split-first-requires-clause-share
split-first-requires-clause-share g c =
    let p = pow_pos (length c.args.peers.items) in
    omega (arith, p, c.requires.share)

pub hire-first-requires-clause-share : goal.hire-first-requires-clause-share
hire-first-requires-clause-share g c =
    let s = ap (λ (k : Knowledge Entry). k.share) c.split-first.ensures.first in
    omega (arith, s, c.requires.share)

pub returns : goal.returns
returns g c = record {
  half = c.split-first.result.0;
  first = c.split-first.ensures.first;
  second = c.split-first.ensures.second;
  pass = c.split-first.ensures.passes.1;
  door = refl;
  hired = c.hire-first.ensures;
}
