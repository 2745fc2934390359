use Rattle.std.proofs.Common.{◌≤◌, length}
use Rattle.std.specs.Vec.{vec_capacity}
use Rattle.xl_validator.proofs.Listing.{AreMade}
use Rattle.xl_validator.proofs.contacts.contacts_of.Given as goal

abbrev pub invariant-loop-rest : goal.invariant-loop-rest
invariant-loop-rest l = record {
  made : AreMade l.fn.peers.items l.rest.items l.contacts.items;
  room : length l.fn.peers.items ≤ vec_capacity l.contacts;
}

abbrev pub decreases-loop-rest : goal.decreases-loop-rest
decreases-loop-rest l = length l.rest.items
