-- The id of the empty set, by one block of SHA-512.
use Rattle.std.proofs.Common.{◌≡◌, [], refl}
use Rattle.sha2.specs.Sha512.{sha512, digest_bytes, hash_after, compress, rounds, schedule, first_words}
use Rattle.xl_base.specs.Sets.{set_id_of}
use Rattle.xl_base.specs.declared.sets.TheConstants.{EMPTY_SET}

pub empty_set : set_id_of [] ≡ EMPTY_SET
unfolding sha512 digest_bytes hash_after compress rounds schedule first_words
empty_set = refl
