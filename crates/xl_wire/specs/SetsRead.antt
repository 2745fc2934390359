-- Why the body of a set is refused. Source: this project's own layout.
use Rattle.std.specs.Prelude.{ℕ, ◌+◌, ◌*◌, ◌==◌, List, length, drop, Option, Some, option_map, if◌then◌else◌}
use Rattle.byteorder.specs.Endian.{big_number}
use Rattle.xl_wire.specs.declared.refusal.WireRefusal.{WireRefusal}
use Rattle.xl_wire.specs.declared.refusal.WireRefusal.TheVariants.{Order, Count}
use Rattle.xl_wire.specs.Sets.{ids_in, first_fall}

-- the count isn't the length's, or else the first id that isn't greater than the one before
abbrev pub set_refusal : List ℕ → Option WireRefusal
set_refusal bytes =
    if 2 + 32 * big_number 2 bytes == length bytes
    then option_map Order (first_fall (ids_in (big_number 2 bytes) (drop 2 bytes)))
    else Some (Count (big_number 2 bytes))
