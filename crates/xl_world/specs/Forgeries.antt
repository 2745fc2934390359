-- What comes forged: a sealed frame that no liar signed and nobody had sent. Source: the premise of the headline, that
-- no tag is forged.
use Rattle.std.specs.Prelude.{ℕ, ◌==◌, ◌&&◌, not, nat_le, Bool, false, List, length}
use Rattle.std.specs.List.{list_any}
use Rattle.std.specs.Str.{bytes_eq}
use Rattle.xl_lists.specs.Lists.{is_on}
use Rattle.xl_wire.specs.Heads.{Split}
use Rattle.xl_wire.specs.Heads.Split.{Whole, Need, Refused}
use Rattle.xl_wire.specs.Kinds.{span}
use Rattle.xl_wire.specs.Raws.{RawFrame}
use Rattle.xl_tags.specs.Opening.{is_sealed}
use Rattle.xl_tags.specs.Rings.{Ring}
use Rattle.xl_world.specs.Sending.{Sent}

-- whether these bytes were sent; they name their sender and their receiver
abbrev pub was_sent : List Sent → List ℕ → Bool
was_sent sent bytes = list_any (λ f. bytes_eq f.bytes bytes) sent

-- whether the frame is to the owner of these keys, with the right tag of another member that is no liar, and nobody
-- sent its bytes; a number that isn't another member's has no key
abbrev pub is_made_up : List ℕ → List Sent → Ring → List ℕ → RawFrame → Bool
is_made_up liars sent keys bytes f =
    f.to == keys.me && not (is_on liars f.from) && not (was_sent sent bytes) && is_sealed keys f

-- whether the bytes are one whole frame that is made up
abbrev pub forges : List ℕ → List Sent → Ring → List ℕ → Split → Bool
forges liars sent keys bytes (Refused why) = false
forges liars sent keys bytes (Need lack) = false
forges liars sent keys bytes (Whole f) = nat_le (length bytes) (span f.body) && is_made_up liars sent keys bytes f
