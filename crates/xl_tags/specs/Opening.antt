-- Opened frames: whom they are for, who sent them, and whether the tag is right. Source: this project's own rules.
use Rattle.std.specs.Prelude.{◌≡◌, ◌≢◌, ℕ, ◌==◌, ◌||◌, not, Bool, false, List, [], Option, Some, None, unwrap_or, bytes_eq, All, IsSome, IsTrue, if◌then◌else◌}
use Rattle.std.specs.Option.{option_map_or}
use Rattle.xl_lists.specs.Lists.{is_on}
use Rattle.xl_wire.specs.Raws.{RawFrame, IsRaw}
use Rattle.xl_tags.specs.declared.refusal.TagRefusal.{TagRefusal}
use Rattle.xl_tags.specs.declared.refusal.TagRefusal.TheVariants.{NotForMe, Stranger, BadTag}
use Rattle.xl_tags.specs.Rings.{Ring, key_of}
use Rattle.xl_tags.specs.Sealing.{tag_by, sealed}

-- each listed member but the ring's own has a key
abbrev pub HasKeys : Ring → List ℕ → Type 0
HasKeys ring members = All (λ member. member ≢ ring.me → IsSome (key_of ring member)) members

-- whether the sender has a key, and the tag is the one under it
abbrev pub is_sealed : Ring → RawFrame → Bool
is_sealed ring f = option_map_or (λ tag. bytes_eq tag f.tag) (tag_by ring f.from f) false

-- why a frame isn't opened: it isn't for the ring's member, or comes from that member or an unlisted one, or its tag
-- is another
abbrev pub refusal_of : Ring → List ℕ → RawFrame → Option TagRefusal
refusal_of ring members f =
    if not (f.to == ring.me) then Some (NotForMe f.to)
    else if f.from == ring.me || not (is_on members f.from) then Some (Stranger f.from)
    else if is_sealed ring f then None
    else Some (BadTag f.tag (unwrap_or (tag_by ring f.from f) []))

-- The law: if two members hold one key for each other, what the one seals the other opens, if the sender stands on
-- its list.
abbrev pub SealedOpens : Type 0
SealedOpens = (ring other : Ring) (members key : List ℕ) (f : RawFrame) →
    IsRaw f → f.from ≡ ring.me → f.to ≡ other.me → ring.me ≢ other.me → IsTrue (is_on members ring.me) →
    key_of ring other.me ≡ Some key → key_of other ring.me ≡ Some key → refusal_of other members (sealed ring f) ≡ None

-- and nothing else opens
abbrev pub OpensAlone : Type 0
OpensAlone = (ring : Ring) (members : List ℕ) (f : RawFrame) → refusal_of ring members f ≡ None →
    (f.to ≡ ring.me) × (f.from ≢ ring.me) × IsTrue (is_on members f.from) × (tag_by ring f.from f ≡ Some f.tag)
