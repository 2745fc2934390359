-- What is known of a frame in which something is heard.
use Rattle.std.proofs.Common.{◌≡◌, ℕ, ◌≤◌, List, length, refl, sym, ◌∙◌, Option, Some, None, Result, Ok, Err}
use Rattle.xl_wire.specs.Heads.{split_of}
use Rattle.xl_wire.specs.Heads.Split.{Whole}
use Rattle.xl_wire.specs.Kinds.{span}
use Rattle.xl_wire.specs.Raws.{RawFrame}
use Rattle.xl_tags.specs.Opening.{refusal_of}
use Rattle.xl_tags.specs.Rings.{Ring}
use Rattle.xl_tags.specs.declared.refusal.TagRefusal.{TagRefusal}
use Rattle.xl_core.specs.Hearing.{spoken_in}
use Rattle.xl_core.specs.declared.hearing.Spoken.{Spoken}
use Rattle.xl_core.specs.declared.refusal.Refusal.{Refusal}
use Rattle.xl_core.specs.declared.refusal.Refusal.TheVariants.{Tag}
use Rattle.xl_core.proofs.Heard.{unopened}

-- what is heard isn't refused
pub not_both : (r : Result Spoken Refusal) (said : Spoken) (why : Refusal) → r ≡ Ok said → r ≡ Err why → ⊥
not_both r said why is refused = let both : Ok said ≡ Err why = sym is ∙ refused in cc

-- its frame is opened
pub is_opened : (ring : Ring) (members bytes : List ℕ) (f : RawFrame) (said : Spoken) → split_of bytes ≡ Whole f → length bytes ≤ span f.body
    → spoken_in ring members bytes ≡ Ok said → refusal_of ring members f ≡ None
is_opened ring members bytes f said splits fits is = by (refusal_of ring members f) refl
  where
    by : (o : Option TagRefusal) → refusal_of ring members f ≡ o → refusal_of ring members f ≡ None
    by None found = found
    by (Some why) found = absurd (not_both (spoken_in ring members bytes) said (Tag why) is (unopened ring members bytes f why splits fits found))
