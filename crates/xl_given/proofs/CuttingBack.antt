-- Frames that stand one behind the other are cut as they were joined.
use Rattle.std.proofs.Common.{◌≡◌, ℕ, List, [], ◌∷◌, ◌++◌, length, take, drop, refl, ap, ◌∙◌}
use Rattle.std.specs.Prelude.{All, flat_map}
use Rattle.std.proofs.lemmas.List.{drop_at, take_at}
use Rattle.std.proofs.lemmas.List.Elements.{All-head, All-tail}
use Rattle.xl_wire.specs.Heads.{split_of}
use Rattle.xl_wire.specs.Heads.Split.{Whole}
use Rattle.xl_wire.specs.Kinds.{span}
use Rattle.xl_wire.specs.Raws.{RawFrame, SpellsRaw}
use Rattle.xl_wire.proofs.RawLaws.{length-raw_bytes, split_again}
use Rattle.xl_given.specs.Cutting.{frames_of}
use Rattle.xl_given.proofs.CutOff.{first_cut}

abbrev IsOneFrame : List ℕ → Type 0
IsOneFrame bytes = (f : RawFrame) × SpellsRaw f bytes

abbrev joined : List (List ℕ) → List ℕ
joined frames = flat_map (λ frame. frame) frames

pub cut_back : (frames : List (List ℕ)) → All IsOneFrame frames → frames_of (joined frames) ≡ frames
cut_back [] all = refl
cut_back (bytes ∷ frames) all =
    let one : IsOneFrame bytes = All-head IsOneFrame bytes frames all in
    let f : RawFrame = one.0 in
    let spelled : SpellsRaw f bytes = one.1 in
    let rest : List ℕ = joined frames in
    let again : split_of (bytes ++ rest) ≡ Whole f =
    ap (λ bs. split_of (bs ++ rest)) spelled.spelling ∙ split_again f rest spelled.frame in
    let long : length bytes ≡ span f.body = ap length spelled.spelling ∙ length-raw_bytes f spelled.frame.tag in
    first_cut (bytes ++ rest) f again
    ∙ (ap (λ b. b ∷ frames_of (drop (span f.body) (bytes ++ rest))) (take_at bytes rest (span f.body) long)
    ∙ ap (λ r. bytes ∷ r)
    (ap frames_of (drop_at bytes rest (span f.body) long) ∙ cut_back frames (All-tail IsOneFrame bytes frames all)))
