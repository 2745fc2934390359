-- The laws of frames: what is decoded is spelled so, and what is spelled so is decoded.
use Rattle.std.proofs.Common.{◌≡◌, ℕ, List, ◌++◌, length, take, Result, Ok, Err, refl, sym, ap, subst, ◌∙◌, arith}
use Rattle.std.proofs.lemmas.List.{length-take}
use Rattle.xl_wire.specs.declared.body.Body.{Body}
use Rattle.xl_wire.specs.declared.frame.Frame.{Frame}
use Rattle.xl_wire.specs.declared.decoding.Decoded.TheVariants as decoded
use Rattle.xl_wire.specs.declared.refusal.WireRefusal.{WireRefusal}
use Rattle.xl_wire.specs.Bodies.{body_of, SpellsBody}
use Rattle.xl_wire.specs.Frames.{raw_of, IsFrame, Spells, SpellsFirst, with_body, with_bodies, decoded_of}
use Rattle.xl_wire.specs.Heads.{Split, split_of}
use Rattle.xl_wire.specs.Heads.Split.{Whole, Need, Refused}
use Rattle.xl_wire.specs.Kinds.{span}
use Rattle.xl_wire.specs.Raws.{RawFrame, raw_bytes, IsRaw, SpellsRaw}
use Rattle.xl_wire.proofs.Numbers.{IsBytes}
use Rattle.xl_wire.proofs.RawLaws.{length-raw_bytes, raw_same, split_bytes, split_spelled, spelled_split, one_raw}
use Rattle.xl_wire.proofs.BodyLaws.{body_again, lawful_held, read_spelled, spelled_lawful, version_is}

pub spelled_raw : (f : Frame) → IsFrame f → IsRaw (raw_of f)
spelled_raw f ok = record { lawful = spelled_lawful f.body ok.body; from = ok.from; to = ok.to; tag = ok.tag }

abbrev frame_of : RawFrame → Body → Frame
frame_of raw body = record { from = raw.from; to = raw.to; body = body; tag = raw.tag }

split_whole : (s : Split) (f : Frame) (n : ℕ) → with_bodies s ≡ decoded.Whole f n → (raw : RawFrame) × (s ≡ Whole raw) × (with_body raw (body_of raw.kind raw.body) ≡ decoded.Whole f n)
split_whole (Whole raw) f n e = (raw, refl, e)
split_whole (Need lack) f n e = absurd cc
split_whole (Refused refusal) f n e = absurd cc

body_whole : (raw : RawFrame) (r : Result Body WireRefusal) (f : Frame) (n : ℕ) → with_body raw r ≡ decoded.Whole f n → (body : Body) × (r ≡ Ok body) × (frame_of raw body ≡ f) × (span raw.body ≡ n)
body_whole raw (Ok body) f n e = (body, refl, cc, cc)
body_whole raw (Err refusal) f n e = absurd cc

-- a raw frame and its body spell the frame
both_spell : (bytes : List ℕ) (raw : RawFrame) (body : Body) → SpellsRaw raw (take (span raw.body) bytes) → SpellsBody body raw.kind raw.body → SpellsFirst (frame_of raw body) (span raw.body) bytes
both_spell bytes raw body s b =
    let same : raw ≡ raw_of (frame_of raw body) = raw_same raw (raw_of (frame_of raw body)) (version_is raw.version raw.kind raw.body body s.frame.lawful b) b.kind_is refl refl b.spelling refl in
    record {
      there = omega (arith, length-take (span raw.body) bytes, ap length s.spelling, length-raw_bytes raw s.frame.tag);
      spells = record {
        frame = record { body = b.fits; from = s.frame.from; to = s.frame.to; tag = s.frame.tag };
        spelling = s.spelling ∙ ap raw_bytes same;
      };
    }

pub decoded_spelled : (bytes : List ℕ) (f : Frame) (n : ℕ) → IsBytes bytes → decoded_of bytes ≡ decoded.Whole f n → SpellsFirst f n bytes
decoded_spelled bytes f n fits e =
    let a = split_whole (split_of bytes) f n e in
    let b = body_whole a.0 (body_of a.0.kind a.0.body) f n a.2 in
    let s = split_spelled bytes a.0 fits a.1 in
    let r = read_spelled a.0.kind a.0.body b.0 (split_bytes bytes a.0 fits a.1) (lawful_held a.0.version a.0.kind (length a.0.body) s.frame.lawful) b.1 in
    let both = both_spell bytes a.0 b.0 s r in
    subst (λ (x : Frame). SpellsFirst x n bytes) b.2 (subst (λ (k : ℕ). SpellsFirst (frame_of a.0 b.0) k bytes) b.3 both)

pub spelled_decoded : (bytes : List ℕ) (f : Frame) (n : ℕ) → SpellsFirst f n bytes → decoded_of bytes ≡ decoded.Whole f n
spelled_decoded bytes f n s =
    let raw = raw_of f in
    let ok = spelled_raw f s.spells.frame in
    let long : n ≡ span raw.body = omega (arith, s.there, length-take n bytes, ap length s.spells.spelling, length-raw_bytes raw ok.tag) in
    let spells : SpellsRaw raw (take (span raw.body) bytes) = record { frame = ok; spelling = ap (λ (k : ℕ). take k bytes) (sym long) ∙ s.spells.spelling } in
    let split = spelled_split bytes raw spells in
    ap with_bodies split ∙ ap (with_body raw) (body_again f.body s.spells.frame.body) ∙ ap (decoded.Whole f) (sym long)

abbrev frame_made : ℕ → ℕ → Body → List ℕ → Frame
frame_made from to body tag = record { from = from; to = to; body = body; tag = tag }

pub one_frame : (f g : Frame) (x y s t : List ℕ) → Spells f x → Spells g y → x ++ s ≡ y ++ t → (x ≡ y) × (f ≡ g)
one_frame f g x y s t a b e =
    let raws = one_raw (raw_of f) (raw_of g) x y s t (record { frame = spelled_raw f a.frame; spelling = a.spelling }) (record { frame = spelled_raw g b.frame; spelling = b.spelling }) e in
    let bodies : Ok f.body ≡ Ok g.body = sym (body_again f.body a.frame.body) ∙ ap (λ (r : RawFrame). body_of r.kind r.body) raws.1 ∙ body_again g.body b.frame.body in
    let body : f.body ≡ g.body = cc in
    let from : f.from ≡ g.from = ap (λ (r : RawFrame). r.from) raws.1 in
    let to : f.to ≡ g.to = ap (λ (r : RawFrame). r.to) raws.1 in
    let tag : f.tag ≡ g.tag = ap (λ (r : RawFrame). r.tag) raws.1 in
    let same : frame_made f.from f.to f.body f.tag ≡ frame_made g.from g.to g.body g.tag = rw (from, to, body, tag) refl in
    (raws.0, same)
