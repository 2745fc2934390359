-- A sent frame that says something carries it to its receiver.
use Rattle.std.proofs.Common.{◌≡◌, ◌≢◌, ℕ, Bool, true, List, arith, Option, Some, refl, ap, sym, subst, ◌∙◌}
use Rattle.std.specs.Prelude.{◌^◌, ◌&&◌, IsTrue, nat_lt, option_map, unwrap_or}
use Rattle.std.proofs.lemmas.Bool.{lt-ltb}
use Rattle.xl_lists.specs.Lists.{is_on}
use Rattle.xl_wire.specs.declared.body.Body.{Body}
use Rattle.xl_wire.specs.Bodies.{IsBody}
use Rattle.xl_wire.specs.Frames.{raw_of}
use Rattle.xl_wire.specs.Raws.{IsRaw, RawFrame, raw_bytes}
use Rattle.xl_tags.specs.Macs.{mac}
use Rattle.xl_tags.specs.PairKeys.{pair_key_of}
use Rattle.xl_tags.specs.Rings.{Ring, key_of, schedule_ring}
use Rattle.xl_tags.specs.Sealing.{before_tag, sealed}
use Rattle.xl_tags.proofs.PairKeyLaws.{pair_key_of-comm}
use Rattle.xl_tags.proofs.SealingLaws.{before_tag-with_tag}
use Rattle.xl_core.proofs.Spelling.{body_fits, sealed_raw}
use Rattle.xl_core.specs.Core.{Core}
use Rattle.xl_core.specs.Hearing.{Carries}
use Rattle.xl_core.specs.Sending.{blank_frame, fits, has_spelling, sealed_bytes}
use Rattle.xl_world.specs.Rested.{IsRested}
use Rattle.xl_world.specs.Seen.{CarriesTo}
use Rattle.xl_world.specs.Sending.{Sent, said_to}
use Rattle.xl_world.proofs.Lying.{key_of_another}
use Rattle.xl_world.proofs.Sealing.{IsNumber}

all_of : (a b c : Bool) → a ≡ true → b ≡ true → c ≡ true → (a && b && c) ≡ true
all_of a b c ea eb ec = rw (ea, eb, ec) refl

-- what fits has a spelling between two members
pub spelled_between : (from to : ℕ) (body : Body) → IsNumber from → IsNumber to → IsBody body → has_spelling from to body ≡ true
spelled_between from to body mine its is_body =
    all_of (nat_lt from (2 ^ 32)) (nat_lt to (2 ^ 32)) (fits body) (lt-ltb from (2 ^ 32) (omega (arith, mine.1))) (lt-ltb to (2 ^ 32) (omega (arith, its.1))) (body_fits body is_body)

own_number : (m : ℕ) → (schedule_ring m).me ≡ m
unfolding schedule_ring
own_number m = refl

carries_sealed : (me to : ℕ) (members : List ℕ) (body : Body) → IsNumber me → IsNumber to → me ≢ to → is_on members me ≡ true → IsBody body → has_spelling me to body ≡ true →
    Carries (schedule_ring to) members (sealed_bytes (schedule_ring me) me to body) (sealed (schedule_ring me) (raw_of (blank_frame me to body))) body
carries_sealed me to members body mine its other listed is_body spelled =
    let f : RawFrame = raw_of (blank_frame me to body) in
    let g : RawFrame = sealed (schedule_ring me) f in
    let s = sealed_raw (schedule_ring me) me to body spelled in
    let ok : IsRaw f = record { lawful = s.lawful; from = s.from; to = s.to; tag = refl } in
    let there : key_of (schedule_ring to) me ≡ Some (pair_key_of me to) = key_of_another to me mine.0 mine.1 other ∙ ap (λ (k : List ℕ). Some k) (pair_key_of-comm to me) in
    let here : key_of (schedule_ring me) to ≡ Some (pair_key_of me to) = key_of_another me to its.0 its.1 (λ same. other (sym same)) in
    let right : g.tag ≡ mac (pair_key_of me to) (before_tag (raw_bytes f)) = ap (λ (o : Option (List ℕ)). unwrap_or (option_map (λ key. mac key (before_tag (raw_bytes f))) o) f.tag) here in
    record {
      frame = record { frame = s; spelling = refl };
      mine = sym (own_number to);
      other = λ same. other (same ∙ own_number to);
      listed = listed;
      tag = ap (option_map (λ key. mac key (before_tag (raw_bytes g)))) there
          ∙ ap (λ (t : List ℕ). Some t) (ap (mac (pair_key_of me to)) (before_tag-with_tag f g.tag ok s.tag) ∙ sym right);
      says = record { fits = is_body; kind_is = refl; spelling = refl };
    }

pub carries_said : (core : Core) (frame : Sent) (from : ℕ) (body what : Body) → IsRested core → frame ≡ said_to frame.from frame.to what → frame.to ≡ core.node.me → from ≡ frame.from → body ≡ what →
    IsNumber from → IsNumber core.node.me → from ≢ core.node.me → IsTrue (is_on core.node.list.members from) → IsBody body → CarriesTo core from body frame.bytes
carries_said core frame from body what rested is mine sender says from_number me_number other listed is_body =
    let me : ℕ = core.node.me in
    let f : RawFrame = sealed (schedule_ring from) (raw_of (blank_frame from me body)) in
    let bytes : frame.bytes ≡ sealed_bytes (schedule_ring from) from me body =
    ap (λ (g : Sent). g.bytes) is
    ∙ (ap (λ (m : ℕ). sealed_bytes (schedule_ring m) m frame.to what) (sym sender)
    ∙ (ap (λ (m : ℕ). sealed_bytes (schedule_ring from) from m what) mine ∙ ap (sealed_bytes (schedule_ring from) from me) (sym says))) in (
      f,
      refl,
      subst (λ (ring : Ring). Carries ring core.node.list.members frame.bytes f body) (sym rested.keys)
          (subst (λ (bs : List ℕ). Carries (schedule_ring me) core.node.list.members bs f body) (sym bytes)
          (carries_sealed from me core.node.list.members body from_number me_number other listed is_body (spelled_between from me body from_number me_number is_body))),
    )
