-- The sealed frame of a body has its spelling.
use Rattle.std.proofs.Common.{◌≡◌, ℕ, ◌<◌, ◌≤◌, ◌^◌, Bool, true, List, [], ◌∷◌, length, refl, arith, Option, Some, None}
use Rattle.std.specs.Prelude.{◌==◌, ◌&&◌, nat_lt, All, IfSome, option_map, unwrap_or, replicate, map}
use Rattle.std.specs.Option.{option_and_then}
use Rattle.std.proofs.lemmas.Bool.{and_parts, cond_both, ltb-true, lt-ltb, eqb-true, eq-eqb}
use Rattle.std.proofs.lemmas.Bool.Decides.{nat_tests}
use Rattle.std.proofs.lemmas.List.Elements.{All-nil, All-cons}
use Rattle.xl_tags.proofs.MacLaws.{length-mac}
use Rattle.xl_tags.specs.Macs.{mac}
use Rattle.xl_tags.specs.Rings.{Ring, key_of}
use Rattle.xl_tags.specs.Sealing.{before_tag, sealed}
use Rattle.xl_base.specs.declared.ids.LedgerId.{LedgerId}
use Rattle.xl_wire.specs.Lengths.{longest_frame}
use Rattle.xl_wire.specs.declared.body.Body.{Body}
use Rattle.xl_wire.specs.declared.body.Body.TheVariants as bodies
use Rattle.xl_wire.specs.declared.proposal.Proposal.{Proposal}
use Rattle.xl_wire.specs.declared.validation.Validation.{Validation}
use Rattle.xl_wire.specs.Bodies.{body_bytes, kind_of, version_for, version_of, IsProposal, IsValidation, IsBody}
use Rattle.xl_wire.specs.Frames.{IsFrame, raw_of}
use Rattle.xl_wire.specs.Kinds.{can_have}
use Rattle.xl_wire.specs.Raws.{raw_bytes, IsRaw}
use Rattle.xl_wire.proofs.BodyLaws.{spelled_lawful}
use Rattle.xl_wire.proofs.RawLaws.{length-raw_bytes}
use Rattle.xl_core.specs.declared.item.Item.{Item}
use Rattle.xl_core.specs.Items.{frame_for, frame_of, body_in}
use Rattle.xl_core.specs.Node.{Node}
use Rattle.xl_core.specs.Sending.{blank_frame, sealed_bytes, fits, has_spelling, is_id}

-- a tag has 32 bytes, also if there is no key
tag_long : (bytes : List ℕ) (o : Option (List ℕ)) → length (unwrap_or (option_map (λ key. mac key (before_tag bytes)) o) (replicate 32 0)) ≡ 32
tag_long bytes None = refl
tag_long bytes (Some key) = length-mac key _

-- WHAT FITS HAS A SPELLING

proposal_fits : (p : Proposal) → fits (bodies.Proposal p) ≡ true → IsProposal p
proposal_fits p h =
    let a = and_parts (length p.prev.0 == 32 && length p.set.0 == 32 && nat_lt p.pseq (2 ^ 32) && nat_lt p.close (2 ^ 32)) _ h in
    let b = and_parts (length p.prev.0 == 32 && length p.set.0 == 32 && nat_lt p.pseq (2 ^ 32)) _ a.0 in
    let c = and_parts (length p.prev.0 == 32 && length p.set.0 == 32) _ b.0 in
    let d = and_parts (length p.prev.0 == 32) _ c.0 in
    record { prev = eqb-true (length p.prev.0) 32 d.0; set = eqb-true (length p.set.0) 32 d.1; pseq = ltb-true p.pseq (2 ^ 32) c.1; close = ltb-true p.close (2 ^ 32) b.1; time = ltb-true p.time (2 ^ 32) a.1 }

validation_fits : (v : Validation) → fits (bodies.Validation v) ≡ true → IsValidation v
validation_fits v h =
    let d = and_parts (length v.id.0 == 32 && nat_lt v.seq (2 ^ 32) && nat_lt v.signed (2 ^ 32)) _ h in
    let a = and_parts (length v.id.0 == 32 && nat_lt v.seq (2 ^ 32)) _ d.0 in
    let b = and_parts (length v.id.0 == 32) _ a.0 in
    record { id = eqb-true (length v.id.0) 32 b.0; seq = ltb-true v.seq (2 ^ 32) b.1; signed = ltb-true v.signed (2 ^ 32) a.1; validated = id_fits v.validated d.1 }
  where
    id_fits : (o : Option LedgerId) → is_id o ≡ true → IfSome o (λ id. length id.0 ≡ 32)
    id_fits None h = tt
    id_fits (Some id) h = eqb-true (length id.0) 32 h

lawful : (body : Body) → fits body ≡ true → can_have (version_of body) (kind_of body) (length (body_bytes body)) ≡ true
lawful (bodies.Proposal p) h = spelled_lawful (bodies.Proposal p) (proposal_fits p h)
lawful (bodies.Validation v) h = spelled_lawful (bodies.Validation v) (validation_fits v h)
lawful (bodies.Header header) h = spelled_lawful (bodies.Header header) (eqb-true (length header) 118 h)
lawful (bodies.TxSet ids) h = h
lawful (bodies.Tx id) h = spelled_lawful (bodies.Tx id) (eqb-true (length id.0) 32 h)

pub held : (from to : ℕ) (v : Validation) → has_spelling from to (bodies.Validation v) ≡ true → IsFrame (blank_frame from to (bodies.Validation v))
held from to v h =
    let a = and_parts (nat_lt from (2 ^ 32) && nat_lt to (2 ^ 32)) (fits (bodies.Validation v)) h in
    let b = and_parts (nat_lt from (2 ^ 32)) (nat_lt to (2 ^ 32)) a.0 in
    record { body = validation_fits v a.1; from = ltb-true from (2 ^ 32) b.0; to = ltb-true to (2 ^ 32) b.1; tag = refl }

pub sealed_raw : (ring : Ring) (from to : ℕ) (body : Body) → has_spelling from to body ≡ true → IsRaw (sealed ring (raw_of (blank_frame from to body)))
sealed_raw ring from to body h =
    let a = and_parts (nat_lt from (2 ^ 32) && nat_lt to (2 ^ 32)) (fits body) h in
    let b = and_parts (nat_lt from (2 ^ 32)) (nat_lt to (2 ^ 32)) a.0 in
    record { lawful = lawful body a.1; from = ltb-true from (2 ^ 32) b.0; to = ltb-true to (2 ^ 32) b.1; tag = tag_long (raw_bytes (raw_of (blank_frame from to body))) (key_of ring to) }

-- AND WHAT HAS A SPELLING FITS

all_of : (a b c : Bool) → a ≡ true → b ≡ true → c ≡ true → (a && b && c) ≡ true
all_of a b c ea eb ec = rw (ea, eb, ec) refl

all_four : (a b c d : Bool) → a ≡ true → b ≡ true → c ≡ true → d ≡ true → (a && b && c && d) ≡ true
all_four a b c d ea eb ec ed = rw (ea, eb, ec, ed) refl

all_five : (a b c d e : Bool) → a ≡ true → b ≡ true → c ≡ true → d ≡ true → e ≡ true → (a && b && c && d && e) ≡ true
all_five a b c d e ea eb ec ed ee = rw (ea, eb, ec, ed, ee) refl

pub body_fits : (body : Body) → IsBody body → fits body ≡ true
body_fits (bodies.Proposal p) is =
    all_five (length p.prev.0 == 32) (length p.set.0 == 32) (nat_lt p.pseq (2 ^ 32)) (nat_lt p.close (2 ^ 32)) (nat_lt p.time (2 ^ 32))
    (eq-eqb (length p.prev.0) 32 is.prev) (eq-eqb (length p.set.0) 32 is.set) (lt-ltb p.pseq (2 ^ 32) is.pseq) (lt-ltb p.close (2 ^ 32) is.close) (lt-ltb p.time (2 ^ 32) is.time)
body_fits (bodies.Validation v) is =
    all_four (length v.id.0 == 32) (nat_lt v.seq (2 ^ 32)) (nat_lt v.signed (2 ^ 32)) (is_id v.validated) (eq-eqb (length v.id.0) 32 is.id) (lt-ltb v.seq (2 ^ 32) is.seq) (lt-ltb v.signed (2 ^ 32) is.signed) (id_is v.validated is.validated)
  where
    id_is : (o : Option LedgerId) → IfSome o (λ id. length id.0 ≡ 32) → is_id o ≡ true
    id_is None h = refl
    id_is (Some id) h = eq-eqb (length id.0) 32 h
body_fits (bodies.Header header) is = eq-eqb (length header) 118 is
body_fits (bodies.TxSet ids) is = spelled_lawful (bodies.TxSet ids) is
body_fits (bodies.Tx id) is = eq-eqb (length id.0) 32 is

-- HOW LONG IT IS

-- no body has more than 8,194
small : (body : Body) (n : ℕ) → can_have (version_of body) (kind_of body) n ≡ true → n ≤ 8194
small (bodies.Proposal p) n h = omega (arith, eqb-true n 76 h)
small (bodies.Validation v) n h = validation_small v.validated h
  where
    validation_small : (o : Option LedgerId) → can_have (version_for o) 2 n ≡ true → n ≤ 8194
    validation_small None h = omega (arith, eqb-true n 41 h)
    validation_small (Some id) h = omega (arith, eqb-true n 73 h)
small (bodies.Header header) n h = omega (arith, eqb-true n 118 h)
small (bodies.TxSet ids) n h = grind (arith, nat_tests)
small (bodies.Tx id) n h = omega (arith, eqb-true n 32 h)

sealed_most : (ring : Ring) (from to : ℕ) (body : Body) → has_spelling from to body ≡ true → (0 < length (sealed_bytes ring from to body)) × (length (sealed_bytes ring from to body) ≤ longest_frame)
sealed_most ring from to body spelled =
    let raw = sealed_raw ring from to body spelled in
    let long = length-raw_bytes (sealed ring (raw_of (blank_frame from to body))) raw.tag in
    (omega (arith, long), omega (arith, long, small body (length (body_bytes body)) raw.lawful))

-- so each frame fits into a room that has place for the longest
pub framed_fits : (n : Node) (to room : ℕ) (o : Option Body) → longest_frame ≤ room → IfSome (option_and_then (frame_for n to) o) (λ f. (0 < length f) × (length f ≤ room))
framed_fits n to room None enough = tt
framed_fits n to room (Some body) enough =
    cond_both (has_spelling n.me to body) (Some (sealed_bytes n.keys n.me to body)) None (λ o. IfSome o (λ f. (0 < length f) × (length f ≤ room)))
    (λ spelled. let long = sealed_most n.keys n.me to body spelled in (long.0, omega (arith, long.1, enough))) (λ _. tt)

pub frames_fit : (n : Node) (to room : ℕ) (items : List Item) → longest_frame ≤ room → All (λ o. IfSome o (λ f. (0 < length f) × (length f ≤ room))) (map (frame_of n to) items)
frames_fit n to room [] enough = All-nil (λ o. IfSome o (λ f. (0 < length f) × (length f ≤ room)))
frames_fit n to room (item ∷ items) enough =
    All-cons (λ o. IfSome o (λ f. (0 < length f) × (length f ≤ room))) (frame_of n to item) (map (frame_of n to) items) (framed_fits n to room (body_in n item) enough) (frames_fit n to room items enough)
