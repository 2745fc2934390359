-- Bytes that are put one after the other.
use Rattle.std.proofs.Common.{◌≡◌, ℕ, zero, suc, ◌+◌, ◌*◌, ◌<◌, ◌≤◌, List, [], ◌∷◌, Option, Some, None, slice_get, ◌++◌, length, take, drop, refl, sym, ap, subst, ◌∙◌, append_assoc, arith}
use Rattle.std.proofs.lemmas.List.{append-nil, take-append-drop, take_at, take_all, flat_map_more, drop_at, drop-drop, length-append, length-take, length-drop}
use Rattle.std.specs.List.{AllByRecursion}
use Rattle.byteorder.specs.Endian.{big_bytes}
use Rattle.std.specs.Prelude.{IfSome}
use Rattle.xl_base.specs.declared.ids.LedgerId.{LedgerId}
use Rattle.xl_base.specs.declared.ids.TxId.{TxId}
use Rattle.xl_wire.specs.declared.body.Body.{Body}
use Rattle.xl_wire.specs.declared.body.Body.TheVariants as bodies
use Rattle.xl_wire.specs.declared.frame.Frame.{Frame}
use Rattle.xl_wire.specs.Bodies.{IsBody, IsId, IsTxSet, version_of, kind_of, vote_bytes, validated_bytes, body_bytes, set_bytes}
use Rattle.xl_wire.specs.Frames.{raw_of, frame_bytes, IsFrame, Spells}
use Rattle.xl_base.specs.Sets.{IsSet, id_bytes}
use Rattle.xl_base.specs.Putting.{Puts}
use Rattle.xl_wire.specs.Writing.{body_length, validated_length}
use Rattle.xl_wire.specs.declared.lengths.TheConstants.{VALIDATION_BODY, HEAD, AROUND}
use Rattle.xl_wire.proofs.BodyLaws.{length-id_bytes, length-vote_bytes}
use Rattle.xl_wire.proofs.RawLaws.{length-raw_bytes}

-- what is put at a place, and then what is put after it
pub puts_then : (at next : ℕ) (a b old mid new : List ℕ) → Puts at a old mid → Puts next b mid new → next ≡ at + length a → Puts at (a ++ b) old new
puts_then at next a b old mid new p q e =
    let len : length (take at old) ≡ at = omega (arith, length-take at old, p.fits) in
    let front : length (take at old ++ a) ≡ next = omega (arith, length-append (take at old) a) in
    let before : take next mid ≡ take at old ++ a = ap (take next) p.is ∙ take_at (take at old ++ a) (drop (at + length a) old) next front in
    let after : drop next mid ≡ drop (at + length a) old = ap (drop next) p.is ∙ drop_at (take at old ++ a) (drop (at + length a) old) next front in
    let rest : drop (next + length b) mid ≡ drop (at + length (a ++ b)) old =
    sym (drop-drop (length b) next mid) ∙ ap (drop (length b)) after ∙ drop-drop (length b) (at + length a) old ∙ ap (λ (k : ℕ). drop k old) (omega (arith, length-append a b)) in
    let kept : length mid ≡ length old = ap length p.is ∙ omega (arith, length-append (take at old ++ a) (drop (at + length a) old), length-append (take at old) a, length-drop (at + length a) old, p.fits) in
    record {
      fits = omega (arith, q.fits, length-append a b);
      is = q.is ∙ ap (λ (x : List ℕ). x ++ b ++ drop (next + length b) mid) before ∙ ap (λ (x : List ℕ). (take at old ++ a) ++ b ++ x) rest
          ∙ ap (λ (x : List ℕ). x ++ drop (at + length (a ++ b)) old) (append_assoc (take at old) a b);
    }

pub puts_same : (at at' : ℕ) (a a' old new : List ℕ) → at ≡ at' → a ≡ a' → Puts at a old new → Puts at' a' old new
puts_same at at' a a' old new e f p = subst (λ (k : ℕ). Puts k a' old new) e (subst (λ (x : List ℕ). Puts at x old new) f p)

-- nothing is put
pub puts_none : (at : ℕ) (room : List ℕ) → at ≤ length room → Puts at [] room room
puts_none at room within = record {
  fits = omega (arith, within);
  is = sym (take-append-drop at room) ∙ ap (λ (k : ℕ). take at room ++ drop k room) (omega arith) ∙ ap (λ (x : List ℕ). x ++ drop (at + 0) room) (sym (append-nil (take at room)));
}

-- ---- sets, id by id

take_id : (ids : List TxId) (i : ℕ) (id : TxId) → slice_get ids i ≡ Some id → take (suc i) ids ≡ take i ids ++ id ∷ []
take_id [] i id e = absurd cc
take_id (a ∷ ids) zero id e = let same : a ≡ id = cc in ap (λ (x : TxId). x ∷ []) same
take_id (a ∷ ids) (suc i) id e = ap (λ (x : List TxId). a ∷ x) (take_id ids i id e)

each_more : (ids : List TxId) (id : TxId) → AllByRecursion IsId ids → IsId id → AllByRecursion IsId (ids ++ id ∷ [])
each_more [] id h k = (k, tt)
each_more (a ∷ ids) id h k = (h.0, each_more ids id h.1 k)

each_taken : (n : ℕ) (ids : List TxId) → length ids ≤ n → AllByRecursion IsId (take n ids) → AllByRecursion IsId ids
each_taken n ids le h = subst (λ (x : List TxId). AllByRecursion IsId x) (take_all n ids le) h

-- the set so far, one id on
pub record PutsIds (ids : List TxId) (i : ℕ) (old new : List ℕ) : Type 0 where
  pub puts : Puts HEAD (big_bytes 2 (length ids) ++ id_bytes (take i ids)) old new
  pub each : AllByRecursion IsId (take i ids)

pub puts_id : (ids : List TxId) (i : ℕ) (id : TxId) (old mid new : List ℕ) → slice_get ids i ≡ Some id → IsId id → i < length ids → PutsIds ids i old mid → Puts (16 + 32 * i) id.0 mid new → PutsIds ids (i + 1) old new
puts_id ids i id old mid new e long lt p q =
    let one : i + 1 ≡ suc i = omega arith in
    let more : take (i + 1) ids ≡ take i ids ++ id ∷ [] = ap (λ (k : ℕ). take k ids) one ∙ take_id ids i id e in
    let at : 16 + 32 * i ≡ HEAD + length (big_bytes 2 (length ids) ++ id_bytes (take i ids)) = omega (arith, length-id_bytes (take i ids) p.each, length-take i ids) in
    let both = puts_then HEAD (16 + 32 * i) (big_bytes 2 (length ids) ++ id_bytes (take i ids)) id.0 old mid new p.puts q at in
    let joined : (big_bytes 2 (length ids) ++ id_bytes (take i ids)) ++ id.0 ≡ big_bytes 2 (length ids) ++ id_bytes (take (i + 1) ids) =
    flat_map_more (λ (x : TxId). x.0) (big_bytes 2 (length ids)) (take i ids) id ∙ ap (λ (x : List TxId). big_bytes 2 (length ids) ++ id_bytes x) (sym more) in
    record {
      puts = subst (λ (x : List ℕ). Puts HEAD x old new) joined both;
      each = subst (λ (x : List TxId). AllByRecursion IsId x) (sym more) (each_more (take i ids) id p.each long);
    }

pub puts_set : (ids : List TxId) (i : ℕ) (old new : List ℕ) → length ids ≤ i → IsSet ids → PutsIds ids i old new → Puts HEAD (set_bytes ids) old new × IsTxSet ids
puts_set ids i old new le set p = (
  subst (λ (x : List TxId). Puts HEAD (big_bytes 2 (length ids) ++ id_bytes x) old new) (take_all i ids le) p.puts,
  record { each = each_taken i ids le p.each; set = set },
)

-- ---- the whole frame

pub body_long : (body : Body) → IsBody body → body_length body ≡ length (body_bytes body)
body_long (bodies.Proposal p) ok = omega (arith, ok.prev, ok.set, length-append p.prev.0 p.set.0, length-append (p.prev.0 ++ p.set.0) (big_bytes 4 p.pseq), length-append (p.prev.0 ++ p.set.0 ++ big_bytes 4 p.pseq) (big_bytes 4 p.close), length-append (p.prev.0 ++ p.set.0 ++ big_bytes 4 p.pseq ++ big_bytes 4 p.close) (big_bytes 4 p.time))
body_long (bodies.Validation v) ok = validation_long (vote_bytes v) v.validated (length-vote_bytes v ok.id) ok.validated
  where
    validation_long : (front : List ℕ) (o : Option LedgerId) → length front ≡ VALIDATION_BODY → IfSome o (λ id. length id.0 ≡ 32) → VALIDATION_BODY + validated_length o ≡ length (front ++ validated_bytes o)
    validation_long front None long fits = omega (arith, length-append front [], long)
    validation_long front (Some id) long fits = omega (arith, length-append front id.0, long, fits)
body_long (bodies.Header h) ok = sym ok
body_long (bodies.TxSet ids) ok = omega (arith, length-id_bytes ids ok.each)
body_long (bodies.Tx id) ok = sym ok

-- head, sender, receiver, body and tag, one after the other
pub puts_frame : (f : Frame) (version kind n : ℕ) (r0 r1 r2 r3 r4 r5 : List ℕ) → version ≡ version_of f.body → kind ≡ kind_of f.body → n ≡ body_length f.body → IsFrame f
    → Puts 0 ((0x58 ∷ 0x4C ∷ version ∷ kind ∷ []) ++ big_bytes 2 n) r0 r1 → Puts 6 (big_bytes 4 f.from) r1 r2 → Puts 10 (big_bytes 4 f.to) r2 r3
    → Puts HEAD (body_bytes f.body) r3 r4 → Puts (HEAD + n) f.tag r4 r5 → Spells f (take (AROUND + n) r5) × (drop (AROUND + n) r5 ≡ drop (AROUND + n) r0)
puts_frame f version kind n r0 r1 r2 r3 r4 r5 v k e ok p p1 p2 p3 p4 =
    let head = (0x58 ∷ 0x4C ∷ version_of f.body ∷ kind_of f.body ∷ []) ++ big_bytes 2 n in
    let p0 : Puts 0 head r0 r1 = subst (λ (x : ℕ). Puts 0 ((0x58 ∷ 0x4C ∷ version_of f.body ∷ x ∷ []) ++ big_bytes 2 n) r0 r1) k (subst (λ (y : ℕ). Puts 0 ((0x58 ∷ 0x4C ∷ y ∷ kind ∷ []) ++ big_bytes 2 n) r0 r1) v p) in
    let long : n ≡ length (body_bytes f.body) = e ∙ body_long f.body ok.body in
    let a = puts_then 0 6 head (big_bytes 4 f.from) r0 r1 r2 p0 p1 refl in
    let b = puts_then 0 10 (head ++ big_bytes 4 f.from) (big_bytes 4 f.to) r0 r2 r3 a p2 refl in
    let c = puts_then 0 HEAD (head ++ big_bytes 4 f.from ++ big_bytes 4 f.to) (body_bytes f.body) r0 r3 r4 b p3 refl in
    let d = puts_then 0 (HEAD + n) (head ++ big_bytes 4 f.from ++ big_bytes 4 f.to ++ body_bytes f.body) f.tag r0 r4 r5 c p4 (omega (arith, length-append (head ++ big_bytes 4 f.from ++ big_bytes 4 f.to) (body_bytes f.body), long)) in
    let whole : Puts 0 (frame_bytes f) r0 r5 = subst (λ (k : ℕ). Puts 0 ((0x58 ∷ 0x4C ∷ version_of f.body ∷ kind_of f.body ∷ []) ++ big_bytes 2 k ++ big_bytes 4 f.from ++ big_bytes 4 f.to ++ body_bytes f.body ++ f.tag) r0 r5) long d in
    let count : AROUND + n ≡ length (frame_bytes f) = omega (arith, long, length-raw_bytes (raw_of f) ok.tag) in
    let start : 0 + length (frame_bytes f) ≡ length (frame_bytes f) = omega arith in
    let is : r5 ≡ frame_bytes f ++ drop (length (frame_bytes f)) r0 = whole.is ∙ ap (λ (k : ℕ). frame_bytes f ++ drop k r0) start in (
      record {
        frame = ok;
        spelling = ap (take (AROUND + n)) is ∙ take_at (frame_bytes f) (drop (length (frame_bytes f)) r0) (AROUND + n) (sym count);
      },
      ap (drop (AROUND + n)) is ∙ drop_at (frame_bytes f) (drop (length (frame_bytes f)) r0) (AROUND + n) (sym count) ∙ ap (λ (k : ℕ). drop k r0) (sym count),
    )
