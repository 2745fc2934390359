-- The fields of a roll, put one after the other.
use Rattle.std.proofs.Common.{◌≡◌, ℕ, ◌+◌, ◌*◌, ◌<◌, ◌≤◌, List, [], ◌∷◌, ◌++◌, length, get_or, take, drop, refl, sym, ap, subst, ◌∙◌, arith}
use Rattle.std.proofs.lemmas.List.{take-append-drop, append-nil, take_at, drop_at, take_more, flat_map_more, length-append, length-take}
use Rattle.byteorder.specs.Endian.{big_bytes}
use Rattle.xl_base.specs.Putting.{Puts}
use Rattle.xl_tags.specs.Macs.{mac}
use Rattle.xl_wire.proofs.PutLaws.{puts_then}
use Rattle.xl_publish.specs.declared.roll.Roll.{Roll}
use Rattle.xl_publish.specs.Rolls.{member_bytes, said_bytes, roll_bytes}
use Rattle.xl_publish.specs.declared.reading.TheConstants.{HEAD}

pub length-member_bytes : (members : List ℕ) → length (member_bytes members) ≡ 4 * length members
length-member_bytes [] = refl
length-member_bytes (m ∷ ms) = omega (arith, length-append (big_bytes 4 m) (member_bytes ms), length-member_bytes ms)

-- nothing is put
pub puts_none : (at : ℕ) (room : List ℕ) → at ≤ length room → Puts at [] room room
puts_none at room le = record {
  fits = omega arith;
  is = sym (ap (λ (x : List ℕ). x ++ drop (at + 0) room) (append-nil (take at room)) ∙ ap (λ (k : ℕ). take at room ++ drop k room) (omega arith) ∙ take-append-drop at room);
}

-- one member more
pub puts_member : (members : List ℕ) (i : ℕ) (old mid new : List ℕ) → i < length members →
    Puts HEAD (member_bytes (take i members)) old mid → Puts (HEAD + 4 * i) (big_bytes 4 (get_or members i 0)) mid new → Puts HEAD (member_bytes (take (i + 1) members)) old new
puts_member members i old mid new within p q =
    let m = get_or members i 0 in
    let at : HEAD + 4 * i ≡ HEAD + length (member_bytes (take i members)) = omega (arith, length-member_bytes (take i members), length-take i members) in
    let more : take i members ++ m ∷ [] ≡ take (i + 1) members = sym (take_more members i 0 within) in
    let joined : member_bytes (take i members) ++ big_bytes 4 m ≡ member_bytes (take (i + 1) members) =
    flat_map_more (λ (k : ℕ). big_bytes 4 k) [] (take i members) m ∙ ap member_bytes more in
    subst (λ (x : List ℕ). Puts HEAD x old new) joined (puts_then HEAD (HEAD + 4 * i) (member_bytes (take i members)) (big_bytes 4 m) old mid new p q at)

-- the fields before the members
abbrev fields : Roll → ℕ → List ℕ
fields r count = (0x58 ∷ 0x50 ∷ 1 ∷ []) ++ big_bytes 4 r.publisher ++ big_bytes 4 r.seq ++ big_bytes 4 r.from ++ big_bytes 4 r.until ++ big_bytes 2 count

pub length-said_bytes : (r : Roll) → length (said_bytes r) ≡ HEAD + 4 * length r.members
length-said_bytes r = omega (arith, length-append (fields r (length r.members)) (member_bytes r.members), length-member_bytes r.members)

pub puts_said : (r : Roll) (members r0 r1 r2 r3 r4 r5 r6 r7 : List ℕ) → members ≡ r.members → Puts 0 (0x58 ∷ 0x50 ∷ 1 ∷ []) r0 r1 → Puts 3 (big_bytes 4 r.publisher) r1 r2 → Puts 7 (big_bytes 4 r.seq) r2 r3
    → Puts 11 (big_bytes 4 r.from) r3 r4 → Puts 15 (big_bytes 4 r.until) r4 r5 → Puts 19 (big_bytes 2 (length members)) r5 r6 → Puts HEAD (member_bytes members) r6 r7 → Puts 0 (said_bytes r) r0 r7
puts_said r members r0 r1 r2 r3 r4 r5 r6 r7 is p0 p1 p2 p3 p4 p5 p6 =
    let mark : List ℕ = 0x58 ∷ 0x50 ∷ 1 ∷ [] in
    let a = puts_then 0 3 mark (big_bytes 4 r.publisher) r0 r1 r2 p0 p1 refl in
    let b = puts_then 0 7 (mark ++ big_bytes 4 r.publisher) (big_bytes 4 r.seq) r0 r2 r3 a p2 refl in
    let c = puts_then 0 11 (mark ++ big_bytes 4 r.publisher ++ big_bytes 4 r.seq) (big_bytes 4 r.from) r0 r3 r4 b p3 refl in
    let d = puts_then 0 15 (mark ++ big_bytes 4 r.publisher ++ big_bytes 4 r.seq ++ big_bytes 4 r.from) (big_bytes 4 r.until) r0 r4 r5 c p4 refl in
    let e = puts_then 0 19 (mark ++ big_bytes 4 r.publisher ++ big_bytes 4 r.seq ++ big_bytes 4 r.from ++ big_bytes 4 r.until) (big_bytes 2 (length members)) r0 r5 r6 d p5 refl in
    let f = puts_then 0 HEAD (fields r (length members)) (member_bytes members) r0 r6 r7 e p6 refl in
    subst (λ (ms : List ℕ). Puts 0 (fields r (length ms) ++ member_bytes ms) r0 r7) is f

-- and then the tag
pub puts_roll : (key : List ℕ) (r : Roll) (end : ℕ) (tag r0 r1 r2 : List ℕ) → end ≡ HEAD + 4 * length r.members → Puts 0 (said_bytes r) r0 r1
    → tag ≡ mac key (take end r1) → length tag ≡ 32 → Puts end tag r1 r2 → (take (end + 32) r2 ≡ roll_bytes key r) × (drop (end + 32) r2 ≡ drop (end + 32) r0)
puts_roll key r end tag r0 r1 r2 long p is fits q =
    let said = said_bytes r in
    let count : length said ≡ end = length-said_bytes r ∙ sym long in
    let front : take end r1 ≡ said = ap (take end) p.is ∙ take_at said (drop (0 + length said) r0) end count in
    let right : tag ≡ mac key said = is ∙ ap (mac key) front in
    let both = puts_then 0 end said tag r0 r1 r2 p q (omega (arith, count)) in
    let whole : length (said ++ tag) ≡ end + 32 = omega (arith, length-append said tag, count, fits) in
    let rest : 0 + length (said ++ tag) ≡ end + 32 = omega (arith, whole) in (
      ap (take (end + 32)) both.is ∙ take_at (said ++ tag) (drop (0 + length (said ++ tag)) r0) (end + 32) whole ∙ ap (λ (t : List ℕ). said ++ t) right,
      ap (drop (end + 32)) both.is ∙ drop_at (said ++ tag) (drop (0 + length (said ++ tag)) r0) (end + 32) whole ∙ ap (λ (k : ℕ). drop k r0) rest,
    )
