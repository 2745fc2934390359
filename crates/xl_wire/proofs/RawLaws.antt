-- The laws of splitting: what is split off is spelled so, and what is spelled so is split off.
use Rattle.std.proofs.Common.{◌≡◌, ℕ, zero, suc, ◌+◌, ◌-◌, ◌^◌, ◌<◌, ◌≤◌, ◌==◌, Bool, true, false, not, ◌&&◌, nat_lt, List, [], ◌∷◌, ◌++◌, length, slice_index, take, drop, Option, Some, None, IsTrue, refl, sym, ap, subst, ◌∙◌, append_assoc, arith}
use Rattle.std.proofs.lemmas.Bool.{and_parts, cond_both, eqb-true}
use Rattle.std.proofs.lemmas.Bool.Decides.{nat_tests}
use Rattle.std.proofs.lemmas.List.{take-append-drop, take_at, drop_at, drop-drop, length-append, length-take, length-drop}
use Rattle.byteorder.specs.Endian.{big_bytes, big_number}
use Rattle.byteorder.specs.Numbers.{big_number-reads_back}
use Rattle.xl_wire.specs.declared.refusal.WireRefusal.{WireRefusal}
use Rattle.xl_wire.specs.declared.refusal.WireRefusal.TheVariants.{Magic, Version, Kind, Length}
use Rattle.xl_wire.specs.Kinds.{is_version, is_kind, can_have_first, can_have, IsLawful, span}
use Rattle.xl_wire.specs.Raws.{RawFrame, raw_bytes, IsRaw, SpellsRaw}
use Rattle.xl_base.specs.Refusals.{refused_if, first_of}
use Rattle.xl_wire.specs.Heads.{differs, version_in, kind_in, length_in, head_refusal, lacking, raw_in, split_unless, split_of}
use Rattle.xl_wire.specs.Heads.Split.{Whole}
use Rattle.xl_wire.specs.declared.lengths.TheConstants.{HEAD, AROUND}
use Rattle.xl_wire.proofs.Numbers.{IsBytes, IsBytes-drop, IsBytes-take, cut_at, number_at_2, number_at_4, below_4}

not_refused : (b : Bool) (r : WireRefusal) → refused_if b r ≡ None → b ≡ false
not_refused true r e = absurd cc
not_refused false r e = refl

never_refused : (b c : Bool) (r : WireRefusal) → c ≡ true → refused_if (b && not c) r ≡ None
never_refused true c r e = rw e refl
never_refused false c r e = refl

holds_where : (b c : Bool) → b ≡ true → (b && not c) ≡ false → c ≡ true
holds_where b true e f = refl
holds_where b false e f = absurd (cc)

four_cells : (bytes : List ℕ) → 4 ≤ length bytes → bytes ≡ (slice_index bytes 0 ∷ slice_index bytes 1 ∷ slice_index bytes 2 ∷ slice_index bytes 3 ∷ []) ++ drop 4 bytes
four_cells (a ∷ b ∷ c ∷ d ∷ bytes) h = refl
four_cells bytes h = absurd (omega arith)

-- what bytes that aren't refused show
record IsHead (bytes : List ℕ) : Type 0 where
  front : bytes ≡ (0x58 ∷ 0x4C ∷ version_in bytes ∷ kind_in bytes ∷ []) ++ drop 4 bytes
  lawful : can_have (version_in bytes) (kind_in bytes) (length_in bytes) ≡ true

-- no cause of the head holds
record Passes (bytes : List ℕ) : Type 0 where
  first : refused_if (differs bytes 0 0x58) (Magic 0) ≡ None
  second : refused_if (differs bytes 1 0x4C) (Magic 1) ≡ None
  version : refused_if (nat_lt 2 (length bytes) && not (is_version (version_in bytes))) (Version (version_in bytes)) ≡ None
  kind : refused_if (nat_lt 3 (length bytes) && not (is_kind (version_in bytes) (kind_in bytes))) (Kind (kind_in bytes)) ≡ None
  long : refused_if (nat_lt 5 (length bytes) && not (can_have (version_in bytes) (kind_in bytes) (length_in bytes))) (Length (kind_in bytes) (length_in bytes)) ≡ None

all_none : (a b c d e : Option WireRefusal) → first_of (a ∷ b ∷ c ∷ d ∷ e ∷ []) ≡ None → (a ≡ None) × (b ≡ None) × (c ≡ None) × (d ≡ None) × (e ≡ None)
all_none None None None None None h = (refl, refl, refl, refl, refl)
all_none a b c d e h = absurd cc

none_all : (a b c d e : Option WireRefusal) → a ≡ None → b ≡ None → c ≡ None → d ≡ None → e ≡ None → first_of (a ∷ b ∷ c ∷ d ∷ e ∷ []) ≡ None
none_all a b c d e p q r s t = rw (p, q, r, s, t) refl

passes : (bytes : List ℕ) → head_refusal bytes ≡ None → Passes bytes
passes bytes h =
    let n = all_none
    (refused_if (differs bytes 0 0x58) (Magic 0))
    (refused_if (differs bytes 1 0x4C) (Magic 1))
    (refused_if (nat_lt 2 (length bytes) && not (is_version (version_in bytes))) (Version (version_in bytes)))
    (refused_if (nat_lt 3 (length bytes) && not (is_kind (version_in bytes) (kind_in bytes))) (Kind (kind_in bytes)))
    (refused_if (nat_lt 5 (length bytes) && not (can_have (version_in bytes) (kind_in bytes) (length_in bytes))) (Length (kind_in bytes) (length_in bytes)))
    h in
    record { first = n.0; second = n.1; version = n.2; kind = n.3; long = n.4 }

there : (i n : ℕ) → i < n → nat_lt i n ≡ true
there i n h = grind (arith, nat_tests)

-- a byte that is there and doesn't differ is the wanted one
same_byte : (bytes : List ℕ) (i wanted : ℕ) → i < length bytes → differs bytes i wanted ≡ false → slice_index bytes i ≡ wanted
same_byte bytes i wanted h e = eqb-true _ _ (holds_where (nat_lt i (length bytes)) (slice_index bytes i == wanted) (there i (length bytes) h) e)

head_is : (bytes : List ℕ) → 6 ≤ length bytes → head_refusal bytes ≡ None → IsHead bytes
head_is bytes long none =
    let p = passes bytes none in
    let x = same_byte bytes 0 0x58 (omega arith) (not_refused _ _ p.first) in
    let y = same_byte bytes 1 0x4C (omega arith) (not_refused _ _ p.second) in
    record {
      front = four_cells bytes (omega arith) ∙ rw (x, y) refl;
      lawful = holds_where (nat_lt 5 (length bytes)) (can_have (version_in bytes) (kind_in bytes) (length_in bytes)) (there 5 (length bytes) (omega arith)) (not_refused _ _ p.long);
    }

-- pieces that follow each other
joined : (h l f t b g r d4 d6 d10 d14 dn bytes : List ℕ) → bytes ≡ h ++ d4 → d4 ≡ l ++ d6 → d6 ≡ f ++ d10 → d10 ≡ t ++ d14 → d14 ≡ b ++ dn → dn ≡ g ++ r → bytes ≡ (h ++ l ++ f ++ t ++ b ++ g) ++ r
joined h l f t b g r d4 d6 d10 d14 dn bytes e0 e1 e2 e3 e4 e5 =
    let whole : bytes ≡ h ++ (l ++ (f ++ (t ++ (b ++ (g ++ r))))) = rw (e0, e1, e2, e3, e4, e5) refl in
    whole ∙ sym (simp append_assoc)

-- a lawful body is one of version 1, or a validation of version 2
pub by_version : (P : ℕ → ℕ → ℕ → Type 0) → ((kind n : ℕ) → can_have_first kind n ≡ true → P 1 kind n) → P 2 2 73 → (version kind n : ℕ) → can_have version kind n ≡ true → P version kind n
by_version P first second version kind n h =
    cond_both (version == 1) (can_have_first kind n) (version == 2 && kind == 2 && n == 73) (λ b. b ≡ true → P version kind n)
    (λ one lawful. subst (λ (v : ℕ). P v kind n) (sym (eqb-true version 1 one)) (first kind n lawful))
    (λ _ lawful.
    let long = and_parts (version == 2 && kind == 2) (n == 73) lawful in
    let both = and_parts (version == 2) (kind == 2) long.0 in
    subst (λ (v : ℕ). P v kind n) (sym (eqb-true version 2 both.0)) (subst (λ (k : ℕ). P 2 k n) (sym (eqb-true kind 2 both.1)) (subst (P 2 2) (sym (eqb-true n 73 long.1)) second)))
    h

-- a body's length is below 2 ^ 16
body_below : (version kind n : ℕ) → can_have version kind n ≡ true → n < 2 ^ 16
body_below = by_version (λ version kind n. n < 2 ^ 16) first (omega arith)
  where
    first : (kind n : ℕ) → can_have_first kind n ≡ true → n < 2 ^ 16
    first kind n h = grind (arith, nat_tests)

version_is_one : (version kind n : ℕ) → can_have version kind n ≡ true → is_version version ≡ true
version_is_one = by_version (λ version kind n. is_version version ≡ true) (λ _ _ _. refl) refl

kind_is_one : (version kind n : ℕ) → can_have version kind n ≡ true → is_kind version kind ≡ true
kind_is_one = by_version (λ version kind n. is_kind version kind ≡ true) first refl
  where
    first : (kind n : ℕ) → can_have_first kind n ≡ true → is_kind 1 kind ≡ true
    first kind n h = grind (arith, nat_tests)

pub length-raw_bytes : (f : RawFrame) → length f.tag ≡ 32 → length (raw_bytes f) ≡ span f.body
length-raw_bytes f h = omega (arith, length-append f.body f.tag, length-append ((0x58 ∷ 0x4C ∷ f.version ∷ f.kind ∷ []) ++ big_bytes 2 (length f.body) ++ big_bytes 4 f.from ++ big_bytes 4 f.to ++ f.body) f.tag, length-append ((0x58 ∷ 0x4C ∷ f.version ∷ f.kind ∷ []) ++ big_bytes 2 (length f.body) ++ big_bytes 4 f.from ++ big_bytes 4 f.to) f.body)

-- a whole frame's fields spell it
raw_spelled : (bytes : List ℕ) → IsBytes bytes → 6 ≤ length bytes → head_refusal bytes ≡ None → AROUND + length_in bytes ≤ length bytes → (bytes ≡ raw_bytes (raw_in bytes) ++ drop (AROUND + length_in bytes) bytes) × IsRaw (raw_in bytes)
raw_spelled bytes fits six none long =
    let n = length_in bytes in
    let head = head_is bytes six none in
    let body_len : length (take n (drop HEAD bytes)) ≡ n = omega (arith, length-take n (drop HEAD bytes), length-drop HEAD bytes) in
    let e1 : drop 4 bytes ≡ big_bytes 2 (length (take n (drop HEAD bytes))) ++ drop 6 bytes = subst (λ (k : ℕ). drop 4 bytes ≡ big_bytes 2 k ++ drop 6 bytes) (sym body_len) (number_at_2 4 bytes fits (omega arith)) in
    let e5 : drop (HEAD + n) bytes ≡ take 32 (drop (HEAD + n) bytes) ++ drop (AROUND + n) bytes = cut_at (HEAD + n) 32 bytes ∙ ap (λ (k : ℕ). take 32 (drop (HEAD + n) bytes) ++ drop k bytes) (omega arith) in
    let all = joined (0x58 ∷ 0x4C ∷ version_in bytes ∷ kind_in bytes ∷ []) (big_bytes 2 (length (take n (drop HEAD bytes)))) (big_bytes 4 (big_number 4 (drop 6 bytes))) (big_bytes 4 (big_number 4 (drop 10 bytes))) (take n (drop HEAD bytes)) (take 32 (drop (HEAD + n) bytes)) (drop (AROUND + n) bytes)
    (drop 4 bytes) (drop 6 bytes) (drop 10 bytes) (drop HEAD bytes) (drop (HEAD + n) bytes) bytes
    head.front e1 (number_at_4 6 bytes fits (omega arith)) (number_at_4 10 bytes fits (omega arith)) (cut_at HEAD n bytes) e5 in (
      all,
      record {
        lawful = subst (λ (k : ℕ). IsTrue (can_have (version_in bytes) (kind_in bytes) k)) (sym body_len) head.lawful;
        from = below_4 (drop 6 bytes) (IsBytes-drop 6 bytes fits);
        to = below_4 (drop 10 bytes) (IsBytes-drop 10 bytes fits);
        tag = omega (arith, length-take 32 (drop (HEAD + n) bytes), length-drop (HEAD + n) bytes);
      },
    )

-- what the answer says of the bytes
split_is : (refusal : Option WireRefusal) (lack : ℕ) (raw f : RawFrame) → split_unless refusal lack raw ≡ Whole f → (refusal ≡ None) × (lack ≡ 0) × (raw ≡ f)
split_is (Some r) lack raw f e = absurd cc
split_is None (suc lack) raw f e = absurd cc
split_is None zero raw f e = (refl, refl, cc)

none_lacks : (bytes : List ℕ) → lacking bytes ≡ 0 → (6 ≤ length bytes) × (AROUND + length_in bytes ≤ length bytes)
none_lacks bytes e = grind (arith, nat_tests)

-- what is split off is what the first bytes spell
pub split_spelled : (bytes : List ℕ) (f : RawFrame) → IsBytes bytes → split_of bytes ≡ Whole f → SpellsRaw f (take (span f.body) bytes)
split_spelled bytes f fits e =
    let s = split_is (head_refusal bytes) (lacking bytes) (raw_in bytes) f e in
    let long = none_lacks bytes s.1 in
    let all = raw_spelled bytes fits long.0 s.0 long.1 in
    let spells : SpellsRaw (raw_in bytes) (take (span (raw_in bytes).body) bytes) = record {
      frame = all.1;
      spelling = ap (take (span (raw_in bytes).body)) all.0 ∙ take_at (raw_bytes (raw_in bytes)) (drop (AROUND + length_in bytes) bytes) (span (raw_in bytes).body) (length-raw_bytes (raw_in bytes) all.1.tag);
    } in
    subst (λ (x : RawFrame). SpellsRaw x (take (span x.body) bytes)) s.2 spells

nothing_lacks : (bytes : List ℕ) → 6 ≤ length bytes → AROUND + length_in bytes ≤ length bytes → lacking bytes ≡ 0
nothing_lacks bytes h k = grind (arith, nat_tests)

split_whole : (refusal : Option WireRefusal) (lack : ℕ) (raw f : RawFrame) → refusal ≡ None → lack ≡ 0 → raw ≡ f → split_unless refusal lack raw ≡ Whole f
split_whole refusal lack raw f p q r = rw (p, q, r) refl

abbrev raw_made : ℕ → ℕ → ℕ → ℕ → List ℕ → List ℕ → RawFrame
raw_made version kind from to body tag = record { version = version; kind = kind; from = from; to = to; body = body; tag = tag }

pub raw_same : (a b : RawFrame) → a.version ≡ b.version → a.kind ≡ b.kind → a.from ≡ b.from → a.to ≡ b.to → a.body ≡ b.body → a.tag ≡ b.tag → a ≡ b
raw_same a b o p q r s t =
    let same : raw_made a.version a.kind a.from a.to a.body a.tag ≡ raw_made b.version b.kind b.from b.to b.body b.tag = rw (o, p, q, r, s, t) refl in
    same

-- what is spelled is split off, whatever follows it
pub split_again : (f : RawFrame) (rest : List ℕ) → IsRaw f → split_of (raw_bytes f ++ rest) ≡ Whole f
split_again f rest ok =
    let n = length f.body in
    let bytes = raw_bytes f ++ rest in
    let small : n < 2 ^ 16 = body_below f.version f.kind n ok.lawful in
    let count : length_in bytes ≡ n = big_number-reads_back 2 n (big_bytes 4 f.from ++ (big_bytes 4 f.to ++ ((f.body ++ f.tag) ++ rest))) (omega arith) in
    let long : length bytes ≡ AROUND + n + length rest = omega (arith, length-append (raw_bytes f) rest, length-raw_bytes f ok.tag) in
    let lawful : can_have f.version f.kind (length_in bytes) ≡ true = subst (λ (k : ℕ). can_have f.version f.kind k ≡ true) (sym count) ok.lawful in
    let none : head_refusal bytes ≡ None = none_all
    (refused_if (differs bytes 0 0x58) (Magic 0))
    (refused_if (differs bytes 1 0x4C) (Magic 1))
    (refused_if (nat_lt 2 (length bytes) && not (is_version (version_in bytes))) (Version (version_in bytes)))
    (refused_if (nat_lt 3 (length bytes) && not (is_kind (version_in bytes) (kind_in bytes))) (Kind (kind_in bytes)))
    (refused_if (nat_lt 5 (length bytes) && not (can_have (version_in bytes) (kind_in bytes) (length_in bytes))) (Length (kind_in bytes) (length_in bytes)))
    (never_refused (nat_lt 0 (length bytes)) (slice_index bytes 0 == 0x58) (Magic 0) refl)
    (never_refused (nat_lt 1 (length bytes)) (slice_index bytes 1 == 0x4C) (Magic 1) refl)
    (never_refused (nat_lt 2 (length bytes)) (is_version (version_in bytes)) (Version (version_in bytes)) (version_is_one f.version f.kind n ok.lawful))
    (never_refused (nat_lt 3 (length bytes)) (is_kind (version_in bytes) (kind_in bytes)) (Kind (kind_in bytes)) (kind_is_one f.version f.kind n ok.lawful))
    (never_refused (nat_lt 5 (length bytes)) (can_have (version_in bytes) (kind_in bytes) (length_in bytes)) (Length (kind_in bytes) (length_in bytes)) lawful) in
    let tail : drop HEAD bytes ≡ f.body ++ (f.tag ++ rest) = append_assoc f.body f.tag rest in
    let body : take (length_in bytes) (drop HEAD bytes) ≡ f.body = ap (λ (k : ℕ). take k (drop HEAD bytes)) count ∙ ap (take n) tail ∙ take_at f.body (f.tag ++ rest) n refl in
    let after : drop (HEAD + length_in bytes) bytes ≡ f.tag ++ rest = ap (λ (k : ℕ). drop (HEAD + k) bytes) count ∙ sym (drop-drop n HEAD bytes) ∙ ap (drop n) tail ∙ drop_at f.body (f.tag ++ rest) n refl in
    let tag : take 32 (drop (HEAD + length_in bytes) bytes) ≡ f.tag = ap (take 32) after ∙ take_at f.tag rest 32 ok.tag in
    let from : big_number 4 (drop 6 bytes) ≡ f.from = big_number-reads_back 4 f.from (big_bytes 4 f.to ++ ((f.body ++ f.tag) ++ rest)) ok.from in
    let to : big_number 4 (drop 10 bytes) ≡ f.to = big_number-reads_back 4 f.to ((f.body ++ f.tag) ++ rest) ok.to in
    split_whole (head_refusal bytes) (lacking bytes) (raw_in bytes) f none (nothing_lacks bytes (omega arith) (omega arith)) (raw_same (raw_in bytes) f refl refl from to body tag)

-- the first bytes spell at most one frame, and it is split off
pub spelled_split : (bytes : List ℕ) (f : RawFrame) → SpellsRaw f (take (span f.body) bytes) → split_of bytes ≡ Whole f
spelled_split bytes f s =
    ap split_of (sym (take-append-drop (span f.body) bytes) ∙ ap (λ (x : List ℕ). x ++ drop (span f.body) bytes) s.spelling)
    ∙ split_again f (drop (span f.body) bytes) s.frame

-- a whole frame's body is lawful
pub body_lawful : (bytes : List ℕ) (n : ℕ) → n ≡ length_in bytes → head_refusal bytes ≡ None → lacking bytes ≡ 0 → IsLawful (version_in bytes) (kind_in bytes) (take (HEAD + n - HEAD) (drop HEAD bytes)) × (HEAD + n + 32 ≡ span (take (HEAD + n - HEAD) (drop HEAD bytes)))
body_lawful bytes n is none lack =
    let long = none_lacks bytes lack in
    let head = head_is bytes long.0 none in
    let len : length (take (HEAD + n - HEAD) (drop HEAD bytes)) ≡ n = omega (arith, length-take (HEAD + n - HEAD) (drop HEAD bytes), length-drop HEAD bytes) in
    (subst (λ (k : ℕ). IsTrue (can_have (version_in bytes) (kind_in bytes) k)) (sym (len ∙ is)) head.lawful, omega arith)

-- the body of what is split off is bytes
pub split_bytes : (bytes : List ℕ) (f : RawFrame) → IsBytes bytes → split_of bytes ≡ Whole f → IsBytes f.body
split_bytes bytes f fits e =
    let s = split_is (head_refusal bytes) (lacking bytes) (raw_in bytes) f e in
    subst (λ (x : RawFrame). IsBytes x.body) s.2 (IsBytes-take (length_in bytes) (drop HEAD bytes) (IsBytes-drop HEAD bytes fits))

-- frames whose spellings begin one list are one
pub one_raw : (f g : RawFrame) (x y s t : List ℕ) → SpellsRaw f x → SpellsRaw g y → x ++ s ≡ y ++ t → (x ≡ y) × (f ≡ g)
one_raw f g x y s t a b e =
    let first : split_of (x ++ s) ≡ Whole f = ap (λ (z : List ℕ). split_of (z ++ s)) a.spelling ∙ split_again f s a.frame in
    let second : split_of (y ++ t) ≡ Whole g = ap (λ (z : List ℕ). split_of (z ++ t)) b.spelling ∙ split_again g t b.frame in
    let whole : Whole f ≡ Whole g = sym first ∙ ap split_of e ∙ second in
    let same : f ≡ g = cc in
    (a.spelling ∙ ap raw_bytes same ∙ sym b.spelling, same)
