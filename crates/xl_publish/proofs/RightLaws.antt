-- What isn't refused is what a right roll is spelled, and the other way round.
use Rattle.std.proofs.Common.{◌≡◌, ℕ, zero, suc, ◌+◌, ◌-◌, ◌*◌, ◌<◌, ◌≤◌, ◌==◌, Bool, true, false, List, [], ◌∷◌, ◌++◌, length, slice_index, take, drop, Option, Some, None, refl, sym, ap, subst, ◌∙◌, inl, inr, arith, append_assoc}
use Rattle.std.specs.Prelude.{nat_lt, nat_le, ◌&&◌, not, option_map, bytes_eq, is_none, is_ok, ◌↔◌}
use Rattle.std.proofs.lemmas.Bool.{cases_Bool, cases_lt, cond-true, cond-false}
use Rattle.std.proofs.lemmas.Bool.Decides.{nat_tests}
use Rattle.std.proofs.lemmas.List.{take_at, drop_at, take_all, drop-drop, length-append, length-drop}
use Rattle.std.proofs.lemmas.Slice.Eq.{bytes_eq-Decides}
use Rattle.byteorder.specs.Endian.{big_bytes, big_number}
use Rattle.byteorder.specs.Numbers.{big_number-reads_back}
use Rattle.xl_base.specs.Refusals.{refused_if, first_of, unless_refused}
use Rattle.xl_tags.specs.Macs.{mac}
use Rattle.xl_tags.proofs.MacLaws.{length-mac}
use Rattle.xl_wire.proofs.Numbers.{IsBytes, IsBytes-drop, number_at_4, number_at_2, below_4}
use Rattle.xl_publish.specs.declared.publishers.Took.{Took}
use Rattle.xl_publish.specs.declared.refusal.RollRefusal.{RollRefusal}
use Rattle.xl_publish.specs.declared.refusal.RollRefusal.TheVariants.{Magic, Version, Count, Short, Long, BadTag, Member, Dates}
use Rattle.xl_publish.specs.declared.roll.Roll.{Roll}
use Rattle.xl_publish.specs.Rolls.{member_bytes, said_bytes, length_of, RisesFrom, IsRoll}
use Rattle.xl_publish.specs.Fields.{publisher_in, seq_in, from_in, until_in, count_in, numbers_in, members_in, said_in, tag_in, roll_in, IsShaped}
use Rattle.xl_publish.specs.Refusing.{differs, is_count, wanted, shape_refusal, of_publisher, tag_refusal, may_follow, first_wrong, said_refusal, refusal_of, IsRight}
use Rattle.xl_publish.specs.declared.reading.TheConstants.{HEAD}
use Rattle.xl_publish.proofs.PutLaws.{length-said_bytes}
use Rattle.xl_publish.proofs.RegisterLaws.{Places}

-- ---- causes one by one

three_none : (a b c : Option RollRefusal) → first_of (a ∷ b ∷ c ∷ []) ≡ None → (a ≡ None) × (b ≡ None) × (c ≡ None)
three_none None None None h = (refl, refl, refl)
three_none None None (Some cause) h = absurd cc
three_none None (Some cause) c h = absurd cc
three_none (Some cause) b c h = absurd cc

none_of_three : (a b c : Option RollRefusal) → a ≡ None → b ≡ None → c ≡ None → first_of (a ∷ b ∷ c ∷ []) ≡ None
none_of_three a b c e f g = rw (e, f, g) refl

two_none : (a b : Option RollRefusal) → first_of (a ∷ b ∷ []) ≡ None → (a ≡ None) × (b ≡ None)
two_none None None h = (refl, refl)
two_none None (Some cause) h = absurd cc
two_none (Some cause) b h = absurd cc

none_of_two : (a b : Option RollRefusal) → a ≡ None → b ≡ None → first_of (a ∷ b ∷ []) ≡ None
none_of_two a b e f = rw (e, f) refl

-- no test of six holds
record Fail (a b c d e f : Bool) : Type 0 where
  first : a ≡ false
  second : b ≡ false
  version : c ≡ false
  count : d ≡ false
  short : e ≡ false
  long : f ≡ false

six_fail : (a b c d e f : Bool) (u v w x y z : RollRefusal) → first_of (refused_if a u ∷ refused_if b v ∷ refused_if c w ∷ refused_if d x ∷ refused_if e y ∷ refused_if f z ∷ []) ≡ None → Fail a b c d e f
six_fail false false false false false false u v w x y z h = record { first = refl; second = refl; version = refl; count = refl; short = refl; long = refl }
six_fail a b c d e f u v w x y z h = absurd cc

none_of_six : (a b c d e f : Bool) (u v w x y z : RollRefusal) → Fail a b c d e f → first_of (refused_if a u ∷ refused_if b v ∷ refused_if c w ∷ refused_if d x ∷ refused_if e y ∷ refused_if f z ∷ []) ≡ None
none_of_six a b c d e f u v w x y z h = rw (h.first, h.second, h.version, h.count, h.short, h.long) refl

not_refused : (t : Bool) (cause : RollRefusal) → refused_if t cause ≡ None → t ≡ false
not_refused true cause h = absurd cc
not_refused false cause h = refl

refused_not : (t : Bool) (cause : RollRefusal) → t ≡ false → refused_if t cause ≡ None
refused_not t cause e = cond-false t (Some cause) None e

-- ---- the shape

-- the mark and the version, and a shape
pub record IsHeaded (bytes : List ℕ) : Type 0 where
  pub first : slice_index bytes 0 ≡ 0x58
  pub second : slice_index bytes 1 ≡ 0x50
  pub version : slice_index bytes 2 ≡ 1
  pub shaped : IsShaped bytes

right_byte : (n place byte want : ℕ) → place < n → (nat_lt place n && not (byte == want)) ≡ false → byte ≡ want
right_byte n place byte want lt h = grind (arith, nat_tests)

byte_right : (n place byte want : ℕ) → byte ≡ want → (nat_lt place n && not (byte == want)) ≡ false
byte_right n place byte want is = grind (arith, nat_tests)

right_length : (n count w : ℕ) → (n < HEAD → w ≡ HEAD) → (HEAD ≤ n → w ≡ length_of count) → (nat_le HEAD n && not (is_count count)) ≡ false → nat_lt n w ≡ false → nat_lt w n ≡ false →
    (1 ≤ count) × (count ≤ 64) × (n ≡ length_of count)
right_length n count w low high counted short long =
    elim (cases_lt n HEAD) [
      | inl lt ↦ let same : w ≡ HEAD = low lt in absurd (let no : w ≤ n = grind (arith, nat_tests) in omega (arith, no, lt, same))
      | inr le ↦
          let same : w ≡ length_of count = high le in
          let least : 1 ≤ count = grind (arith, nat_tests) in
          let most : count ≤ 64 = grind (arith, nat_tests) in
          let no : w ≤ n = grind (arith, nat_tests) in
          let yes' : n ≤ w = grind (arith, nat_tests) in
          (least, most, omega (arith, same, no, yes'))
    ]

is_low : (n : ℕ) → n < HEAD → nat_lt n HEAD ≡ true
is_low n lt = grind (arith, nat_tests)

is_high : (n : ℕ) → HEAD ≤ n → nat_lt n HEAD ≡ false
is_high n le = grind (arith, nat_tests)

wanted_low : (bytes : List ℕ) → length bytes < HEAD → wanted bytes ≡ HEAD
wanted_low bytes lt = cond-true (nat_lt (length bytes) HEAD) HEAD (length_of (count_in bytes)) (is_low (length bytes) lt)

wanted_high : (bytes : List ℕ) → HEAD ≤ length bytes → wanted bytes ≡ length_of (count_in bytes)
wanted_high bytes le = cond-false (nat_lt (length bytes) HEAD) HEAD (length_of (count_in bytes)) (is_high (length bytes) le)

abbrev is_miscounted : List ℕ → Bool
is_miscounted bytes = nat_le HEAD (length bytes) && not (is_count (count_in bytes))

headed : (bytes : List ℕ) → shape_refusal bytes ≡ None → IsHeaded bytes
headed bytes h =
    let n = length bytes in
    let w = wanted bytes in
    let ok = six_fail (differs bytes 0 0x58) (differs bytes 1 0x50) (differs bytes 2 1) (is_miscounted bytes) (nat_lt n w) (nat_lt w n) (Magic 0) (Magic 1) (Version (slice_index bytes 2)) (Count (count_in bytes)) (Short (w - n)) (Long (n - w)) h in
    let long = right_length n (count_in bytes) w (wanted_low bytes) (wanted_high bytes) ok.count ok.short ok.long in
    record {
      first = right_byte n 0 (slice_index bytes 0) 0x58 (omega (arith, long.2)) ok.first;
      second = right_byte n 1 (slice_index bytes 1) 0x50 (omega (arith, long.2)) ok.second;
      version = right_byte n 2 (slice_index bytes 2) 1 (omega (arith, long.2)) ok.version;
      shaped = record { some = long.0; most = long.1; long = long.2 };
    }

right_count : (n count : ℕ) → 1 ≤ count → count ≤ 64 → (nat_le HEAD n && not (is_count count)) ≡ false
right_count n count least most = grind (arith, nat_tests)

not_below : (a b : ℕ) → a ≡ b → nat_lt a b ≡ false
not_below a b is = grind (arith, nat_tests)

no_shape_refusal : (bytes : List ℕ) → IsHeaded bytes → shape_refusal bytes ≡ None
no_shape_refusal bytes ok =
    let n = length bytes in
    let w = wanted bytes in
    let long : n ≡ w = ok.shaped.long ∙ sym (wanted_high bytes (omega (arith, ok.shaped.long))) in
    none_of_six (differs bytes 0 0x58) (differs bytes 1 0x50) (differs bytes 2 1) (is_miscounted bytes) (nat_lt n w) (nat_lt w n) (Magic 0) (Magic 1) (Version (slice_index bytes 2)) (Count (count_in bytes)) (Short (w - n)) (Long (n - w))
    (record {
      first = byte_right n 0 (slice_index bytes 0) 0x58 ok.first;
      second = byte_right n 1 (slice_index bytes 1) 0x50 ok.second;
      version = byte_right n 2 (slice_index bytes 2) 1 ok.version;
      count = right_count n (count_in bytes) ok.shaped.some ok.shaped.most;
      short = not_below n w long;
      long = not_below w n (sym long);
    })

-- ---- the members

rises : (place before : ℕ) (ms : List ℕ) → first_wrong place before ms ≡ None → RisesFrom before ms
rises place before [] h = tt
rises place before (m ∷ ms) h =
    elim (cases_Bool (may_follow before m)) [
      | inl follows ↦
          let later : first_wrong (place + 1) m ms ≡ None = sym (cond-true (may_follow before m) (first_wrong (place + 1) m ms) (Some place) follows) ∙ h in
          let both = may before m follows in
          (both.0, both.1, rises (place + 1) m ms later)
      | inr wrong ↦ absurd (let found : Some place ≡ None = sym (cond-false (may_follow before m) (first_wrong (place + 1) m ms) (Some place) wrong) ∙ h in cc)
    ]
  where
    may : (a b : ℕ) → may_follow a b ≡ true → (a < b) × (b ≤ 64)
    may a b e = (grind (arith, nat_tests), grind (arith, nat_tests))

none_wrong : (place before : ℕ) (ms : List ℕ) → RisesFrom before ms → first_wrong place before ms ≡ None
none_wrong place before [] h = refl
none_wrong place before (m ∷ ms) h =
    cond-true (may_follow before m) (first_wrong (place + 1) m ms) (Some place) (follows before m h.0 h.1) ∙ none_wrong (place + 1) m ms h.2
  where
    follows : (a b : ℕ) → a < b → b ≤ 64 → may_follow a b ≡ true
    follows a b lt le = grind (arith, nat_tests)

length-numbers_in : (n : ℕ) (bytes : List ℕ) → length (numbers_in n bytes) ≡ n
length-numbers_in zero bytes = refl
length-numbers_in (suc n) bytes = ap suc (length-numbers_in n (drop 4 bytes))

-- so many numbers are spelled at the front
numbers_spelled : (n : ℕ) (bytes : List ℕ) → IsBytes bytes → 4 * n ≤ length bytes → bytes ≡ member_bytes (numbers_in n bytes) ++ drop (4 * n) bytes
numbers_spelled zero bytes fits long = refl
numbers_spelled (suc n) bytes fits long =
    let rest = numbers_spelled n (drop 4 bytes) (IsBytes-drop 4 bytes fits) (omega (arith, length-drop 4 bytes)) in
    let four : 4 + 4 * n ≡ 4 * suc n = omega arith in
    number_at_4 0 bytes fits (omega arith)
    ∙ ap (λ (x : List ℕ). big_bytes 4 (big_number 4 bytes) ++ x) (rest ∙ ap (λ (x : List ℕ). member_bytes (numbers_in n (drop 4 bytes)) ++ x) (drop-drop (4 * n) 4 bytes ∙ ap (λ (k : ℕ). drop k bytes) four))

-- and read back
numbers_again : (before : ℕ) (ms rest : List ℕ) → RisesFrom before ms → numbers_in (length ms) (member_bytes ms ++ rest) ≡ ms
numbers_again before [] rest h = refl
numbers_again before (m ∷ ms) rest h =
    ap (λ (k : ℕ). k ∷ numbers_in (length ms) (member_bytes ms ++ rest)) (big_number-reads_back 4 m (member_bytes ms ++ rest) (omega (arith, h.1)))
    ∙ ap (λ (ks : List ℕ). m ∷ ks) (numbers_again m ms rest h.2)

-- ---- what isn't refused is spelled so

front : (bytes : List ℕ) → 3 ≤ length bytes → slice_index bytes 0 ≡ 0x58 → slice_index bytes 1 ≡ 0x50 → slice_index bytes 2 ≡ 1 → bytes ≡ 0x58 ∷ 0x50 ∷ 1 ∷ drop 3 bytes
front [] long a b c = absurd (omega (arith, long))
front (x ∷ []) long a b c = absurd (omega (arith, long))
front (x ∷ y ∷ []) long a b c = absurd (omega (arith, long))
front (x ∷ y ∷ z ∷ bytes) long a b c = cc

seven : (p s f u c ms rest : List ℕ) → p ++ s ++ f ++ u ++ c ++ ms ++ rest ≡ p ++ (s ++ (f ++ (u ++ (c ++ (ms ++ rest)))))
seven p s f u c ms rest = simp append_assoc

said_again : (bytes : List ℕ) → IsBytes bytes → IsHeaded bytes → bytes ≡ said_bytes (roll_in bytes) ++ drop (HEAD + 4 * count_in bytes) bytes
said_again bytes fits ok =
    let n = count_in bytes in
    let rest = drop (HEAD + 4 * n) bytes in
    let long = ok.shaped.long in
    let p = big_bytes 4 (publisher_in bytes) in
    let s = big_bytes 4 (seq_in bytes) in
    let f = big_bytes 4 (from_in bytes) in
    let u = big_bytes 4 (until_in bytes) in
    let ms = member_bytes (members_in bytes) in
    let e0 = front bytes (omega (arith, long)) ok.first ok.second ok.version in
    let e1 : drop 3 bytes ≡ p ++ drop 7 bytes = number_at_4 3 bytes fits (omega (arith, long)) in
    let e2 : drop 7 bytes ≡ s ++ drop 11 bytes = number_at_4 7 bytes fits (omega (arith, long)) in
    let e3 : drop 11 bytes ≡ f ++ drop 15 bytes = number_at_4 11 bytes fits (omega (arith, long)) in
    let e4 : drop 15 bytes ≡ u ++ drop 19 bytes = number_at_4 15 bytes fits (omega (arith, long)) in
    let e5 : drop 19 bytes ≡ big_bytes 2 n ++ drop HEAD bytes = number_at_2 19 bytes fits (omega (arith, long)) in
    let e6 : drop HEAD bytes ≡ ms ++ rest = numbers_spelled n (drop HEAD bytes) (IsBytes-drop HEAD bytes fits) (omega (arith, length-drop HEAD bytes, long))
    ∙ ap (λ (x : List ℕ). ms ++ x) (drop-drop (4 * n) HEAD bytes) in
    let count : big_bytes 2 n ≡ big_bytes 2 (length (members_in bytes)) = ap (big_bytes 2) (sym (length-numbers_in n (drop HEAD bytes))) in
    joined p s f u (big_bytes 2 (length (members_in bytes))) ms rest bytes (drop 3 bytes) (drop 7 bytes) (drop 11 bytes) (drop 15 bytes) (drop 19 bytes) (drop HEAD bytes)
    e0 e1 e2 e3 e4 (e5 ∙ ap (λ (x : List ℕ). x ++ drop HEAD bytes) count) e6
  where
    joined : (p s f u c ms rest b0 b1 b2 b3 b4 b5 b6 : List ℕ) → b0 ≡ 0x58 ∷ 0x50 ∷ 1 ∷ b1 → b1 ≡ p ++ b2 → b2 ≡ s ++ b3 → b3 ≡ f ++ b4 → b4 ≡ u ++ b5 → b5 ≡ c ++ b6 → b6 ≡ ms ++ rest
        → b0 ≡ ((0x58 ∷ 0x50 ∷ 1 ∷ []) ++ p ++ s ++ f ++ u ++ c ++ ms) ++ rest
    joined p s f u c ms rest b0 b1 b2 b3 b4 b5 b6 e0 e1 e2 e3 e4 e5 e6 =
        let whole : b0 ≡ 0x58 ∷ 0x50 ∷ 1 ∷ (p ++ (s ++ (f ++ (u ++ (c ++ (ms ++ rest)))))) = rw (e0, e1, e2, e3, e4, e5, e6) refl in
        whole ∙ ap (λ (x : List ℕ). 0x58 ∷ 0x50 ∷ 1 ∷ x) (sym (seven p s f u c ms rest))

-- a tag that isn't refused is the key's
right_tag : (key : Option (List ℕ)) (bytes : List ℕ) → tag_refusal key bytes ≡ None → (k : List ℕ) × (key ≡ Some k) × (tag_in bytes ≡ mac k (said_in bytes))
right_tag None bytes h = absurd cc
right_tag (Some k) bytes h = (
  k,
  refl,
  (bytes_eq-Decides (tag_in bytes) (mac k (said_in bytes))).0 (unnot (bytes_eq (tag_in bytes) (mac k (said_in bytes)))
      (not_refused (not (bytes_eq (tag_in bytes) (mac k (said_in bytes)))) (BadTag (tag_in bytes) (mac k (said_in bytes))) h)),
)
  where
    unnot : (t : Bool) → not t ≡ false → t ≡ true
    unnot true e = refl
    unnot false e = absurd cc

dates_right : (a b : ℕ) → not (nat_lt a b) ≡ false → a < b
dates_right a b e = grind (arith, nat_tests)

members_right : (found : Option ℕ) → option_map Member found ≡ None → found ≡ None
members_right None h = refl
members_right (Some place) h = absurd cc

pub right_spelled : (keys : Places) (bytes : List ℕ) → IsBytes bytes → refusal_of keys bytes ≡ None → IsRight keys (roll_in bytes) bytes
right_spelled keys bytes fits h =
    let all = three_none (shape_refusal bytes) (tag_refusal (of_publisher keys (publisher_in bytes)) bytes) (said_refusal bytes) h in
    let dates : Bool = not (nat_lt (from_in bytes) (until_in bytes)) in
    let said_right = two_none (option_map Member (first_wrong 0 0 (members_in bytes))) (refused_if dates (Dates (from_in bytes) (until_in bytes))) all.2 in
    let ok = headed bytes all.0 in
    let n = count_in bytes in
    let tag = right_tag (of_publisher keys (publisher_in bytes)) bytes all.1 in
    let again = said_again bytes fits ok in
    let count : length (members_in bytes) ≡ n = length-numbers_in n (drop HEAD bytes) in
    let long : length (said_bytes (roll_in bytes)) ≡ HEAD + 4 * n = length-said_bytes (roll_in bytes) ∙ ap (λ (k : ℕ). HEAD + 4 * k) count in
    let said : said_in bytes ≡ said_bytes (roll_in bytes) = ap (take (HEAD + 4 * n)) again ∙ take_at (said_bytes (roll_in bytes)) (drop (HEAD + 4 * n) bytes) (HEAD + 4 * n) long in
    let last : tag_in bytes ≡ drop (HEAD + 4 * n) bytes = take_all 32 (drop (HEAD + 4 * n) bytes) (omega (arith, length-drop (HEAD + 4 * n) bytes, ok.shaped.long)) in
    record {
      key = tag.0;
      keyed = tag.1;
      fits = record {
        publisher = below_4 (drop 3 bytes) (IsBytes-drop 3 bytes fits);
        seq = below_4 (drop 7 bytes) (IsBytes-drop 7 bytes fits);
        until = below_4 (drop 15 bytes) (IsBytes-drop 15 bytes fits);
        dates = dates_right (from_in bytes) (until_in bytes) (not_refused dates (Dates (from_in bytes) (until_in bytes)) said_right.1);
        some = omega (arith, count, ok.shaped.some);
        most = omega (arith, count, ok.shaped.most);
        members = rises 0 0 (members_in bytes) (members_right (first_wrong 0 0 (members_in bytes)) said_right.0);
      };
      spelling = again ∙ ap (λ (x : List ℕ). said_bytes (roll_in bytes) ++ x) (sym last ∙ tag.2 ∙ ap (mac tag.0) said);
    }

-- ---- what is spelled so isn't refused, and says the same

-- the fields in order, however they are grouped
grouped : (r : Roll) (tag : List ℕ) → said_bytes r ++ tag ≡ 0x58 ∷ 0x50 ∷ 1 ∷ (big_bytes 4 r.publisher ++ (big_bytes 4 r.seq ++ (big_bytes 4 r.from ++ (big_bytes 4 r.until ++ (big_bytes 2 (length r.members) ++ (member_bytes r.members ++ tag))))))
grouped r tag = refl

abbrev roll_with : ℕ → ℕ → ℕ → ℕ → List ℕ → Roll
roll_with publisher seq from until members = record { publisher = publisher; seq = seq; from = from; until = until; members = members }

-- the fields of what is spelled
pub record Says (r : Roll) (bytes : List ℕ) : Type 0 where
  pub publisher : publisher_in bytes ≡ r.publisher
  pub seq : seq_in bytes ≡ r.seq
  pub from : from_in bytes ≡ r.from
  pub until : until_in bytes ≡ r.until
  pub count : count_in bytes ≡ length r.members
  pub members : members_in bytes ≡ r.members

says : (r : Roll) (tag : List ℕ) → IsRoll r → Says r (said_bytes r ++ tag)
says r tag ok =
    let members = member_bytes r.members ++ tag in
    let counted = big_bytes 2 (length r.members) ++ members in
    let lasts = big_bytes 4 r.until ++ counted in
    let dated = big_bytes 4 r.from ++ lasts in
    let sequenced = big_bytes 4 r.seq ++ dated in
    let count : count_in (said_bytes r ++ tag) ≡ length r.members = big_number-reads_back 2 (length r.members) members (omega (arith, ok.most)) in
    record {
      publisher = big_number-reads_back 4 r.publisher sequenced ok.publisher;
      seq = big_number-reads_back 4 r.seq dated ok.seq;
      from = big_number-reads_back 4 r.from lasts (omega (arith, ok.dates, ok.until));
      until = big_number-reads_back 4 r.until counted ok.until;
      count = count;
      members = ap (λ (k : ℕ). numbers_in k members) count ∙ numbers_again 0 r.members tag ok.members;
    }

same_roll : (r : Roll) (bytes : List ℕ) → Says r bytes → roll_in bytes ≡ r
same_roll r bytes s =
    let same : roll_with (publisher_in bytes) (seq_in bytes) (from_in bytes) (until_in bytes) (members_in bytes) ≡ r = rw (s.publisher, s.seq, s.from, s.until, s.members) refl in
    same

in_order : (a b : ℕ) → a < b → not (nat_lt a b) ≡ false
in_order a b lt = grind (arith, nat_tests)

-- the tag that is spelled is the one that is computed
no_tag_refusal : (key bytes : List ℕ) → tag_in bytes ≡ mac key (said_in bytes) → tag_refusal (Some key) bytes ≡ None
no_tag_refusal key bytes is =
    refused_not (not (bytes_eq (tag_in bytes) (mac key (said_in bytes)))) (BadTag (tag_in bytes) (mac key (said_in bytes)))
    (ap not ((bytes_eq-Decides (tag_in bytes) (mac key (said_in bytes))).1 is))

pub spelled_right : (keys : Places) (r : Roll) (bytes : List ℕ) → IsRight keys r bytes → (refusal_of keys bytes ≡ None) × (roll_in bytes ≡ r)
spelled_right keys r bytes right =
    let key = right.key in
    let said = said_bytes r in
    let tag = mac key said in
    let ok = right.fits in
    let s : Says r bytes = subst (Says r) (sym right.spelling) (says r tag ok) in
    let n = count_in bytes in
    let count : HEAD + 4 * n ≡ length said = ap (λ (k : ℕ). HEAD + 4 * k) s.count ∙ sym (length-said_bytes r) in
    let long : length bytes ≡ length_of n = omega (arith, ap length right.spelling, length-append said tag, length-mac key said, count) in
    let first : said_in bytes ≡ said = ap (λ (k : ℕ). take k bytes) count ∙ ap (take (length said)) right.spelling ∙ take_at said tag (length said) refl in
    let rest : drop (HEAD + 4 * n) bytes ≡ tag = ap (λ (k : ℕ). drop k bytes) count ∙ ap (drop (length said)) right.spelling ∙ drop_at said tag (length said) refl in
    let last : tag_in bytes ≡ tag = ap (take 32) rest ∙ take_all 32 tag (omega (arith, length-mac key said)) in
    let headed : IsHeaded bytes = record {
      first = ap (λ (x : List ℕ). slice_index x 0) right.spelling;
      second = ap (λ (x : List ℕ). slice_index x 1) right.spelling;
      version = ap (λ (x : List ℕ). slice_index x 2) right.spelling;
      shaped = record { some = omega (arith, s.count, ok.some); most = omega (arith, s.count, ok.most); long = long };
    } in
    let keyed : of_publisher keys (publisher_in bytes) ≡ Some key = ap (of_publisher keys) s.publisher ∙ right.keyed in
    let members : first_wrong 0 0 (members_in bytes) ≡ None = ap (first_wrong 0 0) s.members ∙ none_wrong 0 0 r.members ok.members in
    let dates : not (nat_lt (from_in bytes) (until_in bytes)) ≡ false = in_order (from_in bytes) (until_in bytes) (omega (arith, s.from, s.until, ok.dates)) in (
      none_of_three (shape_refusal bytes) (tag_refusal (of_publisher keys (publisher_in bytes)) bytes) (said_refusal bytes)
          (no_shape_refusal bytes headed)
          (ap (λ (k : Option (List ℕ)). tag_refusal k bytes) keyed ∙ no_tag_refusal key bytes (last ∙ ap (mac key) (sym first)))
          (none_of_two (option_map Member (first_wrong 0 0 (members_in bytes))) (refused_if (not (nat_lt (from_in bytes) (until_in bytes))) (Dates (from_in bytes) (until_in bytes)))
          (ap (option_map Member) members) (refused_not (not (nat_lt (from_in bytes) (until_in bytes))) (Dates (from_in bytes) (until_in bytes)) dates)),
      same_roll r bytes s,
    )

-- so taken bytes spell a roll, and what spells one is taken
pub taken_is_right : (keys : Places) (bytes : List ℕ) (ok : Bool) → IsBytes bytes → ok ≡ is_none (refusal_of keys bytes) → (r : Roll) →
    (ok ≡ true × (roll_in bytes ≡ r)) ↔ IsRight keys r bytes
taken_is_right keys bytes ok fits is r = (
  λ h. subst (λ (x : Roll). IsRight keys x bytes) h.1 (right_spelled keys bytes fits (none_is (refusal_of keys bytes) (sym is ∙ h.0))),
  λ right. let both = spelled_right keys r bytes right in (is ∙ ap is_none both.0, both.1),
)
  where
    none_is : (o : Option RollRefusal) → is_none o ≡ true → o ≡ None
    none_is None e = refl
    none_is (Some cause) e = absurd cc

-- an answer is one exactly where nothing is refused
pub ok_unless : (o : Option RollRefusal) (took : Took) → is_ok (unless_refused o took) ≡ is_none o
ok_unless None took = refl
ok_unless (Some cause) took = refl
