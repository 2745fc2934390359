-- Splitting one frame off bytes that go on: a refusal stays one, and a feed that needs more has room for it.
use Rattle.std.proofs.Common.{◌≡◌, ℕ, zero, suc, ◌<◌, ◌≤◌, ◌==◌, ◌&&◌, not, nat_lt, Bool, true, false, List, [], ◌∷◌}
use Rattle.std.proofs.Common.{◌++◌, length, slice_index, Option, Some, None, refl, sym, ap, ◌∙◌, arith}
use Rattle.std.proofs.lemmas.Bool.Decides.{nat_tests}
use Rattle.std.proofs.lemmas.List.{length-append}
use Rattle.xl_base.specs.Refusals.{refused_if, first_of}
use Rattle.xl_wire.specs.Lengths.{longest_frame, longest_body}
use Rattle.xl_wire.specs.declared.refusal.WireRefusal.{WireRefusal}
use Rattle.xl_wire.specs.declared.refusal.WireRefusal.TheVariants.{Magic, Version, Kind, Length}
use Rattle.xl_wire.specs.Kinds.{is_version, is_kind, can_have, can_have_first}
use Rattle.xl_wire.specs.Raws.{RawFrame}
use Rattle.xl_wire.specs.Heads.{differs, version_in, kind_in, length_in, head_refusal, lacking, raw_in, split_unless, split_of}
use Rattle.xl_wire.specs.Heads.{Split}
use Rattle.xl_wire.proofs.RawLaws.{by_version}
use Rattle.xl_peers.specs.Sessions.{NeedsMore}

there : (i n : ℕ) → i < n → nat_lt i n ≡ true
there i n h = grind (arith, nat_tests)

is_there : (i n : ℕ) → nat_lt i n ≡ true → i < n
is_there i n e = grind (arith, nat_tests)

beyond : (i j n : ℕ) → i ≤ j → nat_lt i n ≡ false → nat_lt j n ≡ false
beyond i j n h e = grind (arith, nat_tests)

same_at : (xs ys : List ℕ) (i : ℕ) → i < length xs → slice_index (xs ++ ys) i ≡ slice_index xs i
same_at [] ys i h = absurd (omega (arith, h))
same_at (x ∷ xs) ys zero h = refl
same_at (x ∷ xs) ys (suc i) h = same_at xs ys i (omega (arith, h))

-- the causes of a refusal, in their order
abbrev magic : List ℕ → ℕ → ℕ → Option WireRefusal
magic bytes place wanted = refused_if (differs bytes place wanted) (Magic place)

abbrev version : List ℕ → Option WireRefusal
version bytes =
    refused_if (nat_lt 2 (length bytes) && not (is_version (version_in bytes))) (Version (version_in bytes))

abbrev kind : List ℕ → Option WireRefusal
kind bytes =
    refused_if (nat_lt 3 (length bytes) && not (is_kind (version_in bytes) (kind_in bytes))) (Kind (kind_in bytes))

abbrev long : List ℕ → Option WireRefusal
long bytes =
    refused_if (nat_lt 5 (length bytes) && not (can_have (version_in bytes) (kind_in bytes) (length_in bytes)))
    (Length (kind_in bytes) (length_in bytes))

none_there : (b c : Bool) (r : WireRefusal) → b ≡ false → refused_if (b && c) r ≡ None
none_there b c r e = rw e refl

guarded : (a b c d : Bool) (r s : WireRefusal) → a ≡ true → b ≡ true → c ≡ d → r ≡ s
    → refused_if (a && c) r ≡ refused_if (b && d) s
guarded a b c d r s p q e f = rw (p, q, e, f) refl

module _ (xs ys : List ℕ) where
  more : (i : ℕ) → i < length xs → nat_lt i (length (xs ++ ys)) ≡ true
  more i h = there i (length (xs ++ ys)) (omega (arith, h, length-append xs ys))

  same_magic : (i wanted : ℕ) → i < length xs → magic xs i wanted ≡ magic (xs ++ ys) i wanted
  same_magic i wanted h =
      guarded (nat_lt i (length xs)) (nat_lt i (length (xs ++ ys))) (not (slice_index xs i == wanted))
      (not (slice_index (xs ++ ys) i == wanted))
      (Magic i) (Magic i) (there i (length xs) h) (more i h) (ap (λ b. not (b == wanted)) (sym (same_at xs ys i h)))
      refl

  same_version : 2 < length xs → version xs ≡ version (xs ++ ys)
  same_version h =
      guarded (nat_lt 2 (length xs)) (nat_lt 2 (length (xs ++ ys))) (not (is_version (version_in xs)))
      (not (is_version (version_in (xs ++ ys))))
      (Version (version_in xs)) (Version (version_in (xs ++ ys))) (there 2 (length xs) h) (more 2 h)
      (ap (λ b. not (is_version b)) (sym (same_at xs ys 2 h))) (ap Version (sym (same_at xs ys 2 h)))

  same_kind : 3 < length xs → kind xs ≡ kind (xs ++ ys)
  same_kind h =
      let v = sym (same_at xs ys 2 (omega (arith, h))) in
      let k = sym (same_at xs ys 3 h) in
      guarded (nat_lt 3 (length xs)) (nat_lt 3 (length (xs ++ ys))) (not (is_kind (version_in xs) (kind_in xs)))
      (not (is_kind (version_in (xs ++ ys)) (kind_in (xs ++ ys))))
      (Kind (kind_in xs)) (Kind (kind_in (xs ++ ys))) (there 3 (length xs) h) (more 3 h)
      (λ i. not (is_kind (v i) (k i))) (ap Kind k)

same_length : (xs ys : List ℕ) → 5 < length xs → length_in xs ≡ length_in (xs ++ ys)
same_length (a ∷ b ∷ c ∷ d ∷ e ∷ f ∷ xs) ys h = refl
same_length other ys h = absurd (omega arith)

same_long : (xs ys : List ℕ) → 5 < length xs → long xs ≡ long (xs ++ ys)
same_long xs ys h =
    let v = sym (same_at xs ys 2 (omega (arith, h))) in
    let k = sym (same_at xs ys 3 (omega (arith, h))) in
    let n = same_length xs ys h in
    guarded (nat_lt 5 (length xs)) (nat_lt 5 (length (xs ++ ys))) (not (can_have (version_in xs) (kind_in xs) (length_in xs)))
    (not (can_have (version_in (xs ++ ys)) (kind_in (xs ++ ys)) (length_in (xs ++ ys))))
    (Length (kind_in xs) (length_in xs)) (Length (kind_in (xs ++ ys)) (length_in (xs ++ ys))) (there 5 (length xs) h)
    (more xs ys 5 h)
    (λ i. not (can_have (v i) (k i) (n i))) (λ i. Length (k i) (n i))

none_some : (r : WireRefusal) → None ≡ Some r → ⊥
none_some r h = cc

-- the first cause stays the first if only what stands behind it changes
first_stays : (cs ds es : List (Option WireRefusal)) (r : WireRefusal) → first_of ds ≡ None
    → first_of (cs ++ ds) ≡ Some r
    → first_of (cs ++ es) ≡ Some r
first_stays [] ds es r none e = absurd (none_some r (sym none ∙ e))
first_stays (None ∷ cs) ds es r none e = first_stays cs ds es r none e
first_stays (Some s ∷ cs) ds es r none e = e

-- bytes that are refused are refused for the same cause, whatever follows them
module _ (xs ys : List ℕ) (r : WireRefusal) (e : head_refusal xs ≡ Some r) where
  from_nothing : nat_lt 0 (length xs) ≡ false → head_refusal (xs ++ ys) ≡ Some r
  from_nothing f =
      let a = none_there (nat_lt 0 (length xs)) (not (slice_index xs 0 == 0x58)) (Magic 0) f in
      let b = none_there (nat_lt 1 (length xs)) (not (slice_index xs 1 == 0x4C)) (Magic 1)
      (beyond 0 1 (length xs) (omega arith) f) in
      let c = none_there (nat_lt 2 (length xs)) (not (is_version (version_in xs))) (Version (version_in xs))
      (beyond 0 2 (length xs) (omega arith) f) in
      let d = none_there (nat_lt 3 (length xs)) (not (is_kind (version_in xs) (kind_in xs))) (Kind (kind_in xs))
      (beyond 0 3 (length xs) (omega arith) f) in
      let l = none_there (nat_lt 5 (length xs)) (not (can_have (version_in xs) (kind_in xs) (length_in xs)))
      (Length (kind_in xs) (length_in xs)) (beyond 0 5 (length xs) (omega arith) f) in
      absurd (none_some r (sym (λ i. first_of (a i ∷ b i ∷ c i ∷ d i ∷ l i ∷ [])) ∙ e))

  from_one : 0 < length xs → nat_lt 1 (length xs) ≡ false → head_refusal (xs ++ ys) ≡ Some r
  from_one h f =
      let p = same_magic xs ys 0 0x58 h in
      let b = none_there (nat_lt 1 (length xs)) (not (slice_index xs 1 == 0x4C)) (Magic 1) f in
      let c = none_there (nat_lt 2 (length xs)) (not (is_version (version_in xs))) (Version (version_in xs))
      (beyond 1 2 (length xs) (omega arith) f) in
      let d = none_there (nat_lt 3 (length xs)) (not (is_kind (version_in xs) (kind_in xs))) (Kind (kind_in xs))
      (beyond 1 3 (length xs) (omega arith) f) in
      let l = none_there (nat_lt 5 (length xs)) (not (can_have (version_in xs) (kind_in xs) (length_in xs)))
      (Length (kind_in xs) (length_in xs)) (beyond 1 5 (length xs) (omega arith) f) in
      let none : first_of (magic xs 1 0x4C ∷ version xs ∷ kind xs ∷ long xs ∷ []) ≡ None =
      (λ i. first_of (b i ∷ c i ∷ d i ∷ l i ∷ [])) in
      let tail = magic (xs ++ ys) 1 0x4C ∷ version (xs ++ ys) ∷ kind (xs ++ ys) ∷ long (xs ++ ys) ∷ [] in
      sym (λ i. first_of (p i ∷ tail))
      ∙ first_stays (magic xs 0 0x58 ∷ []) (magic xs 1 0x4C ∷ version xs ∷ kind xs ∷ long xs ∷ []) tail r none e

  from_two : 1 < length xs → nat_lt 2 (length xs) ≡ false → head_refusal (xs ++ ys) ≡ Some r
  from_two h f =
      let p = same_magic xs ys 0 0x58 (omega (arith, h)) in
      let q = same_magic xs ys 1 0x4C h in
      let c = none_there (nat_lt 2 (length xs)) (not (is_version (version_in xs))) (Version (version_in xs)) f in
      let d = none_there (nat_lt 3 (length xs)) (not (is_kind (version_in xs) (kind_in xs))) (Kind (kind_in xs))
      (beyond 2 3 (length xs) (omega arith) f) in
      let l = none_there (nat_lt 5 (length xs)) (not (can_have (version_in xs) (kind_in xs) (length_in xs)))
      (Length (kind_in xs) (length_in xs)) (beyond 2 5 (length xs) (omega arith) f) in
      let none : first_of (version xs ∷ kind xs ∷ long xs ∷ []) ≡ None = (λ i. first_of (c i ∷ d i ∷ l i ∷ [])) in
      let tail = version (xs ++ ys) ∷ kind (xs ++ ys) ∷ long (xs ++ ys) ∷ [] in
      sym (λ i. first_of (p i ∷ q i ∷ tail))
      ∙ first_stays (magic xs 0 0x58 ∷ magic xs 1 0x4C ∷ []) (version xs ∷ kind xs ∷ long xs ∷ []) tail r none e

  from_three : 2 < length xs → nat_lt 3 (length xs) ≡ false → head_refusal (xs ++ ys) ≡ Some r
  from_three h f =
      let p = same_magic xs ys 0 0x58 (omega (arith, h)) in
      let q = same_magic xs ys 1 0x4C (omega (arith, h)) in
      let v = same_version xs ys h in
      let d = none_there (nat_lt 3 (length xs)) (not (is_kind (version_in xs) (kind_in xs))) (Kind (kind_in xs)) f in
      let l = none_there (nat_lt 5 (length xs)) (not (can_have (version_in xs) (kind_in xs) (length_in xs)))
      (Length (kind_in xs) (length_in xs)) (beyond 3 5 (length xs) (omega arith) f) in
      let none : first_of (kind xs ∷ long xs ∷ []) ≡ None = (λ i. first_of (d i ∷ l i ∷ [])) in
      let tail = kind (xs ++ ys) ∷ long (xs ++ ys) ∷ [] in
      sym (λ i. first_of (p i ∷ q i ∷ v i ∷ tail))
      ∙ first_stays (magic xs 0 0x58 ∷ magic xs 1 0x4C ∷ version xs ∷ []) (kind xs ∷ long xs ∷ []) tail r none e

  from_four : 3 < length xs → nat_lt 5 (length xs) ≡ false → head_refusal (xs ++ ys) ≡ Some r
  from_four h f =
      let p = same_magic xs ys 0 0x58 (omega (arith, h)) in
      let q = same_magic xs ys 1 0x4C (omega (arith, h)) in
      let v = same_version xs ys (omega (arith, h)) in
      let k = same_kind xs ys h in
      let l = none_there (nat_lt 5 (length xs)) (not (can_have (version_in xs) (kind_in xs) (length_in xs)))
      (Length (kind_in xs) (length_in xs)) f in
      let none : first_of (long xs ∷ []) ≡ None = (λ i. first_of (l i ∷ [])) in
      let tail = long (xs ++ ys) ∷ [] in
      sym (λ i. first_of (p i ∷ q i ∷ v i ∷ k i ∷ tail))
      ∙ first_stays (magic xs 0 0x58 ∷ magic xs 1 0x4C ∷ version xs ∷ kind xs ∷ []) (long xs ∷ []) tail r none e

  from_all : 5 < length xs → head_refusal (xs ++ ys) ≡ Some r
  from_all h =
      let p = same_magic xs ys 0 0x58 (omega (arith, h)) in
      let q = same_magic xs ys 1 0x4C (omega (arith, h)) in
      let v = same_version xs ys (omega (arith, h)) in
      let k = same_kind xs ys (omega (arith, h)) in
      let l = same_long xs ys h in
      sym (λ i. first_of (p i ∷ q i ∷ v i ∷ k i ∷ l i ∷ [])) ∙ e

  past_three : (b : Bool) → nat_lt 5 (length xs) ≡ b → 3 < length xs → head_refusal (xs ++ ys) ≡ Some r
  past_three true is h = from_all (is_there 5 (length xs) is)
  past_three false is h = from_four h is

  past_two : (b : Bool) → nat_lt 3 (length xs) ≡ b → 2 < length xs → head_refusal (xs ++ ys) ≡ Some r
  past_two true is h = past_three (nat_lt 5 (length xs)) refl (is_there 3 (length xs) is)
  past_two false is h = from_three h is

  past_one : (b : Bool) → nat_lt 2 (length xs) ≡ b → 1 < length xs → head_refusal (xs ++ ys) ≡ Some r
  past_one true is h = past_two (nat_lt 3 (length xs)) refl (is_there 2 (length xs) is)
  past_one false is h = from_two h is

  past_none : (b : Bool) → nat_lt 1 (length xs) ≡ b → 0 < length xs → head_refusal (xs ++ ys) ≡ Some r
  past_none true is h = past_one (nat_lt 2 (length xs)) refl (is_there 1 (length xs) is)
  past_none false is h = from_one h is

  head_longer : (b : Bool) → nat_lt 0 (length xs) ≡ b → head_refusal (xs ++ ys) ≡ Some r
  head_longer true is = past_none (nat_lt 1 (length xs)) refl (is_there 0 (length xs) is)
  head_longer false is = from_nothing is

refusal_in : (refusal : Option WireRefusal) (lack : ℕ) (raw : RawFrame) (r : WireRefusal)
    → split_unless refusal lack raw ≡ Split.Refused r
    → refusal ≡ Some r
refusal_in (Some s) lack raw r e = cc
refusal_in None (suc lack) raw r e = absurd cc
refusal_in None zero raw r e = absurd cc

pub refused_longer : (xs ys : List ℕ) (r : WireRefusal) → split_of xs ≡ Split.Refused r
    → split_of (xs ++ ys) ≡ Split.Refused r
refused_longer xs ys r e =
    let head = refusal_in (head_refusal xs) (lacking xs) (raw_in xs) r e in
    ap (λ (refusal : Option WireRefusal). split_unless refusal (lacking (xs ++ ys)) (raw_in (xs ++ ys)))
    (head_longer xs ys r head (nat_lt 0 (length xs)) refl)

-- what needs more is shorter than the longest frame
need_in : (refusal : Option WireRefusal) (lack : ℕ) (raw : RawFrame) (n : ℕ)
    → split_unless refusal lack raw ≡ Split.Need n
    → (refusal ≡ None) × (0 < lack)
need_in (Some s) lack raw n e = absurd cc
need_in None (suc lack) raw n e = (refl, omega arith)
need_in None zero raw n e = absurd cc

last_none : (a b c d l : Option WireRefusal) → first_of (a ∷ b ∷ c ∷ d ∷ l ∷ []) ≡ None → l ≡ None
last_none None None None None None e = refl
last_none a b c d l e = absurd cc

lawful : (b c : Bool) (r : WireRefusal) → b ≡ true → refused_if (b && not c) r ≡ None → c ≡ true
lawful b true r h e = refl
lawful true false r h e = absurd cc
lawful false false r h e = absurd cc

at_most : (version kind n : ℕ) → can_have version kind n ≡ true → n ≤ longest_body
at_most = by_version (λ version kind n. n ≤ longest_body) first (omega arith)
  where
    first : (kind n : ℕ) → can_have_first kind n ≡ true → n ≤ longest_body
    first kind n h = grind (arith, nat_tests)

room_by : (bytes : List ℕ) (b : Bool) → nat_lt 5 (length bytes) ≡ b → head_refusal bytes ≡ None → 0 < lacking bytes
    → length bytes < longest_frame
room_by bytes false is head lacks = grind (arith, nat_tests)
room_by bytes true is head lacks =
    let ok = lawful (nat_lt 5 (length bytes)) (can_have (version_in bytes) (kind_in bytes) (length_in bytes))
    (Length (kind_in bytes) (length_in bytes)) is
    (last_none (magic bytes 0 0x58) (magic bytes 1 0x4C) (version bytes) (kind bytes) (long bytes) head) in
    let most = at_most (version_in bytes) (kind_in bytes) (length_in bytes) ok in
    grind (arith, nat_tests)

pub needs_room : (bytes : List ℕ) → NeedsMore bytes → length bytes < longest_frame
needs_room bytes needs =
    let need = need_in (head_refusal bytes) (lacking bytes) (raw_in bytes) needs.0 needs.1 in
    room_by bytes (nat_lt 5 (length bytes)) refl need.0 need.1
