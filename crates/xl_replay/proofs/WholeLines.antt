-- Each line of a report is a whole line, and only one of them says `forged`. So a front in which that line stands has all before it.
use Rattle.std.proofs.Common.{◌≡◌, ◌≢◌, ◌+◌, ◌%◌, ◌/◌, ◌==◌, eqb, nat_le, ◌&&◌, ◌||◌, ℕ, zero, suc, Bool, true, false, List, [], ◌∷◌, ◌++◌, length, Option, Some, None, refl, sym, ap, subst, ◌∙◌, arith, append_assoc, inl, inr, ◌⊎◌}
use Rattle.std.specs.Prelude.{nat_lt, map, take, drop, decimal, slice_index, Contains}
use Rattle.std.specs.Fmt.{digits, digits_onto, digit_glyph}
use Rattle.std.specs.List.{flat_map}
use Rattle.std.proofs.lemmas.Bool.{cond_both, false≢true}
use Rattle.std.proofs.lemmas.Bool.Decides.{nat_tests}
use Rattle.std.proofs.lemmas.List.{append-nil}
use Rattle.std.proofs.lemmas.List.Elements.{Contains-append_cases}
use Rattle.hex.specs.Hex.{encode_with, encode_lower, lower_digits}
use Rattle.xl_base.specs.declared.ids.LedgerId.{LedgerId}
use Rattle.xl_sched.specs.Names.{name_of}
use Rattle.xl_sched.specs.Tokens.{shown_byte, shown_token}
use Rattle.xl_sched.specs.declared.named.Named.{Named}
use Rattle.xl_lines.specs.Lines.{Line, lines_of}
use Rattle.xl_lines.proofs.Newlines.{IsOneLine}
use Rattle.xl_lines.proofs.Parts.{one_line-append}
use Rattle.xl_lines.proofs.Cutting.{lines_of-ended, lines_of-last}
use Rattle.xl_core.specs.declared.refusal.Refusal.{Refusal}
use Rattle.xl_core.specs.declared.refusal.Refusal.TheVariants.{Frame, Short, Extra, Tag, Header, Stale, Repeat, Conflict, OldSeq, Pending, PoolFull, WrongPrev, OldPosition, Left, StaleProposal, NotAfter, IssuingOff, KeepFault, NoKey}
use Rattle.xl_core.specs.declared.report.Report.{Report}
use Rattle.xl_ledger.specs.declared.refusal.AddRefusal.{AddRefusal}
use Rattle.xl_ledger.specs.declared.refusal.AddRefusal.TheVariants as header
use Rattle.xl_tags.specs.declared.refusal.TagRefusal.{TagRefusal}
use Rattle.xl_tags.specs.declared.refusal.TagRefusal.TheVariants.{NotForMe, Stranger, BadTag}
use Rattle.xl_wire.specs.declared.refusal.WireRefusal.{WireRefusal}
use Rattle.xl_wire.specs.declared.refusal.WireRefusal.TheVariants as wire
use Rattle.xl_running.specs.Texts.{id_text, named_text, newline, space}
use Rattle.xl_replay.specs.Texts.{frame_values, tag_values, header_values, values_text, preferred_text, heard_text}
use Rattle.xl_replay.specs.Headlines.{HasLine}

-- TEXT WITH NO NEWLINE

or_false : (a b : Bool) → (a || b) ≡ false → (a ≡ false) × (b ≡ false)
or_false true b h = absurd (false≢true (sym h))
or_false false b h = (refl, h)

glyph_apart : (d : ℕ) → eqb (digit_glyph false d) 10 ≡ false
glyph_apart d = cond_both (nat_lt d 10) (48 + d) (87 + d) (λ b. eqb b 10 ≡ false) (λ _. grind (arith, nat_tests)) (λ _. grind (arith, nat_tests))

digits_one_line : (k n : ℕ) (acc : List ℕ) → IsOneLine acc → IsOneLine (digits_onto k 10 false n acc)
digits_one_line zero n acc one = one
digits_one_line (suc k) n acc one =
    let with_digit : IsOneLine (digit_glyph false (n % 10) ∷ acc) = rw (glyph_apart (n % 10)) one in
    cond_both (n / 10 == 0) (digit_glyph false (n % 10) ∷ acc) (digits_onto k 10 false (n / 10) (digit_glyph false (n % 10) ∷ acc)) IsOneLine
    (λ _. with_digit) (λ _. digits_one_line k (n / 10) (digit_glyph false (n % 10) ∷ acc) with_digit)

pub decimal_one_line : (n : ℕ) → IsOneLine (decimal n)
unfolding digits
decimal_one_line n = digits_one_line 64 n [] refl

at_one_line : (t : List ℕ) (k : ℕ) → IsOneLine t → eqb (slice_index t k) 10 ≡ false
at_one_line [] k one = refl
at_one_line (b ∷ t) zero one = (or_false _ _ one).0
at_one_line (b ∷ t) (suc k) one = at_one_line t k (or_false _ _ one).1

pub encoded_one_line : (t bytes : List ℕ) → IsOneLine t → IsOneLine (encode_with t bytes)
unfolding encode_with
encoded_one_line t [] one = refl
encoded_one_line t (b ∷ bytes) one = rw (at_one_line t (b / 16) one, at_one_line t (b % 16) one) (encoded_one_line t bytes one)

shown_apart : (b : ℕ) → eqb (shown_byte b) 10 ≡ false
shown_apart b = cond_both (nat_le 33 b && nat_le b 126) b 63 (λ c. eqb c 10 ≡ false) (λ e. grind (arith, nat_tests)) (λ _. refl)

shown_one_line : (bytes : List ℕ) → IsOneLine (map shown_byte bytes)
shown_one_line [] = refl
shown_one_line (b ∷ bytes) = rw (shown_apart b) (shown_one_line bytes)

pub token_one_line : (token : List ℕ) → IsOneLine (shown_token token)
token_one_line [] = refl
token_one_line (b ∷ bytes) = shown_one_line (take 32 (b ∷ bytes))

pub id_one_line : (names : List Named) (id : LedgerId) → IsOneLine (id_text names id)
id_one_line names id = named_one_line (name_of names id.0)
  where
    named_one_line : (name : Option (List ℕ)) → IsOneLine (named_text name id)
    named_one_line None = encoded_one_line lower_digits id.0 refl
    named_one_line (Some name) = token_one_line name

pub spaced : (a b : List ℕ) → IsOneLine a → IsOneLine b → IsOneLine (a ++ space ++ b)
spaced a b of_a of_b = one_line-append (a ++ space) b (one_line-append a space of_a refl) of_b

frame_one_line : (why : WireRefusal) → IsOneLine (frame_values why)
frame_one_line (wire.Magic place) = decimal_one_line place
frame_one_line (wire.Version version) = decimal_one_line version
frame_one_line (wire.Kind kind) = decimal_one_line kind
frame_one_line (wire.Length kind length) = spaced (decimal kind) (decimal length) (decimal_one_line kind) (decimal_one_line length)
frame_one_line (wire.Flags flags) = decimal_one_line flags
frame_one_line (wire.Order place) = decimal_one_line place
frame_one_line (wire.Count count) = decimal_one_line count

tag_one_line : (why : TagRefusal) → IsOneLine (tag_values why)
tag_one_line (NotForMe to) = decimal_one_line to
tag_one_line (Stranger from) = decimal_one_line from
tag_one_line (BadTag read computed) = spaced (encode_lower read) (encode_lower computed) (encoded_one_line lower_digits read refl) (encoded_one_line lower_digits computed refl)

header_one_line : (names : List Named) (why : AddRefusal) → IsOneLine (header_values names why)
header_one_line names (header.Known id) = id_one_line names id
header_one_line names (header.Orphan parent) = id_one_line names parent
header_one_line names (header.WrongSeq parent own) = spaced (decimal parent) (decimal own) (decimal_one_line parent) (decimal_one_line own)
header_one_line names (header.Full limit) = decimal_one_line limit

pub values_one_line : (names : List Named) (why : Refusal) → IsOneLine (values_text names why)
values_one_line names (Frame why) = frame_one_line why
values_one_line names (Short lack) = decimal_one_line lack
values_one_line names (Extra more) = decimal_one_line more
values_one_line names (Tag why) = tag_one_line why
values_one_line names (Header why) = header_one_line names why
values_one_line names (Stale now signed) = spaced (decimal now) (decimal signed) (decimal_one_line now) (decimal_one_line signed)
values_one_line names (Repeat id) = id_one_line names id
values_one_line names (Conflict id) = id_one_line names id
values_one_line names (OldSeq largest) = decimal_one_line largest
values_one_line names (Pending tx) = id_one_line names (record { 0 = tx.0 })
values_one_line names (PoolFull most) = decimal_one_line most
values_one_line names (WrongPrev ours) = id_one_line names ours
values_one_line names (OldPosition kept) = decimal_one_line kept
values_one_line names (Left member) = decimal_one_line member
values_one_line names (StaleProposal now) = decimal_one_line now
values_one_line names (NotAfter kept) = decimal_one_line kept
values_one_line names (IssuingOff failed) = decimal_one_line failed
values_one_line names (KeepFault count) = decimal_one_line count
values_one_line names (NoKey member) = decimal_one_line member

pub heard_one_line : (names : List Named) (id : Option LedgerId) → IsOneLine (heard_text names id)
heard_one_line names None = refl
heard_one_line names (Some id) = id_one_line names id

pub preferred_one_line : (names : List Named) (ledger : Option Report) → IsOneLine (preferred_text names ledger)
preferred_one_line names None = refl
preferred_one_line names (Some ledger) = spaced (decimal ledger.seq) (id_text names ledger.id) (decimal_one_line ledger.seq) (id_one_line names ledger.id)

-- WHOLE LINES

-- a text that ends in a newline, has no other, and isn't this line
pub record IsOther (line text : List ℕ) : Type 0 where
  pub body : List ℕ
  pub whole : text ≡ body ++ newline
  pub one_line : IsOneLine body
  pub other : body ≢ line

-- a front of a line and what follows it is a front of that line, or has the line whole
abbrev Parted : List ℕ → List ℕ → List ℕ → List ℕ → Type 0
Parted body after front rest = IsOneLine front ⊎ ((more : List ℕ) × (front ≡ body ++ 10 ∷ more) × (after ≡ more ++ rest))

parted : (body after front rest : List ℕ) → IsOneLine body → body ++ 10 ∷ after ≡ front ++ rest → Parted body after front rest
parted body after [] rest one e = inl refl
parted [] after (b ∷ front) rest one e =
    let same : 10 ≡ b = ap (λ xs. slice_index xs 0) e in
    inr (front, ap (λ c. c ∷ front) (sym same), ap (drop 1) e)
parted (c ∷ body) after (b ∷ front) rest one e =
    let same : c ≡ b = ap (λ xs. slice_index xs 0) e in
    let apart : (eqb c 10 ≡ false) × IsOneLine body = or_false _ _ one in
    elim (parted body after front rest apart.1 (ap (drop 1) e)) [
      | inl unended ↦ inl (rw (sym same, apart.0) unended)
      | inr whole ↦ inr (whole.0, rw (sym same) (ap (λ xs. c ∷ xs) whole.1), whole.2)
    ]

-- the line is among the lines, and it has ended
abbrev Has : List ℕ → List Line → Type 0
Has line lines = Contains lines (record { bytes = line; ended = true })

-- a text with no newline has no whole line
pub unended : (front line : List ℕ) → IsOneLine front → HasLine front line → ⊥
unended [] line one has = omega (arith, has.1)
unended (b ∷ front) line one has =
    not_ended (b ∷ front) line (subst (Has line) (lines_of-last b front one) has)
  where
    not_ended : (bytes line : List ℕ) → Has line (record { bytes = bytes; ended = false } ∷ []) → ⊥
    not_ended bytes line (zero, l, e) = false≢true (ap (λ (x : Line). x.ended) e)
    not_ended bytes line (suc k, l, e) = omega (arith, l)

-- where a front of lines has a line, the first of them is that line, or it is among the others
pub found : (body more line : List ℕ) → IsOneLine body → HasLine (body ++ 10 ∷ more) line → (body ≡ line) ⊎ HasLine more line
found body more line one has =
    elim (Contains-append_cases (record { bytes = body; ended = true } ∷ []) (lines_of more) (record { bytes = line; ended = true }) (subst (Has line) (lines_of-ended body more one) has)) [
      | inl first ↦ inl (the_one body line first)
      | inr later ↦ inr later
    ]
  where
    the_one : (body line : List ℕ) → Has line (record { bytes = body; ended = true } ∷ []) → body ≡ line
    the_one body line (zero, l, e) = ap (λ (x : Line). x.bytes) e
    the_one body line (suc k, l, e) = absurd (omega (arith, l))

-- A front has all of a text, and this stands behind it.
pub record HasAll (text after front rest line : List ℕ) : Type 0 where
  pub more : List ℕ
  pub has_all : front ≡ text ++ more
  pub parts : after ≡ more ++ rest
  pub has : HasLine more line

-- past one that isn't the line
past_one : (line text after front rest : List ℕ) → IsOther line text → text ++ after ≡ front ++ rest → HasLine front line → HasAll text after front rest line
past_one line text after front rest other e has =
    let split : other.body ++ 10 ∷ after ≡ front ++ rest = sym (append_assoc other.body newline after) ∙ (ap (λ t. t ++ after) (sym other.whole) ∙ e) in
    elim (parted other.body after front rest other.one_line split) [
      | inl alone ↦ absurd (unended front line alone has)
      | inr whole ↦
          elim (found other.body whole.0 line other.one_line (subst (λ t. HasLine t line) whole.1 has)) [
            | inl same ↦ absurd (other.other same)
            | inr later ↦ record {
              more = whole.0;
              has_all = whole.1 ∙ (sym (append_assoc other.body newline whole.0) ∙ ap (λ t. t ++ whole.0) (sym other.whole));
              parts = whole.2;
              has = later;
            }
          ]
    ]

-- past lines none of which is that line
pub past : {X : Type 0} (line : List ℕ) (f : X → List ℕ) → ((x : X) → IsOther line (f x)) → (xs : List X) (after front rest : List ℕ) →
    flat_map f xs ++ after ≡ front ++ rest → HasLine front line → HasAll (flat_map f xs) after front rest line
past line f others [] after front rest e has = record { more = front; has_all = refl; parts = e; has = has }
past line f others (x ∷ xs) after front rest e has =
    let one : HasAll (f x) (flat_map f xs ++ after) front rest line = past_one line (f x) (flat_map f xs ++ after) front rest (others x) (sym (append_assoc (f x) (flat_map f xs) after) ∙ e) has in
    let all : HasAll (flat_map f xs) after one.more rest line = past line f others xs after one.more rest one.parts one.has in
    record {
      more = all.more;
      has_all = one.has_all ∙ (ap (λ t. f x ++ t) all.has_all ∙ sym (append_assoc (f x) (flat_map f xs) all.more));
      parts = all.parts;
      has = all.has;
    }

-- one line alone isn't another
pub not_alone : (line text front rest : List ℕ) → IsOther line text → text ≡ front ++ rest → HasLine front line → ⊥
not_alone line text front rest other e has =
    let all : HasAll text [] front rest line = past_one line text [] front rest other (append-nil text ∙ e) has in
    none all.more rest all.parts all.has
  where
    none : (more rest : List ℕ) → [] ≡ more ++ rest → HasLine more line → ⊥
    none [] rest e has = omega (arith, has.1)
    none (b ∷ more) rest e has = cc

-- and at a line that may be that one
pub at_line : (line body after front rest : List ℕ) → IsOneLine body → body ++ 10 ∷ after ≡ front ++ rest → HasLine front line →
    (more : List ℕ) × (front ≡ body ++ 10 ∷ more) × (after ≡ more ++ rest) × ((body ≡ line) ⊎ HasLine more line)
at_line line body after front rest one e has =
    elim (parted body after front rest one e) [
      | inl alone ↦ absurd (unended front line alone has)
      | inr whole ↦ (whole.0, whole.1, whole.2, found body whole.0 line one (subst (λ t. HasLine t line) whole.1 has))
    ]
