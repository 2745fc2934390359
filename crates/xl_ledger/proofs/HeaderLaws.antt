-- The laws of headers: each spelling is read as its header, and each 118 bytes spell the header that is read.
use Rattle.std.proofs.Common.{◌≡◌, ℕ, ◌+◌, ◌<◌, ◌≤◌, List, [], ◌∷◌, ◌++◌, length, get_or, slice_index, take, drop, refl, sym, ap, ◌∙◌, append_assoc, arith, inl, inr}
use Rattle.std.specs.Int.{w32, w64, from_be_bytes}
use Rattle.std.proofs.lemmas.Bool.{cases_lt}
use Rattle.std.proofs.lemmas.List.{take-append-drop, drop-drop, take_at, take_all, drop_at, length-append, length-take, length-drop, get_or-drop, get_or-take, get_or_past}
use Rattle.std.proofs.lemmas.Nat.{be_bytes_4, be_bytes_8}
use Rattle.byteorder.specs.Endian.{big_bytes, big_number}
use Rattle.byteorder.specs.Numbers.{big_number-reads_back}
use Rattle.xl_base.specs.Putting.{Puts}
use Rattle.xl_ledger.specs.declared.header.Header.{Header}
use Rattle.xl_ledger.specs.Headers.{IsHeader, spelling}
use Rattle.xl_ledger.specs.Reading.{header_in}

abbrev pub IsBytes : List ℕ → Type 0
IsBytes bytes = (i : ℕ) → get_or bytes i 0 < 256

IsBytes-drop : (n : ℕ) (bytes : List ℕ) → IsBytes bytes → IsBytes (drop n bytes)
IsBytes-drop n bytes h i = rw get_or-drop (h (n + i))

IsBytes-take : (n : ℕ) (bytes : List ℕ) → IsBytes bytes → IsBytes (take n bytes)
IsBytes-take n bytes h i =
    elim (cases_lt i n) [
      | inl lt ↦ rw (get_or-take n bytes i 0 lt) (h i)
      | inr le ↦ rw (get_or_past (take n bytes) i 0 (omega (arith, length-take n bytes))) (omega arith)
    ]

-- the bytes at a place, and those after them
cut_at : (at n : ℕ) (bytes : List ℕ) → drop at bytes ≡ take n (drop at bytes) ++ drop (at + n) bytes
cut_at at n bytes = sym (take-append-drop n (drop at bytes)) ∙ ap (λ (x : List ℕ). take n (drop at bytes) ++ x) (drop-drop n at bytes)

written_4 : (bytes : List ℕ) → IsBytes bytes → 4 ≤ length bytes → big_bytes 4 (big_number 4 bytes) ≡ take 4 bytes
written_4 bytes fits long =
    let a = get_or-take 4 bytes 0 0 (omega arith) in
    let b = get_or-take 4 bytes 1 0 (omega arith) in
    let c = get_or-take 4 bytes 2 0 (omega arith) in
    let d = get_or-take 4 bytes 3 0 (omega arith) in
    let same : big_number 4 bytes ≡ from_be_bytes w32 (take 4 bytes) = omega (arith, a, b, c, d) in
    be_bytes_4 (take 4 bytes) (big_number 4 bytes) (omega (arith, length-take 4 bytes)) (IsBytes-take 4 bytes fits) same

written_8 : (bytes : List ℕ) → IsBytes bytes → 8 ≤ length bytes → big_bytes 8 (big_number 8 bytes) ≡ take 8 bytes
written_8 bytes fits long =
    let at : (i : ℕ) → i < 8 → get_or (take 8 bytes) i 0 ≡ get_or bytes i 0 = λ i lt. get_or-take 8 bytes i 0 lt in
    let same : big_number 8 bytes ≡ from_be_bytes w64 (take 8 bytes) =
    omega (arith, at 0 (omega arith), at 1 (omega arith), at 2 (omega arith), at 3 (omega arith), at 4 (omega arith), at 5 (omega arith), at 6 (omega arith), at 7 (omega arith)) in
    be_bytes_8 (take 8 bytes) (big_number 8 bytes) (omega (arith, length-take 8 bytes)) (IsBytes-take 8 bytes fits) same

-- the number at a place is spelled there
number_at_4 : (at : ℕ) (bytes : List ℕ) → IsBytes bytes → at + 4 ≤ length bytes → drop at bytes ≡ big_bytes 4 (big_number 4 (drop at bytes)) ++ drop (at + 4) bytes
number_at_4 at bytes fits long =
    let spelled = written_4 (drop at bytes) (IsBytes-drop at bytes fits) (omega (arith, length-drop at bytes)) in
    cut_at at 4 bytes ∙ ap (λ (x : List ℕ). x ++ drop (at + 4) bytes) (sym spelled)

number_at_8 : (at : ℕ) (bytes : List ℕ) → IsBytes bytes → at + 8 ≤ length bytes → drop at bytes ≡ big_bytes 8 (big_number 8 (drop at bytes)) ++ drop (at + 8) bytes
number_at_8 at bytes fits long =
    let spelled = written_8 (drop at bytes) (IsBytes-drop at bytes fits) (omega (arith, length-drop at bytes)) in
    cut_at at 8 bytes ∙ ap (λ (x : List ℕ). x ++ drop (at + 8) bytes) (sym spelled)

two_cells : (bytes : List ℕ) → length bytes ≡ 2 → bytes ≡ slice_index bytes 0 ∷ slice_index bytes 1 ∷ []
two_cells [] h = absurd (omega arith)
two_cells (b ∷ []) h = absurd (omega arith)
two_cells (b ∷ c ∷ []) h = refl
two_cells (b ∷ c ∷ d ∷ bytes) h = absurd (omega arith)

-- parts that follow each other, to the end
eight : (a b c d e f g h s t u v w x y bytes : List ℕ) → bytes ≡ a ++ s → s ≡ b ++ t → t ≡ c ++ u → u ≡ d ++ v → v ≡ e ++ w → w ≡ f ++ x → x ≡ g ++ y → y ≡ h
    → a ++ b ++ c ++ d ++ e ++ f ++ g ++ h ≡ bytes
eight a b c d e f g h s t u v w x y bytes e0 e1 e2 e3 e4 e5 e6 e7 =
    let whole : bytes ≡ a ++ (b ++ (c ++ (d ++ (e ++ (f ++ (g ++ h)))))) = rw (e0, e1, e2, e3, e4, e5, e6, e7) refl in
    simp append_assoc (sym whole)

pub header_spelled : (bytes : List ℕ) → IsBytes bytes → length bytes ≡ 118 → spelling (header_in bytes) ≡ bytes
header_spelled bytes fits long =
    let last : drop 116 bytes ≡ slice_index bytes 116 ∷ slice_index bytes 117 ∷ [] =
    two_cells (drop 116 bytes) (omega (arith, length-drop 116 bytes))
    ∙ ap (λ (b : ℕ). b ∷ slice_index (drop 116 bytes) 1 ∷ []) (get_or-drop 116 bytes 0 0)
    ∙ ap (λ (b : ℕ). slice_index bytes 116 ∷ b ∷ []) (get_or-drop 116 bytes 1 0) in
    let h = header_in bytes in
    eight (big_bytes 4 h.seq) (big_bytes 8 h.drops) h.parent.0 h.tx_hash h.account_hash (big_bytes 4 h.parent_close) (big_bytes 4 h.close) (h.resolution ∷ h.flags ∷ [])
    (drop 4 bytes) (drop 12 bytes) (drop 44 bytes) (drop 76 bytes) (drop 108 bytes) (drop 112 bytes) (drop 116 bytes) bytes
    (number_at_4 0 bytes fits (omega arith)) (number_at_8 4 bytes fits (omega arith)) (cut_at 12 32 bytes) (cut_at 44 32 bytes) (cut_at 76 32 bytes)
    (number_at_4 108 bytes fits (omega arith)) (number_at_4 112 bytes fits (omega arith)) last

-- ---- what is spelled is read again

-- what stands after a front
behind : (front rest bytes : List ℕ) (n : ℕ) → bytes ≡ front ++ rest → length front ≡ n → drop n bytes ≡ rest
behind front rest bytes n e long = ap (drop n) e ∙ drop_at front rest n long

abbrev header_of : ℕ → ℕ → List ℕ → List ℕ → List ℕ → ℕ → ℕ → ℕ → ℕ → Header
header_of seq drops parent tx account parent_close close resolution flags =
    record { seq = seq; drops = drops; parent = record { 0 = parent }; tx_hash = tx; account_hash = account; parent_close = parent_close; close = close; resolution = resolution; flags = flags }

-- the spelling with its parts in one group from each on
grouped : (a b c d e f g h : List ℕ) → a ++ b ++ c ++ d ++ e ++ f ++ g ++ h ≡ a ++ (b ++ (c ++ (d ++ (e ++ (f ++ (g ++ h))))))
grouped a b c d e f g h = simp append_assoc

pub header_again : (h : Header) → IsHeader h → header_in (spelling h) ≡ h
header_again h ok =
    let a = big_bytes 4 h.seq in
    let b = big_bytes 8 h.drops in
    let c = h.parent.0 in
    let d = h.tx_hash in
    let e = h.account_hash in
    let f = big_bytes 4 h.parent_close in
    let g = big_bytes 4 h.close in
    let z = h.resolution ∷ h.flags ∷ [] in
    let s7 = g ++ z in
    let s6 = f ++ s7 in
    let s5 = e ++ s6 in
    let s4 = d ++ s5 in
    let s3 = c ++ s4 in
    let s2 = b ++ s3 in
    let whole : spelling h ≡ a ++ s2 = grouped a b c d e f g z in
    let r2 : drop 4 (spelling h) ≡ s2 = behind a s2 (spelling h) 4 whole refl in
    let r3 : drop 12 (spelling h) ≡ s3 = sym (drop-drop 8 4 (spelling h)) ∙ ap (drop 8) r2 ∙ drop_at b s3 8 refl in
    let r4 : drop 44 (spelling h) ≡ s4 = sym (drop-drop 32 12 (spelling h)) ∙ ap (drop 32) r3 ∙ drop_at c s4 32 ok.parent in
    let r5 : drop 76 (spelling h) ≡ s5 = sym (drop-drop 32 44 (spelling h)) ∙ ap (drop 32) r4 ∙ drop_at d s5 32 ok.tx_hash in
    let r6 : drop 108 (spelling h) ≡ s6 = sym (drop-drop 32 76 (spelling h)) ∙ ap (drop 32) r5 ∙ drop_at e s6 32 ok.account_hash in
    let r7 : drop 112 (spelling h) ≡ s7 = sym (drop-drop 4 108 (spelling h)) ∙ ap (drop 4) r6 in
    let r8 : drop 116 (spelling h) ≡ z = sym (drop-drop 4 112 (spelling h)) ∙ ap (drop 4) r7 in
    let seq : big_number 4 (spelling h) ≡ h.seq = ap (big_number 4) whole ∙ big_number-reads_back 4 h.seq s2 ok.seq in
    let drops : big_number 8 (drop 4 (spelling h)) ≡ h.drops = ap (big_number 8) r2 ∙ big_number-reads_back 8 h.drops s3 ok.drops in
    let parent : take 32 (drop 12 (spelling h)) ≡ c = ap (take 32) r3 ∙ take_at c s4 32 ok.parent in
    let tx : take 32 (drop 44 (spelling h)) ≡ d = ap (take 32) r4 ∙ take_at d s5 32 ok.tx_hash in
    let account : take 32 (drop 76 (spelling h)) ≡ e = ap (take 32) r5 ∙ take_at e s6 32 ok.account_hash in
    let parent_close : big_number 4 (drop 108 (spelling h)) ≡ h.parent_close = ap (big_number 4) r6 ∙ big_number-reads_back 4 h.parent_close s7 ok.parent_close in
    let close : big_number 4 (drop 112 (spelling h)) ≡ h.close = ap (big_number 4) r7 ∙ big_number-reads_back 4 h.close z ok.close in
    let resolution : slice_index (spelling h) 116 ≡ h.resolution = sym (get_or-drop 116 (spelling h) 0 0) ∙ ap (λ (x : List ℕ). slice_index x 0) r8 in
    let flags : slice_index (spelling h) 117 ≡ h.flags = sym (get_or-drop 116 (spelling h) 1 0) ∙ ap (λ (x : List ℕ). slice_index x 1) r8 in
    let same : header_of (big_number 4 (spelling h)) (big_number 8 (drop 4 (spelling h))) (take 32 (drop 12 (spelling h))) (take 32 (drop 44 (spelling h))) (take 32 (drop 76 (spelling h)))
    (big_number 4 (drop 108 (spelling h))) (big_number 4 (drop 112 (spelling h))) (slice_index (spelling h) 116) (slice_index (spelling h) 117)
    ≡ header_of h.seq h.drops c d e h.parent_close h.close h.resolution h.flags = cc in
    same

-- ---- writing, field by field

-- what is put behind a front
pub puts_behind : (at next : ℕ) (bytes old new : List ℕ) → Puts at bytes old new → next ≡ at + length bytes → take next new ≡ take at old ++ bytes
puts_behind at next bytes old new p e =
    let front : length (take at old ++ bytes) ≡ next = omega (arith, length-append (take at old) bytes, length-take at old, p.fits, e) in
    ap (take next) p.is ∙ take_at (take at old ++ bytes) (drop (at + length bytes) old) next front

pub fronts : (a b c d e f g z r1 r2 r3 r4 r5 r6 r7 r8 : List ℕ) → take 4 r1 ≡ a → take 12 r2 ≡ take 4 r1 ++ b → take 44 r3 ≡ take 12 r2 ++ c → take 76 r4 ≡ take 44 r3 ++ d
    → take 108 r5 ≡ take 76 r4 ++ e → take 112 r6 ≡ take 108 r5 ++ f → take 116 r7 ≡ take 112 r6 ++ g → take 118 r8 ≡ take 116 r7 ++ z → length r8 ≡ 118
    → r8 ≡ a ++ b ++ c ++ d ++ e ++ f ++ g ++ z
fronts a b c d e f g z r1 r2 r3 r4 r5 r6 r7 r8 e1 e2 e3 e4 e5 e6 e7 e8 long =
    sym (take_all 118 r8 (omega arith)) ∙ rw (e8, e7, e6, e5, e4, e3, e2, e1) refl

-- a front, and what is put behind it to the end
pub put_whole : (front field r1 r2 : List ℕ) (n all : ℕ) → take n r1 ≡ front → take all r2 ≡ take n r1 ++ field → length r2 ≤ all → r2 ≡ front ++ field
put_whole front field r1 r2 n all e1 e2 long = sym (take_all all r2 long) ∙ rw (e2, e1) refl
