-- One element more of the lists that loops go through.
use Rattle.std.proofs.Common.{◌≡◌, ℕ, ◌+◌, ◌<◌, List, [], ◌∷◌, ◌++◌, length, take, drop, get_or, refl, sym, ap, ◌∙◌}
use Rattle.std.proofs.lemmas.List.{take_more, drop_more}
use Rattle.xl_negative.specs.declared.hearing.Heard.{Heard}
use Rattle.xl_negative.specs.Ringing.{Places, ring_keeping}
use Rattle.xl_negative.specs.Seats.{Seat, hears, with_hearing}

-- the elements so far and the next one
pub next_taken : {A : Type 0} (xs : List A) (i : ℕ) (x : A) → i < length xs → x ≡ get_or xs i x → take (i + 1) xs ≡ take i xs ++ x ∷ []
next_taken xs i x within here = take_more xs i x within ∙ ap (λ y. take i xs ++ y ∷ []) (sym here)

-- the next one and those behind it
pub next_left : {A : Type 0} (xs : List A) (i : ℕ) (x : A) → i < length xs → x ≡ get_or xs i x → drop i xs ≡ x ∷ drop (i + 1) xs
next_left xs i x within here = drop_more xs i x within ∙ ap (λ y. y ∷ drop (i + 1) xs) (sym here)

hears_more : (seats : List (Seat Places)) (hs : List Heard) (h : Heard) → hears ring_keeping seats (hs ++ h ∷ []) ≡ with_hearing ring_keeping (hears ring_keeping seats hs) h
hears_more seats [] h = refl
hears_more seats (x ∷ hs) h = hears_more (with_hearing ring_keeping seats x) hs h

pub hears_next : (seats : List (Seat Places)) (hs : List Heard) (i : ℕ) (h : Heard) → i < length hs → h ≡ get_or hs i h →
    hears ring_keeping seats (take (i + 1) hs) ≡ with_hearing ring_keeping (hears ring_keeping seats (take i hs)) h
hears_next seats hs i h within here = ap (hears ring_keeping seats) (next_taken hs i h within here) ∙ hears_more seats (take i hs) h
