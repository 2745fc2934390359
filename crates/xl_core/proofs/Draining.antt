-- What a room holds, and what still waits, while a drain goes on.
use Rattle.std.proofs.Common.{◌≡◌, ℕ, zero, suc, ◌+◌, ◌-◌, ◌<◌, ◌≤◌, Bool, true, false, cond, List, [], ◌∷◌, ◌++◌, length, set, take, drop, map, arith, refl, ap, sym, ◌∙◌, subst, Option, Some, None}
use Rattle.std.specs.Prelude.{◌==◌, if◌then◌else◌, All, IfSome, count_by, nat_le, option_to_list, slice_get}
use Rattle.std.specs.Option.{is_none, option_and_then}
use Rattle.std.proofs.lemmas.Bool.{cond-true, cond-false, le-leb}
use Rattle.std.proofs.lemmas.Bool.Decides.{nat_tests}
use Rattle.std.proofs.lemmas.Grind.{flat_map-append}
use Rattle.std.proofs.lemmas.List.{length-append, length-map, length-drop, length-set, length-take-le, append-nil, append_assoc, take_at, drop_at, drop-drop, set-get_or, get_or-set_same, take-append-drop, drop-map}
use Rattle.std.proofs.lemmas.List.Elements.{All-head, All-tail, filter_map-append}
use Rattle.std.proofs.lemmas.List.Sums.{sum_by-append}
use Rattle.xl_queues.specs.Broadcasts.{at_reader, queue_of}
use Rattle.xl_base.specs.Counts.{one_more}
use Rattle.xl_queues.specs.Queues.{Backlog, no_items, passed_over}
use Rattle.xl_wire.specs.declared.body.Body.{Body}
use Rattle.xl_core.specs.declared.item.Item.{Item}
use Rattle.xl_core.specs.Items.{body_in, frame_for, frame_of}
use Rattle.xl_core.specs.Node.{Node}
use Rattle.xl_tags.specs.Rings.{Ring}
use Rattle.xl_core.specs.Sending.{sealed_bytes, has_spelling}
use Rattle.xl_core.specs.declared.putting.Put.{Put}
use Rattle.xl_core.specs.declared.putting.Put.TheVariants.{Written, PassedOver, NoRoom}
use Rattle.xl_core.specs.Draining.{IsPut, Stands, TakesOne}
use Rattle.xl_core.specs.Queues.{waiting_at, at_number, after_taking, count_fitting, frames_in, stream_of, lost_more}

-- THE FRAMES

abbrev pub Frames : Type 0
Frames = List (Option (List ℕ))

frames_then : (fs : Frames) (o : Option (List ℕ)) → frames_in (fs ++ o ∷ []) ≡ frames_in fs ++ option_to_list o
frames_then fs None = filter_map-append (λ (f : Option (List ℕ)). f) fs (None ∷ [])
frames_then fs (Some f) = filter_map-append (λ (x : Option (List ℕ)). x) fs (Some f ∷ [])

joined_then : (fs : List (List ℕ)) (f : List ℕ) → stream_of (fs ++ f ∷ []) ≡ stream_of fs ++ f
joined_then fs f = flat_map-append (λ (x : List ℕ). x) fs (f ∷ []) ∙ ap (λ (xs : List ℕ). stream_of fs ++ xs) (append-nil f)

take_first : (fs rest : Frames) (n : ℕ) (o : Option (List ℕ)) → n ≤ length fs → drop n fs ≡ o ∷ rest → take (n + 1) fs ≡ take n fs ++ o ∷ []
take_first fs rest n o few is =
    let front : length (take n fs ++ o ∷ []) ≡ n + 1 = omega (arith, length-append (take n fs) (o ∷ []), length-take-le n fs few) in
    ap (take (n + 1)) (sym (take-append-drop n fs) ∙ ap (λ (xs : Frames). take n fs ++ xs) is ∙ sym (append_assoc (take n fs) (o ∷ []) rest))
    ∙ take_at (take n fs ++ o ∷ []) rest (n + 1) front

drop_first : (fs rest : Frames) (n : ℕ) (o : Option (List ℕ)) → drop n fs ≡ o ∷ rest → drop (n + 1) fs ≡ rest
drop_first fs rest n o is = ap (λ (k : ℕ). drop k fs) (omega arith) ∙ sym (drop-drop 1 n fs) ∙ ap (drop 1) is

-- WHAT WAITS

pub lost_then : (n m lost : ℕ) → lost_more n (lost_more m lost) ≡ lost_more (m + n) lost
lost_then zero m lost = ap (λ (k : ℕ). lost_more k lost) (omega arith)
lost_then (suc n) m lost =
    let next : suc (m + n) ≡ m + suc n = omega arith in
    ap one_more (lost_then n m lost) ∙ ap (λ (k : ℕ). lost_more k lost) next

count_then : (fs : Frames) (o : Option (List ℕ)) → count_by is_none fs + count_by is_none (o ∷ []) ≡ count_by is_none (fs ++ o ∷ [])
count_then fs o = sym (sum_by-append (λ (x : Option (List ℕ)). cond (is_none x) 1 0) fs (o ∷ []))

pub same_backlog : {xs ys : List Item} {a b : ℕ} → xs ≡ ys → a ≡ b → (let q : Backlog Item = record { items = xs; lost = a } in q) ≡ (let q : Backlog Item = record { items = ys; lost = b } in q)
same_backlog p q = cc

-- one item more was taken
taking_then : (fs : Frames) (o : Option (List ℕ)) (q : Backlog Item) → after_taking (o ∷ []) (after_taking fs q) ≡ after_taking (fs ++ o ∷ []) q
taking_then fs o q =
    same_backlog (drop-drop 1 (length fs) q.items ∙ ap (λ (k : ℕ). drop k q.items) (sym (length-append fs (o ∷ []))))
    (lost_then (count_by is_none (o ∷ [])) (count_by is_none fs) q.lost ∙ ap (λ (k : ℕ). lost_more k q.lost) (count_then fs o))

-- nothing was taken
pub taking_none : (waiting : List (Backlog Item)) (number : ℕ) → at_number waiting number (after_taking []) ≡ waiting
taking_none waiting zero = refl
taking_none waiting (suc place) = set-get_or waiting place no_items

set-set : (qs : List (Backlog Item)) (k : ℕ) (x y : Backlog Item) → set (set qs k x) k y ≡ set qs k y
set-set [] k x y = refl
set-set (q ∷ qs) zero x y = refl
set-set (q ∷ qs) (suc k) x y = ap (λ (rest : List (Backlog Item)). q ∷ rest) (set-set qs k x y)

-- the queue of a number, once it was changed
pub changed : (waiting : List (Backlog Item)) (number : ℕ) (f : Backlog Item → Backlog Item) → 1 ≤ number → number ≤ length waiting → waiting_at (at_number waiting number f) number ≡ f (waiting_at waiting number)
changed waiting zero f least most = absurd (omega arith)
changed waiting (suc place) f least most = get_or-set_same waiting place (f (queue_of waiting place)) no_items (omega arith)

pub changed_again : (waiting : List (Backlog Item)) (number : ℕ) (f g : Backlog Item → Backlog Item) → 1 ≤ number → number ≤ length waiting → at_number (at_number waiting number f) number g ≡ at_number waiting number (λ q. g (f q))
changed_again waiting zero f g least most = refl
changed_again waiting (suc place) f g least most =
    set-set waiting place (f (queue_of waiting place)) (g (queue_of (set waiting place (f (queue_of waiting place))) place))
    ∙ ap (λ (q : Backlog Item). set waiting place (g q)) (get_or-set_same waiting place (f (queue_of waiting place)) no_items (omega arith))

pub at_number_same : (waiting : List (Backlog Item)) (number : ℕ) (f g : Backlog Item → Backlog Item) → ((q : Backlog Item) → f q ≡ g q) → at_number waiting number f ≡ at_number waiting number g
at_number_same waiting zero f g same = refl
at_number_same waiting (suc place) f g same = ap (set waiting place) (same (queue_of waiting place))

pub length_changed : (waiting : List (Backlog Item)) (number : ℕ) (f : Backlog Item → Backlog Item) → length (at_number waiting number f) ≡ length waiting
length_changed waiting zero f = refl
length_changed waiting (suc place) f = length-set waiting place (f (queue_of waiting place))

-- A ROOM SO FAR

-- so many of these frames stand at the front of a room
pub record IsWritten (fs : Frames) (count : ℕ) (old_room room : List ℕ) (at : ℕ) : Type 0 where
  pub few : count ≤ length fs
  pub written : room ≡ stream_of (frames_in (take count fs)) ++ drop at old_room
  pub place : at ≡ length (stream_of (frames_in (take count fs)))
  pub within : at ≤ length old_room
  pub fits : count + count_fitting (drop count fs) (length old_room - at) ≡ count_fitting fs (length old_room)

pub written_none : (fs : Frames) (room : List ℕ) → IsWritten fs 0 room room 0
written_none fs room =
    let whole : length room - 0 ≡ length room = omega arith in
    let same : count_fitting fs (length room - 0) ≡ count_fitting fs (length room) = ap (count_fitting fs) whole in
    record { few = omega arith; written = refl; place = refl; within = omega arith; fits = omega (arith, same) }

-- the room is as long as it was
pub written_long : (fs : Frames) (count : ℕ) (old_room room : List ℕ) (at : ℕ) → IsWritten fs count old_room room at → length room ≡ length old_room
written_long fs count old_room room at so_far =
    omega (arith, ap length so_far.written, length-append (stream_of (frames_in (take count fs))) (drop at old_room), length-drop at old_room, so_far.place, so_far.within)

-- the next frame is written, or what has none is passed over
pub written_more : (fs rest : Frames) (count : ℕ) (old_room mid new : List ℕ) (at at' : ℕ) (o : Option (List ℕ)) → IsWritten fs count old_room mid at → drop count fs ≡ o ∷ rest → Stands o at at' mid new →
    IsWritten fs (count + 1) old_room new at'
written_more fs rest count old_room mid new at at' None so_far first stands =
    let frames : frames_in (take (count + 1) fs) ≡ frames_in (take count fs) = ap frames_in (take_first fs rest count None so_far.few first) ∙ frames_then (take count fs) None ∙ append-nil (frames_in (take count fs)) in
    subst (λ (k : ℕ). IsWritten fs (count + 1) old_room new k) (sym stands.0)
    (record {
      few = omega (arith, ap length first, length-drop count fs);
      written = stands.1 ∙ so_far.written ∙ ap (λ (xs : List (List ℕ)). stream_of xs ++ drop at old_room) (sym frames);
      place = so_far.place ∙ ap (λ (xs : List (List ℕ)). length (stream_of xs)) (sym frames);
      within = so_far.within;
      fits = ap (λ (xs : Frames). count + 1 + count_fitting xs (length old_room - at)) (drop_first fs rest count None first)
          ∙ omega arith
          ∙ ap (λ (xs : Frames). count + count_fitting xs (length old_room - at)) (sym first)
          ∙ so_far.fits;
    })
written_more fs rest count old_room mid new at at' (Some f) so_far first stands =
    let before : List ℕ = stream_of (frames_in (take count fs)) in
    let long : length mid ≡ length old_room = written_long fs count old_room mid at so_far in
    let frames : stream_of (frames_in (take (count + 1) fs)) ≡ before ++ f =
    ap stream_of (ap frames_in (take_first fs rest count (Some f) so_far.few first) ∙ frames_then (take count fs) (Some f)) ∙ joined_then (frames_in (take count fs)) f in
    let front : take at mid ≡ before = ap (take at) so_far.written ∙ take_at before (drop at old_room) at (sym so_far.place) in
    let back : drop (at + length f) mid ≡ drop (at + length f) old_room =
    ap (drop (at + length f)) so_far.written ∙ ap (λ (k : ℕ). drop k (before ++ drop at old_room)) (omega arith) ∙ sym (drop-drop (length f) at (before ++ drop at old_room))
    ∙ ap (drop (length f)) (drop_at before (drop at old_room) at (sym so_far.place)) ∙ drop-drop (length f) at old_room ∙ ap (λ (k : ℕ). drop k old_room) (omega arith) in
    let room : length f ≤ length old_room - at = omega (arith, stands.1.fits, long) in
    let minus : length old_room - (at + length f) ≡ length old_room - at - length f = omega arith in
    subst (λ (k : ℕ). IsWritten fs (count + 1) old_room new k) (sym stands.0)
    (record {
      few = omega (arith, ap length first, length-drop count fs);
      written = stands.1.is ∙ ap (λ (xs : List ℕ). xs ++ f ++ drop (at + length f) mid) front ∙ ap (λ (xs : List ℕ). before ++ f ++ xs) back
          ∙ ap (λ (xs : List ℕ). xs ++ drop (at + length f) old_room) (sym frames);
      place = omega (arith, ap length frames, length-append before f, so_far.place);
      within = omega (arith, stands.1.fits, long);
      fits = ap (λ (xs : Frames). count + 1 + count_fitting xs (length old_room - (at + length f))) (drop_first fs rest count (Some f) first)
          ∙ ap (λ (k : ℕ). count + 1 + count_fitting rest k) minus
          ∙ omega (arith, cond-true (nat_le (length f) (length old_room - at)) (suc (count_fitting rest (length old_room - at - length f))) 0 (le-leb (length f) (length old_room - at) room))
          ∙ ap (λ (xs : Frames). count + count_fitting xs (length old_room - at)) (sym first)
          ∙ so_far.fits;
    })

-- nothing more fits
pub written_all : (fs : Frames) (count : ℕ) (old_room room : List ℕ) (at : ℕ) → IsWritten fs count old_room room at → count_fitting (drop count fs) (length old_room - at) ≡ 0 → count ≡ count_fitting fs (length old_room)
written_all fs count old_room room at so_far none = omega (arith, so_far.fits, none)

-- A DRAIN SO FAR

-- so many of the oldest items for a number were taken, of these frames
pub record IsDrained (fs : Frames) (old now : List (Backlog Item)) (number : ℕ) (old_room room : List ℕ) (at : ℕ) : Type 0 where
  pub count : ℕ
  pub waits : now ≡ at_number old number (after_taking (take count fs))
  pub so_far : IsWritten fs count old_room room at

pub drained_none : (fs : Frames) (old : List (Backlog Item)) (number : ℕ) (room : List ℕ) → IsDrained fs old old number room room 0
drained_none fs old number room = record { count = 0; waits = sym (taking_none old number); so_far = written_none fs room }

-- what the frames of the rest are
pub frames_left : (f : Item → Option (List ℕ)) (old now : List (Backlog Item)) (number : ℕ) (old_room room : List ℕ) (at : ℕ) → 1 ≤ number → number ≤ length old →
    (drain : IsDrained (map f (waiting_at old number).items) old now number old_room room at) → map f (waiting_at now number).items ≡ drop drain.count (map f (waiting_at old number).items)
frames_left f old now number old_room room at least most drain =
    let items : List Item = (waiting_at old number).items in
    let long : length (take drain.count (map f items)) ≡ drain.count = length-take-le drain.count (map f items) drain.so_far.few in
    ap (λ (ws : List (Backlog Item)). map f (waiting_at ws number).items) drain.waits
    ∙ ap (λ (q : Backlog Item). map f q.items) (changed old number (after_taking (take drain.count (map f items))) least most)
    ∙ ap (λ (k : ℕ). map f (drop k items)) long
    ∙ sym (drop-map f drain.count items)

-- one more is taken
waits_then : (fs rest : Frames) (old now next : List (Backlog Item)) (number count : ℕ) (o : Option (List ℕ)) → count ≤ length fs → now ≡ at_number old number (after_taking (take count fs)) →
    drop count fs ≡ o ∷ rest → next ≡ at_number now number (after_taking (o ∷ [])) → 1 ≤ number → number ≤ length old → next ≡ at_number old number (after_taking (take (count + 1) fs))
waits_then fs rest old now next number count o few waits first taken least most =
    taken ∙ ap (λ (ws : List (Backlog Item)). at_number ws number (after_taking (o ∷ []))) waits
    ∙ changed_again old number (after_taking (take count fs)) (after_taking (o ∷ [])) least most
    ∙ at_number_same old number (λ q. after_taking (o ∷ []) (after_taking (take count fs) q)) (after_taking (take count fs ++ o ∷ [])) (taking_then (take count fs) o)
    ∙ ap (λ (xs : Frames). at_number old number (after_taking xs)) (sym (take_first fs rest count o few first))

-- one item more was taken
pub drained_more : (f : Item → Option (List ℕ)) (old now next : List (Backlog Item)) (number : ℕ) (old_room mid new : List ℕ) (at at' : ℕ) → 1 ≤ number → number ≤ length old →
    IsDrained (map f (waiting_at old number).items) old now number old_room mid at → TakesOne (map f (waiting_at now number).items) now next number at at' mid new →
    IsDrained (map f (waiting_at old number).items) old next number old_room new at'
drained_more f old now next number old_room mid new at at' least most drain one =
    let fs : Frames = map f (waiting_at old number).items in
    let first : drop drain.count fs ≡ one.first ∷ one.rest = sym (frames_left f old now number old_room mid at least most drain) ∙ one.is in
    record {
      count = drain.count + 1;
      waits = waits_then fs one.rest old now next number drain.count one.first drain.so_far.few drain.waits first one.taken least most;
      so_far = written_more fs one.rest drain.count old_room mid new at at' one.first drain.so_far first one.stands;
    }

-- THE WHOLE DRAIN

pub drained_end : (f : Item → Option (List ℕ)) (old now : List (Backlog Item)) (number : ℕ) (old_room room : List ℕ) (at : ℕ) → 1 ≤ number → number ≤ length old →
    (drain : IsDrained (map f (waiting_at old number).items) old now number old_room room at) → count_fitting (map f (waiting_at now number).items) (length room - at) ≡ 0 →
    drain.count ≡ count_fitting (map f (waiting_at old number).items) (length old_room)
drained_end f old now number old_room room at least most drain none =
    let fs : Frames = map f (waiting_at old number).items in
    let rest = frames_left f old now number old_room room at least most drain in
    let long = written_long fs drain.count old_room room at drain.so_far in
    written_all fs drain.count old_room room at drain.so_far
    (ap (λ (xs : Frames). count_fitting xs (length old_room - at)) (sym rest) ∙ ap (λ (k : ℕ). count_fitting (map f (waiting_at now number).items) (k - at)) (sym long) ∙ none)

-- a drain gives nothing exactly if nothing is left but what is passed over: each frame fits into the room
pub none_left : (fs : Frames) (room : ℕ) → All (λ o. IfSome o (λ f. (0 < length f) × (length f ≤ room))) fs → length (stream_of (frames_in (take (count_fitting fs room) fs))) ≡ 0 → frames_in fs ≡ []
none_left [] room fits none = refl
none_left (None ∷ fs) room fits none = none_left fs room (All-tail (λ o. IfSome o (λ f. (0 < length f) × (length f ≤ room))) None fs fits) none
none_left (Some f ∷ fs) room fits none =
    let its = All-head (λ o. IfSome o (λ g. (0 < length g) × (length g ≤ room))) (Some f) fs fits in
    let room_for : count_fitting (Some f ∷ fs) room ≡ suc (count_fitting fs (room - length f)) = cond-true (nat_le (length f) room) (suc (count_fitting fs (room - length f))) 0 (le-leb (length f) room its.1) in
    let given : List (List ℕ) = frames_in (take (count_fitting fs (room - length f)) fs) in
    let long : length (stream_of (frames_in (take (count_fitting (Some f ∷ fs) room) (Some f ∷ fs)))) ≡ length (f ++ stream_of given) = ap (λ (k : ℕ). length (stream_of (frames_in (take k (Some f ∷ fs))))) room_for in
    absurd (omega (arith, its.0, none, long, length-append f (stream_of given)))

pub none_given : (fs : Frames) (room : ℕ) → frames_in fs ≡ [] → length (stream_of (frames_in (take (count_fitting fs room) fs))) ≡ 0
none_given [] room none = refl
none_given (None ∷ fs) room none = none_given fs room none
none_given (Some f ∷ fs) room none = cc

-- ONE ITEM

-- what waits for a number waits for its reader
pub waiting_there : (waiting : List (Backlog Item)) (number reader : ℕ) → reader + 1 ≡ number → waiting_at waiting number ≡ queue_of waiting reader
waiting_there waiting zero reader is = absurd (omega (arith, is))
waiting_there waiting (suc place) reader is = let same : place ≡ reader = omega (arith, is) in ap (queue_of waiting) same

-- what found no room is too long
pub found_no_room : (o : Option (List ℕ)) (at : ℕ) (old new : List ℕ) (r : Put) → IsPut o at old new r → r ≡ NoRoom → (f : List ℕ) × (o ≡ Some f) × (length old - at < length f) × (new ≡ old)
found_no_room (Some f) at old new NoRoom is none = (f, refl, is.0, is.1)
found_no_room None at old new NoRoom is none = absurd is
found_no_room o at old new r is none = cc

-- what was passed over has no frame
pub found_passed : (o : Option (List ℕ)) (at : ℕ) (old new : List ℕ) (r : Put) → IsPut o at old new r → r ≡ PassedOver → (o ≡ None) × (new ≡ old)
found_passed None at old new (Written count) is passed = absurd is
found_passed None at old new PassedOver is passed = (refl, is)
found_passed None at old new NoRoom is passed = absurd is
found_passed (Some f) at old new (Written count) is passed = cc
found_passed (Some f) at old new PassedOver is passed = absurd is
found_passed (Some f) at old new NoRoom is passed = cc

-- and was taken out
pub passes_first : (f : Item → Option (List ℕ)) (waiting after : List (Backlog Item)) (number reader at : ℕ) (item : Item) (old new : List ℕ) → reader + 1 ≡ number →
    slice_get (waiting_at waiting number).items 0 ≡ Some item → f item ≡ None → new ≡ old → after ≡ at_reader waiting reader passed_over → TakesOne (map f (waiting_at waiting number).items) waiting after number at at old new
passes_first f waiting after zero reader at item old new is first none same passed = absurd (omega (arith, is))
passes_first f waiting after (suc place) reader at item old new is first none same passed =
    let its : reader ≡ place = omega (arith, is) in
    let q : Backlog Item = queue_of waiting place in
    let out = passed_out q.items q.lost first in record {
      first = None;
      rest = map f (drop 1 q.items);
      is = ap (map f) out.0 ∙ ap (λ (o : Option (List ℕ)). o ∷ map f (drop 1 q.items)) none;
      taken = passed ∙ ap (λ (k : ℕ). at_reader waiting k passed_over) its ∙ ap (λ (x : Backlog Item). set waiting place x) out.1;
      stands = (refl, same);
    }
  where
    same_item : (x : Item) → Some x ≡ Some item → x ≡ item
    same_item x e = cc

    passed_out : (items : List Item) (lost : ℕ) → slice_get items 0 ≡ Some item →
        (let q : Backlog Item = record { items = items; lost = lost } in (items ≡ item ∷ drop 1 items) × (passed_over q ≡ after_taking (None ∷ []) q))
    passed_out [] lost e = cc
    passed_out (x ∷ xs) lost e =
        let some : (length (x ∷ xs) == 0) ≡ false = grind (arith, nat_tests) in
        (ap (λ (y : Item). y ∷ xs) (same_item x e), ap (λ (b : Bool). (let q : Backlog Item = record { items = xs; lost = if b then lost else one_more lost } in q)) some)

-- none is there
pub none_there : (f : Item → Option (List ℕ)) (items : List Item) (room : ℕ) → slice_get items 0 ≡ None → count_fitting (map f items) room ≡ 0
none_there f [] room none = refl
none_there f (item ∷ items) room none = cc

-- the first is too long
pub too_long : (f : Item → Option (List ℕ)) (items : List Item) (item : Item) (frame : List ℕ) (room : ℕ) → slice_get items 0 ≡ Some item → f item ≡ Some frame → room < length frame → count_fitting (map f items) room ≡ 0
too_long f [] item frame room first its long = cc
too_long f (x ∷ items) item frame room first its long =
    ap (λ (o : Option (List ℕ)). count_fitting (o ∷ map f items) room) (ap f (same x item first) ∙ its)
    ∙ cond-false (nat_le (length frame) room) (suc (count_fitting (map f items) (room - length frame))) 0 (lt-not-leb (length frame) room long)
  where
    same : (x y : Item) → Some x ≡ Some y → x ≡ y
    same x y e = cc

    lt-not-leb : (a b : ℕ) → b < a → nat_le a b ≡ false
    lt-not-leb a b lt = grind (arith, nat_tests)

-- fewer items are left once one was taken
pub fewer_left : (f : Item → Option (List ℕ)) (waiting after : List (Backlog Item)) (number at next : ℕ) (old new : List ℕ) → 1 ≤ number → number ≤ length waiting →
    TakesOne (map f (waiting_at waiting number).items) waiting after number at next old new → length (waiting_at after number).items < length (waiting_at waiting number).items
fewer_left f waiting after number at next old new least most takes =
    let items : List Item = (waiting_at waiting number).items in
    omega (
      arith,
      ap (λ (ws : List (Backlog Item)). length (waiting_at ws number).items) takes.taken,
      ap (λ (q : Backlog Item). length q.items) (changed waiting number (after_taking (takes.first ∷ [])) least most),
      length-drop 1 items,
      ap length takes.is,
      length-map items f,
    )

-- AN ITEM

-- what is said was put, sealed
pub item_put : (n : Node) (ring : Ring) (to : ℕ) (item : Item) (body : Body) (at : ℕ) (old new : List ℕ) (r : Put) → ring ≡ n.keys → n.keys.me ≡ n.me → Some body ≡ body_in n item →
    has_spelling ring.me to body ≡ true → IsPut (Some (sealed_bytes ring ring.me to body)) at old new r → IsPut (frame_of n to item) at old new r
item_put n ring to item body at old new r its own said spelled put =
    subst (λ (o : Option Body). IsPut (option_and_then (frame_for n to) o) at old new r) said
    (subst (λ (m : ℕ). IsPut (if has_spelling m to body then Some (sealed_bytes n.keys m to body) else None) at old new r) own
    (subst (λ (k : Ring). IsPut (if has_spelling k.me to body then Some (sealed_bytes k k.me to body) else None) at old new r) its
    (subst (λ (o : Option (List ℕ)). IsPut o at old new r)
    (sym (cond-true (has_spelling ring.me to body) (Some (sealed_bytes ring ring.me to body)) None spelled)) put)))

-- what isn't said is passed over
pub item_passed : (n : Node) (to : ℕ) (item : Item) (at : ℕ) (room : List ℕ) → None ≡ body_in n item → IsPut (frame_of n to item) at room room PassedOver
item_passed n to item at room said = subst (λ (o : Option Body). IsPut (option_and_then (frame_for n to) o) at room room PassedOver) said refl
