-- The headers of a greeting, and what waits behind them.
use Rattle.std.proofs.Common.{◌≡◌, ℕ, zero, suc, ◌+◌, ◌-◌, ◌<◌, ◌≤◌, Bool, true, false, cond, List, [], ◌∷◌, ◌++◌, length, set, get_or, take, drop, map, arith, refl, ap, sym, ◌∙◌, subst, Option, Some, None, slice_get, append_assoc, inl, inr}
use Rattle.std.specs.Prelude.{◌⊎◌, ◌↔◌, if◌then◌else◌, All, IfSome, nat_le, option_map, unwrap_or}
use Rattle.std.specs.Option.{is_none}
use Rattle.std.proofs.lemmas.Bool.{cond-true, cond-false}
use Rattle.std.proofs.lemmas.Bool.Decides.{nat_tests}
use Rattle.std.proofs.lemmas.Grind.{flat_map-append}
use Rattle.std.proofs.lemmas.List.{append-nil, length-append, length-map, length-drop, drop-drop, drop-map, drop_at, take_at, take-append-le}
use Rattle.std.proofs.lemmas.List.Elements.{All-append, All-cons, All-head, All-nil, All-tail, filter_map-append}
use Rattle.std.proofs.lemmas.Option.{slice_get_past, same_Some}
use Rattle.std.proofs.Math.ListN.{drop_of_length-le}
use Rattle.std.proofs.Math.Seq.{take-append-add, take-length}
use Rattle.xl_queues.specs.Queues.{Backlog}
use Rattle.xl_ledger.specs.declared.header.Header.{Header}
use Rattle.xl_ledger.specs.Limits.{greatest_limit}
use Rattle.xl_ledger.specs.Chains.{chain, place_of, seq_at}
use Rattle.xl_ledger.proofs.ChainLaws.{length-chain}
use Rattle.xl_tags.specs.Rings.{Ring}
use Rattle.xl_wire.specs.Lengths.{longest_frame}
use Rattle.xl_wire.specs.declared.body.Body.{Body}
use Rattle.xl_core.specs.declared.the_core.greeting.Greeting.{Greeting}
use Rattle.xl_core.specs.declared.item.Item.{Item}
use Rattle.xl_core.specs.declared.putting.Put.{Put}
use Rattle.xl_core.specs.declared.putting.Put.TheVariants.{Written, PassedOver, NoRoom}
use Rattle.xl_core.specs.Core.{Core, greeted_frames, all_frames, given_for}
use Rattle.xl_core.specs.Draining.{next_on, is_handed, IsPut, PutsNext, Writes}
use Rattle.xl_core.specs.Greetings.{chain_to, yet_to_hand, greeting_at, greeting_frames, further, further_at}
use Rattle.xl_core.specs.Items.{frame_for, frames_for, header_body_at, drained_bytes, drained_for}
use Rattle.xl_core.specs.Node.{Node}
use Rattle.xl_core.specs.Queues.{waiting_at, at_number, after_taking, count_fitting, that_fit, frames_in, stream_of}
use Rattle.xl_core.specs.Replies.{Drains}
use Rattle.xl_core.specs.Sending.{sealed_bytes, has_spelling}
use Rattle.xl_core.proofs.Draining.{Frames, IsWritten, written_none, written_all, written_long, written_more, taking_none, none_left, none_given}
use Rattle.xl_core.proofs.Spelling.{framed_fits, frames_fit}

-- THE NEXT HEADER

drop_here : {X : Type 0} (xs : List X) (n : ℕ) (x : X) → slice_get xs n ≡ Some x → drop n xs ≡ x ∷ drop (n + 1) xs
drop_here [] n x is = absurd cc
drop_here (y ∷ xs) zero x is = cc
drop_here (y ∷ xs) (suc n) x is = let sum : suc (n + 1) ≡ suc n + 1 = omega arith in drop_here xs n x is ∙ ap (λ (k : ℕ). x ∷ drop k (y ∷ xs)) sum

drop_past : {X : Type 0} (xs : List X) (n : ℕ) → slice_get xs n ≡ None → drop n xs ≡ []
drop_past [] zero none = refl
drop_past [] (suc n) none = refl
drop_past (x ∷ xs) zero none = absurd cc
drop_past (x ∷ xs) (suc n) none = drop_past xs n none

-- the chain ends before it
pub past_end : (ls : List Header) (g : Greeting) (target : ℕ) → place_of ls g.target ≡ Some target → seq_at ls target < g.next → None ≡ next_on ls g
past_end ls g target found past =
    sym (ap (λ (o : Option ℕ). slice_get (unwrap_or (option_map (chain ls) o) []) g.next) found ∙ slice_get_past (chain ls target) g.next (omega (arith, length-chain ls target, past)))

-- no header is left
pub none_next : (n : Node) (to : ℕ) (g : Greeting) → next_on n.ledgers.headers g ≡ None → greeting_frames n (Some g) to ≡ []
none_next n to g none = ap (map (λ ledger. frame_for n to (header_body_at n ledger))) (drop_past (chain_to n.ledgers.headers g.target) g.next none)

-- one is
pub one_next : (n : Node) (to : ℕ) (g : Greeting) (ledger : ℕ) → next_on n.ledgers.headers g ≡ Some ledger →
    greeting_frames n (Some g) to ≡ frame_for n to (header_body_at n ledger) ∷ greeting_frames n (Some (further 1 g)) to
one_next n to g ledger is = ap (map (λ l. frame_for n to (header_body_at n l))) (drop_here (chain_to n.ledgers.headers g.target) g.next ledger is)

-- its frame is the sealed one
pub framed_sealed : (n : Node) (ring : Ring) (to : ℕ) (body : Body) → ring ≡ n.keys → n.keys.me ≡ n.me → has_spelling ring.me to body ≡ true → frame_for n to body ≡ Some (sealed_bytes ring ring.me to body)
framed_sealed n ring to body its own spelled =
    subst (λ (m : ℕ). (if has_spelling m to body then Some (sealed_bytes n.keys m to body) else None) ≡ Some (sealed_bytes ring ring.me to body)) own
    (subst (λ (k : Ring). (if has_spelling k.me to body then Some (sealed_bytes k k.me to body) else None) ≡ Some (sealed_bytes ring ring.me to body)) its
    (cond-true (has_spelling ring.me to body) (Some (sealed_bytes ring ring.me to body)) None spelled))

-- it was put at a place
pub puts_next : (n : Node) (ring : Ring) (to : ℕ) (g : Greeting) (ledger : ℕ) (body : Body) (at count next : ℕ) (old new : List ℕ) → next_on n.ledgers.headers g ≡ Some ledger → body ≡ header_body_at n ledger →
    ring ≡ n.keys → n.keys.me ≡ n.me → has_spelling ring.me to body ≡ true → IsPut (Some (sealed_bytes ring ring.me to body)) at old new (Written count) → Some (at + count) ≡ Some next → g.next < greatest_limit →
    PutsNext n to g at next old new
puts_next n ring to g ledger body at count next old new is its_body its own spelled put then_ few = record {
  first = sealed_bytes ring ring.me to body;
  is = one_next n to g ledger is
      ∙ ap (λ (o : Option (List ℕ)). o ∷ greeting_frames n (Some (further 1 g)) to) (ap (frame_for n to) (sym its_body) ∙ framed_sealed n ring to body its own spelled);
  stands = (sym (same_Some (at + count) next then_) ∙ ap (λ (k : ℕ). at + k) put.0, put.1);
  few = few;
}

-- the room is too short for it
pub puts_none : (n : Node) (ring : Ring) (to : ℕ) (g : Greeting) (ledger : ℕ) (body : Body) (at : ℕ) (old new : List ℕ) (r : Put) → next_on n.ledgers.headers g ≡ Some ledger → body ≡ header_body_at n ledger →
    ring ≡ n.keys → n.keys.me ≡ n.me → has_spelling ring.me to body ≡ true → IsPut (Some (sealed_bytes ring ring.me to body)) at old new r → (r ≡ PassedOver) ⊎ (r ≡ NoRoom) →
    (count_fitting (greeting_frames n (Some g) to) (length old - at) ≡ 0) × (new ≡ old)
puts_none n ring to g ledger body at old new r is its_body its own spelled put other =
    let rest : Frames = greeting_frames n (Some (further 1 g)) to in
    let first : greeting_frames n (Some g) to ≡ Some (sealed_bytes ring ring.me to body) ∷ rest =
    one_next n to g ledger is ∙ ap (λ (o : Option (List ℕ)). o ∷ rest) (ap (frame_for n to) (sym its_body) ∙ framed_sealed n ring to body its own spelled) in
    let none = not_put (sealed_bytes ring ring.me to body) rest r put other in
    (ap (λ (fs : Frames). count_fitting fs (length old - at)) first ∙ none.0, none.1)
  where
    too_long : (a b : ℕ) → b < a → nat_le a b ≡ false
    too_long a b lt = grind (arith, nat_tests)

    was_put : (count : ℕ) → (Written count ≡ PassedOver) ⊎ (Written count ≡ NoRoom) → ⊥
    was_put count other = elim other [
      | inl e ↦ cc
      | inr e ↦ cc
    ]

    not_put : (f : List ℕ) (rest : Frames) (r : Put) → IsPut (Some f) at old new r → (r ≡ PassedOver) ⊎ (r ≡ NoRoom) → (count_fitting (Some f ∷ rest) (length old - at) ≡ 0) × (new ≡ old)
    not_put f rest (Written count) put other = absurd (was_put count other)
    not_put f rest PassedOver put other = absurd put
    not_put f rest NoRoom put other =
        (cond-false (nat_le (length f) (length old - at)) (suc (count_fitting rest (length old - at - length f))) 0 (too_long (length f) (length old - at) put.0), put.1)

-- A GREETING SO FAR

-- so many of its headers were handed out
pub record IsHanded (n : Node) (to : ℕ) (start g : Greeting) (old_room room : List ℕ) (at : ℕ) : Type 0 where
  pub count : ℕ
  pub handed : g ≡ further count start
  pub so_far : IsWritten (greeting_frames n (Some start) to) count old_room room at

pub handed_none : (n : Node) (to : ℕ) (g : Greeting) (room : List ℕ) → IsHanded n to g g room room 0
handed_none n to g room =
    let same : g.next ≡ g.next + 0 = omega arith in
    record { count = 0; handed = ap (λ (k : ℕ). let x : Greeting = record { target = g.target; next = k } in x) same; so_far = written_none (greeting_frames n (Some g) to) room }

-- the rest of the headers
pub frames_further : (n : Node) (to : ℕ) (g : Greeting) (count : ℕ) → greeting_frames n (Some (further count g)) to ≡ drop count (greeting_frames n (Some g) to)
frames_further n to g count =
    let chain : List ℕ = chain_to n.ledgers.headers g.target in
    ap (map (λ l. frame_for n to (header_body_at n l))) (sym (drop-drop count g.next chain))
    ∙ sym (drop-map (λ l. frame_for n to (header_body_at n l)) count (drop g.next chain))

-- one header more
pub handed_more : (n : Node) (to : ℕ) (start g : Greeting) (old_room mid new : List ℕ) (at at' : ℕ) → IsHanded n to start g old_room mid at → PutsNext n to g at at' mid new →
    IsHanded n to start (further 1 g) old_room new at'
handed_more n to start g old_room mid new at at' so one =
    let fs : Frames = greeting_frames n (Some start) to in
    let left : drop so.count fs ≡ Some one.first ∷ greeting_frames n (Some (further 1 g)) to =
    sym (frames_further n to start so.count) ∙ ap (λ (x : Greeting). greeting_frames n (Some x) to) (sym so.handed) ∙ one.is in
    record {
      count = so.count + 1;
      handed = ap (further 1) so.handed ∙ again start so.count;
      so_far = written_more fs (greeting_frames n (Some (further 1 g)) to) so.count old_room mid new at at' (Some one.first) so.so_far left one.stands;
    }
  where
    again : (x : Greeting) (k : ℕ) → further 1 (further k x) ≡ further (k + 1) x
    again x k = let sum : x.next + k + 1 ≡ x.next + (k + 1) = omega arith in ap (λ (m : ℕ). let y : Greeting = record { target = x.target; next = m } in y) sum

-- as many as fit
pub handed_all : (n : Node) (to : ℕ) (start g : Greeting) (old_room room : List ℕ) (at : ℕ) → (so : IsHanded n to start g old_room room at) → count_fitting (greeting_frames n (Some g) to) (length room - at) ≡ 0 →
    so.count ≡ count_fitting (greeting_frames n (Some start) to) (length old_room)
handed_all n to start g old_room room at so none =
    let fs : Frames = greeting_frames n (Some start) to in
    let long = written_long fs so.count old_room room at so.so_far in
    written_all fs so.count old_room room at so.so_far
    (ap (λ (xs : Frames). count_fitting xs (length old_room - at)) (sym (frames_further n to start so.count) ∙ ap (λ (x : Greeting). greeting_frames n (Some x) to) (sym so.handed))
    ∙ ap (λ (k : ℕ). count_fitting (greeting_frames n (Some g) to) (k - at)) (sym long) ∙ none)

-- so those that fit were written
pub handed_writes : (n : Node) (to : ℕ) (start g : Greeting) (old_room room new : List ℕ) (at : ℕ) → (so : IsHanded n to start g old_room room at) → count_fitting (greeting_frames n (Some g) to) (length room - at) ≡ 0 →
    new ≡ room → Writes (greeting_frames n (Some start) to) at old_room new
handed_writes n to start g old_room room new at so none same =
    let fs : Frames = greeting_frames n (Some start) to in
    let all = handed_all n to start g old_room room at so none in
    record {
      count = so.so_far.place ∙ ap (λ (k : ℕ). length (stream_of (frames_in (take k fs)))) all;
      room = same ∙ so.so_far.written ∙ ap (λ (k : ℕ). stream_of (frames_in (take k fs)) ++ drop at old_room) all;
    }

-- one header fewer is left
pub fewer_headers : (n : Node) (to : ℕ) (g : Greeting) (at next : ℕ) (old new : List ℕ) → PutsNext n to g at next old new → length (greeting_frames n (Some (further 1 g)) to) < length (greeting_frames n (Some g) to)
fewer_headers n to g at next old new one = omega (arith, ap length one.is)

-- IS IT HANDED OUT

-- the greeting of a number, once it went on
pub greeting_then : (greetings : List (Option Greeting)) (number count : ℕ) → greeting_at (further_at greetings number count) number ≡ option_map (further count) (greeting_at greetings number)
greeting_then greetings zero count = refl
greeting_then greetings (suc place) count = at_place greetings place
  where
    at_place : (gs : List (Option Greeting)) (k : ℕ) → get_or (set gs k (option_map (further count) (get_or gs k None))) k None ≡ option_map (further count) (get_or gs k None)
    at_place [] k = refl
    at_place (g ∷ gs) zero = refl
    at_place (g ∷ gs) (suc k) = at_place gs k

fitting_most : (fs : Frames) (room : ℕ) → count_fitting fs room ≤ length fs
fitting_most [] room = omega arith
fitting_most (None ∷ fs) room = omega (arith, fitting_most fs room)
fitting_most (Some f ∷ fs) room = by (nat_le (length f) room) (count_fitting fs (room - length f)) (length fs) (fitting_most fs (room - length f))
  where
    by : (b : Bool) (k n : ℕ) → k ≤ n → cond b (suc k) 0 ≤ suc n
    by true k n le = omega (arith, le)
    by false k n le = omega arith

frames_long : (n : Node) (to : ℕ) (g : Greeting) → length (greeting_frames n (Some g) to) ≡ length (chain_to n.ledgers.headers g.target) - g.next
frames_long n to g = length-map (yet_to_hand n.ledgers.headers g) (λ l. frame_for n to (header_body_at n l)) ∙ length-drop g.next (chain_to n.ledgers.headers g.target)

pub is_all : (n : Node) (to room : ℕ) (o : Option Greeting) → is_handed n (option_map (further (count_fitting (greeting_frames n o to) room)) o) ≡ true → count_fitting (greeting_frames n o to) room ≡ length (greeting_frames n o to)
is_all n to room None done = refl
is_all n to room (Some g) done =
    let chain : List ℕ = chain_to n.ledgers.headers g.target in
    let fs : Frames = greeting_frames n (Some g) to in
    omega (arith, past chain (g.next + count_fitting fs room) done, frames_long n to g, fitting_most fs room)
  where
    past : (xs : List ℕ) (k : ℕ) → is_none (slice_get xs k) ≡ true → length xs ≤ k
    past [] k none = omega arith
    past (x ∷ xs) zero none = absurd cc
    past (x ∷ xs) (suc k) none = omega (arith, past xs k none)

pub is_front : (n : Node) (to room : ℕ) (o : Option Greeting) → is_handed n (option_map (further (count_fitting (greeting_frames n o to) room)) o) ≡ false → count_fitting (greeting_frames n o to) room < length (greeting_frames n o to)
is_front n to room None done = absurd cc
is_front n to room (Some g) done =
    let chain : List ℕ = chain_to n.ledgers.headers g.target in
    let fs : Frames = greeting_frames n (Some g) to in
    omega (arith, within chain (g.next + count_fitting fs room) done, frames_long n to g)
  where
    within : (xs : List ℕ) (k : ℕ) → is_none (slice_get xs k) ≡ false → k < length xs
    within [] k some = absurd cc
    within (x ∷ xs) zero some = omega arith
    within (x ∷ xs) (suc k) some = omega (arith, within xs k some)

-- FRAMES BEHIND FRAMES

-- if not all of the first fit, none of the others does
pub fits_front : (xs ys : Frames) (room : ℕ) → count_fitting xs room < length xs → count_fitting (xs ++ ys) room ≡ count_fitting xs room
fits_front [] ys room lt = absurd (omega (arith, lt))
fits_front (None ∷ xs) ys room lt = ap suc (fits_front xs ys room (omega (arith, lt)))
fits_front (Some f ∷ xs) ys room lt =
    by (nat_le (length f) room) (count_fitting xs (room - length f)) (count_fitting (xs ++ ys) (room - length f)) (length xs) (fits_front xs ys (room - length f)) lt
  where
    by : (b : Bool) (k k' n : ℕ) → (k < n → k' ≡ k) → cond b (suc k) 0 < suc n → cond b (suc k') 0 ≡ cond b (suc k) 0
    by true k k' n same lt = ap suc (same (omega (arith, lt)))
    by false k k' n same lt = refl

-- if all of them do, the others have the room that is left
fits_both : (xs ys : Frames) (room : ℕ) → count_fitting xs room ≡ length xs → count_fitting (xs ++ ys) room ≡ length xs + count_fitting ys (room - length (stream_of (frames_in xs)))
fits_both [] ys room all = let whole : room ≡ room - 0 = omega arith in ap (count_fitting ys) whole ∙ omega arith
fits_both (None ∷ xs) ys room all = let rest = fits_both xs ys room (omega (arith, all)) in omega (arith, rest)
fits_both (Some f ∷ xs) ys room all =
    let gs : List ℕ = stream_of (frames_in xs) in
    let left : room - length f - length gs ≡ room - length (f ++ gs) = omega (arith, length-append f gs) in
    by (nat_le (length f) room) (count_fitting xs (room - length f)) (count_fitting (xs ++ ys) (room - length f)) (length xs) (count_fitting ys (room - length (f ++ gs)))
    (λ same. fits_both xs ys (room - length f) same ∙ ap (λ (k : ℕ). length xs + count_fitting ys k) left) all
  where
    by : (b : Bool) (k k' n m : ℕ) → (k ≡ n → k' ≡ n + m) → cond b (suc k) 0 ≡ suc n → cond b (suc k') 0 ≡ suc n + m
    by true k k' n m then_ all = let rest = then_ (omega (arith, all)) in omega (arith, rest)
    by false k k' n m then_ all = absurd (omega (arith, all))

front_given : (xs ys : Frames) (room : ℕ) → count_fitting xs room < length xs → that_fit (xs ++ ys) room ≡ that_fit xs room
front_given xs ys room lt =
    ap (λ (k : ℕ). take k (xs ++ ys)) (fits_front xs ys room lt) ∙ take-append-le (count_fitting xs room) xs ys (omega (arith, lt))

both_given : (xs ys : Frames) (room : ℕ) → count_fitting xs room ≡ length xs → that_fit (xs ++ ys) room ≡ xs ++ that_fit ys (room - length (stream_of (frames_in xs)))
both_given xs ys room all =
    ap (λ (k : ℕ). take k (xs ++ ys)) (fits_both xs ys room all) ∙ take-append-add xs ys (count_fitting ys (room - length (stream_of (frames_in xs))))

joined_both : (xs ys : Frames) → stream_of (frames_in (xs ++ ys)) ≡ stream_of (frames_in xs) ++ stream_of (frames_in ys)
joined_both xs ys =
    ap stream_of (filter_map-append (λ (o : Option (List ℕ)). o) xs ys) ∙ flat_map-append (λ (f : List ℕ). f) (frames_in xs) (frames_in ys)

-- THE DRAIN

-- not all headers fit: nothing of what waits is taken
pub drains_front : (core : Core) (member written : ℕ) (greetings : List (Option Greeting)) (old new : List ℕ) → Writes (greeted_frames core member) written old new →
    greetings ≡ further_at core.greetings member (count_fitting (greeted_frames core member) (length old)) → is_handed core.node (greeting_at greetings member) ≡ false →
    Drains core member (record core { greetings = greetings }) written old new
drains_front core member written greetings old new writes further_is left =
    let xs : Frames = greeted_frames core member in
    let ys : Frames = frames_for core.node core.waiting member in
    let room : ℕ = length old in
    let few : count_fitting xs room < length xs =
    is_front core.node member room (greeting_at core.greetings member)
    (sym (ap (is_handed core.node) (ap (λ (gs : List (Option Greeting)). greeting_at gs member) further_is ∙ greeting_then core.greetings member (count_fitting xs room))) ∙ left) in
    let given : that_fit (xs ++ ys) room ≡ that_fit xs room = front_given xs ys room few in
    let nothing : drop (length xs) (that_fit (xs ++ ys) room) ≡ [] = ap (drop (length xs)) given ∙ drop_front xs (count_fitting xs room) (omega (arith, few)) in
    let waits : at_number core.waiting member (after_taking (drop (length xs) (that_fit (xs ++ ys) room))) ≡ core.waiting =
    ap (λ (fs : Frames). at_number core.waiting member (after_taking fs)) nothing ∙ taking_none core.waiting member in
    record {
      core = ap (λ (gs : List (Option Greeting)). let c : Core = record core { greetings = gs } in c) further_is
          ∙ ap (λ (ws : List (Backlog Item)). let c : Core = record core { waiting = ws; greetings = further_at core.greetings member (count_fitting xs room) } in c) (sym waits);
      count = writes.count ∙ ap (λ (fs : Frames). length (stream_of (frames_in fs))) (sym given);
      room = writes.room ∙ ap (λ (fs : Frames). stream_of (frames_in fs) ++ drop written old) (sym given);
    }
  where
    drop_front : (fs : Frames) (k : ℕ) → k ≤ length fs → drop (length fs) (take k fs) ≡ []
    drop_front [] zero le = refl
    drop_front [] (suc k) le = refl
    drop_front (f ∷ fs) zero le = refl
    drop_front (f ∷ fs) (suc k) le = drop_front fs k (omega (arith, le))

-- all do: what waits comes behind them, in the room that is left
pub drains_both : (core : Core) (member first second : ℕ) (greetings : List (Option Greeting)) (waiting : List (Backlog Item)) (old mid part inner back : List ℕ) → Writes (greeted_frames core member) first old mid →
    greetings ≡ further_at core.greetings member (count_fitting (greeted_frames core member) (length old)) → is_handed core.node (greeting_at greetings member) ≡ true → part ≡ drop first mid → back ≡ [] →
    second ≡ length (drained_bytes core.node core.waiting member (length part)) → inner ≡ drained_bytes core.node core.waiting member (length part) ++ drop second part →
    waiting ≡ drained_for core.node core.waiting member (length part) → Drains core member (record core { waiting = waiting; greetings = greetings }) (first + second) old (take first mid ++ (inner ++ back))
drains_both core member first second greetings waiting old mid part inner back writes further_is done is_part no_more count frames taken =
    let xs : Frames = greeted_frames core member in
    let ys : Frames = frames_for core.node core.waiting member in
    let room : ℕ = length old in
    let all : count_fitting xs room ≡ length xs =
    is_all core.node member room (greeting_at core.greetings member)
    (sym (ap (is_handed core.node) (ap (λ (gs : List (Option Greeting)). greeting_at gs member) further_is ∙ greeting_then core.greetings member (count_fitting xs room))) ∙ done) in
    let whole : that_fit xs room ≡ xs = ap (λ (k : ℕ). take k xs) all ∙ take-length xs in
    let gs : List ℕ = stream_of (frames_in xs) in
    let place : first ≡ length gs = writes.count ∙ ap (λ (fs : Frames). length (stream_of (frames_in fs))) whole in
    let is : mid ≡ gs ++ drop first old = writes.room ∙ ap (λ (fs : Frames). stream_of (frames_in fs) ++ drop first old) whole in
    let rest : part ≡ drop first old = is_part ∙ ap (drop first) is ∙ drop_at gs (drop first old) first (sym place) in
    let front : take first mid ≡ gs = ap (take first) is ∙ take_at gs (drop first old) first (sym place) in
    let left : length part ≡ room - length gs = ap length rest ∙ length-drop first old ∙ ap (λ (k : ℕ). room - k) place in
    let zs : Frames = that_fit ys (room - length gs) in
    let given : that_fit (xs ++ ys) room ≡ xs ++ zs = both_given xs ys room all in
    let bytes : drained_bytes core.node core.waiting member (length part) ≡ stream_of (frames_in zs) = ap (λ (k : ℕ). stream_of (frames_in (that_fit ys k))) left in
    let behind : stream_of (frames_in (that_fit (xs ++ ys) room)) ≡ gs ++ stream_of (frames_in zs) = ap (λ (fs : Frames). stream_of (frames_in fs)) given ∙ joined_both xs zs in
    let waits : waiting ≡ at_number core.waiting member (after_taking (drop (length xs) (that_fit (xs ++ ys) room))) =
    taken ∙ ap (λ (k : ℕ). at_number core.waiting member (after_taking (that_fit ys k))) left
    ∙ ap (λ (fs : Frames). at_number core.waiting member (after_taking fs)) (sym (ap (drop (length xs)) given ∙ drop_at xs zs (length xs) refl)) in
    let written : inner ++ back ≡ stream_of (frames_in zs) ++ drop (first + second) old =
    ap (λ (bs : List ℕ). inner ++ bs) no_more ∙ append-nil inner ∙ frames
    ∙ ap (λ (bs : List ℕ). bs ++ drop second part) bytes
    ∙ ap (λ (bs : List ℕ). stream_of (frames_in zs) ++ drop second bs) rest
    ∙ ap (λ (bs : List ℕ). stream_of (frames_in zs) ++ bs) (drop-drop second first old) in
    record {
      core = ap (λ (gr : List (Option Greeting)). let c : Core = record core { waiting = waiting; greetings = gr } in c) further_is
          ∙ ap (λ (ws : List (Backlog Item)). let c : Core = record core { waiting = ws; greetings = further_at core.greetings member (count_fitting xs room) } in c) waits;
      count = omega (arith, place, count, ap length bytes, ap length behind, length-append gs (stream_of (frames_in zs)));
      room = ap (λ (bs : List ℕ). bs ++ (inner ++ back)) front ∙ ap (λ (bs : List ℕ). gs ++ bs) written
          ∙ sym (append_assoc gs (stream_of (frames_in zs)) (drop (first + second) old))
          ∙ ap (λ (bs : List ℕ). bs ++ drop (first + second) old) (sym behind);
    }

-- behind the end of a room there is nothing
pub behind_end : (at : ℕ) (room : List ℕ) → drop (length room - at) (drop at room) ≡ []
behind_end at room = drop_of_length-le (drop at room) {i = length room - at} (omega (arith, length-drop at room))

-- each header's frame fits into a room that has place for the longest
pub headers_fit : (n : Node) (to room : ℕ) (o : Option Greeting) → longest_frame ≤ room → All (λ f. IfSome f (λ bytes. (0 < length bytes) × (length bytes ≤ room))) (greeting_frames n o to)
headers_fit n to room None enough = All-nil (λ f. IfSome f (λ bytes. (0 < length bytes) × (length bytes ≤ room)))
headers_fit n to room (Some g) enough = by (yet_to_hand n.ledgers.headers g)
  where
    by : (ledgers : List ℕ) → All (λ f. IfSome f (λ bytes. (0 < length bytes) × (length bytes ≤ room))) (map (λ l. frame_for n to (header_body_at n l)) ledgers)
    by [] = All-nil (λ f. IfSome f (λ bytes. (0 < length bytes) × (length bytes ≤ room)))
    by (l ∷ ls) =
        All-cons (λ f. IfSome f (λ bytes. (0 < length bytes) × (length bytes ≤ room))) (frame_for n to (header_body_at n l)) (map (λ k. frame_for n to (header_body_at n k)) ls)
        (framed_fits n to room (Some (header_body_at n l)) enough) (by ls)

-- so each frame for a member does
pub all_fit : (core : Core) (to room : ℕ) → longest_frame ≤ room → All (λ f. IfSome f (λ bytes. (0 < length bytes) × (length bytes ≤ room))) (all_frames core to)
all_fit core to room enough =
    All-append (λ f. IfSome f (λ bytes. (0 < length bytes) × (length bytes ≤ room))) (greeted_frames core to) (frames_for core.node core.waiting to)
    (headers_fit core.node to room (greeting_at core.greetings to) enough) (frames_fit core.node to room (waiting_at core.waiting to).items enough)

-- it gives nothing exactly if nothing is left but what is passed over
pub nothing_left : (core after : Core) (member written : ℕ) (old new : List ℕ) → longest_frame ≤ length old → Drains core member after written old new → (written ≡ 0) ↔ (frames_in (all_frames core member) ≡ [])
nothing_left core after member written old new enough drain = (
  λ none. none_left (all_frames core member) (length old) (all_fit core member (length old) enough) (sym drain.count ∙ none),
  λ none. drain.count ∙ none_given (all_frames core member) (length old) none,
)

-- WHAT HOLDS OF WHAT IS GIVEN

-- of a front of frames, as of all of them
front_all : (P : List ℕ → Type 0) (n : ℕ) (fs : Frames) → All P (frames_in fs) → All P (frames_in (take n fs))
front_all P zero fs all = All-nil P
front_all P (suc n) [] all = all
front_all P (suc n) (None ∷ fs) all = front_all P n fs all
front_all P (suc n) (Some f ∷ fs) all = All-cons P f (frames_in (take n fs)) (All-head P f (frames_in fs) all) (front_all P n fs (All-tail P f (frames_in fs) all))

both_all : (P : List ℕ → Type 0) (xs ys : Frames) → All P (frames_in xs) → All P (frames_in ys) → All P (frames_in (xs ++ ys))
both_all P xs ys first second = subst (All P) (sym (filter_map-append (λ (o : Option (List ℕ)). o) xs ys)) (All-append P (frames_in xs) (frames_in ys) first second)

one_all : (P : List ℕ → Type 0) (o : Option (List ℕ)) (fs : Frames) → IfSome o P → All P (frames_in fs) → All P (frames_in (o ∷ fs))
one_all P None fs its rest = rest
one_all P (Some f) fs its rest = All-cons P f (frames_in fs) its rest

headers_all : (P : List ℕ → Type 0) (n : Node) (to : ℕ) → ((ledger : ℕ) → IfSome (frame_for n to (header_body_at n ledger)) P) → (ledgers : List ℕ) → All P (frames_in (map (λ l. frame_for n to (header_body_at n l)) ledgers))
headers_all P n to each [] = All-nil P
headers_all P n to each (ledger ∷ ledgers) =
    one_all P (frame_for n to (header_body_at n ledger)) (map (λ l. frame_for n to (header_body_at n l)) ledgers) (each ledger) (headers_all P n to each ledgers)

greeting_all : (P : List ℕ → Type 0) (n : Node) (to : ℕ) (o : Option Greeting) → ((ledger : ℕ) → IfSome (frame_for n to (header_body_at n ledger)) P) → All P (frames_in (greeting_frames n o to))
greeting_all P n to None each = All-nil P
greeting_all P n to (Some g) each = headers_all P n to each (yet_to_hand n.ledgers.headers g)

-- it holds of all that a drain gives if it does of each header's frame, and of the frames of what waits
pub given_all : (P : List ℕ → Type 0) (core : Core) (to room : ℕ) → ((ledger : ℕ) → IfSome (frame_for core.node to (header_body_at core.node ledger)) P) → All P (frames_in (frames_for core.node core.waiting to)) →
    All P (frames_in (given_for core to room))
given_all P core to room each waits =
    front_all P (count_fitting (all_frames core to) room) (all_frames core to)
    (both_all P (greeted_frames core to) (frames_for core.node core.waiting to) (greeting_all P core.node to (greeting_at core.greetings to) each) waits)
