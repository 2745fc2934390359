-- Attending goes on by a round, or is over.
use Rattle.std.proofs.Common.{◌≡◌, ◌<◌, ◌≤◌, ◌++◌, length, ℕ, Bool, true, false, Option, None, Some, List, [], ◌∷◌, refl, sym, ap, ◌∙◌, append_assoc, append-nil, arith, subst}
use Rattle.std.specs.Prelude.{IfSome, fold}
use Rattle.std.specs.List.{AllByRecursion, flat_map}
use Rattle.std.proofs.lemmas.Grind.{flat_map-append, fold-append}
use Rattle.xl_turns.specs.declared.view.Knowledge.{Knowledge}
use Rattle.xl_turns.specs.declared.pass.Pass.{Pass}
use Rattle.xl_turns.specs.Passes.{known}
use Rattle.xl_links.specs.Doors.{Doorway, line_before}
use Rattle.xl_core.specs.Core.{Core}
use Rattle.xl_store.specs.declared.entry.Entry.{Entry}
use Rattle.xl_store.specs.declared.store.Store.{Store}
use Rattle.xl_store.specs.declared.store.StoreEnd.TheVariants as refused
use Rattle.xl_store.specs.Calls.{Call, Made}
use Rattle.xl_store.specs.Stores.{start_of, turns_of, Refused}
use Rattle.xl_store.proofs.Making.{made_none, made_both}
use Rattle.xl_door.specs.declared.ends.Attended.{Attended}
use Rattle.xl_door.specs.declared.ends.Attended.TheVariants as attended
use Rattle.xl_door.specs.Rounds.{Heard, IsRound, asked, calls_in, lines_in, taken_in, counted_in}
use Rattle.xl_door.specs.Attending.{Attending, Attends, Follows, Passes, last_calls}
use Rattle.xl_door.specs.declared.replies.Reply.{Reply}
use Rattle.xl_door.specs.declared.replies.Reply.TheVariants as reply
use Rattle.xl_door.specs.Replies.{longest_line, text_of}
use Rattle.xl_door.specs.Hearing.{Hears, IsFull, IsSaid, Tells}
use Rattle.xl_door.proofs.Passing.{passes_none, passes_both, passes_line}

all_both : {A : Type 0} (P : A → Type 0) (xs ys : List A) → AllByRecursion P xs → AllByRecursion P ys
    → AllByRecursion P (xs ++ ys)
all_both P [] ys p q = q
all_both P (x ∷ xs) ys p q = (p.0, all_both P xs ys p.1 q)

module _ (start : Core) (may : ℕ → Bool) where
  -- a line came and was answered
  pub hears_line : (old new : Knowledge Entry) (d1 d2 d3 : Doorway) (line : List ℕ) (reply : Reply)
      → d1.left ≡ line_before line d2.left → d2.took ≡ d1.took → d1.faults ≤ d2.faults
      → IsSaid start may old line reply new → Tells (text_of reply) d2 d3 → Hears start may old d1 new d3
  hears_line old new d1 d2 d3 line reply left took later said t = record {
    round = Heard line said.calls reply t.taken;
    is = (said.is, t.front);
    made = said.made;
    drawn = said.drawn;
    door = passes_line d1 d2 d3 line said.calls reply left took later t;
  }

  -- one that is too long has no calls
  pub said_too_long : (k : Knowledge Entry) (line : List ℕ) → longest_line < length line
      → IsSaid start may k line reply.TooLong k
  said_too_long k line long =
      record { calls = []; is = (long, refl); made = made_none start k k refl refl refl; drawn = omega arith }

  -- nothing was done yet
  pub attending_none : (k : Knowledge Entry) (d : Doorway) → Attending start may k d [] k d
  attending_none k d = record {
    rounds = [];
    each = tt;
    made = made_none start k k refl refl refl;
    drawn = omega arith;
    door = passes_none d;
  }

  -- calls and no rounds
  calls_alone : (old new : Knowledge Entry) (d : Doorway) (last : List Call) → Made start old new last
      → old.drawn ≤ new.drawn → Attending start may old d last new d
  calls_alone old new d last made drawn =
      record { rounds = []; each = tt; made = made; drawn = drawn; door = passes_none d }

  -- first some rounds, and then others
  pub attending_both : (old mid new : Knowledge Entry) (d1 d2 d3 : Doorway) (last : List Call)
      → Attending start may old d1 [] mid d2 → Attending start may mid d2 last new d3
      → Attending start may old d1 last new d3
  attending_both old mid new d1 d2 d3 last a b =
      let lines = flat_map-append lines_in a.rounds b.rounds in
      let taken = flat_map-append taken_in a.rounds b.rounds in
      let counts = fold-append counted_in d1.faults a.rounds b.rounds in
      let calls = flat_map-append calls_in a.rounds b.rounds in
      record {
        rounds = a.rounds ++ b.rounds;
        each = all_both (IsRound may) a.rounds b.rounds a.each b.each;
        made = subst (λ (cs : List Call). Made start old new cs)
            (ap (λ (cs : List Call). cs ++ (flat_map calls_in b.rounds ++ last)) (append-nil (flat_map calls_in a.rounds))
            ∙ sym (append_assoc (flat_map calls_in a.rounds) (flat_map calls_in b.rounds) last)
            ∙ ap (λ (cs : List Call). cs ++ last) (sym calls))
            (made_both start old mid new (flat_map calls_in a.rounds ++ []) (flat_map calls_in b.rounds ++ last) a.made
            b.made);
        drawn = let p = a.drawn in let q = b.drawn in omega (arith, p, q);
        door = subst (λ (it : List (List ℕ) × List ℕ × ℕ). Passes d1 it.0 it.1 it.2 d3)
            (λ i. (sym lines i, sym taken i, sym counts i))
            (passes_both d1 d2 d3 (flat_map lines_in a.rounds) (flat_map lines_in b.rounds)
            (flat_map taken_in a.rounds) (flat_map taken_in b.rounds)
            (fold counted_in d1.faults a.rounds) b.rounds a.door b.door);
      }

  -- what a round says behind the question whether to stop is a round
  a_round : (old mid new : Knowledge Entry) (d1 d2 : Doorway) → Made start old mid (asked false ∷ [])
      → old.drawn ≤ mid.drawn → Hears start may mid d1 new d2 → Attending start may old d1 [] new d2
  a_round old mid new d1 d2 made drawn h = record {
    rounds = h.round ∷ [];
    each = (h.is, tt);
    made = subst (λ (cs : List Call). Made start old new cs)
        (sym (append-nil (calls_in h.round ++ []) ∙ append-nil (calls_in h.round)))
        (made_both start old mid new (asked false ∷ []) _ made h.made);
    drawn = let q = h.drawn in omega (arith, drawn, q);
    door = subst (λ (it : List (List ℕ) × List ℕ). Passes d1 it.0 it.1 (counted_in d1.faults h.round) d2)
        (λ i. (sym (append-nil (lines_in h.round)) i, sym (append-nil (taken_in h.round)) i))
        h.door;
  }

  -- the node is to stop
  pub stops_at : (turns : ℕ) (old new : Knowledge Entry) (d : Doorway) → Made start old new (asked true ∷ [])
      → old.drawn ≤ new.drawn → Attends start turns may old d attended.Stopped new d
  stops_at turns old new d made drawn =
      record { attending = calls_alone old new d (asked true ∷ []) made drawn; reason = tt }

  -- attending is over behind a round, or goes on
  over_at : (turns : ℕ) (old new : Knowledge Entry) (d1 d2 : Doorway) (result : Option Attended)
      → Attending start may old d1 [] new d2 → IfSome result (λ why. IsFull turns new why)
      → Follows start turns may old d1 result new d2
  over_at turns old new d1 d2 None a full = a
  over_at turns old new d1 d2 (Some attended.Stopped) a full = absurd full
  over_at turns old new d1 d2 (Some (attended.StoreFull n)) a full = record { attending = a; reason = full }

  pub round_follows : (turns : ℕ) (old mid new : Knowledge Entry) (d1 d2 : Doorway) (result : Option Attended)
      → Made start old mid (asked false ∷ []) → old.drawn ≤ mid.drawn → Hears start may mid d1 new d2
      → IfSome result (λ why. IsFull turns new why) → Follows start turns may old d1 result new d2
  round_follows turns old mid new d1 d2 result made drawn h full =
      over_at turns old new d1 d2 result (a_round old mid new d1 d2 made drawn h) full

  -- or behind rounds before
  pub over_behind : (turns : ℕ) (old mid new : Knowledge Entry) (d1 d2 d3 : Doorway) (why : Attended)
      → Attending start may old d1 [] mid d2 → Attends start turns may mid d2 why new d3
      → Attends start turns may old d1 why new d3
  over_behind turns old mid new d1 d2 d3 why a b = record {
    attending = attending_both old mid new d1 d2 d3 (last_calls why) a b.attending;
    reason = b.reason;
  }

-- if all turns are drawn attending is over
module _ {B K : Type 0} (store : Store B K) (may : ℕ → Bool) where
  pub full_on : (old new : Pass Entry) (d : Doorway) (n : ℕ) → Refused store old (refused.StoreFull n) new
      → Attends (start_of store) (turns_of store) may (known old) d (attended.StoreFull n) (known new) d
  full_on old new d n r =
      let same = ap (λ (k : Knowledge Entry). k.drawn) r.why.2 in
      let most = r.why.1 in
      record {
        attending = calls_alone (start_of store) may (known old) (known new) d [] r.made (omega (arith, same, most));
        reason = (r.why.0, same);
      }
