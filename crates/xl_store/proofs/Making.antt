-- What a pass made, call by call.
use Rattle.std.proofs.Common.{◌≡◌, ℕ, ◌+◌, ◌≤◌, List, [], ◌∷◌, ◌++◌, length, refl, sym, ap, ◌∙◌, subst, arith, append_assoc, append-nil, length-append, Some}
use Rattle.std.specs.Prelude.{slice_get}
use mathlib.Core.List.{IsPrefix}
use Rattle.xl_turns.specs.declared.view.Knowledge.{Knowledge}
use Rattle.xl_turns.specs.Histories.{Runs}
use Rattle.xl_turns.specs.Knowing.{with_drawn, after_turn}
use Rattle.xl_turns.proofs.Prefixes.{prefix_all, prefix_trans}
use Rattle.xl_core.specs.Answers.{Answer}
use Rattle.xl_core.specs.Core.{Core}
use Rattle.xl_store.specs.declared.entry.Entry.{Entry}
use Rattle.xl_store.specs.Entries.{reply_of, Leads}
use Rattle.xl_store.specs.Calls.{Call, calls_of, Rise, StandAt, Made}
use Rattle.xl_store.proofs.Journals.{after_all, after_runs, calls_append, length_calls, get_last, stand_in_longer, stand_both}

-- first some places, then others
pub rise_both : (a b c : ℕ) (ps qs : List ℕ) → Rise a ps b → Rise b qs c → Rise a (ps ++ qs) c
rise_both a b c [] [] h k = omega (arith, h, k)
rise_both a b c [] (q ∷ qs) h k = let low = k.0 in (omega (arith, h, low), k.1)
rise_both a b c (p ∷ ps) qs h k = (h.0, rise_both (p + 1) b c ps qs h.1 k)

-- between wider ends
pub rise_wider : (a b a' b' : ℕ) (ps : List ℕ) → a' ≤ a → b ≤ b' → Rise a ps b → Rise a' ps b'
rise_wider a b a' b' [] p q h = omega (arith, h)
rise_wider a b a' b' (x ∷ ps) p q h =
    let low = h.0 in (omega (arith, low), rise_wider (x + 1) b (x + 1) b' ps (omega arith) q h.1)

pub prefix_length : (xs ys : List Entry) → IsPrefix xs ys → length xs ≤ length ys
prefix_length xs ys p = omega (arith, ap (length {A = Entry}) p.1, length-append xs p.0)

-- nothing was done
pub made_none : (start : Core) (old new : Knowledge Entry) → new.seen ≡ old.seen → new.mine ≡ old.mine
    → new.share ≡ old.share → Made start old new []
made_none start old new seen mine share = record {
  places = [];
  mine = mine ∙ sym (append-nil old.mine);
  rise = omega (arith, ap (length {A = Entry}) seen);
  stand = refl;
  begins = subst (λ (s : List Entry). IsPrefix old.seen s) (sym seen) (prefix_all old.seen);
  share = share;
}

-- first some calls, then others
pub made_both : (start : Core) (old mid new : Knowledge Entry) (xs ys : List Call) → Made start old mid xs
    → Made start mid new ys → Made start old new (xs ++ ys)
made_both start old mid new xs ys a b = record {
  places = a.places ++ b.places;
  mine = b.mine ∙ ap (λ (l : List ℕ). l ++ b.places) a.mine ∙ append_assoc old.mine a.places b.places;
  rise = rise_both (length old.seen) (length mid.seen) (length new.seen) a.places b.places a.rise b.rise;
  stand = stand_both start new.seen a.places b.places xs ys
      (stand_in_longer start mid.seen new.seen a.places xs b.begins a.stand) b.stand;
  begins = prefix_trans old.seen mid.seen new.seen a.begins b.begins;
  share = b.share ∙ a.share;
}

-- the last call of a history
last_call : (start found : Core) (earlier : List Entry) (e : Entry) (answer : Answer) → Runs Leads start earlier found
    → (reply_of found e).answer ≡ answer
    → StandAt start (earlier ++ e ∷ []) (length earlier ∷ []) (record { event = e.event; answer = answer } ∷ [])
last_call start found earlier e answer runs said =
    let call : Call = record { event = e.event; answer = (reply_of (after_all start earlier) e).answer } in
    let here : slice_get (calls_of start (earlier ++ e ∷ [])) (length earlier) ≡ Some call =
    ap (λ (cs : List Call). slice_get cs (length earlier)) (calls_append start earlier (e ∷ []))
    ∙ ap (slice_get (calls_of start earlier ++ call ∷ [])) (sym (length_calls start earlier))
    ∙ get_last (calls_of start earlier) [] call in
    let same : (reply_of (after_all start earlier) e).answer ≡ answer =
    ap (λ (c : Core). (reply_of c e).answer) (after_runs start found earlier runs) ∙ said in
    ap (λ o. o ∷ []) (here ∙ ap (λ (a : Answer). Some (record { event = e.event; answer = a })) same)

-- a turn was taken
pub made_one : (start found : Core) (old new : Knowledge Entry) (earlier : List Entry) (e : Entry) (answer : Answer)
    → IsPrefix old.seen earlier
    → Runs Leads start earlier found
    → new ≡ after_turn (with_drawn old (length earlier + 1)) (length earlier) (earlier ++ e ∷ [])
    → (reply_of found e).answer ≡ answer
    → Made start old new (record { event = e.event; answer = answer } ∷ [])
made_one start found old new earlier e answer begins runs is said =
    let seen : new.seen ≡ earlier ++ e ∷ [] = ap (λ (k : Knowledge Entry). k.seen) is in
    record {
      places = length earlier ∷ [];
      mine = ap (λ (k : Knowledge Entry). k.mine) is;
      rise = (
        prefix_length old.seen earlier begins,
        omega (arith, ap (length {A = Entry}) seen, length-append earlier (e ∷ [])),
      );
      stand = subst
          (λ (s : List Entry). StandAt start s (length earlier ∷ []) (record { event = e.event; answer = answer } ∷ []))
          (sym seen) (last_call start found earlier e answer runs said);
      begins = subst (λ (s : List Entry). IsPrefix old.seen s) (sym seen)
          (prefix_trans old.seen earlier (earlier ++ e ∷ []) begins (e ∷ [], refl));
      share = ap (λ (k : Knowledge Entry). k.share) is;
    }
