-- What a node is asked, and a save that is disturbed, said again.
use Rattle.std.proofs.Common.{◌≡◌, ◌+◌, inl, inr, ℕ, suc, Bool, true, false, cond, List, [], ◌∷◌, length, Result, Ok, Err, refl, ap, sym, ◌∙◌, subst, arith, decimal, codes}
use Rattle.std.specs.Str.{bytes_eq}
use Rattle.hex.specs.Hex.{encode_lower}
use Rattle.xl_base.specs.declared.ids.LedgerId.{LedgerId}
use Rattle.xl_sched.specs.declared.event.Ask.{Ask}
use Rattle.xl_sched.specs.declared.event.Ask.TheVariants as ask
use Rattle.xl_sched.specs.declared.named.Named.{Named}
use Rattle.xl_sched.specs.declared.refusal.SchedRefusal.{SchedRefusal}
use Rattle.xl_sched.specs.declared.refusal.SchedRefusal.TheVariants as refusal
use Rattle.xl_sched.specs.Refusals.{◌>>=◌}
use Rattle.xl_sched.specs.Numbers.{number_of}
use Rattle.xl_sched.specs.Choices.{full_of, new_of}
use Rattle.xl_sched.specs.Names.{ledger_id_of}
use Rattle.xl_sched.specs.Members.{declared_of}
use Rattle.xl_sched.specs.Events.{asked_issue, asked_timer}
use Rattle.xl_sched.specs.Saves.{may_ask, ask_of, held_of, disturbed_of}
use Rattle.xl_sched.specs.Reading.{Reading}
use Rattle.xl_spelling.specs.Spellings.{held_word, ask_words}
use Rattle.xl_base.specs.Ids.{IsId}
use Rattle.xl_spelling.specs.Stored.{IsStoredAsk}
use Rattle.xl_spelling.proofs.Parts.{Gives, steps, same-ok, passed_by, declared-same, number-same, kind-same, held-same, same_bytes, id-read}
use Rattle.xl_spelling.proofs.Small.{IsSmall, small-inked, declared-small, number-small, id-small, kind-small, held-small, inked, AreLike, like-more, like-widen}

-- what is said is said again by tokens of which these are the spelling
pub record IsAgain {W : Type 0} (spelled : W → List (List ℕ)) (read : List (List ℕ) → Result W SchedRefusal) (word : List ℕ) (most : ℕ) (old : List (List ℕ)) (w : W) : Type 0 where
  pub arguments : List (List ℕ)
  pub words : spelled w ≡ word ∷ arguments
  pub same : read arguments ≡ Ok w
  pub count : length arguments ≡ length old
  pub like : AreLike most old arguments

-- the digits of a ledger's id are that id
pub ledger_id-read : (names : List Named) (t : List ℕ) (id : LedgerId) → IsId id.0 → ledger_id_of names t ≡ Ok id → ledger_id_of names (encode_lower id.0) ≡ ledger_id_of names t
ledger_id-read names t id h e = ap (λ read. read >>= (λ i. Ok (record { 0 = i }))) (id-read names id.0 h) ∙ sym e

pub issue-again : (reading : Reading) (old : List (List ℕ)) (a : Ask) → asked_issue reading old ≡ Ok a → IsStoredAsk a → IsAgain ask_words (asked_issue reading) (codes "issue") 100 old a
issue-again reading (number ∷ sequence ∷ id ∷ kind ∷ []) a e stored =
    let n = steps (declared_of reading.nodes number) (λ node. number_of sequence >>= (λ seq. ledger_id_of reading.names id >>= (λ ledger. full_of kind >>= (λ full. Ok (ask.Issue node seq ledger full))))) a e in
    let s = steps (number_of sequence) (λ seq. ledger_id_of reading.names id >>= (λ ledger. full_of kind >>= (λ full. Ok (ask.Issue n.value seq ledger full)))) a n.rest in
    let l = steps (ledger_id_of reading.names id) (λ ledger. full_of kind >>= (λ full. Ok (ask.Issue n.value s.value ledger full))) a s.rest in
    let f = steps (full_of kind) (λ full. Ok (ask.Issue n.value s.value l.value full)) a l.rest in
    let is = same-ok (ask.Issue n.value s.value l.value f.value) a f.rest in
    let fits : IsId l.value.0 = subst IsStoredAsk (sym is) stored in
    let digits = encode_lower l.value.0 in
    let node = declared-same reading.nodes number n.value n.gave in
    let seq = number-same sequence s.value s.gave in
    let full = kind-same kind f.value f.gave in
    let node-small = declared-small reading.nodes number n.value n.gave in
    let seq-small = number-small sequence s.value s.gave in
    let digits-small = id-small l.value.0 fits in
    let full-small : IsSmall 7 kind = subst (IsSmall 7) full (kind-small f.value) in
    record {
      arguments = number ∷ sequence ∷ digits ∷ kind ∷ [];
      words = ap ask_words (sym is) ∙ cc (node, seq, full);
      count = refl;
      same =
          ap (λ read. declared_of reading.nodes number >>= (λ node. number_of sequence >>= (λ seq. read >>= (λ ledger. full_of kind >>= (λ full. Ok (ask.Issue node seq ledger full))))))
          (ledger_id-read reading.names id l.value fits l.gave)
          ∙ e;
      like = inr (
        (small-inked 10 number node-small, (small-inked 10 sequence seq-small, (small-inked 64 digits digits-small, (small-inked 7 kind full-small, tt)))),
        omega (arith, node-small.few, seq-small.few, digits-small.few, full-small.few),
      );
    }
issue-again reading other a e stored = absurd (cc)

pub timer-again : (reading : Reading) (old : List (List ℕ)) (a : Ask) → asked_timer reading old ≡ Ok a → IsAgain ask_words (asked_timer reading) (codes "timer") 100 old a
timer-again reading (number ∷ []) a e =
    let n = steps (declared_of reading.nodes number) (λ node. Ok (ask.Timer node)) a e in
    let is = same-ok (ask.Timer n.value) a n.rest in
    let node = declared-same reading.nodes number n.value n.gave in
    record {
      arguments = number ∷ [];
      words = ap ask_words (sym is) ∙ cc node;
      same = e;
      count = refl;
      like = inl refl;
    }
timer-again reading other a e = absurd (cc)

-- what is asked, of either word, said again
pub record IsAskAgain (reading : Reading) (word : List ℕ) (old : List (List ℕ)) (a : Ask) : Type 0 where
  pub arguments : List (List ℕ)
  pub words : ask_words a ≡ word ∷ arguments
  pub same : ask_of reading word arguments ≡ Ok a
  pub count : length arguments ≡ length old
  pub like : AreLike 100 old arguments
  pub small : IsSmall 5 word

pub ask-again : (reading : Reading) (word : List ℕ) (old : List (List ℕ)) (a : Ask) → ask_of reading word old ≡ Ok a → IsStoredAsk a → IsAskAgain reading word old a
ask-again reading word old a e stored =
    elim (bytes_eq word (codes "issue")) as (λ b. bytes_eq word (codes "issue") ≡ b → Gives (cond b (asked_issue reading old) (cond (bytes_eq word (codes "timer")) (asked_timer reading old) (Err (refusal.Choice word)))) a → IsAskAgain reading word old a) [
      | true ↦ λ q h.
          let again = issue-again reading old a h stored in
          subst (λ w. IsAskAgain reading w old a) (same_bytes word (codes "issue") q) (record {
            arguments = again.arguments;
            words = again.words;
            same = again.same;
            count = again.count;
            like = again.like;
            small = record { some = omega arith; few = omega arith; ink = inked (codes "issue") refl };
          })
      | false ↦ λ _ h.
          elim (bytes_eq word (codes "timer")) as (λ b. bytes_eq word (codes "timer") ≡ b → Gives (cond b (asked_timer reading old) (Err (refusal.Choice word))) a → IsAskAgain reading word old a) [
            | true ↦ λ q k.
                let again = timer-again reading old a k in
                subst (λ w. IsAskAgain reading w old a) (same_bytes word (codes "timer") q) (record {
                  arguments = again.arguments;
                  words = again.words;
                  same = again.same;
                  count = again.count;
                  like = again.like;
                  small = record { some = omega arith; few = omega arith; ink = inked (codes "timer") refl };
                })
            | false ↦ λ _ k. absurd (cc)
          ] refl h
    ] refl e

-- what a keeper then holds, and what is asked, said again
pub record IsSaveAgain (reading : Reading) (old : List (List ℕ)) (save : Bool × Ask) : Type 0 where
  pub arguments : List (List ℕ)
  pub words : held_word save.0 ∷ ask_words save.1 ≡ arguments
  pub same : disturbed_of reading arguments ≡ Ok save
  pub count : length arguments ≡ length old
  pub like : AreLike 120 old arguments

pub save-again : (reading : Reading) (old : List (List ℕ)) (save : Bool × Ask) → disturbed_of reading old ≡ Ok save → IsStoredAsk save.1 → IsSaveAgain reading old save
save-again reading (held ∷ word ∷ asked) save e stored =
    let counted = passed_by (may_ask word (length asked)) (held_of held (ask_of reading word asked)) save (refusal.Count (decimal (length (held ∷ word ∷ asked) + 1))) e in
    let h = steps (new_of held) (λ new. ask_of reading word asked >>= (λ a. Ok (new, a))) save counted.1 in
    let a = steps (ask_of reading word asked) (λ a. Ok (h.value, a)) save h.rest in
    let is = same-ok (h.value, a.value) save a.rest in
    let fits : IsStoredAsk a.value = subst IsStoredAsk (ap (λ (s : Bool × Ask). s.1) (sym is)) stored in
    let again = ask-again reading word asked a.value a.gave fits in
    let new = held-same held h.value h.gave in
    record {
      arguments = held ∷ word ∷ again.arguments;
      words = ap (λ (s : Bool × Ask). held_word s.0 ∷ ask_words s.1) (sym is) ∙ cc (new, again.words);
      same =
          ap (λ b. cond b (held_of held (ask_of reading word again.arguments)) (Err (refusal.Count (decimal (length (held ∷ word ∷ again.arguments) + 1))))) (ap (may_ask word) again.count ∙ counted.0)
          ∙ ap (λ read. held_of held read) (again.same ∙ sym a.gave)
          ∙ counted.1;
      count = ap (λ n. suc (suc n)) again.count;
      like = like-widen 110 120 _ _ (omega arith) (like-more 106 3 held _ _ (subst (IsSmall 3) new (held-small h.value)) (like-more 100 5 word asked again.arguments again.small again.like));
    }
save-again reading other save e stored = absurd (cc)
