-- A line that says something ends in a visible byte or a blank.
use Rattle.std.proofs.Common.{◌≡◌, ◌+◌, ℕ, Bool, true, false, cond, nat_lt, List, [], ◌∷◌, length, Option, Some, None, Ok, Err, refl, subst, decimal, codes}
use Rattle.std.specs.Str.{bytes_eq}
use Rattle.xl_base.specs.declared.ids.LedgerId.{LedgerId}
use Rattle.xl_sched.specs.declared.event.Ask.{Ask}
use Rattle.xl_sched.specs.declared.event.Ask.TheVariants as ask
use Rattle.xl_sched.specs.declared.event.Lied.{Lied}
use Rattle.xl_sched.specs.declared.event.Lied.TheVariants as lied
use Rattle.xl_sched.specs.declared.event.What.{What}
use Rattle.xl_sched.specs.declared.event.What.TheVariants as what
use Rattle.xl_sched.specs.declared.refusal.SchedRefusal.TheVariants as refusal
use Rattle.xl_sched.specs.declared.word.LieWord.{LieWord}
use Rattle.xl_sched.specs.declared.word.LieWord.TheVariants as word
use Rattle.xl_sched.specs.Limits.{most_lists}
use Rattle.xl_sched.specs.Refusals.{◌>>=◌}
use Rattle.xl_sched.specs.Numbers.{number_of, place_of}
use Rattle.xl_sched.specs.Choices.{full_of, new_of}
use Rattle.xl_sched.specs.Names.{ledger_id_of, set_id_of, tx_id_of}
use Rattle.xl_sched.specs.Ledgers.{ledger_of}
use Rattle.xl_sched.specs.Members.{declared_of, members_of, trusted_of}
use Rattle.xl_sched.specs.TxSets.{tx_set_of}
use Rattle.xl_sched.specs.Events.{asked_issue, asked_timer, deliver_event, greet_event, heard_event, issue_event, list_event, peer_of, prefer_event, raw_bytes_of, raw_event, restart_event, set_list, submit_event, timer_event}
use Rattle.xl_sched.specs.Saves.{ask_of, disturbed_of, held_of, may_ask}
use Rattle.xl_sched.specs.Lies.{lie_event, lie_of, lie_word, lied_of, may_say, pair_of, said_header, said_proposal, said_tx, said_tx_set, said_validation, told_if, validation_of}
use Rattle.xl_sched.specs.Reading.{Reading}
use Rattle.xl_spelling.proofs.Parts.{Gives, passed_by, steps}
use Rattle.xl_spelling.proofs.Visible.{AreSpelled, Ink, declared-ink, kind-ink, ledger-ink, ledger_id-ink, members-ink, number-inked, peer-ink, place-ink, raw-ink, tx_id-ink, tx_set-ink}

-- the last token has visible bytes alone
abbrev pub EndsInk : List (List ℕ) → Type 0
EndsInk [] = Unit {0}
EndsInk (t ∷ []) = Ink t
EndsInk (t ∷ next ∷ ts) = EndsInk (next ∷ ts)

module _ (reading : Reading) (are : AreSpelled reading.names) (token : List ℕ) where
  -- ---- what is asked

  issue-ends : (old : List (List ℕ)) (a : Ask) → asked_issue reading old ≡ Ok a → EndsInk (token ∷ old)
  issue-ends (number ∷ sequence ∷ id ∷ kind ∷ []) a e =
      let n = steps (declared_of reading.nodes number) (λ node. number_of sequence >>= (λ seq. ledger_id_of reading.names id >>= (λ ledger. full_of kind >>= (λ full. Ok (ask.Issue node seq ledger full))))) a e in
      let s = steps (number_of sequence) (λ seq. ledger_id_of reading.names id >>= (λ ledger. full_of kind >>= (λ full. Ok (ask.Issue n.value seq ledger full)))) a n.rest in
      let l = steps (ledger_id_of reading.names id) (λ ledger. full_of kind >>= (λ full. Ok (ask.Issue n.value s.value ledger full))) a s.rest in
      let f = steps (full_of kind) (λ full. Ok (ask.Issue n.value s.value l.value full)) a l.rest in
      kind-ink kind f.value f.gave
  issue-ends other a e = absurd (cc)

  timer-ends : (old : List (List ℕ)) (a : Ask) → asked_timer reading old ≡ Ok a → EndsInk (token ∷ old)
  timer-ends (number ∷ []) a e =
      let n = steps (declared_of reading.nodes number) (λ node. Ok (ask.Timer node)) a e in
      declared-ink reading.nodes number n.value n.gave
  timer-ends other a e = absurd (cc)

  ask-ends : (old : List (List ℕ)) (a : Ask) → ask_of reading token old ≡ Ok a → EndsInk (token ∷ old)
  ask-ends old a e =
      elim (bytes_eq token (codes "issue")) as (λ b. Gives (cond b (asked_issue reading old) (cond (bytes_eq token (codes "timer")) (asked_timer reading old) (Err (refusal.Choice token)))) a → EndsInk (token ∷ old)) [
        | true ↦ λ k. issue-ends old a k
        | false ↦ λ k. timer-ends old a (passed_by (bytes_eq token (codes "timer")) (asked_timer reading old) a (refusal.Choice token) k).1
      ] e

  -- ---- lies

  proposal-ends : (old : List (List ℕ)) (l : Lied) → said_proposal reading.names old ≡ Ok l → EndsInk (token ∷ old)
  proposal-ends (before ∷ position ∷ changes ∷ second ∷ made ∷ []) l e =
      let p = steps (ledger_id_of reading.names before) (λ prev. set_id_of reading.names position >>= (λ set. number_of changes >>= (λ pseq. number_of second >>= (λ close. number_of made >>= (λ time. Ok (lied.Proposal (record { prev = prev; set = set; pseq = pseq; close = close; time = time }))))))) l e in
      let s = steps (set_id_of reading.names position) (λ set. number_of changes >>= (λ pseq. number_of second >>= (λ close. number_of made >>= (λ time. Ok (lied.Proposal (record { prev = p.value; set = set; pseq = pseq; close = close; time = time })))))) l p.rest in
      let q = steps (number_of changes) (λ pseq. number_of second >>= (λ close. number_of made >>= (λ time. Ok (lied.Proposal (record { prev = p.value; set = s.value; pseq = pseq; close = close; time = time }))))) l s.rest in
      let c = steps (number_of second) (λ close. number_of made >>= (λ time. Ok (lied.Proposal (record { prev = p.value; set = s.value; pseq = q.value; close = close; time = time })))) l q.rest in
      let m = steps (number_of made) (λ time. Ok (lied.Proposal (record { prev = p.value; set = s.value; pseq = q.value; close = c.value; time = time }))) l c.rest in
      number-inked made m.value m.gave
  proposal-ends other l e = absurd (cc)

  -- the word and the last two tokens of a validation, of which the last may be lacking
  validation_parts-end : (sequence id second kind : List ℕ) (told : Option (List ℕ)) (l : Lied) → validation_of reading.names sequence id second kind (told_if reading.names told) ≡ Ok l → Ink kind × ((t : List ℕ) → told ≡ Some t → Ink t)
  validation_parts-end sequence id second kind told l e =
      let s = steps (number_of sequence) (λ seq. ledger_id_of reading.names id >>= (λ ledger. number_of second >>= (λ signed. full_of kind >>= (λ full. told_if reading.names told >>= (λ validated. Ok (lied.Validation (record { id = ledger; seq = seq; signed = signed; full = full; validated = validated }))))))) l e in
      let i = steps (ledger_id_of reading.names id) (λ ledger. number_of second >>= (λ signed. full_of kind >>= (λ full. told_if reading.names told >>= (λ validated. Ok (lied.Validation (record { id = ledger; seq = s.value; signed = signed; full = full; validated = validated })))))) l s.rest in
      let g = steps (number_of second) (λ signed. full_of kind >>= (λ full. told_if reading.names told >>= (λ validated. Ok (lied.Validation (record { id = i.value; seq = s.value; signed = signed; full = full; validated = validated }))))) l i.rest in
      let f = steps (full_of kind) (λ full. told_if reading.names told >>= (λ validated. Ok (lied.Validation (record { id = i.value; seq = s.value; signed = g.value; full = full; validated = validated })))) l g.rest in
      let t = steps (told_if reading.names told) (λ validated. Ok (lied.Validation (record { id = i.value; seq = s.value; signed = g.value; full = f.value; validated = validated }))) l f.rest in
      (kind-ink kind f.value f.gave, told-ink told t.value t.gave)
    where
      told-ink : (told : Option (List ℕ)) (validated : Option LedgerId) → told_if reading.names told ≡ Ok validated → (t : List ℕ) → told ≡ Some t → Ink t
      told-ink None validated e t is = absurd (cc)
      told-ink (Some token) validated e t is =
          let i = steps (ledger_id_of reading.names token) (λ id. Ok (Some id)) validated e in
          subst Ink (cc is) (ledger_id-ink reading.names are token i.value i.gave)

  validation-ends : (old : List (List ℕ)) (l : Lied) → said_validation reading.names old ≡ Ok l → EndsInk (token ∷ old)
  validation-ends (sequence ∷ id ∷ second ∷ kind ∷ []) l e = (validation_parts-end sequence id second kind None l e).0
  validation-ends (sequence ∷ id ∷ second ∷ kind ∷ told ∷ []) l e = (validation_parts-end sequence id second kind (Some told) l e).1 told refl
  validation-ends other l e = absurd (cc)

  header-ends : (old : List (List ℕ)) (l : Lied) → said_header reading.names old ≡ Ok l → EndsInk (token ∷ old)
  header-ends (name ∷ []) l e =
      let h = steps (ledger_of reading.names name) (λ ledger. Ok (lied.Header name ledger.header)) l e in
      ledger-ink reading.names are name h.value h.gave
  header-ends other l e = absurd (cc)

  tx_set-ends : (old : List (List ℕ)) (l : Lied) → said_tx_set reading.names old ≡ Ok l → EndsInk (token ∷ old)
  tx_set-ends (ids ∷ []) l e =
      let i = steps (tx_set_of reading.names ids) (λ ids. Ok (lied.TxSet ids)) l e in
      tx_set-ink reading.names are ids i.value i.gave
  tx_set-ends other l e = absurd (cc)

  tx-ends : (old : List (List ℕ)) (l : Lied) → said_tx reading.names old ≡ Ok l → EndsInk (token ∷ old)
  tx-ends (id ∷ []) l e =
      let i = steps (tx_id_of reading.names id) (λ id. Ok (lied.Tx id)) l e in
      tx_id-ink reading.names are id i.value i.gave
  tx-ends other l e = absurd (cc)

  lied-ends : (w : Option LieWord) (old : List (List ℕ)) (l : Lied) → lied_of reading.names w token old ≡ Ok l → EndsInk (token ∷ old)
  lied-ends None old l e = absurd (cc)
  lied-ends (Some word.Proposal) old l e = proposal-ends old l e
  lied-ends (Some word.Validation) old l e = validation-ends old l e
  lied-ends (Some word.Header) old l e = header-ends old l e
  lied-ends (Some word.TxSet) old l e = tx_set-ends old l e
  lied-ends (Some word.Tx) old l e = tx-ends old l e

module _ (reading : Reading) (are : AreSpelled reading.names) (sent : ℕ) (token : List ℕ) where
  -- ---- what happens

  pub issue_event-ends : (old : List (List ℕ)) (w : What) → issue_event reading old ≡ Ok w → EndsInk (token ∷ old)
  issue_event-ends old w e =
      let a = steps (asked_issue reading old) (λ a. Ok (what.Ask a)) w e in
      issue-ends reading are token old a.value a.gave

  pub timer_event-ends : (old : List (List ℕ)) (w : What) → timer_event reading old ≡ Ok w → EndsInk (token ∷ old)
  timer_event-ends old w e =
      let a = steps (asked_timer reading old) (λ a. Ok (what.Ask a)) w e in
      timer-ends reading are token old a.value a.gave

  pub submit-ends : (old : List (List ℕ)) (w : What) → submit_event reading old ≡ Ok w → EndsInk (token ∷ old)
  submit-ends (number ∷ id ∷ []) w e =
      let n = steps (declared_of reading.nodes number) (λ node. tx_id_of reading.names id >>= (λ tx. Ok (what.Submit node tx))) w e in
      let i = steps (tx_id_of reading.names id) (λ tx. Ok (what.Submit n.value tx)) w n.rest in
      tx_id-ink reading.names are id i.value i.gave
  submit-ends other w e = absurd (cc)

  pub deliver-ends : (old : List (List ℕ)) (w : What) → deliver_event sent old ≡ Ok w → EndsInk (token ∷ old)
  deliver-ends (number ∷ []) w e =
      let p = steps (place_of sent number) (λ place. Ok (what.Deliver place)) w e in
      place-ink sent number p.value p.gave
  deliver-ends other w e = absurd (cc)

  pub greet-ends : (old : List (List ℕ)) (w : What) → greet_event reading old ≡ Ok w → EndsInk (token ∷ old)
  greet-ends (number ∷ other ∷ []) w e =
      let n = steps (declared_of reading.nodes number) (λ node. peer_of reading node other >>= (λ peer. Ok (what.Greet node peer))) w e in
      let p = steps (peer_of reading n.value other) (λ peer. Ok (what.Greet n.value peer)) w n.rest in
      peer-ink reading n.value other p.value p.gave
  greet-ends other w e = absurd (cc)

  -- a line of one number, which is a declared node's
  of_node-ends : (f : ℕ → What) (number : List ℕ) (w : What) → (declared_of reading.nodes number >>= (λ node. Ok (f node))) ≡ Ok w → Ink number
  of_node-ends f number w e =
      let n = steps (declared_of reading.nodes number) (λ node. Ok (f node)) w e in
      declared-ink reading.nodes number n.value n.gave

  pub restart-ends : (old : List (List ℕ)) (w : What) → restart_event reading old ≡ Ok w → EndsInk (token ∷ old)
  restart-ends (number ∷ []) w e = of_node-ends (λ node. what.Restart node) number w e
  restart-ends other w e = absurd (cc)

  pub prefer-ends : (old : List (List ℕ)) (w : What) → prefer_event reading old ≡ Ok w → EndsInk (token ∷ old)
  prefer-ends (number ∷ []) w e = of_node-ends (λ node. what.Prefer node) number w e
  prefer-ends other w e = absurd (cc)

  pub heard-ends : (old : List (List ℕ)) (w : What) → heard_event reading old ≡ Ok w → EndsInk (token ∷ old)
  heard-ends (number ∷ []) w e = of_node-ends (λ node. what.Heard node) number w e
  heard-ends other w e = absurd (cc)

  pub raw-ends : (old : List (List ℕ)) (w : What) → raw_event reading old ≡ Ok w → EndsInk (token ∷ old)
  raw-ends (honest ∷ digits ∷ []) w e =
      let n = steps (declared_of reading.nodes honest) (λ to. raw_bytes_of digits >>= (λ bytes. Ok (what.Raw to bytes))) w e in
      let r = steps (raw_bytes_of digits) (λ bytes. Ok (what.Raw n.value bytes)) w n.rest in
      raw-ink digits r.value r.gave
  raw-ends other w e = absurd (cc)

  set_list-ends : (old : List (List ℕ)) (w : What) → set_list reading old ≡ Ok w → EndsInk (token ∷ old)
  set_list-ends (number ∷ quorum ∷ members ∷ []) w e =
      let n = steps (declared_of reading.nodes number) (λ node. number_of quorum >>= (λ least. members_of members >>= (λ numbers. trusted_of numbers least >>= (λ list. Ok (what.List node list))))) w e in
      let q = steps (number_of quorum) (λ least. members_of members >>= (λ numbers. trusted_of numbers least >>= (λ list. Ok (what.List n.value list)))) w n.rest in
      let m = steps (members_of members) (λ numbers. trusted_of numbers q.value >>= (λ list. Ok (what.List n.value list))) w q.rest in
      members-ink members m.value m.gave
  set_list-ends other w e = absurd (cc)

  pub list-ends : (old : List (List ℕ)) (w : What) → list_event reading old ≡ Ok w → EndsInk (token ∷ old)
  list-ends old w e =
      set_list-ends old w (passed_by (nat_lt reading.lists most_lists) (set_list reading old) w (refusal.Limit (decimal most_lists)) e).1

  -- a save that is cut off, or fails
  pub save-ends : (old : List (List ℕ)) (save : Bool × Ask) → disturbed_of reading old ≡ Ok save → EndsInk (token ∷ old)
  save-ends (held ∷ asking ∷ asked) save e =
      let counted = passed_by (may_ask asking (length asked)) (held_of held (ask_of reading asking asked)) save (refusal.Count (decimal (length (held ∷ asking ∷ asked) + 1))) e in
      let h = steps (new_of held) (λ new. ask_of reading asking asked >>= (λ a. Ok (new, a))) save counted.1 in
      let a = steps (ask_of reading asking asked) (λ a. Ok (h.value, a)) save h.rest in
      ask-ends reading are asking asked a.value a.gave
  save-ends other save e = absurd (cc)

  pub lie-ends : (old : List (List ℕ)) (w : What) → lie_event reading old ≡ Ok w → EndsInk (token ∷ old)
  lie-ends (liar ∷ honest ∷ telling ∷ said) w e =
      let counted = passed_by (may_say (lie_word telling) (length said)) (lie_of (pair_of reading liar honest) (lied_of reading.names (lie_word telling) telling said)) w (refusal.Count (decimal (length (liar ∷ honest ∷ telling ∷ said) + 1))) e in
      let p = steps (pair_of reading liar honest) (λ members. lied_of reading.names (lie_word telling) telling said >>= (λ lie. Ok (what.Lie members.0 members.1 lie))) w counted.1 in
      let l = steps (lied_of reading.names (lie_word telling) telling said) (λ lie. Ok (what.Lie p.value.0 p.value.1 lie)) w p.rest in
      lied-ends reading are telling (lie_word telling) said l.value l.gave
  lie-ends other w e = absurd (cc)
