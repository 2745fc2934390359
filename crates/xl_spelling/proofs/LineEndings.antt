-- A line that says something ends in a token of visible bytes.
use Rattle.std.proofs.Common.{◌≡◌, ◌&&◌, ℕ, cond, List, [], ◌∷◌, Some, None, Ok, Err, refl, subst, decimal, codes}
use Rattle.xl_base.specs.Moments.{greatest_millis}
use Rattle.xl_ledger.specs.Limits.{least_limit}
use Rattle.xl_sched.specs.declared.event.What.{What}
use Rattle.xl_sched.specs.declared.event.What.TheVariants as what
use Rattle.xl_sched.specs.declared.line.Line.{Line}
use Rattle.xl_sched.specs.declared.line.Line.TheVariants as line
use Rattle.xl_sched.specs.declared.refusal.SchedRefusal.TheVariants as refusal
use Rattle.xl_sched.specs.declared.word.EventWord.{EventWord}
use Rattle.xl_sched.specs.declared.word.EventWord.TheVariants as event
use Rattle.xl_sched.specs.declared.word.SettingWord.{SettingWord}
use Rattle.xl_sched.specs.declared.word.SettingWord.TheVariants as setting
use Rattle.xl_sched.specs.Limits.{most_ledgers, most_names}
use Rattle.xl_sched.specs.Refusals.{◌>>=◌}
use Rattle.xl_sched.specs.Numbers.{number_of, number_within}
use Rattle.xl_sched.specs.Names.{id_of, new_name_of}
use Rattle.xl_sched.specs.Ledgers.{header_after, parent_of}
use Rattle.xl_sched.specs.Members.{members_of, new_member_of, trusted_of}
use Rattle.xl_sched.specs.Events.{all_event, drop_event, timers_event}
use Rattle.xl_sched.specs.Saves.{disturbed_of}
use Rattle.xl_sched.specs.Settings.{at_line, liar_line, limit_line, mode_of, node_line, speak_line}
use Rattle.xl_sched.specs.Naming.{has_most_names, named_ledger_line, named_line}
use Rattle.xl_sched.specs.Words.{event_at, event_line_of, event_word, is_declaration, line_of, set_line, setting_word, what_of, worded_line}
use Rattle.xl_sched.specs.Reading.{Reading}
use Rattle.xl_spelling.proofs.Parts.{Gives, steps, unstopped}
use Rattle.xl_spelling.proofs.Small.{inked}
use Rattle.xl_spelling.proofs.WordLemmas.{event_text-same}
use Rattle.xl_spelling.proofs.Visible.{AreSpelled, Ink, id-ink, members-ink, mode-ink, new_member-ink, number-inked, within-ink}
use Rattle.xl_spelling.proofs.Endings.{EndsInk, deliver-ends, greet-ends, heard-ends, issue_event-ends, lie-ends, list-ends, prefer-ends, raw-ends, restart-ends, save-ends, submit-ends, timer_event-ends}

module _ (reading : Reading) (are : AreSpelled reading.names) (sent : ℕ) (token : List ℕ) where
  -- ---- what happens

  -- a line of a word alone
  timers-ends : event_word token ≡ Some event.Timers → (old : List (List ℕ)) (w : What) → timers_event old ≡ Ok w → EndsInk (token ∷ old)
  timers-ends is [] w e = subst Ink (event_text-same token event.Timers is) (inked (codes "timers") refl)
  timers-ends is (more ∷ rest) w e = absurd (cc)

  all-ends : event_word token ≡ Some event.All → (old : List (List ℕ)) (w : What) → all_event old ≡ Ok w → EndsInk (token ∷ old)
  all-ends is [] w e = subst Ink (event_text-same token event.All is) (inked (codes "all") refl)
  all-ends is (more ∷ rest) w e = absurd (cc)

  drop-ends : event_word token ≡ Some event.Drop → (old : List (List ℕ)) (w : What) → drop_event old ≡ Ok w → EndsInk (token ∷ old)
  drop-ends is [] w e = subst Ink (event_text-same token event.Drop is) (inked (codes "drop") refl)
  drop-ends is (more ∷ rest) w e = absurd (cc)

  what-ends : (word : EventWord) → event_word token ≡ Some word → (old : List (List ℕ)) (w : What) → what_of reading sent word old ≡ Ok w → EndsInk (token ∷ old)
  what-ends event.Issue is old w e = issue_event-ends reading are sent token old w e
  what-ends event.Submit is old w e = submit-ends reading are sent token old w e
  what-ends event.Timer is old w e = timer_event-ends reading are sent token old w e
  what-ends event.Timers is old w e = timers-ends is old w e
  what-ends event.Deliver is old w e = deliver-ends reading are sent token old w e
  what-ends event.All is old w e = all-ends is old w e
  what-ends event.Drop is old w e = drop-ends is old w e
  what-ends event.Greet is old w e = greet-ends reading are sent token old w e
  what-ends event.Restart is old w e = restart-ends reading are sent token old w e
  what-ends event.Cut is old w e =
      let s = steps (disturbed_of reading old) (λ save. Ok (what.Cut save.0 save.1)) w e in
      save-ends reading are sent token old s.value s.gave
  what-ends event.Fail is old w e =
      let s = steps (disturbed_of reading old) (λ save. Ok (what.Fail save.0 save.1)) w e in
      save-ends reading are sent token old s.value s.gave
  what-ends event.Lie is old w e = lie-ends reading are sent token old w e
  what-ends event.Raw is old w e = raw-ends reading are sent token old w e
  what-ends event.Prefer is old w e = prefer-ends reading are sent token old w e
  what-ends event.List is old w e = list-ends reading are sent token old w e
  what-ends event.Heard is old w e = heard-ends reading are sent token old w e

  -- ---- lines at which nothing happens

  limit-ends : (old : List (List ℕ)) (l : Line) → limit_line reading old ≡ Ok l → EndsInk (token ∷ old)
  limit-ends (number ∷ []) l e =
      let n = steps (number_within least_limit most_ledgers number) (λ limit. cond reading.limited (Err (refusal.Twice number)) (Ok (line.Limit limit))) l e in
      within-ink least_limit most_ledgers number n.value n.gave
  limit-ends other l e = absurd (cc)

  speak-ends : (old : List (List ℕ)) (l : Line) → speak_line reading old ≡ Ok l → EndsInk (token ∷ old)
  speak-ends (number ∷ []) l e =
      let n = steps (number_within 1 2 number) (λ version. cond reading.spoken (Err (refusal.Twice number)) (Ok (line.Speak version))) l e in
      within-ink 1 2 number n.value n.gave
  speak-ends other l e = absurd (cc)

  node-ends : (old : List (List ℕ)) (l : Line) → node_line reading old ≡ Ok l → EndsInk (token ∷ old)
  node-ends (number ∷ quorum ∷ members ∷ []) l e =
      let me = steps (new_member_of reading.nodes reading.liars number) (λ me. number_of quorum >>= (λ least. members_of members >>= (λ numbers. mode_of None >>= (λ validating. trusted_of numbers least >>= (λ list. Ok (line.Node me list validating)))))) l e in
      let least = steps (number_of quorum) (λ least. members_of members >>= (λ numbers. mode_of None >>= (λ validating. trusted_of numbers least >>= (λ list. Ok (line.Node me.value list validating))))) l me.rest in
      let numbers = steps (members_of members) (λ numbers. mode_of None >>= (λ validating. trusted_of numbers least.value >>= (λ list. Ok (line.Node me.value list validating)))) l least.rest in
      members-ink members numbers.value numbers.gave
  node-ends (number ∷ quorum ∷ members ∷ mode ∷ []) l e =
      let me = steps (new_member_of reading.nodes reading.liars number) (λ me. number_of quorum >>= (λ least. members_of members >>= (λ numbers. mode_of (Some mode) >>= (λ validating. trusted_of numbers least >>= (λ list. Ok (line.Node me list validating)))))) l e in
      let least = steps (number_of quorum) (λ least. members_of members >>= (λ numbers. mode_of (Some mode) >>= (λ validating. trusted_of numbers least >>= (λ list. Ok (line.Node me.value list validating))))) l me.rest in
      let numbers = steps (members_of members) (λ numbers. mode_of (Some mode) >>= (λ validating. trusted_of numbers least.value >>= (λ list. Ok (line.Node me.value list validating)))) l least.rest in
      let validating = steps (mode_of (Some mode)) (λ validating. trusted_of numbers.value least.value >>= (λ list. Ok (line.Node me.value list validating))) l numbers.rest in
      mode-ink mode validating.value validating.gave
  node-ends other l e = absurd (cc)

  liar-ends : (old : List (List ℕ)) (l : Line) → liar_line reading old ≡ Ok l → EndsInk (token ∷ old)
  liar-ends (number ∷ []) l e =
      let n = steps (new_member_of reading.nodes reading.liars number) (λ liar. Ok (line.Liar liar)) l e in
      new_member-ink reading.nodes reading.liars number n.value n.gave
  liar-ends other l e = absurd (cc)

  at-ends : (old : List (List ℕ)) (l : Line) → at_line old ≡ Ok l → EndsInk (token ∷ old)
  at-ends (moment ∷ []) l e =
      let n = steps (number_within 0 greatest_millis moment) (λ at. Ok (line.At at)) l e in
      within-ink 0 greatest_millis moment n.value n.gave
  at-ends other l e = absurd (cc)

  named-ends : (old : List (List ℕ)) (l : Line) → named_line reading old ≡ Ok l → EndsInk (token ∷ old)
  named-ends (name ∷ id ∷ []) l e =
      let n = steps (new_name_of reading.names name) (λ fresh. id_of reading.names id >>= (λ ledger. Ok (line.Name fresh ledger))) l e in
      let i = steps (id_of reading.names id) (λ ledger. Ok (line.Name n.value ledger)) l n.rest in
      id-ink reading.names are id i.value i.gave
  named-ends other l e = absurd (cc)

  named_ledger-ends : (old : List (List ℕ)) (l : Line) → named_ledger_line reading old ≡ Ok l → EndsInk (token ∷ old)
  named_ledger-ends (name ∷ parent ∷ second ∷ []) l e =
      let n = steps (new_name_of reading.names name) (λ fresh. parent_of reading.names parent >>= (λ above. number_of second >>= (λ closed. Ok (line.Ledger fresh parent (header_after above closed))))) l e in
      let p = steps (parent_of reading.names parent) (λ above. number_of second >>= (λ closed. Ok (line.Ledger n.value parent (header_after above closed)))) l n.rest in
      let c = steps (number_of second) (λ closed. Ok (line.Ledger n.value parent (header_after p.value closed))) l p.rest in
      number-inked second c.value c.gave
  named_ledger-ends other l e = absurd (cc)

  setting-ends : (word : SettingWord) (old : List (List ℕ)) (l : Line) → set_line reading word old ≡ Ok l → EndsInk (token ∷ old)
  setting-ends setting.Limit old l e = limit-ends old l e
  setting-ends setting.Speak old l e = speak-ends old l e
  setting-ends setting.Node old l e = node-ends old l e
  setting-ends setting.Liar old l e = liar-ends old l e
  setting-ends setting.At old l e = at-ends old l e
  setting-ends setting.Name old l e =
      named-ends old l (unstopped (has_most_names reading) (named_line reading old) l (refusal.Limit (decimal most_names)) e).1
  setting-ends setting.Ledger old l e =
      named_ledger-ends old l (unstopped (has_most_names reading) (named_ledger_line reading old) l (refusal.Limit (decimal most_names)) e).1

  -- ---- and any

  pub worded-ends : (old : List (List ℕ)) (l : Line) → worded_line reading sent token old ≡ Ok l → EndsInk (token ∷ old)
  worded-ends old l e =
      elim (setting_word token) as (λ o. Gives (line_of reading sent o token old) l → EndsInk (token ∷ old)) [
        | Some word ↦ λ k. setting-ends word old l (unstopped (reading.started && is_declaration word) (set_line reading word old) l (refusal.Late token) k).1
        | None ↦ λ k.
            elim (event_word token) as (λ o. event_word token ≡ o → Gives (event_line_of reading sent o token old) l → EndsInk (token ∷ old)) [
              | Some word ↦ λ is h.
                  let s = steps (what_of reading sent word old) (λ w. Ok (event_at reading w)) l h in
                  what-ends word is old s.value s.gave
              | None ↦ λ _ h. absurd (cc)
            ] refl k
      ] e
