-- Words and their texts.
use Rattle.std.proofs.Common.{◌≡◌, ℕ, true, false, cond, List, [], ◌∷◌, Option, Some, None, refl, ap, sym, ◌∙◌, codes}
use Rattle.std.specs.List.{AllByRecursion}
use Rattle.std.specs.Str.{bytes_eq}
use Rattle.xl_sched.specs.declared.word.EventWord.{EventWord}
use Rattle.xl_sched.specs.declared.word.EventWord.TheVariants as event
use Rattle.xl_sched.specs.declared.word.LieWord.{LieWord}
use Rattle.xl_sched.specs.declared.word.LieWord.TheVariants as lie
use Rattle.xl_sched.specs.declared.word.SettingWord.{SettingWord}
use Rattle.xl_sched.specs.declared.word.SettingWord.TheVariants as setting
use Rattle.xl_sched.specs.Lies.{lie_word}
use Rattle.xl_sched.specs.Words.{setting_word, event_word}
use Rattle.xl_spelling.proofs.Parts.{same_bytes}

-- the first word of a table that has this text
abbrev found_in : {W : Type 0} → List (List ℕ × W) → List ℕ → Option W
found_in [] token = None
found_in (entry ∷ table) token = cond (bytes_eq token entry.0) (Some entry.1) (found_in table token)

abbrev Finds : {W : Type 0} → Option W → W → Type 0
Finds found w = found ≡ Some w

first-is : {W : Type 0} (v w : W) → Finds (Some v) w → v ≡ w
first-is v w e = cc

text-found : {W : Type 0} (text : W → List ℕ) (table : List (List ℕ × W)) → AllByRecursion (λ entry. text entry.1 ≡ entry.0) table → (token : List ℕ) (w : W) → Finds (found_in table token) w → text w ≡ token
text-found text [] h token w e = absurd (cc)
text-found text (entry ∷ table) h token w e =
    elim (bytes_eq token entry.0) as (λ b. bytes_eq token entry.0 ≡ b → Finds (cond b (Some entry.1) (found_in table token)) w → text w ≡ token) [
      | true ↦ λ q f. ap text (sym (first-is entry.1 w f)) ∙ h.0 ∙ same_bytes token entry.0 q
      | false ↦ λ _ f. text-found text table h.1 token w f
    ] refl e

-- what a lie's word is written as
abbrev pub lie_text : LieWord → List ℕ
lie_text lie.Proposal = codes "proposal"
lie_text lie.Validation = codes "validation"
lie_text lie.Header = codes "header"
lie_text lie.TxSet = codes "set"
lie_text lie.Tx = codes "tx"

abbrev lie_table : List (List ℕ × LieWord)
lie_table =
    (codes "proposal", lie.Proposal) ∷ (codes "validation", lie.Validation) ∷ (codes "header", lie.Header) ∷ (codes "set", lie.TxSet)
    ∷ (codes "tx", lie.Tx) ∷ []

pub lie_text-same : (token : List ℕ) (w : LieWord) → lie_word token ≡ Some w → lie_text w ≡ token
lie_text-same token w e = text-found lie_text lie_table (refl, (refl, (refl, (refl, (refl, tt))))) token w e

-- an event's
abbrev pub event_text : EventWord → List ℕ
event_text event.Issue = codes "issue"
event_text event.Submit = codes "submit"
event_text event.Timer = codes "timer"
event_text event.Timers = codes "timers"
event_text event.Deliver = codes "deliver"
event_text event.All = codes "all"
event_text event.Drop = codes "drop"
event_text event.Greet = codes "greet"
event_text event.Restart = codes "restart"
event_text event.Cut = codes "cut"
event_text event.Fail = codes "fail"
event_text event.Lie = codes "lie"
event_text event.Raw = codes "raw"
event_text event.Prefer = codes "prefer"
event_text event.List = codes "list"
event_text event.Heard = codes "heard"

abbrev event_table : List (List ℕ × EventWord)
event_table =
    (codes "issue", event.Issue) ∷ (codes "submit", event.Submit) ∷ (codes "timer", event.Timer) ∷ (codes "timers", event.Timers)
    ∷ (codes "deliver", event.Deliver) ∷ (codes "all", event.All) ∷ (codes "drop", event.Drop) ∷ (codes "greet", event.Greet)
    ∷ (codes "restart", event.Restart) ∷ (codes "cut", event.Cut) ∷ (codes "fail", event.Fail) ∷ (codes "lie", event.Lie)
    ∷ (codes "raw", event.Raw) ∷ (codes "prefer", event.Prefer) ∷ (codes "list", event.List) ∷ (codes "heard", event.Heard) ∷ []

pub event_text-same : (token : List ℕ) (w : EventWord) → event_word token ≡ Some w → event_text w ≡ token
event_text-same token w e =
    text-found event_text event_table (refl, (refl, (refl, (refl, (refl, (refl, (refl, (refl, (refl, (refl, (refl, (refl, (refl, (refl, (refl, (refl, tt)))))))))))))))) token w e

-- and that of a line at which nothing happens
abbrev pub setting_text : SettingWord → List ℕ
setting_text setting.Limit = codes "limit"
setting_text setting.Speak = codes "speak"
setting_text setting.Node = codes "node"
setting_text setting.Liar = codes "liar"
setting_text setting.At = codes "at"
setting_text setting.Name = codes "name"
setting_text setting.Ledger = codes "ledger"

abbrev setting_table : List (List ℕ × SettingWord)
setting_table =
    (codes "limit", setting.Limit) ∷ (codes "speak", setting.Speak) ∷ (codes "node", setting.Node) ∷ (codes "liar", setting.Liar) ∷ (codes "at", setting.At)
    ∷ (codes "name", setting.Name) ∷ (codes "ledger", setting.Ledger) ∷ []

pub setting_text-same : (token : List ℕ) (w : SettingWord) → setting_word token ≡ Some w → setting_text w ≡ token
setting_text-same token w e = text-found setting_text setting_table (refl, (refl, (refl, (refl, (refl, (refl, (refl, tt))))))) token w e
