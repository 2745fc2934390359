-- What a line's event hands in may happen: a list that is read is one, and so is a set that a liar says.
use Rattle.std.proofs.Common.{◌≡◌, ℕ, Bool, true, false, cond, List, [], ◌∷◌, length, refl, Option, Some, None, Result, Ok, Err}
use Rattle.std.specs.Prelude.{codes, nat_le, nat_lt, IfOk}
use Rattle.std.specs.Str.{bytes_eq}
use Rattle.std.proofs.lemmas.Bool.{cond_both, leb-true}
use Rattle.xl_base.specs.Sets.{IsSet, most_ids}
use Rattle.xl_base.specs.declared.ids.LedgerId.{LedgerId}
use Rattle.xl_base.specs.declared.ids.SetId.{SetId}
use Rattle.xl_base.specs.declared.ids.TxId.{TxId}
use Rattle.xl_lists.specs.Lists.{TrustedList, IsValid}
use Rattle.xl_sched.specs.declared.event.Lied.{Lied}
use Rattle.xl_sched.specs.declared.event.Lied.TheVariants as lied
use Rattle.xl_sched.specs.declared.event.What.{What}
use Rattle.xl_sched.specs.declared.event.What.TheVariants as what
use Rattle.xl_sched.specs.declared.ledger.Ledger.{Ledger}
use Rattle.xl_sched.specs.Limits.{most_lists}
use Rattle.xl_sched.specs.declared.named.Named.{Named}
use Rattle.xl_sched.specs.declared.refusal.SchedRefusal.{SchedRefusal}
use Rattle.xl_sched.specs.declared.refusal.SchedRefusal.TheVariants.{Id}
use Rattle.xl_sched.specs.declared.word.EventWord.{EventWord}
use Rattle.xl_sched.specs.declared.word.EventWord.TheVariants as event
use Rattle.xl_sched.specs.declared.word.LieWord.{LieWord}
use Rattle.xl_sched.specs.declared.word.LieWord.TheVariants as word
use Rattle.xl_sched.specs.Refusals.{◌>>=◌}
use Rattle.xl_sched.specs.Tokens.{entries}
use Rattle.xl_sched.specs.TxSets.{risen_ids_of, joined_ids_of, tx_set_of}
use Rattle.xl_sched.specs.Numbers.{number_of, place_of}
use Rattle.xl_sched.specs.Names.{ledger_id_of, set_id_of, tx_id_of}
use Rattle.xl_sched.specs.Ledgers.{ledger_of}
use Rattle.xl_sched.specs.Choices.{full_of}
use Rattle.xl_sched.specs.Members.{declared_of, members_of, trusted_of}
use Rattle.xl_sched.specs.Fits.{IsFitLied}
use Rattle.xl_sched.specs.Lies.{lie_word, may_say, said_proposal, told_if, said_validation, said_header, said_tx_set, said_tx, lied_of, lie_of, pair_of, lie_event}
use Rattle.xl_sched.specs.Events.{asked_issue, asked_timer, submit_event, timers_event, deliver_event, all_event, drop_event, peer_of, greet_event, restart_event, raw_bytes_of, raw_event, prefer_event, set_list, list_event, heard_event}
use Rattle.xl_sched.specs.Saves.{disturbed_of}
use Rattle.xl_sched.specs.Reading.{Reading}
use Rattle.xl_sched.specs.Words.{what_of}
use Rattle.xl_sched.proofs.TxSetLemmas.{IsSet-risen, IsSet-none}
use Rattle.xl_world.specs.Schedule.{IsPlausible}

-- what happens by what one step gave, and by what two gave
by_one : {A : Type 0} (r : Result A SchedRefusal) (f : A → What) → ((x : A) → IsPlausible (f x)) → IfOk (r >>= (λ x. Ok (f x))) IsPlausible
by_one (Ok x) f h = h x
by_one (Err e) f h = tt

by_two : {A B : Type 0} (r : Result A SchedRefusal) (s : A → Result B SchedRefusal) (f : A → B → What) → ((x : A) (y : B) → IsPlausible (f x y)) →
    IfOk (r >>= (λ x. s x >>= (λ y. Ok (f x y)))) IsPlausible
by_two (Ok x) s f h = by_one (s x) (f x) (h x)
by_two (Err e) s f h = tt

-- LISTS

list_given : (node : ℕ) (r : Result TrustedList SchedRefusal) → IfOk r IsValid → IfOk (r >>= (λ list. Ok (what.List node list))) IsPlausible
list_given node (Ok list) valid = valid
list_given node (Err e) valid = tt

list_parts : (node least : Result ℕ SchedRefusal) (numbers : Result (List ℕ) SchedRefusal) → ((members : List ℕ) (quorum : ℕ) → IfOk (trusted_of members quorum) IsValid) →
    IfOk (node >>= (λ i. least >>= (λ q. numbers >>= (λ ns. trusted_of ns q >>= (λ list. Ok (what.List i list)))))) IsPlausible
list_parts (Err e) least numbers valid = tt
list_parts (Ok i) (Err e) numbers valid = tt
list_parts (Ok i) (Ok q) (Err e) valid = tt
list_parts (Ok i) (Ok q) (Ok ns) valid = list_given i (trusted_of ns q) (valid ns q)

list_set : (reading : Reading) (arguments : List (List ℕ)) → ((members : List ℕ) (quorum : ℕ) → IfOk (trusted_of members quorum) IsValid) → IfOk (set_list reading arguments) IsPlausible
list_set reading (a ∷ b ∷ c ∷ []) valid = list_parts (declared_of reading.nodes a) (number_of b) (members_of c) valid
list_set reading other valid = tt

-- SETS

set_read : (names : List Named) (token : List ℕ) (r : Result (List TxId) SchedRefusal) → risen_ids_of names None (entries token) ≡ r →
    IfOk (r >>= (λ ids. cond (nat_le (length ids) most_ids) (Ok ids) (Err (Id token)))) IsSet
set_read names token (Err e) read = tt
set_read names token (Ok ids) read =
    cond_both (nat_le (length ids) most_ids) (Ok ids) (Err (Id token)) (λ r. IfOk r IsSet)
    (λ few. IsSet-risen names (entries token) ids read (leb-true _ _ few)) (λ _. tt)

set_valid : (names : List Named) (token : List ℕ) → IfOk (tx_set_of names token) IsSet
set_valid names token =
    cond_both (bytes_eq token (codes "-")) (Ok []) (joined_ids_of names token) (λ r. IfOk r IsSet)
    (λ _. IsSet-none) (λ _. set_read names token (risen_ids_of names None (entries token)) refl)

set_said : (r : Result (List TxId) SchedRefusal) → IfOk r IsSet → IfOk (r >>= (λ ids. Ok (lied.TxSet ids))) IsFitLied
set_said (Ok ids) valid = valid
set_said (Err e) valid = tt

-- LIES

proposal_parts : (prev : Result LedgerId SchedRefusal) (set : Result SetId SchedRefusal) (pseq close time : Result ℕ SchedRefusal) →
    IfOk (prev >>= (λ p. set >>= (λ s. pseq >>= (λ q. close >>= (λ c. time >>= (λ t. Ok (lied.Proposal (record { prev = p; set = s; pseq = q; close = c; time = t })))))))) IsFitLied
proposal_parts (Ok p) (Ok s) (Ok q) (Ok c) (Ok t) = tt
proposal_parts prev set pseq close time = tt

proposal_fits : (names : List Named) (arguments : List (List ℕ)) → IfOk (said_proposal names arguments) IsFitLied
proposal_fits names (a ∷ b ∷ c ∷ d ∷ e ∷ []) = proposal_parts (ledger_id_of names a) (set_id_of names b) (number_of c) (number_of d) (number_of e)
proposal_fits names other = tt

validation_parts : (seq : Result ℕ SchedRefusal) (id : Result LedgerId SchedRefusal) (signed : Result ℕ SchedRefusal) (full : Result Bool SchedRefusal) (told : Result (Option LedgerId) SchedRefusal) →
    IfOk (seq >>= (λ s. id >>= (λ i. signed >>= (λ g. full >>= (λ f. told >>= (λ v. Ok (lied.Validation (record { id = i; seq = s; signed = g; full = f; validated = v })))))))) IsFitLied
validation_parts (Ok s) (Ok i) (Ok g) (Ok f) (Ok v) = tt
validation_parts seq id signed full told = tt

validation_fits : (names : List Named) (arguments : List (List ℕ)) → IfOk (said_validation names arguments) IsFitLied
validation_fits names (a ∷ b ∷ c ∷ d ∷ []) = validation_parts (number_of a) (ledger_id_of names b) (number_of c) (full_of d) (told_if names None)
validation_fits names (a ∷ b ∷ c ∷ d ∷ e ∷ []) = validation_parts (number_of a) (ledger_id_of names b) (number_of c) (full_of d) (told_if names (Some e))
validation_fits names other = tt

header_given : (name : List ℕ) (r : Result Ledger SchedRefusal) → IfOk (r >>= (λ ledger. Ok (lied.Header name ledger.header))) IsFitLied
header_given name (Ok ledger) = tt
header_given name (Err e) = tt

header_fits : (names : List Named) (arguments : List (List ℕ)) → IfOk (said_header names arguments) IsFitLied
header_fits names [] = tt
header_fits names (a ∷ []) = header_given a (ledger_of names a)
header_fits names (a ∷ b ∷ rest) = tt

set_fits : (names : List Named) (arguments : List (List ℕ)) → IfOk (said_tx_set names arguments) IsFitLied
set_fits names [] = tt
set_fits names (a ∷ []) = set_said (tx_set_of names a) (set_valid names a)
set_fits names (a ∷ b ∷ rest) = tt

tx_given : (r : Result TxId SchedRefusal) → IfOk (r >>= (λ id. Ok (lied.Tx id))) IsFitLied
tx_given (Ok id) = tt
tx_given (Err e) = tt

tx_fits : (names : List Named) (arguments : List (List ℕ)) → IfOk (said_tx names arguments) IsFitLied
tx_fits names [] = tt
tx_fits names (a ∷ []) = tx_given (tx_id_of names a)
tx_fits names (a ∷ b ∷ rest) = tt

lied_fits : (names : List Named) (o : Option LieWord) (token : List ℕ) (arguments : List (List ℕ)) → IfOk (lied_of names o token arguments) IsFitLied
lied_fits names None token arguments = tt
lied_fits names (Some word.Proposal) token arguments = proposal_fits names arguments
lied_fits names (Some word.Validation) token arguments = validation_fits names arguments
lied_fits names (Some word.Header) token arguments = header_fits names arguments
lied_fits names (Some word.TxSet) token arguments = set_fits names arguments
lied_fits names (Some word.Tx) token arguments = tx_fits names arguments

lie_given : (pair : Result (ℕ × ℕ) SchedRefusal) (said : Result Lied SchedRefusal) → IfOk said IsFitLied → IfOk (lie_of pair said) IsPlausible
lie_given (Err e) said fits = tt
lie_given (Ok who) (Err e) fits = tt
lie_given (Ok who) (Ok lie) fits = fits

lie_plausible : (reading : Reading) (arguments : List (List ℕ)) → IfOk (lie_event reading arguments) IsPlausible
lie_plausible reading [] = tt
lie_plausible reading (a ∷ []) = tt
lie_plausible reading (a ∷ b ∷ []) = tt
lie_plausible reading (a ∷ b ∷ token ∷ said) =
    cond_both (may_say (lie_word token) (length said)) (lie_of (pair_of reading a b) (lied_of reading.names (lie_word token) token said)) _ (λ r. IfOk r IsPlausible)
    (λ _. lie_given (pair_of reading a b) _ (lied_fits reading.names (lie_word token) token said)) (λ _. tt)

-- EVENTS

submit_plausible : (reading : Reading) (arguments : List (List ℕ)) → IfOk (submit_event reading arguments) IsPlausible
submit_plausible reading [] = tt
submit_plausible reading (a ∷ []) = tt
submit_plausible reading (a ∷ b ∷ []) = by_two (declared_of reading.nodes a) (λ _. tx_id_of reading.names b) what.Submit (λ node tx. tt)
submit_plausible reading (a ∷ b ∷ c ∷ rest) = tt

timers_plausible : (arguments : List (List ℕ)) → IfOk (timers_event arguments) IsPlausible
timers_plausible [] = tt
timers_plausible (a ∷ rest) = tt

deliver_plausible : (sent : ℕ) (arguments : List (List ℕ)) → IfOk (deliver_event sent arguments) IsPlausible
deliver_plausible sent [] = tt
deliver_plausible sent (a ∷ []) = by_one (place_of sent a) what.Deliver (λ place. tt)
deliver_plausible sent (a ∷ b ∷ rest) = tt

all_plausible : (arguments : List (List ℕ)) → IfOk (all_event arguments) IsPlausible
all_plausible [] = tt
all_plausible (a ∷ rest) = tt

drop_plausible : (arguments : List (List ℕ)) → IfOk (drop_event arguments) IsPlausible
drop_plausible [] = tt
drop_plausible (a ∷ rest) = tt

greet_plausible : (reading : Reading) (arguments : List (List ℕ)) → IfOk (greet_event reading arguments) IsPlausible
greet_plausible reading [] = tt
greet_plausible reading (a ∷ []) = tt
greet_plausible reading (a ∷ b ∷ []) = by_two (declared_of reading.nodes a) (λ node. peer_of reading node b) what.Greet (λ node peer. tt)
greet_plausible reading (a ∷ b ∷ c ∷ rest) = tt

restart_plausible : (reading : Reading) (arguments : List (List ℕ)) → IfOk (restart_event reading arguments) IsPlausible
restart_plausible reading [] = tt
restart_plausible reading (a ∷ []) = by_one (declared_of reading.nodes a) what.Restart (λ node. tt)
restart_plausible reading (a ∷ b ∷ rest) = tt

raw_plausible : (reading : Reading) (arguments : List (List ℕ)) → IfOk (raw_event reading arguments) IsPlausible
raw_plausible reading [] = tt
raw_plausible reading (a ∷ []) = tt
raw_plausible reading (a ∷ b ∷ []) = by_two (declared_of reading.nodes a) (λ _. raw_bytes_of b) what.Raw (λ to bytes. tt)
raw_plausible reading (a ∷ b ∷ c ∷ rest) = tt

prefer_plausible : (reading : Reading) (arguments : List (List ℕ)) → IfOk (prefer_event reading arguments) IsPlausible
prefer_plausible reading [] = tt
prefer_plausible reading (a ∷ []) = by_one (declared_of reading.nodes a) what.Prefer (λ node. tt)
prefer_plausible reading (a ∷ b ∷ rest) = tt

heard_plausible : (reading : Reading) (arguments : List (List ℕ)) → IfOk (heard_event reading arguments) IsPlausible
heard_plausible reading [] = tt
heard_plausible reading (a ∷ []) = by_one (declared_of reading.nodes a) what.Heard (λ node. tt)
heard_plausible reading (a ∷ b ∷ rest) = tt

list_plausible : (reading : Reading) (arguments : List (List ℕ)) → ((members : List ℕ) (quorum : ℕ) → IfOk (trusted_of members quorum) IsValid) → IfOk (list_event reading arguments) IsPlausible
list_plausible reading arguments valid =
    cond_both (nat_lt reading.lists most_lists) (set_list reading arguments) _ (λ r. IfOk r IsPlausible) (λ _. list_set reading arguments valid) (λ _. tt)

-- what happens at a line of a schedule is plausible
pub what_plausible : (reading : Reading) (sent : ℕ) (w : EventWord) (arguments : List (List ℕ)) → ((members : List ℕ) (quorum : ℕ) → IfOk (trusted_of members quorum) IsValid) →
    IfOk (what_of reading sent w arguments) IsPlausible
what_plausible reading sent event.Issue arguments valid = by_one (asked_issue reading arguments) what.Ask (λ asked. tt)
what_plausible reading sent event.Submit arguments valid = submit_plausible reading arguments
what_plausible reading sent event.Timer arguments valid = by_one (asked_timer reading arguments) what.Ask (λ asked. tt)
what_plausible reading sent event.Timers arguments valid = timers_plausible arguments
what_plausible reading sent event.Deliver arguments valid = deliver_plausible sent arguments
what_plausible reading sent event.All arguments valid = all_plausible arguments
what_plausible reading sent event.Drop arguments valid = drop_plausible arguments
what_plausible reading sent event.Greet arguments valid = greet_plausible reading arguments
what_plausible reading sent event.Restart arguments valid = restart_plausible reading arguments
what_plausible reading sent event.Cut arguments valid = by_one (disturbed_of reading arguments) (λ save. what.Cut save.0 save.1) (λ save. tt)
what_plausible reading sent event.Fail arguments valid = by_one (disturbed_of reading arguments) (λ save. what.Fail save.0 save.1) (λ save. tt)
what_plausible reading sent event.Lie arguments valid = lie_plausible reading arguments
what_plausible reading sent event.Raw arguments valid = raw_plausible reading arguments
what_plausible reading sent event.Prefer arguments valid = prefer_plausible reading arguments
what_plausible reading sent event.List arguments valid = list_plausible reading arguments valid
what_plausible reading sent event.Heard arguments valid = heard_plausible reading arguments
