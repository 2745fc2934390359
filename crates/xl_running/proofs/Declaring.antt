-- A node's line declares a node: its number is a member's and its list is a list.
use Rattle.std.proofs.Common.{◌≡◌, ◌∙◌, ap, ℕ, ◌≤◌, Bool, true, false, cond, List, [], ◌∷◌, length, refl, arith, Option, Some, None, Result, Ok, Err}
use Rattle.std.specs.Prelude.{◌==◌, ◌&&◌, ◌||◌, not, nat_lt, nat_le, find, option_map, is_some, IfOk, IfSome}
use Rattle.std.specs.Option.{option_or}
use Rattle.std.proofs.lemmas.Bool.{cond_both, and_parts, leb-true, ltb-true}
use Rattle.std.proofs.lemmas.Bool.Decides.{nat_tests}
use Rattle.xl_lists.specs.declared.refusal.ListRefusal.{ListRefusal}
use Rattle.xl_lists.specs.Lists.{TrustedList, IsValid, is_on, refusal_of, list_of}
use Rattle.xl_base.specs.Refusals.{unless_refused as list_unless}
use Rattle.xl_lists.proofs.Rereading.{unrefused}
use Rattle.xl_ledger.specs.Limits.{least_limit}
use Rattle.xl_sched.specs.declared.refusal.SchedRefusal.{SchedRefusal}
use Rattle.xl_sched.specs.declared.refusal.SchedRefusal.TheVariants.{Id, Twice, Late}
use Rattle.xl_sched.specs.Limits.{most_bytes, most_ledgers, most_lines}
use Rattle.xl_sched.specs.declared.ledger.Ledger.{Ledger}
use Rattle.xl_sched.specs.declared.line.Line.{Line}
use Rattle.xl_sched.specs.declared.line.Line.TheVariants as line
use Rattle.xl_sched.specs.declared.named.Named.{Named}
use Rattle.xl_sched.specs.declared.event.What.{What}
use Rattle.xl_sched.specs.declared.word.EventWord.{EventWord}
use Rattle.xl_sched.specs.declared.word.SettingWord.{SettingWord}
use Rattle.xl_sched.specs.declared.word.SettingWord.TheVariants as setting
use Rattle.xl_base.specs.Moments.{greatest_millis}
use Rattle.xl_sched.specs.Refusals.{◌>>=◌}
use Rattle.xl_sched.specs.Tokens.{tokens}
use Rattle.xl_sched.specs.Numbers.{is_number, value_of, number_within, number_of}
use Rattle.xl_sched.specs.Names.{is_name, id_named, new_name_of, id_of}
use Rattle.xl_sched.specs.Ledgers.{parent_of, header_after}
use Rattle.xl_sched.specs.Members.{member_of, new_member_of, members_of, trusted_of, unless_refused}
use Rattle.xl_sched.specs.Reading.{Reading}
use Rattle.xl_sched.specs.Settings.{mode_of, node_of, node_line, liar_line, limit_line, speak_line, at_line}
use Rattle.xl_sched.specs.Naming.{has_most_names, named_line, named_ledger_line}
use Rattle.xl_sched.specs.Words.{is_declaration, setting_word, event_word, set_line, what_of, event_line, event_line_of, line_of, worded_line}
use Rattle.xl_sched.specs.Answers.{LineAnswer, passes, gives, refuses, is_header, header_line, is_comment, some_line, later_line, bounded_line, answer_to, reading_of}
use Rattle.xl_world.specs.Plans.{IsDeclared}
use Rattle.xl_world.specs.Schedule.{IsPlausible}
use Rattle.xl_running.proofs.Plausible.{what_plausible}

-- LISTS

list_valid : (o : Option ListRefusal) (l : TrustedList) → (o ≡ None → IsValid l) → IfOk (list_unless o l) IsValid
list_valid None l h = h refl
list_valid (Some e) l h = tt

kept_valid : (r : Result TrustedList ListRefusal) → IfOk r IsValid → IfOk (unless_refused r) IsValid
kept_valid (Ok l) h = h
kept_valid (Err e) h = tt

trusted_valid : (members : List ℕ) (quorum : ℕ) → IfOk (trusted_of members quorum) IsValid
trusted_valid members quorum = kept_valid (list_of members quorum) (list_valid (refusal_of members quorum) _ (unrefused members quorum))

-- NUMBERS

record InRange (m : ℕ) : Type 0 where
  pub least : 1 ≤ m
  pub greatest : m ≤ 64

member_in_range : (token : List ℕ) → IfOk (member_of token) InRange
member_in_range token =
    cond_both (is_number token && nat_le 1 (value_of token) && nat_le (value_of token) 64) (Ok (value_of token)) _ (λ r. IfOk r InRange)
    (λ e. let outer = and_parts (is_number token && nat_le 1 (value_of token)) _ e in record { least = leb-true _ _ (and_parts (is_number token) _ outer.0).1; greatest = leb-true _ _ outer.1 })
    (λ _. tt)

new_in_range : (nodes liars token : List ℕ) (r : Result ℕ SchedRefusal) → IfOk r InRange → IfOk (r >>= (λ m. cond (is_on nodes m || is_on liars m) (Err (Twice token)) (Ok m))) InRange
new_in_range nodes liars token (Err e) range = tt
new_in_range nodes liars token (Ok m) range = cond_both (is_on nodes m || is_on liars m) (Err (Twice token)) (Ok m) (λ r. IfOk r InRange) (λ _. tt) (λ _. range)

-- LINES

-- a name of letters and digits that none of these names is
pub record IsNew (names : List Named) (name : List ℕ) : Type 0 where
  pub spelled : is_name name ≡ true
  pub unused : id_named names name ≡ None

-- what a line declares is declared, and a name is new
abbrev pub Declares : List Named → Line → Type 0
Declares names (line.Node me list validating) = IsDeclared (record { me = me; list = list; validating = validating; moment = 0 })
Declares names (line.Name name id) = IsNew names name
Declares names (line.Ledger name parent header) = IsNew names name
Declares names (line.Event event) = IsPlausible event.what
Declares names other = Unit {0}

declared_node : (names : List Named) (me : ℕ) (validating : Bool) (r : Result TrustedList SchedRefusal) → InRange me → IfOk r IsValid → IfOk (r >>= (λ list. Ok (line.Node me list validating))) (Declares names)
declared_node names me validating (Err e) range valid = tt
declared_node names me validating (Ok list) range valid = record { least = range.least; greatest = range.greatest; list = valid }

node_declares : (names : List Named) (me least : Result ℕ SchedRefusal) (numbers : Result (List ℕ) SchedRefusal) (mode : Result Bool SchedRefusal) → IfOk me InRange →
    IfOk (me >>= (λ m. least >>= (λ l. numbers >>= (λ ns. mode >>= (λ v. trusted_of ns l >>= (λ list. Ok (line.Node m list v))))))) (Declares names)
node_declares names (Ok m) (Ok l) (Ok ns) (Ok v) range = declared_node names m v (trusted_of ns l) range (trusted_valid ns l)
node_declares names me least numbers mode range = tt

node_of_declares : (reading : Reading) (number quorum members : List ℕ) (mode : Result Bool SchedRefusal) → IfOk (node_of reading number quorum members mode) (Declares reading.names)
node_of_declares reading number quorum members mode =
    node_declares reading.names (new_member_of reading.nodes reading.liars number) (number_of quorum) (members_of members) mode (new_in_range reading.nodes reading.liars number (member_of number) (member_in_range number))

node_line_declares : (reading : Reading) (arguments : List (List ℕ)) → IfOk (node_line reading arguments) (Declares reading.names)
node_line_declares reading (a ∷ b ∷ c ∷ []) = node_of_declares reading a b c (mode_of None)
node_line_declares reading (a ∷ b ∷ c ∷ d ∷ []) = node_of_declares reading a b c (mode_of (Some d))
node_line_declares reading other = tt

liar_declares : (names : List Named) (me : Result ℕ SchedRefusal) → IfOk (me >>= (λ m. Ok (line.Liar m))) (Declares names)
liar_declares names (Err e) = tt
liar_declares names (Ok m) = tt

liar_line_declares : (reading : Reading) (arguments : List (List ℕ)) → IfOk (liar_line reading arguments) (Declares reading.names)
liar_line_declares reading [] = tt
liar_line_declares reading (a ∷ []) = liar_declares reading.names (new_member_of reading.nodes reading.liars a)
liar_line_declares reading (a ∷ b ∷ rest) = tt

unused : (o : Option (List ℕ)) (token : List ℕ) → IfOk (cond (is_some o) (Err (Twice token)) (Ok token)) (λ n. (n ≡ token) × (o ≡ None))
unused None token = (refl, refl)
unused (Some id) token = tt

-- a name that may still be declared is new
new_name : (names : List Named) (token : List ℕ) → IfOk (new_name_of names token) (IsNew names)
new_name names token =
    cond_both (not (is_name token)) (Err (Id token)) (cond (is_some (id_named names token)) (Err (Twice token)) (Ok token)) (λ r. IfOk r (IsNew names))
    (λ _. tt)
    (λ e. is_new (cond (is_some (id_named names token)) (Err (Twice token)) (Ok token)) (spelled (is_name token) e) (unused (id_named names token) token))
  where
    spelled : (b : Bool) → not b ≡ false → b ≡ true
    spelled true e = refl
    spelled false e = cc

    is_new : (r : Result (List ℕ) SchedRefusal) → is_name token ≡ true → IfOk r (λ n. (n ≡ token) × (id_named names token ≡ None)) → IfOk r (IsNew names)
    is_new (Err e) named h = tt
    is_new (Ok n) named h = record { spelled = ap is_name h.0 ∙ named; unused = ap (id_named names) h.0 ∙ h.1 }

name_declares : (names : List Named) (name id : Result (List ℕ) SchedRefusal) → IfOk name (IsNew names) → IfOk (name >>= (λ n. id >>= (λ i. Ok (line.Name n i)))) (Declares names)
name_declares names (Err e) id new = tt
name_declares names (Ok n) (Err e) new = tt
name_declares names (Ok n) (Ok i) new = new

named_line_declares : (reading : Reading) (arguments : List (List ℕ)) → IfOk (named_line reading arguments) (Declares reading.names)
named_line_declares reading [] = tt
named_line_declares reading (a ∷ []) = tt
named_line_declares reading (a ∷ b ∷ []) = name_declares reading.names (new_name_of reading.names a) (id_of reading.names b) (new_name reading.names a)
named_line_declares reading (a ∷ b ∷ c ∷ rest) = tt

ledger_declares : (names : List Named) (name : Result (List ℕ) SchedRefusal) (above : Result Ledger SchedRefusal) (close : Result ℕ SchedRefusal) (parent : List ℕ) → IfOk name (IsNew names) →
    IfOk (name >>= (λ n. above >>= (λ a. close >>= (λ c. Ok (line.Ledger n parent (header_after a c)))))) (Declares names)
ledger_declares names (Err e) above close parent new = tt
ledger_declares names (Ok n) (Err e) close parent new = tt
ledger_declares names (Ok n) (Ok a) (Err e) parent new = tt
ledger_declares names (Ok n) (Ok a) (Ok c) parent new = new

ledger_line_declares : (reading : Reading) (arguments : List (List ℕ)) → IfOk (named_ledger_line reading arguments) (Declares reading.names)
ledger_line_declares reading (a ∷ b ∷ c ∷ []) = ledger_declares reading.names (new_name_of reading.names a) (parent_of reading.names b) (number_of c) b (new_name reading.names a)
ledger_line_declares reading other = tt

limit_declares : (names : List Named) (limited : Bool) (token : List ℕ) (limit : Result ℕ SchedRefusal) → IfOk (limit >>= (λ n. cond limited (Err (Twice token)) (Ok (line.Limit n)))) (Declares names)
limit_declares names limited token (Err e) = tt
limit_declares names limited token (Ok n) = cond_both limited (Err (Twice token)) (Ok (line.Limit n)) (λ r. IfOk r (Declares names)) (λ _. tt) (λ _. tt)

limit_line_declares : (reading : Reading) (arguments : List (List ℕ)) → IfOk (limit_line reading arguments) (Declares reading.names)
limit_line_declares reading [] = tt
limit_line_declares reading (a ∷ []) = limit_declares reading.names reading.limited a (number_within least_limit most_ledgers a)
limit_line_declares reading (a ∷ b ∷ rest) = tt

speak_declares : (names : List Named) (spoken : Bool) (token : List ℕ) (version : Result ℕ SchedRefusal) → IfOk (version >>= (λ v. cond spoken (Err (Twice token)) (Ok (line.Speak v)))) (Declares names)
speak_declares names spoken token (Err e) = tt
speak_declares names spoken token (Ok v) = cond_both spoken (Err (Twice token)) (Ok (line.Speak v)) (λ r. IfOk r (Declares names)) (λ _. tt) (λ _. tt)

speak_line_declares : (reading : Reading) (arguments : List (List ℕ)) → IfOk (speak_line reading arguments) (Declares reading.names)
speak_line_declares reading [] = tt
speak_line_declares reading (a ∷ []) = speak_declares reading.names reading.spoken a (number_within 1 2 a)
speak_line_declares reading (a ∷ b ∷ rest) = tt

at_declares : (names : List Named) (at : Result ℕ SchedRefusal) → IfOk (at >>= (λ m. Ok (line.At m))) (Declares names)
at_declares names (Err e) = tt
at_declares names (Ok at) = tt

at_line_declares : (names : List Named) (arguments : List (List ℕ)) → IfOk (at_line arguments) (Declares names)
at_line_declares names [] = tt
at_line_declares names (a ∷ []) = at_declares names (number_within 0 greatest_millis a)
at_line_declares names (a ∷ b ∷ rest) = tt

set_line_declares : (reading : Reading) (w : SettingWord) (arguments : List (List ℕ)) → IfOk (set_line reading w arguments) (Declares reading.names)
set_line_declares reading setting.Limit arguments = limit_line_declares reading arguments
set_line_declares reading setting.Node arguments = node_line_declares reading arguments
set_line_declares reading setting.Liar arguments = liar_line_declares reading arguments
set_line_declares reading setting.At arguments = at_line_declares reading.names arguments
set_line_declares reading setting.Speak arguments = speak_line_declares reading arguments
set_line_declares reading setting.Name arguments =
    cond_both (has_most_names reading) _ (named_line reading arguments) (λ r. IfOk r (Declares reading.names)) (λ _. tt) (λ _. named_line_declares reading arguments)
set_line_declares reading setting.Ledger arguments =
    cond_both (has_most_names reading) _ (named_ledger_line reading arguments) (λ r. IfOk r (Declares reading.names)) (λ _. tt) (λ _. ledger_line_declares reading arguments)

event_declares : (reading : Reading) (r : Result What SchedRefusal) → IfOk r IsPlausible → IfOk (event_line reading r) (Declares reading.names)
event_declares reading (Err e) plausible = tt
event_declares reading (Ok happening) plausible = plausible

event_word_declares : (reading : Reading) (sent : ℕ) (o : Option EventWord) (token : List ℕ) (arguments : List (List ℕ)) → IfOk (event_line_of reading sent o token arguments) (Declares reading.names)
event_word_declares reading sent None token arguments = tt
event_word_declares reading sent (Some w) token arguments = event_declares reading (what_of reading sent w arguments) (what_plausible reading sent w arguments trusted_valid)

word_declares : (reading : Reading) (sent : ℕ) (o : Option SettingWord) (token : List ℕ) (arguments : List (List ℕ)) → IfOk (line_of reading sent o token arguments) (Declares reading.names)
word_declares reading sent None token arguments = event_word_declares reading sent (event_word token) token arguments
word_declares reading sent (Some w) token arguments =
    cond_both (reading.started && is_declaration w) (Err (Late token)) (set_line reading w arguments) (λ r. IfOk r (Declares reading.names)) (λ _. tt) (λ _. set_line_declares reading w arguments)

some_declares : (names : List Named) (r : Result Line SchedRefusal) → IfOk r (Declares names) → IfOk (some_line r) (λ o. IfSome o (Declares names))
some_declares names (Err e) h = tt
some_declares names (Ok l) h = h

later_declares : (reading : Reading) (sent : ℕ) (line : List (List ℕ)) → IfOk (later_line reading sent line) (λ o. IfSome o (Declares reading.names))
later_declares reading sent [] = tt
later_declares reading sent (token ∷ arguments) =
    cond_both (is_comment token) (Ok None) _ (λ r. IfOk r (λ o. IfSome o (Declares reading.names))) (λ _. tt)
    (λ _. some_declares reading.names (worded_line reading sent token arguments) (word_declares reading sent (setting_word token) token arguments))

bounded_declares : (reading : Reading) (sent : ℕ) (bytes : List ℕ) → IfOk (bounded_line reading sent bytes) (λ o. IfSome o (Declares reading.names))
bounded_declares reading sent bytes =
    cond_both (nat_lt most_bytes (length bytes)) _ _ (λ r. IfOk r (λ o. IfSome o (Declares reading.names))) (λ _. tt)
    (λ _. cond_both (reading.lines == most_lines) _ _ (λ r. IfOk r (λ o. IfSome o (Declares reading.names))) (λ _. tt)
    (λ _. cond_both (reading.lines == 0) (header_line (tokens bytes)) (later_line reading sent (tokens bytes)) (λ r. IfOk r (λ o. IfSome o (Declares reading.names)))
    (λ _. cond_both (is_header (tokens bytes)) (Ok None) _ (λ r. IfOk r (λ o. IfSome o (Declares reading.names))) (λ _. tt) (λ _. tt))
    (λ _. later_declares reading sent (tokens bytes))))

abbrev pub AnswerDeclares : List Named → LineAnswer → Type 0
AnswerDeclares names (passes reading) = Unit {0}
AnswerDeclares names (gives line reading) = Declares names line
AnswerDeclares names (refuses why) = Unit {0}

answer_declares : (reading : Reading) (r : Result (Option Line) SchedRefusal) → IfOk r (λ o. IfSome o (Declares reading.names)) → AnswerDeclares reading.names (answer_to reading r)
answer_declares reading (Err e) h = tt
answer_declares reading (Ok None) h = tt
answer_declares reading (Ok (Some l)) h = h

-- what is read of a line declares only what may be declared
pub reading_declares : (reading : Reading) (sent : ℕ) (bytes : List ℕ) → AnswerDeclares reading.names (reading_of reading sent bytes)
reading_declares reading sent bytes = answer_declares reading (bounded_line reading sent bytes) (bounded_declares reading sent bytes)
