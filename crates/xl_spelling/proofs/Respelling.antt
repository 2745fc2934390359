-- A line that was read, read again from its spelling.
use Rattle.std.proofs.Common.{◌≡◌, ◌≤◌, ap₂, ◌==◌, ◌&&◌, ◌⊎◌, inl, inr, ℕ, Bool, true, false, cond, nat_le, nat_lt, List, [], ◌∷◌, length, Option, Some, None, Result, Ok, Err, refl, ap, sym, ◌∙◌, subst, arith, codes, decimal}
use Rattle.std.specs.List.{Contains, AllByRecursion, join_with_byte}
use Rattle.std.proofs.lemmas.Bool.{and_parts, cases_Bool, cond_both, eq-eqb, lt-ltb, ltb-true, or_left}
use Rattle.std.proofs.lemmas.Bool.Decides.{nat_tests}
use Rattle.std.proofs.lemmas.List.Elements.{All-contains_itself, All-from_recursion, recursion_from_All}
use Rattle.xl_sched.specs.Limits.{most_bytes, most_lines, most_lists}
use Rattle.xl_lists.specs.Lists.{TrustedList, IsValid, is_on}
use Rattle.xl_sched.specs.declared.event.What.{What}
use Rattle.xl_sched.specs.declared.event.What.TheVariants as what
use Rattle.xl_sched.specs.Events.{list_event, set_list}
use Rattle.xl_sched.specs.Members.{declared_of, member_of, members_of, trusted_of}
use Rattle.xl_sched.specs.Numbers.{is_number, number_of, value_of}
use Rattle.xl_sched.specs.Refusals.{◌>>=◌}
use Rattle.xl_sched.specs.declared.line.Line.{Line}
use Rattle.xl_sched.specs.declared.line.Line.TheVariants as line
use Rattle.xl_sched.specs.declared.refusal.SchedRefusal.{SchedRefusal}
use Rattle.xl_sched.specs.declared.refusal.SchedRefusal.TheVariants as refusal
use Rattle.xl_sched.specs.declared.word.EventWord.{EventWord}
use Rattle.xl_sched.specs.declared.word.EventWord.TheVariants as event
use Rattle.xl_sched.specs.declared.word.SettingWord.{SettingWord}
use Rattle.xl_sched.specs.declared.word.SettingWord.TheVariants as setting
use Rattle.xl_sched.specs.Tokens.{is_blank, tokens}
use Rattle.xl_sched.specs.Words.{setting_word, event_word, is_declaration, set_line, setting_line, what_of, event_line, event_line_of, line_of, worded_line}
use Rattle.xl_sched.specs.Reading.{Reading, after, opened}
use Rattle.xl_sched.specs.Answers.{LineAnswer, is_header, first_token, header_line, is_comment, some_line, later_line, line_of_tokens, bounded_line, gives, refuses, answer_to, reading_of}
use Rattle.xl_spelling.specs.Spellings.{line_words, list_line, spelling, with_commas, Says, AddsNoControl, ListsAreRead, MayBeSet}
use Rattle.xl_spelling.specs.Stored.{IsStoredWhat, IsStored}
use Rattle.xl_spelling.proofs.Joins.{Clear, IsToken, tokens-joined, tokens-are, tokens-all, spread, tokens-spread, joined-spread, joined-all}
use Rattle.xl_spelling.proofs.Parts.{Gives, steps, same-ok, unstopped}
use Rattle.xl_spelling.proofs.Small.{IsInk, IsInked, IsSmall, are_ink, declared-small, inked, number-small, small-inked, AreLike}
use Rattle.xl_spelling.proofs.Members.{list-again, member-again, number-read, texts, trusted-again}
use Rattle.xl_spelling.proofs.WordLemmas.{event_text, event_text-same, setting_text, setting_text-same}
use Rattle.xl_spelling.proofs.Happening.{what-again}
use Rattle.xl_spelling.proofs.Telling.{setting-again}

-- a word is short and visible
abbrev is_fine : List ℕ → Bool
is_fine t = nat_le 1 (length t) && nat_le (length t) 10 && are_ink t

fine-small : (t : List ℕ) → is_fine t ≡ true → IsSmall 10 t
fine-small t h =
    let outer = and_parts (nat_le 1 (length t) && nat_le (length t) 10) (are_ink t) h in
    let inner = and_parts (nat_le 1 (length t)) (nat_le (length t) 10) outer.0 in
    let least = inner.0 in
    let most = inner.1 in
    record { some = grind (arith, nat_tests); few = grind (arith, nat_tests); ink = inked t outer.1 }

event_text-fine : (w : EventWord) → is_fine (event_text w) ≡ true
event_text-fine event.Issue = refl
event_text-fine other = refl

setting_text-fine : (w : SettingWord) → is_fine (setting_text w) ≡ true
setting_text-fine setting.Limit = refl
setting_text-fine other = refl

-- a line by its word, said again
record IsWordedAgain (reading : Reading) (sent : ℕ) (token : List ℕ) (old : List (List ℕ)) (l : Line) : Type 0 where
  arguments : List (List ℕ)
  words : line_words l ≡ token ∷ arguments
  same : worded_line reading sent token arguments ≡ Ok l
  like : AreLike 16900 old arguments
  small : IsSmall 10 token

happens-again : (reading : Reading) (sent : ℕ) (token : List ℕ) (old : List (List ℕ)) (l : Line) (w : EventWord) → setting_word token ≡ None → event_word token ≡ Some w → event_line reading (what_of reading sent w old) ≡ Ok l → IsStored l → IsWordedAgain reading sent token old l
happens-again reading sent token old l w none is e stored =
    let s = steps (what_of reading sent w old) (λ what. Ok (line.Event (record { at = reading.now; what = what }))) l e in
    let said : Line = line.Event (record { at = reading.now; what = s.value }) in
    let same = same-ok said l s.rest in
    let fits : IsStoredWhat s.value = subst IsStored (sym same) stored in
    let again = what-again reading sent w old s.value s.gave fits in
    let text = event_text-same token w is in
    record {
      arguments = again.arguments;
      words = ap line_words (sym same) ∙ again.words ∙ ap (λ t. t ∷ again.arguments) text;
      same =
          ap (λ o. line_of reading sent o token again.arguments) none
          ∙ ap (λ o. event_line_of reading sent o token again.arguments) is
          ∙ ap (event_line reading) again.same
          ∙ ap (λ l. Ok l) same;
      like = again.like;
      small = subst (IsSmall 10) text (fine-small (event_text w) (event_text-fine w));
    }

set-again : (reading : Reading) (sent : ℕ) (token : List ℕ) (old : List (List ℕ)) (l : Line) (w : SettingWord) → setting_word token ≡ Some w → setting_line reading w token old ≡ Ok l → IsStored l → IsWordedAgain reading sent token old l
set-again reading sent token old l w is e stored =
    let u = unstopped (reading.started && is_declaration w) (set_line reading w old) l (refusal.Late token) e in
    let again = setting-again reading w old l u.1 stored in
    let text = setting_text-same token w is in
    record {
      arguments = again.arguments;
      words = again.words ∙ ap (λ t. t ∷ again.arguments) text;
      same =
          ap (λ o. line_of reading sent o token again.arguments) is
          ∙ ap (λ b. cond b (Err (refusal.Late token)) (set_line reading w again.arguments)) u.0
          ∙ again.same;
      like = again.like;
      small = subst (IsSmall 10) text (fine-small (setting_text w) (setting_text-fine w));
    }

worded-again : (reading : Reading) (sent : ℕ) (token : List ℕ) (old : List (List ℕ)) (l : Line) → worded_line reading sent token old ≡ Ok l → IsStored l → IsWordedAgain reading sent token old l
worded-again reading sent token old l e stored =
    elim (setting_word token) as (λ o. setting_word token ≡ o → Gives (line_of reading sent o token old) l → IsWordedAgain reading sent token old l) [
      | Some w ↦ λ is k. set-again reading sent token old l w is k stored
      | None ↦ λ none k.
          elim (event_word token) as (λ o. event_word token ≡ o → Gives (event_line_of reading sent o token old) l → IsWordedAgain reading sent token old l) [
            | Some w ↦ λ is h. happens-again reading sent token old l w none is h stored
            | None ↦ λ _ h. absurd (cc)
          ] refl k
    ] refl e

-- the tokens of a line that says something
pub record IsWorded (reading : Reading) (sent : ℕ) (ts : List (List ℕ)) (l : Line) : Type 0 where
  pub token : List ℕ
  pub rest : List (List ℕ)
  pub whole : ts ≡ token ∷ rest
  pub no_comment : is_comment token ≡ false
  pub says : worded_line reading sent token rest ≡ Ok l

abbrev pub GivesSome : Result (Option Line) SchedRefusal → Line → Type 0
GivesSome read l = read ≡ Ok (Some l)

later-worded : (reading : Reading) (sent : ℕ) (ts : List (List ℕ)) (l : Line) → GivesSome (later_line reading sent ts) l → IsWorded reading sent ts l
later-worded reading sent [] l e = absurd (cc)
later-worded reading sent (token ∷ rest) l e =
    elim (is_comment token) as (λ b. is_comment token ≡ b → GivesSome (cond b (Ok None) (some_line (worded_line reading sent token rest))) l → IsWorded reading sent (token ∷ rest) l) [
      | true ↦ λ _ k. absurd (cc)
      | false ↦ λ no k.
          let s = steps (worded_line reading sent token rest) (λ l. Ok (Some l)) (Some l) k in
          let is : s.value ≡ l = cc (s.rest) in
          record { token = token; rest = rest; whole = refl; no_comment = no; says = s.gave ∙ ap (λ l. Ok l) is }
    ] refl e

header-says-nothing : (is : Bool) (q : SchedRefusal) (l : Line) → GivesSome (cond is (Ok None) (Err q)) l → ⊥
header-says-nothing true q l e = cc
header-says-nothing false q l e = cc

-- a line that says something isn't the first
pub record IsLater (reading : Reading) (sent : ℕ) (ts : List (List ℕ)) (l : Line) : Type 0 where
  pub later : (reading.lines == 0) ≡ false
  pub worded : IsWorded reading sent ts l

pub tokens-later : (reading : Reading) (sent : ℕ) (ts : List (List ℕ)) (l : Line) → GivesSome (line_of_tokens reading sent ts) l → IsLater reading sent ts l
tokens-later reading sent ts l e =
    elim (reading.lines == 0) as (λ b. (reading.lines == 0) ≡ b → GivesSome (cond b (header_line ts) (later_line reading sent ts)) l → IsLater reading sent ts l) [
      | true ↦ λ _ k. absurd (header-says-nothing (is_header ts) (refusal.Header (first_token ts)) l k)
      | false ↦ λ no k. record { later = no; worded = later-worded reading sent ts l k }
    ] refl e

pub answer-gave : (reading known : Reading) (read : Result (Option Line) SchedRefusal) (l : Line) → answer_to reading read ≡ gives l known → GivesSome read l
answer-gave reading known (Ok None) l e = absurd (cc)
answer-gave reading known (Ok (Some m)) l e = cc
answer-gave reading known (Err q) l e = absurd (cc)

ink-clear : (t : List ℕ) → AllByRecursion IsInk t → Clear is_blank t
ink-clear [] h = tt
ink-clear (b ∷ bs) h =
    let above = h.0.0 in
    (grind (arith, nat_tests), ink-clear bs h.1)

inked-tokens : (ts : List (List ℕ)) → AllByRecursion IsInked ts → AllByRecursion IsToken ts
inked-tokens [] h = tt
inked-tokens (t ∷ ts) h = ((h.0.0, ink-clear t h.0.1), inked-tokens ts h.1)

-- what the spelling of a line is, beside the line that it was read from
record IsRespelled (bytes : List ℕ) (ts : List (List ℕ)) : Type 0 where
  are : AllByRecursion IsToken ts
  few : length (join_with_byte 32 ts) ≤ most_bytes
  bytes_of : AllByRecursion (λ b. (32 ≤ b) ⊎ Contains bytes b) (join_with_byte 32 ts)

there : (bytes : List ℕ) (t : List ℕ) → AllByRecursion (Contains bytes) t → AllByRecursion (λ b. (32 ≤ b) ⊎ Contains bytes b) t
there bytes [] h = tt
there bytes (b ∷ bs) h = (inr h.0, there bytes bs h.1)

all-there : (bytes : List ℕ) (ts : List (List ℕ)) → AllByRecursion (λ t. (1 ≤ length t) × AllByRecursion (Contains bytes) t) ts → AllByRecursion (AllByRecursion (λ b. (32 ≤ b) ⊎ Contains bytes b)) ts
all-there bytes [] h = tt
all-there bytes (t ∷ ts) h = (there bytes t h.0.1, all-there bytes ts h.1)

visible : (bytes : List ℕ) (t : List ℕ) → AllByRecursion IsInk t → AllByRecursion (λ b. (32 ≤ b) ⊎ Contains bytes b) t
visible bytes [] h = tt
visible bytes (b ∷ bs) h = (inl (omega (arith, h.0.0)), visible bytes bs h.1)

all-visible : (bytes : List ℕ) (ts : List (List ℕ)) → AllByRecursion IsInked ts → AllByRecursion (AllByRecursion (λ b. (32 ≤ b) ⊎ Contains bytes b)) ts
all-visible bytes [] h = tt
all-visible bytes (t ∷ ts) h = (visible bytes t h.0.1, all-visible bytes ts h.1)

-- the very tokens of the line
same-respelled : (bytes token : List ℕ) (rest : List (List ℕ)) → tokens bytes ≡ token ∷ rest → length bytes ≤ most_bytes → IsRespelled bytes (token ∷ rest)
same-respelled bytes token rest whole few = record {
  are = subst (AllByRecursion IsToken) whole (tokens-are bytes);
  few = omega (arith, joined-spread 32 token rest, tokens-spread bytes, ap spread whole, few);
  bytes_of =
      joined-all (λ b. (32 ≤ b) ⊎ Contains bytes b) 32 (token ∷ rest) (inl (omega arith))
      (all-there bytes (token ∷ rest)
      (subst (AllByRecursion (λ t. (1 ≤ length t) × AllByRecursion (Contains bytes) t)) whole
      (tokens-all (Contains bytes) bytes (recursion_from_All (Contains bytes) bytes (All-contains_itself bytes)))));
}

-- short ones
short-respelled : (bytes token : List ℕ) (arguments : List (List ℕ)) → IsSmall 10 token → AllByRecursion IsInked arguments → spread arguments ≤ 16900 → IsRespelled bytes (token ∷ arguments)
short-respelled bytes token arguments small ink few =
    let all : AllByRecursion IsInked (token ∷ arguments) = ((small.some, small.ink), ink) in
    record {
      are = inked-tokens (token ∷ arguments) all;
      few = omega (arith, joined-spread 32 token arguments, small.few, few);
      bytes_of = joined-all (λ b. (32 ≤ b) ⊎ Contains bytes b) 32 (token ∷ arguments) (inl (omega arith)) (all-visible bytes (token ∷ arguments) all);
    }

like-respelled : (bytes token : List ℕ) (old new : List (List ℕ)) → tokens bytes ≡ token ∷ old → length bytes ≤ most_bytes → IsSmall 10 token → AreLike 16900 old new → IsRespelled bytes (token ∷ new)
like-respelled bytes token old new whole few small (inl same) = same-respelled bytes token new (whole ∙ ap (λ ts. token ∷ ts) (sym same)) few
like-respelled bytes token old new whole few small (inr short) = short-respelled bytes token new small short.0 short.1

-- a line that was read, and its spelling
pub record IsSpelled (reading : Reading) (sent : ℕ) (bytes : List ℕ) (l : Line) : Type 0 where
  pub same : Says reading sent (spelling l) l
  pub plain : AddsNoControl bytes (spelling l)

pub spelled-again : (reading : Reading) (sent : ℕ) (bytes : List ℕ) (l : Line) → Says reading sent bytes l → IsStored l → IsSpelled reading sent bytes l
spelled-again reading sent bytes l e stored =
    let read = answer-gave reading (after reading l) (bounded_line reading sent bytes) l e in
    let length-ok = unstopped (nat_lt most_bytes (length bytes)) (cond (reading.lines == most_lines) (Err (refusal.Limit (decimal most_lines))) (line_of_tokens reading sent (tokens bytes))) (Some l) (refusal.LongLine (decimal most_bytes)) read in
    let lines-ok = unstopped (reading.lines == most_lines) (line_of_tokens reading sent (tokens bytes)) (Some l) (refusal.Limit (decimal most_lines)) length-ok.1 in
    let later = tokens-later reading sent (tokens bytes) l lines-ok.1 in
    let w = later.worded in
    let again = worded-again reading sent w.token w.rest l w.says stored in
    let not-long = length-ok.0 in
    let few : length bytes ≤ most_bytes = grind (arith, nat_tests) in
    let re = like-respelled bytes w.token w.rest again.arguments w.whole few again.small again.like in
    let ts = w.token ∷ again.arguments in
    let text : spelling l ≡ join_with_byte 32 ts = ap (join_with_byte 32) again.words in
    let short = re.few in
    let fits : nat_lt most_bytes (length (join_with_byte 32 ts)) ≡ false = grind (arith, nat_tests) in
    let tokened : later_line reading sent ts ≡ Ok (Some l) =
    ap (λ b. cond b (Ok None) (some_line (worded_line reading sent w.token again.arguments))) w.no_comment ∙ ap some_line again.same in
    record {
      same =
          ap (reading_of reading sent) text
          ∙ ap (λ b. answer_to reading (cond b (Err (refusal.LongLine (decimal most_bytes))) (cond (reading.lines == most_lines) (Err (refusal.Limit (decimal most_lines))) (line_of_tokens reading sent (tokens (join_with_byte 32 ts)))))) fits
          ∙ ap (λ b. answer_to reading (cond b (Err (refusal.Limit (decimal most_lines))) (line_of_tokens reading sent (tokens (join_with_byte 32 ts))))) lines-ok.0
          ∙ ap (λ ts. answer_to reading (line_of_tokens reading sent ts)) (tokens-joined ts re.are)
          ∙ ap (λ b. answer_to reading (cond b (header_line ts) (later_line reading sent ts))) later.later
          ∙ ap (answer_to reading) tokened;
      plain =
          subst (AddsNoControl bytes) (sym text)
          (All-from_recursion (λ b. (32 ≤ b) ⊎ Contains bytes b) (join_with_byte 32 ts) re.bytes_of);
    }

-- A LIST THAT IS SET

member-read : (m : ℕ) → 1 ≤ m → m ≤ 64 → member_of (decimal m) ≡ Ok m
member-read m least greatest =
    let again = member-again m least greatest in
    let is = again.number in
    let value = again.value in
    let test : (is_number (decimal m) && nat_le 1 (value_of (decimal m)) && nat_le (value_of (decimal m)) 64) ≡ true = grind (arith, nat_tests) in
    ap₂ (λ (b : Bool) (v : ℕ). cond b (Ok v) (Err (refusal.Number (decimal m)))) test value

declared-read : (nodes : List ℕ) (m : ℕ) → 1 ≤ m → m ≤ 64 → is_on nodes m ≡ true → declared_of nodes (decimal m) ≡ Ok m
declared-read nodes m least greatest on =
    ap (λ read. read >>= (λ member. cond (is_on nodes member) (Ok member) (Err (refusal.Absent (decimal m))))) (member-read m least greatest)
    ∙ ap (λ b. cond b (Ok m) (Err (refusal.Absent (decimal m)))) on

-- its tokens, behind the first
list-arguments : ℕ → TrustedList → List (List ℕ)
list-arguments node list = decimal node ∷ decimal list.quorum ∷ with_commas (texts list.members) ∷ []

quorum-read : (list : TrustedList) → IsValid list → number_of (decimal list.quorum) ≡ Ok list.quorum
quorum-read list valid =
    number-read list.quorum (omega (arith, valid.some, valid.majority)) (omega (arith, valid.within, valid.at_most))

list-said : (reading : Reading) (node : ℕ) (list : TrustedList) → MayBeSet reading node list → list_event reading (list-arguments node list) ≡ Ok (what.List node list)
unfolding list-arguments
list-said reading node list may =
    let text = with_commas (texts list.members) in
    let quorum = decimal list.quorum in
    ap (λ b. cond b (set_list reading (decimal node ∷ quorum ∷ text ∷ [])) (Err (refusal.Limit (decimal most_lists)))) (lt-ltb _ _ may.lists)
    ∙ ap (λ read. read >>= (λ node. number_of quorum >>= (λ least. members_of text >>= (λ numbers. trusted_of numbers least >>= (λ list. Ok (what.List node list)))))) (declared-read reading.nodes node may.least may.greatest may.declared)
    ∙ ap (λ read. read >>= (λ least. members_of text >>= (λ numbers. trusted_of numbers least >>= (λ list. Ok (what.List node list))))) (quorum-read list may.valid)
    ∙ ap (λ read. read >>= (λ numbers. trusted_of numbers list.quorum >>= (λ list. Ok (what.List node list)))) (list-again list may.valid).same
    ∙ ap (λ read. read >>= (λ list. Ok (what.List node list))) (trusted-again list list.quorum (record { valid = may.valid; its_quorum = refl }))

list-respelled : (reading : Reading) (node : ℕ) (list : TrustedList) → MayBeSet reading node list → IsRespelled [] (codes "list" ∷ list-arguments node list)
unfolding list-arguments
list-respelled reading node list may =
    let node-small = declared-small reading.nodes (decimal node) node (declared-read reading.nodes node may.least may.greatest may.declared) in
    let quorum-small = number-small (decimal list.quorum) list.quorum (quorum-read list may.valid) in
    let members-small = (list-again list may.valid).small in
    short-respelled [] (codes "list") (list-arguments node list) (fine-small (event_text event.List) (event_text-fine event.List))
    (small-inked 10 _ node-small, (small-inked 10 _ quorum-small, (small-inked 192 _ members-small, tt)))
    (omega (arith, node-small.few, quorum-small.few, members-small.few))

pub lists_read : ListsAreRead
unfolding list-arguments
lists_read reading sent node list may =
    let ts = codes "list" ∷ list-arguments node list in
    let re = list-respelled reading node list may in
    let short = re.few in
    let fits : nat_lt most_bytes (length (join_with_byte 32 ts)) ≡ false = grind (arith, nat_tests) in
    let many = may.lines in
    let more : (reading.lines == most_lines) ≡ false = grind (arith, nat_tests) in
    let first = may.later in
    let later : (reading.lines == 0) ≡ false = grind (arith, nat_tests) in
    let tokened : later_line reading sent ts ≡ Ok (Some (list_line reading node list)) = ap (λ read. some_line (event_line reading read)) (list-said reading node list may) in
    ap (λ b. answer_to reading (cond b (Err (refusal.LongLine (decimal most_bytes))) (cond (reading.lines == most_lines) (Err (refusal.Limit (decimal most_lines))) (line_of_tokens reading sent (tokens (join_with_byte 32 ts)))))) fits
    ∙ ap (λ b. answer_to reading (cond b (Err (refusal.Limit (decimal most_lines))) (line_of_tokens reading sent (tokens (join_with_byte 32 ts))))) more
    ∙ ap (λ ts. answer_to reading (line_of_tokens reading sent ts)) (tokens-joined ts re.are)
    ∙ ap (λ b. answer_to reading (cond b (header_line ts) (later_line reading sent ts))) later
    ∙ ap (answer_to reading) tokened

-- A LIST THAT MAY BE SET, OR NOT

-- what happens, or why it is refused
abbrev ListOr : What → Result What SchedRefusal → Type 0
ListOr w r = (r ≡ Ok w) ⊎ ((why : SchedRefusal) × (r ≡ Err why))

-- whoever else is declared, however much was read
module _ (reading : Reading) (node : ℕ) (list : TrustedList) (least : 1 ≤ node) (greatest : node ≤ 64) (valid : IsValid list) where
  undeclared-said : nat_lt reading.lists most_lists ≡ true → is_on reading.nodes node ≡ false → ListOr (what.List node list) (list_event reading (list-arguments node list))
  unfolding list-arguments
  undeclared-said few off =
      let text = with_commas (texts list.members) in
      let quorum = decimal list.quorum in
      let absent : declared_of reading.nodes (decimal node) ≡ Err (refusal.Absent (decimal node)) =
      ap (λ read. read >>= (λ member. cond (is_on reading.nodes member) (Ok member) (Err (refusal.Absent (decimal node))))) (member-read node least greatest)
      ∙ ap (λ b. cond b (Ok node) (Err (refusal.Absent (decimal node)))) off in
      inr (
        refusal.Absent (decimal node),
        ap (λ b. cond b (set_list reading (decimal node ∷ quorum ∷ text ∷ [])) (Err (refusal.Limit (decimal most_lists)))) few
            ∙ ap (λ read. read >>= (λ node. number_of quorum >>= (λ least. members_of text >>= (λ numbers. trusted_of numbers least >>= (λ list. Ok (what.List node list)))))) absent,
      )

  list-or : ListOr (what.List node list) (list_event reading (list-arguments node list))
  list-or =
      elim (cases_Bool (nat_lt reading.lists most_lists)) [
        | inl few ↦ elim (cases_Bool (is_on reading.nodes node)) [
          | inl on ↦ inl (list-said (record reading { lines = 1 }) node list (record { least = least; greatest = greatest; declared = on; valid = valid; later = omega arith; lines = omega arith; lists = ltb-true _ _ few }))
          | inr off ↦ undeclared-said few off
        ]
        | inr many ↦ inr (refusal.Limit (decimal most_lists), ap (λ b. cond b (set_list reading (list-arguments node list)) (Err (refusal.Limit (decimal most_lists)))) many)
      ]

-- the line of such a list says it or is refused, and has no byte below 32
pub record IsListLine (reading : Reading) (sent node : ℕ) (list : TrustedList) : Type 0 where
  pub answer : Says reading sent (spelling (list_line reading node list)) (list_line reading node list)
      ⊎ ((why : SchedRefusal) × (reading_of reading sent (spelling (list_line reading node list)) ≡ refuses why))
  pub plain : AddsNoControl [] (spelling (list_line reading node list))

pub list_line-read : (reading : Reading) (sent node : ℕ) (list : TrustedList) → 1 ≤ node → node ≤ 64 → IsValid list → IsListLine reading sent node list
unfolding list-arguments
list_line-read reading sent node list least greatest valid =
    let ts = codes "list" ∷ list-arguments node list in
    let alone : Reading = record opened { lines = 1; nodes = node ∷ [] } in
    let own : is_on alone.nodes node ≡ true = or_left (node == node) false (eq-eqb node node refl) in
    let may : MayBeSet alone node list = record { least = least; greatest = greatest; declared = own; valid = valid; later = omega arith; lines = omega arith; lists = omega arith } in
    let re = list-respelled alone node list may in
    let short = re.few in
    let fits : nat_lt most_bytes (length (join_with_byte 32 ts)) ≡ false = grind (arith, nat_tests) in
    let Fine : LineAnswer → Type 0 = λ a. (a ≡ gives (list_line reading node list) (after reading (list_line reading node list))) ⊎ ((why : SchedRefusal) × (a ≡ refuses why)) in
    let said : Fine (answer_to reading (later_line reading sent ts)) =
    elim (list-or reading node list least greatest valid) [
      | inl same ↦ inl (ap (λ read. answer_to reading (some_line (event_line reading read))) same)
      | inr (why, same) ↦ inr (why, ap (λ read. answer_to reading (some_line (event_line reading read))) same)
    ] in
    let whole : reading_of reading sent (spelling (list_line reading node list)) ≡ answer_to reading (cond (reading.lines == most_lines) (Err (refusal.Limit (decimal most_lines))) (line_of_tokens reading sent ts)) =
    ap (λ b. answer_to reading (cond b (Err (refusal.LongLine (decimal most_bytes))) (cond (reading.lines == most_lines) (Err (refusal.Limit (decimal most_lines))) (line_of_tokens reading sent (tokens (join_with_byte 32 ts)))))) fits
    ∙ ap (λ ts. answer_to reading (cond (reading.lines == most_lines) (Err (refusal.Limit (decimal most_lines))) (line_of_tokens reading sent ts))) (tokens-joined ts re.are) in
    record {
      answer =
          subst Fine (sym whole)
          (cond_both (reading.lines == most_lines) (Err (refusal.Limit (decimal most_lines))) (line_of_tokens reading sent ts) (λ read. Fine (answer_to reading read)) (λ _. inr (_, refl))
          (λ _. cond_both (reading.lines == 0) (header_line ts) (later_line reading sent ts) (λ read. Fine (answer_to reading read)) (λ _. inr (_, refl)) (λ _. said)));
      plain = All-from_recursion (λ b. (32 ≤ b) ⊎ Contains [] b) (join_with_byte 32 ts) re.bytes_of;
    }
