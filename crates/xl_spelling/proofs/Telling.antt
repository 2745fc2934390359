-- Lines at which nothing happens, said again.
use Rattle.std.proofs.Common.{◌≡◌, ◌≤◌, ◌&&◌, ◌||◌, inl, inr, ℕ, Bool, true, not, cond, nat_le, List, [], ◌∷◌, length, Some, None, is_some, Result, Ok, Err, refl, ap, sym, ◌∙◌, subst, arith, decimal, codes}
use Rattle.std.specs.List.{list_all, AllByRecursion}
use Rattle.std.specs.Char.{is_ascii_digit}
use Rattle.std.proofs.lemmas.Bool.{and_parts}
use Rattle.std.proofs.lemmas.Bool.Decides.{nat_tests}
use Rattle.hex.specs.Hex.{encode_lower}
use Rattle.xl_base.specs.Moments.{greatest_millis}
use Rattle.xl_ledger.specs.Limits.{least_limit}
use Rattle.xl_lists.specs.Lists.{is_on}
use Rattle.xl_sched.specs.Limits.{most_ledgers, most_names}
use Rattle.xl_sched.specs.declared.line.Line.{Line}
use Rattle.xl_sched.specs.declared.line.Line.TheVariants as line
use Rattle.xl_sched.specs.declared.named.Named.{Named}
use Rattle.xl_sched.specs.declared.refusal.SchedRefusal.{SchedRefusal}
use Rattle.xl_sched.specs.declared.refusal.SchedRefusal.TheVariants as refusal
use Rattle.xl_sched.specs.declared.word.SettingWord.{SettingWord}
use Rattle.xl_sched.specs.declared.word.SettingWord.TheVariants as setting
use Rattle.xl_sched.specs.Refusals.{◌>>=◌}
use Rattle.xl_sched.specs.Numbers.{number_within, number_of}
use Rattle.xl_sched.specs.Names.{is_letter, is_name, id_named, id_of, new_name_of}
use Rattle.xl_sched.specs.Ledgers.{parent_of, header_after}
use Rattle.xl_sched.specs.Members.{member_of, new_member_of, members_of, trusted_of}
use Rattle.xl_sched.specs.Settings.{limit_line, speak_line, mode_of, node_of, node_line, liar_line, at_line}
use Rattle.xl_sched.specs.Naming.{has_most_names, named_line, name_line, named_ledger_line, ledger_line}
use Rattle.xl_sched.specs.Words.{set_line}
use Rattle.xl_sched.specs.Reading.{Reading}
use Rattle.xl_spelling.specs.Spellings.{mode_words, line_words, with_commas}
use Rattle.xl_base.specs.Ids.{IsId}
use Rattle.xl_spelling.specs.Stored.{IsStored}
use Rattle.xl_spelling.proofs.Parts.{steps, same-ok, unstopped, number_within-same, number-same, new_member-same, mode-same, id-read}
use Rattle.xl_spelling.proofs.Members.{texts, list-again, trusted-made, trusted-again}
use Rattle.xl_spelling.proofs.Small.{IsInk, IsSmall, inked, small-inked, number_within-small, number-small, id-small}
use Rattle.xl_spelling.proofs.Asks.{IsAgain}
use Rattle.xl_spelling.proofs.WordLemmas.{setting_text}

-- a line of this word says again what it said
abbrev pub IsLineAgain : (List (List ℕ) → Result Line SchedRefusal) → List ℕ → List (List ℕ) → Line → Type 0
IsLineAgain read word old l = IsAgain line_words read word 16900 old l

limit_line-again : (reading : Reading) (old : List (List ℕ)) (l : Line) → limit_line reading old ≡ Ok l → IsLineAgain (limit_line reading) (codes "limit") old l
limit_line-again reading (number ∷ []) l e =
    let n = steps (number_within least_limit most_ledgers number) (λ limit. cond reading.limited (Err (refusal.Twice number)) (Ok (line.Limit limit))) l e in
    let u = unstopped reading.limited (Ok (line.Limit n.value)) l (refusal.Twice number) n.rest in
    let is = same-ok (line.Limit n.value) l u.1 in
    let limit = number_within-same least_limit most_ledgers number n.value (omega arith) n.gave in
    record { arguments = number ∷ []; words = ap line_words (sym is) ∙ cc (limit.1); same = e; count = refl; like = inl refl }
limit_line-again reading other l e = absurd (cc)

speak_line-again : (reading : Reading) (old : List (List ℕ)) (l : Line) → speak_line reading old ≡ Ok l → IsLineAgain (speak_line reading) (codes "speak") old l
speak_line-again reading (number ∷ []) l e =
    let n = steps (number_within 1 2 number) (λ version. cond reading.spoken (Err (refusal.Twice number)) (Ok (line.Speak version))) l e in
    let u = unstopped reading.spoken (Ok (line.Speak n.value)) l (refusal.Twice number) n.rest in
    let is = same-ok (line.Speak n.value) l u.1 in
    let version = number_within-same 1 2 number n.value (omega arith) n.gave in
    record { arguments = number ∷ []; words = ap line_words (sym is) ∙ cc (version.1); same = e; count = refl; like = inl refl }
speak_line-again reading other l e = absurd (cc)

-- a node's line, with its members by rising number
record IsNodeAgain (reading : Reading) (number quorum : List ℕ) (mode : Result Bool SchedRefusal) (words : List (List ℕ)) (l : Line) : Type 0 where
  text : List ℕ
  spelled : line_words l ≡ codes "node" ∷ number ∷ quorum ∷ text ∷ words
  same : node_of reading number quorum text mode ≡ Ok l
  first : IsSmall 10 number
  second : IsSmall 10 quorum
  third : IsSmall 192 text

new_member-small : (nodes liars t : List ℕ) (n : ℕ) → new_member_of nodes liars t ≡ Ok n → IsSmall 10 t
new_member-small nodes liars t n e =
    let s = steps (member_of t) (λ m. cond (is_on nodes m || is_on liars m) (Err (refusal.Twice t)) (Ok m)) n e in
    number_within-small 1 64 t s.value (omega arith) s.gave

node_of-again : (reading : Reading) (number quorum members : List ℕ) (mode : Result Bool SchedRefusal) (words : List (List ℕ)) (l : Line) →
    ((validating : Bool) → mode ≡ Ok validating → mode_words validating ≡ words) → node_of reading number quorum members mode ≡ Ok l →
    IsNodeAgain reading number quorum mode words l
node_of-again reading number quorum members mode words l spelled e =
    let me = steps (new_member_of reading.nodes reading.liars number) (λ me. number_of quorum >>= (λ least. members_of members >>= (λ numbers. mode >>= (λ validating. trusted_of numbers least >>= (λ list. Ok (line.Node me list validating)))))) l e in
    let least = steps (number_of quorum) (λ least. members_of members >>= (λ numbers. mode >>= (λ validating. trusted_of numbers least >>= (λ list. Ok (line.Node me.value list validating))))) l me.rest in
    let numbers = steps (members_of members) (λ numbers. mode >>= (λ validating. trusted_of numbers least.value >>= (λ list. Ok (line.Node me.value list validating)))) l least.rest in
    let validating = steps mode (λ validating. trusted_of numbers.value least.value >>= (λ list. Ok (line.Node me.value list validating))) l numbers.rest in
    let list = steps (trusted_of numbers.value least.value) (λ list. Ok (line.Node me.value list validating.value)) l validating.rest in
    let is = same-ok (line.Node me.value list.value validating.value) l list.rest in
    let trusted = trusted-made numbers.value least.value list.value list.gave in
    let listed = list-again list.value trusted.valid in
    let text = with_commas (texts list.value.members) in
    let first = new_member-same reading.nodes reading.liars number me.value me.gave in
    let second : decimal list.value.quorum ≡ quorum = ap (λ n. decimal n) trusted.its_quorum ∙ number-same quorum least.value least.gave in
    let fourth = spelled validating.value validating.gave in
    record {
      text = text;
      spelled = ap line_words (sym is) ∙ cc (first, second, fourth);
      same =
          ap (λ read. read >>= (λ me. number_of quorum >>= (λ least. members_of text >>= (λ numbers. mode >>= (λ validating. trusted_of numbers least >>= (λ list. Ok (line.Node me list validating))))))) me.gave
          ∙ ap (λ read. read >>= (λ least. members_of text >>= (λ numbers. mode >>= (λ validating. trusted_of numbers least >>= (λ list. Ok (line.Node me.value list validating)))))) least.gave
          ∙ ap (λ read. read >>= (λ numbers. mode >>= (λ validating. trusted_of numbers least.value >>= (λ list. Ok (line.Node me.value list validating))))) listed.same
          ∙ ap (λ read. read >>= (λ validating. trusted_of list.value.members least.value >>= (λ list. Ok (line.Node me.value list validating)))) validating.gave
          ∙ ap (λ read. read >>= (λ list. Ok (line.Node me.value list validating.value))) (trusted-again list.value least.value trusted)
          ∙ ap (λ l. Ok l) is;
      first = new_member-small reading.nodes reading.liars number me.value me.gave;
      second = number-small quorum least.value least.gave;
      third = listed.small;
    }

-- the mode of a node's line that has one
node_mode : (reading : Reading) (number quorum members mode : List ℕ) (l : Line) → node_of reading number quorum members (mode_of (Some mode)) ≡ Ok l → codes "observing" ≡ mode
node_mode reading number quorum members mode l e =
    let me = steps (new_member_of reading.nodes reading.liars number) (λ me. number_of quorum >>= (λ least. members_of members >>= (λ numbers. mode_of (Some mode) >>= (λ validating. trusted_of numbers least >>= (λ list. Ok (line.Node me list validating)))))) l e in
    let least = steps (number_of quorum) (λ least. members_of members >>= (λ numbers. mode_of (Some mode) >>= (λ validating. trusted_of numbers least >>= (λ list. Ok (line.Node me.value list validating))))) l me.rest in
    let numbers = steps (members_of members) (λ numbers. mode_of (Some mode) >>= (λ validating. trusted_of numbers least.value >>= (λ list. Ok (line.Node me.value list validating)))) l least.rest in
    let validating = steps (mode_of (Some mode)) (λ validating. trusted_of numbers.value least.value >>= (λ list. Ok (line.Node me.value list validating))) l numbers.rest in
    (mode-same mode validating.value validating.gave).1

node_line-again : (reading : Reading) (old : List (List ℕ)) (l : Line) → node_line reading old ≡ Ok l → IsLineAgain (node_line reading) (codes "node") old l
node_line-again reading (number ∷ quorum ∷ members ∷ []) l e =
    let again = node_of-again reading number quorum members (mode_of None) [] l (λ validating m. ap mode_words (sym (same-ok true validating m))) e in
    record {
      arguments = number ∷ quorum ∷ again.text ∷ [];
      words = again.spelled;
      same = again.same;
      count = refl;
      like = inr (
        (small-inked 10 number again.first, (small-inked 10 quorum again.second, (small-inked 192 again.text again.third, tt))),
        omega (arith, again.first.few, again.second.few, again.third.few),
      );
    }
node_line-again reading (number ∷ quorum ∷ members ∷ mode ∷ []) l e =
    let again = node_of-again reading number quorum members (mode_of (Some mode)) (mode ∷ []) l
    (λ validating m. let same = mode-same mode validating m in ap mode_words same.0 ∙ ap (λ t. t ∷ []) same.1) e in
    let mode-read = node_mode reading number quorum members mode l e in
    let mode-small : IsSmall 9 mode = subst (IsSmall 9) mode-read (record { some = omega arith; few = omega arith; ink = inked (codes "observing") refl }) in
    record {
      arguments = number ∷ quorum ∷ again.text ∷ mode ∷ [];
      words = again.spelled;
      same = again.same;
      count = refl;
      like = inr (
        (small-inked 10 number again.first, (small-inked 10 quorum again.second, (small-inked 192 again.text again.third, (small-inked 9 mode mode-small, tt)))),
        omega (arith, again.first.few, again.second.few, again.third.few, mode-small.few),
      );
    }
node_line-again reading other l e = absurd (cc)

liar_line-again : (reading : Reading) (old : List (List ℕ)) (l : Line) → liar_line reading old ≡ Ok l → IsLineAgain (liar_line reading) (codes "liar") old l
liar_line-again reading (number ∷ []) l e =
    let n = steps (new_member_of reading.nodes reading.liars number) (λ liar. Ok (line.Liar liar)) l e in
    let is = same-ok (line.Liar n.value) l n.rest in
    let liar = new_member-same reading.nodes reading.liars number n.value n.gave in
    record { arguments = number ∷ []; words = ap line_words (sym is) ∙ cc liar; same = e; count = refl; like = inl refl }
liar_line-again reading other l e = absurd (cc)

at_line-again : (old : List (List ℕ)) (l : Line) → at_line old ≡ Ok l → IsLineAgain at_line (codes "at") old l
at_line-again (moment ∷ []) l e =
    let n = steps (number_within 0 greatest_millis moment) (λ at. Ok (line.At at)) l e in
    let is = same-ok (line.At n.value) l n.rest in
    let at = number_within-same 0 greatest_millis moment n.value (omega arith) n.gave in
    record { arguments = moment ∷ []; words = ap line_words (sym is) ∙ cc (at.1); same = e; count = refl; like = inl refl }
at_line-again other l e = absurd (cc)

-- a new name is the token itself, and a name
new_name-same : (names : List Named) (token name : List ℕ) → new_name_of names token ≡ Ok name → (is_name token ≡ true) × (token ≡ name)
new_name-same names token name e =
    let n = unstopped (not (is_name token)) (cond (is_some (id_named names token)) (Err (refusal.Twice token)) (Ok token)) name (refusal.Id token) e in
    let u = unstopped (is_some (id_named names token)) (Ok token) name (refusal.Twice token) n.1 in
    let named = n.0 in
    (grind (arith, nat_tests), same-ok token name u.1)

letters-ink : (t : List ℕ) → list_all (λ b. is_letter b || is_ascii_digit b) t ≡ true → AllByRecursion IsInk t
letters-ink [] h = tt
letters-ink (b ∷ bs) h =
    let parts = and_parts (is_letter b || is_ascii_digit b) (list_all (λ b. is_letter b || is_ascii_digit b) bs) h in
    let here = parts.0 in
    ((grind (arith, nat_tests), grind (arith, nat_tests)), letters-ink bs parts.1)

name-small : (t : List ℕ) → is_name t ≡ true → IsSmall 16 t
name-small [] h = absurd (cc)
name-small (first ∷ rest) h =
    let outer = and_parts (is_letter first && list_all (λ b. is_letter b || is_ascii_digit b) rest) (nat_le (length rest) 15) h in
    let inner = and_parts (is_letter first) (list_all (λ b. is_letter b || is_ascii_digit b) rest) outer.0 in
    let letter = inner.0 in
    let short = outer.1 in
    let few : length rest ≤ 15 = grind (arith, nat_tests) in
    record {
      some = omega arith;
      few = omega (arith, few);
      ink = ((grind (arith, nat_tests), grind (arith, nat_tests)), letters-ink rest inner.1);
    }

named_line-again : (reading : Reading) (old : List (List ℕ)) (l : Line) → named_line reading old ≡ Ok l → IsStored l → IsLineAgain (named_line reading) (codes "name") old l
named_line-again reading (name ∷ id ∷ []) l e stored =
    let n = steps (new_name_of reading.names name) (λ fresh. id_of reading.names id >>= (λ ledger. Ok (line.Name fresh ledger))) l e in
    let i = steps (id_of reading.names id) (λ ledger. Ok (line.Name n.value ledger)) l n.rest in
    let is = same-ok (line.Name n.value i.value) l i.rest in
    let fits : IsId i.value = subst IsStored (sym is) stored in
    let fresh = new_name-same reading.names name n.value n.gave in
    let named = fresh.1 in
    let digits = encode_lower i.value in
    let small = name-small name fresh.0 in
    let digits-small = id-small i.value fits in
    record {
      arguments = name ∷ digits ∷ [];
      words = ap line_words (sym is) ∙ cc named;
      same =
          ap (λ read. new_name_of reading.names name >>= (λ fresh. read >>= (λ ledger. Ok (line.Name fresh ledger))))
          (id-read reading.names i.value fits ∙ sym i.gave)
          ∙ e;
      count = refl;
      like = inr ((small-inked 16 name small, (small-inked 64 digits digits-small, tt)), omega (arith, small.few, digits-small.few));
    }
named_line-again reading other l e stored = absurd (cc)

named_ledger_line-again : (reading : Reading) (old : List (List ℕ)) (l : Line) → named_ledger_line reading old ≡ Ok l → IsLineAgain (named_ledger_line reading) (codes "ledger") old l
named_ledger_line-again reading (name ∷ parent ∷ second ∷ []) l e =
    let n = steps (new_name_of reading.names name) (λ fresh. parent_of reading.names parent >>= (λ above. number_of second >>= (λ closed. Ok (line.Ledger fresh parent (header_after above closed))))) l e in
    let p = steps (parent_of reading.names parent) (λ above. number_of second >>= (λ closed. Ok (line.Ledger n.value parent (header_after above closed)))) l n.rest in
    let c = steps (number_of second) (λ closed. Ok (line.Ledger n.value parent (header_after p.value closed))) l p.rest in
    let is = same-ok (line.Ledger n.value parent (header_after p.value c.value)) l c.rest in
    let fresh = new_name-same reading.names name n.value n.gave in
    let named = fresh.1 in
    let closed = number-same second c.value c.gave in
    record {
      arguments = name ∷ parent ∷ second ∷ [];
      words = ap line_words (sym is) ∙ cc (named, closed);
      same = e;
      count = refl;
      like = inl refl;
    }
named_ledger_line-again reading other l e = absurd (cc)

name_line-again : (reading : Reading) (old : List (List ℕ)) (l : Line) → name_line reading old ≡ Ok l → IsStored l → IsLineAgain (name_line reading) (codes "name") old l
name_line-again reading old l e stored =
    let room = unstopped (has_most_names reading) (named_line reading old) l (refusal.Limit (decimal most_names)) e in
    let again = named_line-again reading old l room.1 stored in
    record {
      arguments = again.arguments;
      words = again.words;
      same = ap (λ b. cond b (Err (refusal.Limit (decimal most_names))) (named_line reading again.arguments)) room.0 ∙ again.same;
      count = again.count;
      like = again.like;
    }

ledger_line-again : (reading : Reading) (old : List (List ℕ)) (l : Line) → ledger_line reading old ≡ Ok l → IsLineAgain (ledger_line reading) (codes "ledger") old l
ledger_line-again reading old l e =
    let room = unstopped (has_most_names reading) (named_ledger_line reading old) l (refusal.Limit (decimal most_names)) e in
    let again = named_ledger_line-again reading old l room.1 in
    record {
      arguments = again.arguments;
      words = again.words;
      same = ap (λ b. cond b (Err (refusal.Limit (decimal most_names))) (named_ledger_line reading again.arguments)) room.0 ∙ again.same;
      count = again.count;
      like = again.like;
    }

-- a line of whichever word
pub setting-again : (reading : Reading) (word : SettingWord) (old : List (List ℕ)) (l : Line) → set_line reading word old ≡ Ok l → IsStored l → IsLineAgain (set_line reading word) (setting_text word) old l
setting-again reading setting.Limit old l e stored = limit_line-again reading old l e
setting-again reading setting.Speak old l e stored = speak_line-again reading old l e
setting-again reading setting.Node old l e stored = node_line-again reading old l e
setting-again reading setting.Liar old l e stored = liar_line-again reading old l e
setting-again reading setting.At old l e stored = at_line-again old l e
setting-again reading setting.Name old l e stored = name_line-again reading old l e stored
setting-again reading setting.Ledger old l e stored = ledger_line-again reading old l e
