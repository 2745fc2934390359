-- What `clap` finds in the words that are exactly those of a command.
use Rattle.std.proofs.Common.{suc, ◌+◌, ◌-◌, subst, true, false, Result, Ok, Err, IfOk, ◌⊎◌, ◌<◌, inl, inr, ◌==◌, ◌≡◌, ◌∙◌, ℕ, List, [], ◌∷◌, drop, Option, Some, None, refl, sym, ap, codes, arith}
use Rattle.std.specs.Result.{result_ok}
use Rattle.std.specs.Option.{ok_or}
use Rattle.clap.proofs.OnLiterals.{clap_on_literals}
use Rattle.std.proofs.lemmas.Option.{same_Some}
use Rattle.std.proofs.lemmas.Str.Parse.{digit_from_value}
use Rattle.std.proofs.lemmas.Bool.{ne_eqb}
use Rattle.std.specs.Str.Parse.{digits_value, without_leading_plus}
use Rattle.clap.specs.ValueTests.{is_unsigned_in}
use Rattle.clap.proofs.ValueTestLemmas.{Accepts-accepts}
use Rattle.clap.specs.declared.builder.value_parser.ValueParser.TheVariants as vp
use Rattle.clap.specs.declared.error.Error.{Error}
use Rattle.clap.specs.Words.{HasKind, Kinds, kind_of, Text, is_simple, is_simple_and_free}
use Rattle.xl_words.specs.declared.command.Command.{Command}
use Rattle.xl_words.specs.declared.command.Command.TheVariants.{Node, Tell}
use Rattle.xl_words.specs.declared.command.Telling.TheVariants.{Replay, Events, Show, Lists, Merge, Audit, Blame, Flags, Negative, Gen, Help, Version}
use Rattle.xl_words.specs.declared.command.WordsFault.{WordsFault}
use Rattle.xl_words.specs.declared.command.WordsFault.TheVariants.{Refused, Memory}
use Rattle.xl_words.specs.Programs.{program}
use Rattle.xl_words.proofs.Alone.{StandAlone}
use Rattle.xl_words.specs.Commands.{command_of, gen, reply_to, unless_error, IsExactly, IsRounds}

pub simple : is_simple program ≡ true
unfolding clap_on_literals
simple = refl

pub simple_and_free : is_simple_and_free program ≡ true
unfolding clap_on_literals
simple_and_free = refl

-- words that are written out
replay_is : (name : Text) → command_of (name ∷ codes "replay" ∷ []) ≡ Some (Tell Replay)
unfolding clap_on_literals
replay_is name = refl

node_is : (name : Text) → command_of (name ∷ codes "node" ∷ []) ≡ Some Node
unfolding clap_on_literals
node_is name = refl

show_is : (name : Text) → command_of (name ∷ codes "show" ∷ []) ≡ Some (Tell Show)
unfolding clap_on_literals
show_is name = refl

lists_is : (name : Text) → command_of (name ∷ codes "lists" ∷ []) ≡ Some (Tell Lists)
unfolding clap_on_literals
lists_is name = refl

merge_is : (name : Text) → command_of (name ∷ codes "merge" ∷ []) ≡ Some (Tell Merge)
unfolding clap_on_literals
merge_is name = refl

audit_is : (name : Text) → command_of (name ∷ codes "audit" ∷ []) ≡ Some (Tell Audit)
unfolding clap_on_literals
audit_is name = refl

blame_is : (name : Text) → command_of (name ∷ codes "blame" ∷ []) ≡ Some (Tell Blame)
unfolding clap_on_literals
blame_is name = refl

flags_is : (name : Text) → command_of (name ∷ codes "flags" ∷ []) ≡ Some (Tell Flags)
unfolding clap_on_literals
flags_is name = refl

negative_is : (name : Text) → command_of (name ∷ codes "negative" ∷ []) ≡ Some (Tell Negative)
unfolding clap_on_literals
negative_is name = refl

tell_is : (name : Text) → command_of (name ∷ codes "tell" ∷ []) ≡ Some (Tell Events)
unfolding clap_on_literals
tell_is name = refl

help_is : (name : Text) → command_of (name ∷ codes "--help" ∷ []) ≡ Some (Tell Help)
unfolding clap_on_literals
help_is name = refl

short_help_is : (name : Text) → command_of (name ∷ codes "-h" ∷ []) ≡ Some (Tell Help)
unfolding clap_on_literals
short_help_is name = refl

version_is : (name : Text) → command_of (name ∷ codes "--version" ∷ []) ≡ Some (Tell Version)
unfolding clap_on_literals
version_is name = refl

short_version_is : (name : Text) → command_of (name ∷ codes "-V" ∷ []) ≡ Some (Tell Version)
unfolding clap_on_literals
short_version_is name = refl

gen_at : (name : Text) (k : ℕ) (ds : List ℕ) (n : ℕ) → k < 9 → is_unsigned_in 1 1000 ((49 + k) ∷ ds) ≡ true → digits_value 10 ((49 + k) ∷ ds) ≡ n
    → command_of (name ∷ codes "gen" ∷ ((49 + k) ∷ ds) ∷ []) ≡ Some (gen n)
unfolding clap_on_literals
gen_at name (suc (suc (suc (suc (suc (suc (suc (suc (suc k))))))))) ds n small ok value = absurd (omega (arith, small))
gen_at name k ds n small ok value = rw ok (ap (λ (m : ℕ). Some (gen m)) value)

gen_is : (name : Text) (d : ℕ) (ds : List ℕ) (n : ℕ) → IsRounds (d ∷ ds) n → command_of (name ∷ codes "gen" ∷ (d ∷ ds) ∷ []) ≡ Some (gen n)
gen_is name d ds n h =
    let digit = digit_from_value d h.digits.1.0 in
    let plus : (d == 43) ≡ false = ne_eqb d 43 (λ e. omega (arith, digit)) in
    let same : without_leading_plus (d ∷ ds) ≡ d ∷ ds = rw plus refl in
    let value = h.value in
    let least = h.least in
    let most = h.most in
    let leading = h.leading in
    let first : d ≡ 49 + (d - 49) = grind (arith, digit, leading) in
    let small : d - 49 < 9 = omega (arith, digit) in
    let ok : is_unsigned_in 1 1000 (d ∷ ds) ≡ true = Accepts-accepts false (vp.Unsigned 1 1000) (d ∷ ds)
    (rw same h.digits, rw (same, value) (omega (arith, most)), rw (same, value) least, rw (same, value) most) in
    subst (λ (x : ℕ). command_of (name ∷ codes "gen" ∷ (x ∷ ds) ∷ []) ≡ Some (gen n)) (sym first)
    (gen_at name (d - 49) ds n small (subst (λ (x : ℕ). is_unsigned_in 1 1000 (x ∷ ds) ≡ true) first ok)
    (subst (λ (x : ℕ). digits_value 10 (x ∷ ds) ≡ n) first value))

gen_text : (name t : Text) (n : ℕ) → IsRounds t n → command_of (name ∷ codes "gen" ∷ t ∷ []) ≡ Some (gen n)
gen_text name [] n h = let bad = h.digits.0 in absurd (omega (arith, bad))
gen_text name (d ∷ ds) n h = gen_is name d ds n h

-- the program's name and these words are what they ask
with_name : (words : List Text) (t : Text) (ts : List Text) (c : Command) → drop 1 words ≡ t ∷ ts
    → ((name : Text) → command_of (name ∷ t ∷ ts) ≡ Some c) → command_of words ≡ Some c
with_name [] t ts c e is = absurd cc
with_name (name ∷ rest) t ts c e is = rw e (is name)

-- exact words are what they say
pub exactly : (words : List Text) (c : Command) → IsExactly words c → command_of words ≡ Some c
exactly words (Tell Replay) w = with_name words _ _ _ w replay_is
exactly words Node w = with_name words _ _ _ w node_is
exactly words (Tell Show) w = with_name words _ _ _ w show_is
exactly words (Tell Lists) w = with_name words _ _ _ w lists_is
exactly words (Tell Merge) w = with_name words _ _ _ w merge_is
exactly words (Tell Audit) w = with_name words _ _ _ w audit_is
exactly words (Tell Blame) w = with_name words _ _ _ w blame_is
exactly words (Tell Flags) w = with_name words _ _ _ w flags_is
exactly words (Tell Negative) w = with_name words _ _ _ w negative_is
exactly words (Tell Events) w = with_name words _ _ _ w tell_is
exactly words (Tell (Gen n)) w = with_name words _ _ _ w.1 (λ name. gen_text name w.0 n w.2)
exactly words (Tell Help) (inl w) = with_name words _ _ _ w help_is
exactly words (Tell Help) (inr w) = with_name words _ _ _ w short_help_is
exactly words (Tell Version) (inl w) = with_name words _ _ _ w version_is
exactly words (Tell Version) (inr w) = with_name words _ _ _ w short_version_is

ok_of : (r : Result Command WordsFault) (c : Command) → result_ok r ≡ Some c → r ≡ Ok c
ok_of (Ok d) c e = ap Ok (same_Some _ _ e)
ok_of (Err fault) c e = absurd cc

-- where `clap` answers an error
pub given_by_error : (kinds : Kinds) (found : Option Command) (e : Error) (r : Result Command WordsFault) → HasKind kinds e → r ≡ reply_to (kind_of e) → (c : Command) → unless_error kinds found ≡ Some c → (r ≡ Ok c) ⊎ (r ≡ Err Memory)
given_by_error kinds found e r (inl memory) is c asked = inr (is ∙ ap reply_to memory)
given_by_error [] found e r (inr none) is c asked = absurd none
given_by_error (kind ∷ []) found e r (inr (inl same)) is c asked = inl (is ∙ ap reply_to same ∙ ok_of (reply_to kind) c asked)
given_by_error (kind ∷ []) found e r (inr (inr none)) is c asked = absurd none
given_by_error (kind ∷ next ∷ kinds) found e r (inr among) is c asked = absurd cc

pub found_by_error : (kinds : Kinds) (found : Option Command) (e : Error) (r : Result Command WordsFault) → StandAlone kinds → HasKind kinds e → r ≡ reply_to (kind_of e) → IfOk r (λ c. unless_error kinds found ≡ Some c)
found_by_error kinds found e (Ok c) alone (inl memory) is = cc (is ∙ ap reply_to memory)
found_by_error kinds found e (Ok c) alone (inr among) is = rw (alone c (kind_of e) among (sym is)) (ap result_ok (sym is))
found_by_error kinds found e (Err fault) alone has is = tt

-- where it finds a command
pub given_by_match : (o : Option Command) (r : Result Command WordsFault) → r ≡ ok_or o Refused → (c : Command) → o ≡ Some c → (r ≡ Ok c) ⊎ (r ≡ Err Memory)
given_by_match o r is c e = inl (is ∙ rw e refl)

pub found_by_match : (o : Option Command) (P : Command → Type 0) (r : Result Command WordsFault) → r ≡ ok_or o Refused → ((c : Command) → o ≡ Some c → P c) → IfOk r P
found_by_match (Some d) P r is gives = rw is (gives d refl)
found_by_match None P r is gives = rw is tt

-- if there is no error, the command is the one that was found
pub found_is : (kinds : Kinds) (found : Option Command) → kinds ≡ [] → unless_error kinds found ≡ found
found_is kinds found none = rw none refl
