-- If `clap` finds a kind of error that is no refusal, it finds no other: help and the version stand alone.
use Rattle.std.proofs.Common.{◌≡◌, inl, inr, ℕ, zero, suc, ◌&&◌, ◌==◌, Bool, true, false, not, List, [], ◌∷◌, Option, Some, None, Ok, cond, find, is_some, length, drop, nat_lt, refl, sym, ap, ◌∙◌}
use Rattle.std.specs.Prelude.{encode_utf8, slice_get, codes}
use Rattle.std.specs.Option.{option_map_or}
use Rattle.std.specs.Str.{bytes_eq, chars}
use Rattle.std.proofs.lemmas.Bool.{cond_both, and_parts, false≢true}
use Rattle.clap.specs.Lexer.{long_of, short_of}
use Rattle.clap.specs.Facts.{parser_of_value, unwrap_or_range}
use Rattle.clap.specs.Values.{refused_kind}
use Rattle.clap.specs.ValueTests.{accepts}
use Rattle.clap.specs.Kinds.{Kinds, IsAmong, or_else, value_kinds, values_kinds, range_kinds, request_kinds, check_kinds}
use Rattle.clap.specs.Walk.{Held, Names, Row, Rule, Step, Text, Waiting, Walk, action_of, answers_to, arg_by_id, arg_by_index, arg_by_long, arg_by_short, attached_value, finished, has_row, most_values, nothing_held, reacted, settled, subcommand_met, takes_several, takes_values, values_or_missing, is_pending, walk, walk_from, walked, with_default, word_met}
use Rattle.clap.specs.Walk.Step.{next, trailing, subcommand, value}
use Rattle.clap.specs.Simple.{App, Shape, argument_words, built, entered, label_of, names_of}
use Rattle.clap.specs.Faults.{values_fault, count_fault, repeat_fault, set_fault, action_fault, use_fault, settle_fault, react_fault, option_fault, long_fault, short_fault, bundle_step_fault, flags_fault, flag_word_fault, other_fault, word_fault, positional_fault, stray_fault, step_fault, turn_fault, walk_fault, given_default_fault, default_fault, defaults_fault, check_fault, level_fault, entered_fault, built_fault, fault_of}
use Rattle.clap.specs.declared.builder.action.ArgAction.{ArgAction}
use Rattle.clap.specs.declared.builder.action.ArgAction.TheVariants.{Set, Append, SetTrue, SetFalse, Count, Help, HelpShort, HelpLong, Version}
use Rattle.clap.specs.declared.builder.value_parser.ValueParser.{ValueParser}
use Rattle.clap.specs.declared.error.kind.ErrorKind.{ErrorKind}
use Rattle.clap.specs.declared.error.kind.ErrorKind.TheVariants as kind
use Rattle.xl_words.specs.declared.command.Command.{Command}
use Rattle.xl_words.specs.Programs.{program}
use Rattle.xl_words.specs.Commands.{reply_to}

-- a kind that is no refusal is the only one
abbrev pub StandAlone : Kinds → Type 0
StandAlone kinds = (c : Command) (k : ErrorKind) → IsAmong k kinds → reply_to k ≡ Ok c → kinds ≡ k ∷ []

none : StandAlone []
none c k among is = absurd among

one : (x : ErrorKind) → StandAlone (x ∷ [])
one x c k (inl same) is = ap (λ (y : ErrorKind). y ∷ []) (sym same)
one x c k (inr among) is = absurd among

stray : StandAlone (kind.UnknownArgument ∷ kind.InvalidSubcommand ∷ [])
stray c k (inl same) is = cc
stray c k (inr (inl same)) is = cc
stray c k (inr (inr among)) is = absurd among

either : (a b : Kinds) → StandAlone a → StandAlone b → StandAlone (or_else a b)
either [] b first second = second
either (k ∷ ks) b first second = first

if_both : (test : Bool) (a b : Kinds) → StandAlone a → StandAlone b → StandAlone (cond test a b)
if_both test a b first second = cond_both test a b StandAlone (λ _. first) (λ _. second)

mapped : {X : Type 0} (f : X → Kinds) (o : Option X) (d : Kinds) → ((x : X) → StandAlone (f x)) → StandAlone d → StandAlone (option_map_or f o d)
mapped f None d each other = other
mapped f (Some x) d each other = each x

of_value : (ignore : Bool) (p : ValueParser) (text : Text) → StandAlone (value_kinds ignore p text)
of_value ignore p text = if_both (accepts ignore p text) [] (refused_kind p ∷ []) none (one (refused_kind p))

of_values : (ignore : Bool) (p : ValueParser) (texts : List Text) → StandAlone (values_kinds ignore p texts)
of_values ignore p [] = none
of_values ignore p (t ∷ ts) = either (value_kinds ignore p t) (values_kinds ignore p ts) (of_value ignore p t) (of_values ignore p ts)

of_range : (least most n : ℕ) → StandAlone (range_kinds least most n)
of_range least most n =
    if_both (nat_lt 0 least && n == 0) (kind.InvalidValue ∷ []) _ (one kind.InvalidValue)
    (if_both (least == most) _ _
    (if_both (least == n) [] (kind.WrongNumberOfValues ∷ []) none (one kind.WrongNumberOfValues))
    (if_both (nat_lt n least) (kind.TooFewValues ∷ []) _ (one kind.TooFewValues)
    (if_both (nat_lt most n) (kind.TooManyValues ∷ []) [] (one kind.TooManyValues) none)))

of_request : (a : ArgAction) → StandAlone (request_kinds a)
of_request Help = one kind.DisplayHelp
of_request HelpShort = one kind.DisplayHelp
of_request HelpLong = one kind.DisplayHelp
of_request Version = one kind.DisplayVersion
of_request other = none

of_count : (a : Rule) (values : List Text) (rows : List Row) → StandAlone (count_fault a values rows)
of_count a [] rows = of_value a.ignore_case (parser_of_value a.parser) _
of_count a (v ∷ vs) rows = of_values a.ignore_case (parser_of_value a.parser) (v ∷ vs)

of_set : (again : Bool) (a : Rule) (values : List Text) (rows : List Row) → StandAlone (set_fault again a values rows)
of_set again a values rows =
    either (repeat_fault again a.id rows) (values_fault a values)
    (if_both (has_row a.id rows && not again) (kind.ArgumentConflict ∷ []) [] (one kind.ArgumentConflict) none)
    (of_values a.ignore_case (parser_of_value a.parser) values)

of_action : (action : ArgAction) (again : Bool) (a : Rule) (values : List Text) (rows : List Row) → StandAlone (action_fault action again a values rows)
of_action Set again a values rows = of_set again a values rows
of_action SetTrue again a values rows = of_set again a values rows
of_action SetFalse again a values rows = of_set again a values rows
of_action Append again a values rows = of_values a.ignore_case (parser_of_value a.parser) values
of_action Count again a values rows = of_count a values rows
of_action Help again a values rows = of_request Help
of_action HelpShort again a values rows = of_request HelpShort
of_action HelpLong again a values rows = of_request HelpLong
of_action Version again a values rows = of_request Version

of_use : (again : Bool) (a : Rule) (values : List Text) (rows : List Row) → StandAlone (use_fault again a values rows)
of_use again a values rows =
    either _ (action_fault (action_of a) again a (values_or_missing a values) rows)
    (of_range (unwrap_or_range a.range).start_inclusive (most_values a) (length values))
    (of_action (action_of a) again a (values_or_missing a values) rows)

of_settle : (c : List Rule) (again : Bool) (h : Held) → StandAlone (settle_fault c again h)
of_settle c again h =
    mapped _ h.pending [] (λ p. mapped _ (arg_by_id c p.0) [] (λ a. of_use again a p.1 h.rows) none) none

of_react : (c : List Rule) (again : Bool) (a : Rule) (values : List Text) (h : Held) → StandAlone (react_fault c again a values h)
of_react c again a values h =
    either (settle_fault c again h) (use_fault again a values (settled c h).rows) (of_settle c again h) (of_use again a values (settled c h).rows)

of_option : (c : List Rule) (again : Bool) (a : Rule) (v : Option Text) (h : Held) → StandAlone (option_fault c again a v h)
of_option c again a (Some v) h = of_react c again a (v ∷ []) h
of_option c again a None h = of_settle c again h

of_long : (c : List Rule) (again : Bool) (a : Option Rule) (v : Option Text) (h : Held) → StandAlone (long_fault c again a v h)
of_long c again None v h = one kind.UnknownArgument
of_long c again (Some a) v h =
    if_both (takes_values a) (option_fault c again a v h) _ (of_option c again a v h)
    (if_both (is_some v) (kind.TooManyValues ∷ []) (react_fault c again a [] h) (one kind.TooManyValues) (of_react c again a [] h))

of_short : (c : List Rule) (again : Bool) (a : Option Rule) (rest : Text) (h : Held) (go : Held → Kinds) → ((x : Held) → StandAlone (go x)) → StandAlone (short_fault c again a rest h go)
of_short c again None rest h go each = one kind.UnknownArgument
of_short c again (Some a) rest h go each =
    if_both (takes_values a) (option_fault c again a (attached_value rest) h) _ (of_option c again a (attached_value rest) h)
    (either (react_fault c again a [] h) (go (reacted c a [] h)) (of_react c again a [] h) (each (reacted c a [] h)))

of_bundle_step : (c : List Rule) (again : Bool) (x : Option ℕ) (flags : Text) (skip : ℕ) (h : Held) (go : Text → ℕ → Held → Kinds) → ((t : Text) (n : ℕ) (y : Held) → StandAlone (go t n y)) → StandAlone (bundle_step_fault c again x flags skip h go)
of_bundle_step c again None flags skip h go each = none
of_bundle_step c again (Some x) flags zero h go each =
    let rest = drop (length (encode_utf8 x)) flags in
    of_short c again (arg_by_short c x) rest h (go rest 0) (each rest 0)
of_bundle_step c again (Some x) flags (suc skip) h go each = each (drop (length (encode_utf8 x)) flags) skip h

of_flags : (c : List Rule) (again : Bool) (k : ℕ) (flags : Text) (skip : ℕ) (h : Held) → StandAlone (flags_fault c again k flags skip h)
unfolding flags_fault
of_flags c again zero flags skip h = none
of_flags c again (suc k) flags skip h =
    of_bundle_step c again (slice_get (chars flags) 0) flags skip h (flags_fault c again k) (of_flags c again k)

of_flag_word : (c : List Rule) (again : Bool) (long : Option (Text × Option Text)) (word : Text) (h : Held) → StandAlone (flag_word_fault c again long word h)
of_flag_word c again (Some p) word h = of_long c again (arg_by_long c p.0) p.1 h
of_flag_word c again None word h = mapped _ (short_of word) [] (λ flags. of_flags c again (length flags) flags h.skip (record h { skip = 0 })) none

of_other : (s : Shape) → s.disable_help_subcommand ≡ true → (name : Option Text) (word : Text) (h : Held) → StandAlone (other_fault s name word h)
of_other s off (Some name) word h =
    cond_both (bytes_eq name (codes "help") && not s.disable_help_subcommand) (kind.DisplayHelp ∷ kind.InvalidSubcommand ∷ []) [] StandAlone
    (λ on. absurd (false≢true (ap not (sym off) ∙ (and_parts (bytes_eq name (codes "help")) (not s.disable_help_subcommand) on).1)))
    (λ _. none)
of_other s off None word h =
    if_both (bytes_eq word (45 ∷ 45 ∷ [])) [] _ none (of_flag_word s.rules s.args_override_self (long_of word) word h)

of_word : (s : Shape) → s.disable_help_subcommand ≡ true → (names : Names) (is_trailing : Bool) (waiting : Waiting) (word : Text) (h : Held) → StandAlone (word_fault s names is_trailing waiting word h)
of_word s off names is_trailing waiting word h = if_both is_trailing [] _ none (of_other s off (subcommand_met names waiting word) word h)

of_positional : (c : List Rule) (again : Bool) (a : Rule) (h : Held) → StandAlone (positional_fault c again a h)
of_positional c again a h = if_both (is_pending a h.pending && takes_several a) [] (settle_fault c again h) none (of_settle c again h)

of_stray : (s : Shape) → StandAlone (stray_fault s)
of_stray s = if_both s.is_leaf (kind.UnknownArgument ∷ []) _ (one kind.UnknownArgument) stray

of_step : (s : Shape) (position : ℕ) (h : Held) (step : Step) → StandAlone (step_fault s position h step)
of_step s position h value = mapped _ (arg_by_index s.rules position) (stray_fault s) (λ a. of_positional s.rules s.args_override_self a h) (of_stray s)
of_step s position h (next waiting) = none
of_step s position h (trailing n) = none
of_step s position h (subcommand name) = none

of_turn : (s : Shape) → s.disable_help_subcommand ≡ true → (names : Names) (w : Walk) (word : Text) → StandAlone (turn_fault s names w word)
of_turn s off names w word =
    let met = word_met s.rules names w.is_trailing w.waiting w.position word w.held in
    if_both (is_some w.stopped) [] _ none
    (either (word_fault s names w.is_trailing w.waiting word w.held) (step_fault s w.position met.0 met.1)
    (of_word s off names w.is_trailing w.waiting word w.held) (of_step s w.position met.0 met.1))

of_walk : (s : Shape) → s.disable_help_subcommand ≡ true → (names : Names) (w : Walk) (words : List Text) → StandAlone (walk_fault s names w words)
unfolding walk_fault
of_walk s off names w [] = none
of_walk s off names w (word ∷ words) =
    either (turn_fault s names w word) (walk_fault s names (walked s.rules names w word) words)
    (of_turn s off names w word) (of_walk s off names (walked s.rules names w word) words)

of_default : (rows : List Row) (a : Rule) → StandAlone (default_fault rows a)
of_default rows a =
    if_both _ [] (given_default_fault a a.defaults) none
    (either (request_kinds (action_of a)) (values_fault a a.defaults) (of_request (action_of a)) (of_values a.ignore_case (parser_of_value a.parser) a.defaults))

of_defaults : (rows : List Row) (rules : List Rule) → StandAlone (defaults_fault rows rules)
unfolding defaults_fault
of_defaults rows [] = none
of_defaults rows (a ∷ rest) = either (default_fault rows a) (defaults_fault (with_default rows a) rest) (of_default rows a) (of_defaults (with_default rows a) rest)

of_check : (help wanted argument : Bool) → StandAlone (check_kinds help wanted argument)
of_check help wanted argument =
    if_both help (kind.DisplayHelpOnMissingArgumentOrSubcommand ∷ []) _ (one kind.DisplayHelpOnMissingArgumentOrSubcommand)
    (if_both wanted (kind.MissingSubcommand ∷ []) _ (one kind.MissingSubcommand)
    (if_both argument (kind.MissingRequiredArgument ∷ []) [] (one kind.MissingRequiredArgument) none))

of_level : (s : Shape) → s.disable_help_subcommand ≡ true → (names : Names) (h : Held) (words : List Text) (has : Bool) (below : Kinds) → StandAlone below → StandAlone (level_fault s names h words has below)
of_level s off names h words has below under =
    let end = (walk s.rules names h words).held in
    either (walk_fault s names (walk_from h) words) _ (of_walk s off names (walk_from h) words)
    (either below _ under
    (either (settle_fault s.rules s.args_override_self end) _ (of_settle s.rules s.args_override_self end)
    (either (defaults_fault (settled s.rules end).rows s.rules) (check_fault s (finished s.rules end) has)
    (of_defaults (settled s.rules end).rows s.rules) (of_check _ _ _))))

-- no command has a subcommand for help
abbrev NoneHelps : List Shape → Type 0
NoneHelps [] = Unit {0}
NoneHelps (s ∷ rest) = (s.disable_help_subcommand ≡ true) × NoneHelps rest

of_found : (test : Shape → Bool) (f : Shape → Kinds) (subs : List Shape) → NoneHelps subs → ((s : Shape) → s.disable_help_subcommand ≡ true → StandAlone (f s)) → StandAlone (option_map_or f (find test subs) [])
of_found test f [] off each = none
of_found test f (s ∷ subs) off each =
    cond_both (test s) (Some s) (find test subs) (λ (o : Option Shape). StandAlone (option_map_or f o []))
    (λ _. each s off.0) (λ _. of_found test f subs off.1 each)

of_entered : (a : App) → NoneHelps a.subs → (stop : Option (Text × List Text)) → StandAlone (entered_fault a stop)
of_entered a off None = none
of_entered a off (Some p) =
    of_found (λ s. answers_to p.0 (label_of s)) (λ s. level_fault s [] nothing_held p.1 false []) a.subs off
    (λ s helps. of_level s helps [] nothing_held p.1 false [] none)

of_built : (a : App) → a.top.disable_help_subcommand ≡ true → NoneHelps a.subs → (h : Held) (words : List Text) → StandAlone (built_fault a h words)
of_built a top subs h words =
    let stop = (walk a.top.rules (names_of a) h words).stopped in
    of_level a.top top (names_of a) h words (is_some (entered a stop)) (entered_fault a stop) (of_entered a subs stop)

pub stand_alone : (words : List Text) → StandAlone (fault_of program words)
stand_alone words = of_built (built program) refl (refl, (refl, (refl, (refl, (refl, (refl, (refl, (refl, (refl, (refl, (refl, tt))))))))))) nothing_held (argument_words program words)
