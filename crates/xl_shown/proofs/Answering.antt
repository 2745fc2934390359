-- What a core hears, by what it answers.
use Rattle.std.proofs.Common.{◌≡◌, ℕ, Bool, true, false, cond, List, [], ◌∷◌, refl, ap, sym, ◌∙◌, Option, Some, None, Result, Ok, Err}
use Rattle.std.specs.Prelude.{nat_lt, option_map, ◌-◌, length}
use Rattle.std.specs.Result.{result_err}
use Rattle.xl_base.specs.Refusals.{first_of, refused_if, unless_refused}
use Rattle.xl_ledger.specs.Registries.{add_refusal}
use Rattle.xl_ledger.specs.declared.refusal.AddRefusal.{AddRefusal}
use Rattle.xl_rounds.specs.Pending.{submit_refusal}
use Rattle.xl_rounds.specs.Proposals.{with_answer}
use Rattle.xl_rounds.specs.declared.placed.Placed.{Placed}
use Rattle.xl_rounds.specs.declared.refusal.RoundRefusal.{RoundRefusal}
use Rattle.xl_rounds.specs.declared.refusal.RoundRefusal.TheVariants as round
use Rattle.xl_validations.specs.declared.refusal.ValRefusal.{ValRefusal}
use Rattle.xl_validations.specs.declared.refusal.ValRefusal.TheVariants as row
use Rattle.xl_wire.specs.Bodies.{body_refusal}
use Rattle.xl_wire.specs.Heads.{head_refusal, lacking, raw_in}
use Rattle.xl_wire.specs.Kinds.{span}
use Rattle.xl_wire.specs.Raws.{RawFrame}
use Rattle.xl_wire.specs.declared.refusal.WireRefusal.{WireRefusal}
use Rattle.xl_tags.specs.Opening.{refusal_of}
use Rattle.xl_tags.specs.declared.refusal.TagRefusal.{TagRefusal}
use Rattle.xl_core.specs.Answers.{Answer}
use Rattle.xl_core.specs.Core.{Core}
use Rattle.xl_core.specs.Hearing.{hearing_refusal, said_in, spoken_in}
use Rattle.xl_core.specs.Node.{Node, Reply, at_moment, bytes_reply, placed_as, proposal_answer, refusal_at, reply_with, reply_unless, second_of, speech_reply, taken_reply}
use Rattle.xl_core.specs.Refusals.{refusal_from, round_from}
use Rattle.xl_core.specs.declared.event.CoreEvent.{CoreEvent}
use Rattle.xl_core.specs.declared.event.CoreEvent.TheVariants.{Frame}
use Rattle.xl_core.specs.declared.hearing.Speech.{Speech}
use Rattle.xl_core.specs.declared.hearing.Speech.TheVariants as speech
use Rattle.xl_core.specs.declared.hearing.Spoken.{Spoken}
use Rattle.xl_core.specs.declared.refusal.Refusal.{Refusal}
use Rattle.xl_core.specs.declared.refusal.Refusal.TheVariants as refusal
use Rattle.xl_core.proofs.Frames.{nothing_heard, something_heard}
use Rattle.xl_store.specs.declared.entry.Saved.{Saved}
use Rattle.xl_store.specs.Entries.{entry_of, reply_of}
use Rattle.xl_audit.specs.Leading.{IsDeed}
use Rattle.xl_shown.specs.Showing.{MayHear, heard_in, heard_so, heard_unless_refused, hears_nothing_by, hides}
use Rattle.xl_shown.specs.declared.hearing.Heard.{Heard}

-- WHAT IS REFUSED

hidden : (cause why : Refusal) → hides cause ≡ true → Some cause ≡ Some why → hides why ≡ true
hidden cause why hide is = let same : cause ≡ why = cc in ap hides (sym same) ∙ hide

-- nothing is heard if one of the causes holds
cause_hides : (a e : Option WireRefusal) (b c : Bool) (lack more : ℕ) (d : Option TagRefusal) (why : Refusal)
    → first_of (option_map refusal.Frame a ∷ refused_if b (refusal.Short lack) ∷ refused_if c (refusal.Extra more)
    ∷ option_map refusal.Tag d ∷ option_map refusal.Frame e ∷ []) ≡ Some why
    → hides why ≡ true
cause_hides (Some x) e b c lack more d why is = hidden (refusal.Frame x) why refl is
cause_hides None e true c lack more d why is = hidden (refusal.Short lack) why refl is
cause_hides None e false true lack more d why is = hidden (refusal.Extra more) why refl is
cause_hides None e false false lack more (Some x) why is = hidden (refusal.Tag x) why refl is
cause_hides None (Some x) false false lack more None why is = hidden (refusal.Frame x) why refl is
cause_hides None None false false lack more None why is = absurd cc

refused_hides : (n : Node) (bytes : List ℕ) (why : Refusal) → spoken_in n.keys n.list.members bytes ≡ Err why → hides why ≡ true
refused_hides n bytes why is = by (hearing_refusal n.keys n.list.members bytes) refl is
  where
    by : (o : Option Refusal) → hearing_refusal n.keys n.list.members bytes ≡ o → unless_refused o (said_in (raw_in bytes)) ≡ Err why → hides why ≡ true
    by None found e = absurd cc
    by (Some cause) found e =
        let f : RawFrame = raw_in bytes in
        let same : cause ≡ why = cc in
        cause_hides (head_refusal bytes) (body_refusal f.kind f.body) (nat_lt 0 (lacking bytes)) (nat_lt (span f.body) (length bytes))
        (lacking bytes) (length bytes - span f.body) (refusal_of n.keys n.list.members f) why (found ∙ ap Some same)

-- WHAT IS HEARD IS REFUSED FOR ANOTHER CAUSE, OR TAKEN

row_shows : (why : ValRefusal) → hides (refusal_from why) ≡ false
row_shows (row.Stale now signed) = refl
row_shows other = refl

round_shows : (why : RoundRefusal) → hides (round_from why) ≡ false
round_shows (round.Pending tx) = refl
round_shows other = refl

-- a reply that takes what is heard, unless it is refused so
unless_shows : {Why : Type 0} (from : Why → Refusal) → ((why : Why) → hides (from why) ≡ false) → (n : Node) (o : Option Why) (reply : Reply)
    → hears_nothing_by reply.answer ≡ false → hears_nothing_by (reply_unless n (option_map from o) reply).answer ≡ false
unless_shows from shows n None reply takes = takes
unless_shows from shows n (Some why) reply takes = shows why

speech_shows : (n : Node) (from : ℕ) (what : Speech) → hears_nothing_by (speech_reply n from what).answer ≡ false
speech_shows n from (speech.Validation v) =
    unless_shows refusal_from row_shows n (refusal_at n (second_of n) from v) (taken_reply n from (speech.Validation v)) refl
speech_shows n from (speech.Header h) =
    unless_shows refusal.Header (λ (why : AddRefusal). refl) n (add_refusal n.ledgers h) (taken_reply n from (speech.Header h)) refl
speech_shows n from (speech.Proposal p) = by (proposal_answer n from p)
  where
    by : (r : Result Placed RoundRefusal)
        → hears_nothing_by (reply_unless n (option_map round_from (result_err r)) (reply_with (record n { round = with_answer r from p n.round }) (placed_as r) [])).answer ≡ false
    by (Ok became) = refl
    by (Err why) = round_shows why
speech_shows n from (speech.TxSet ids) = refl
speech_shows n from (speech.Tx tx) =
    unless_shows round_from round_shows n (submit_refusal n.round.pending tx) (taken_reply n from (speech.Tx tx)) refl

-- A CORE'S ANSWER

frame_told : (core : Core) (now : ℕ) (bytes : List ℕ) (heard : Option Heard) (told : Answer) → MayHear core (Frame now bytes) heard
    → told ≡ (bytes_reply (at_moment now core.node) bytes).answer → heard_unless_refused heard told ≡ heard_in core (Frame now bytes)
frame_told core now bytes heard told may is = by (spoken_in core.node.keys core.node.list.members bytes) refl
  where
    by : (r : Result Spoken Refusal) → spoken_in core.node.keys core.node.list.members bytes ≡ r → heard_unless_refused heard told ≡ heard_so r
    by (Ok said) spoken =
        let shows : hears_nothing_by told ≡ false =
        ap hears_nothing_by (is ∙ ap (λ (r : Reply). r.answer) (sym (something_heard (at_moment now core.node) bytes said said.what (sym spoken) refl).1))
        ∙ speech_shows (at_moment now core.node) said.from said.what in
        ap (λ b. cond b None heard) shows ∙ may said spoken
    by (Err why) spoken =
        let hidden_so : hears_nothing_by told ≡ true =
        ap hears_nothing_by (is ∙ ap (λ (r : Reply). r.answer) (sym (nothing_heard (at_moment now core.node) bytes why (sym spoken)).1))
        ∙ refused_hides (at_moment now core.node) bytes why spoken in
        ap (λ b. cond b None heard) hidden_so

none_heard : (heard : Option Heard) (told : Answer) → heard ≡ None → heard_unless_refused heard told ≡ None
none_heard heard told none = ap (λ h. heard_unless_refused h told) none ∙ either_way (hears_nothing_by told)
  where
    nobody : Option Heard
    nobody = None

    either_way : (b : Bool) → cond b nobody nobody ≡ nobody
    either_way true = refl
    either_way false = refl

pub heard_told : (core : Core) (event : CoreEvent) (outcome : Option Saved) (heard : Option Heard) (told : Answer) → MayHear core event heard
    → (IsDeed event → told ≡ (reply_of core (entry_of event outcome)).answer) → heard_unless_refused heard told ≡ heard_in core event
heard_told core (Frame now bytes) outcome heard told may is = frame_told core now bytes heard told may (is tt)
heard_told core other outcome heard told may is = none_heard heard told may
