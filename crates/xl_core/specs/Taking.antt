-- What a node takes of what a member says, of a transaction that is handed in, and of another list.
-- Source: rippled's NetworkOPs and Consensus, as this profile takes them.
use Rattle.std.specs.Prelude.{◌≡◌, ◌≢◌, ℕ, List, [], ◌∷◌, option_map}
use Rattle.std.specs.Prelude.{None, Result, Ok, Err}
use Rattle.std.specs.declared.option.Option.{Option}
use Rattle.std.specs.Option.{option_or}
use Rattle.std.specs.Result.{result_err}
use Rattle.xl_base.specs.declared.ids.TxId.{TxId}
use Rattle.xl_base.specs.Sets.{set_id_of}
use Rattle.xl_lists.specs.Lists.{TrustedList}
use Rattle.xl_tags.specs.Missing.{lowest_missing}
use Rattle.xl_wire.specs.declared.validation.Validation.{Validation}
use Rattle.xl_wire.specs.declared.proposal.Proposal.{Proposal}
use Rattle.xl_wire.specs.Heads.{raw_in}
use Rattle.xl_validations.specs.declared.refusal.ValRefusal.{ValRefusal}
use Rattle.xl_validations.specs.Rows.{refusal_of, relisted}
use Rattle.xl_ledger.specs.Registries.{with_header, add_refusal}
use Rattle.xl_rounds.specs.declared.placed.Placed.{Placed}
use Rattle.xl_rounds.specs.declared.placed.Placed.TheVariants as placed
use Rattle.xl_rounds.specs.declared.refusal.RoundRefusal.{RoundRefusal}
use Rattle.xl_rounds.specs.Rounds.{with_pending, hold}
use Rattle.xl_rounds.specs.Pending.{submit_refusal}
use Rattle.xl_rounds.specs.Proposals.{answer, with_answer}
use Rattle.xl_rounds.specs.Relisting.{relisted_round}
use Rattle.xl_core.specs.declared.refusal.Refusal.{Refusal}
use Rattle.xl_core.specs.declared.refusal.Refusal.TheVariants.{NoKey, Header as HeaderRefused}
use Rattle.xl_core.specs.declared.hearing.Spoken.{Spoken}
use Rattle.xl_core.specs.declared.hearing.Speech.{Speech}
use Rattle.xl_core.specs.declared.hearing.Speech.TheVariants as speech
use Rattle.xl_core.specs.declared.item.Item.TheVariants.{Tx as TxItem}
use Rattle.xl_core.specs.declared.taken.Taken.{Taken}
use Rattle.xl_core.specs.declared.taken.Taken.TheVariants as taken
use Rattle.xl_core.specs.declared.taken.Taken.TheVariants.{Validation as TakenValidation, Header as TakenHeader}
use Rattle.xl_ledger.specs.Headers.{header_id}
use Rattle.xl_core.specs.Answers.{Answer, Refused, Took, Done}
use Rattle.xl_core.specs.Hearing.{spoken_in, hearing_refusal, said_in}
use Rattle.xl_core.specs.Lasts.{over_another_list}
use Rattle.xl_core.specs.Refusals.{refusal_from, round_from}
use Rattle.xl_core.specs.State.{Node, Reply, second_of, reply_with, reply_unless, reporting_reply, with_taken}

-- why the row of a number doesn't take the validation
abbrev pub refusal_at : Node → ℕ → ℕ → Validation → Option ValRefusal
refusal_at n now from v = refusal_of n.rows from now v

-- a transaction is pending from then on, unless the round refuses it
abbrev pub with_tx : Node → TxId → Node
with_tx n tx = record n { round = with_pending tx n.round }

abbrev pub tx_refusal : Node → TxId → Option Refusal
tx_refusal n tx = option_map round_from (submit_refusal n.round.pending tx)

-- how the round answers a member's proposal
abbrev pub proposal_answer : Node → ℕ → Proposal → Result Placed RoundRefusal
proposal_answer n from p = answer n.ledgers.headers n.round from p (second_of n)

-- what was taken of a proposal
abbrev pub taken_as : Placed → Taken
taken_as placed.Position = taken.Position
taken_as placed.Later = taken.Later
taken_as placed.Gone = taken.Gone

abbrev pub placed_as : Result Placed RoundRefusal → Answer
placed_as (Ok became) = Took (taken_as became)
placed_as (Err why) = Refused (round_from why)

-- why it refuses what a member says: the member's row does, or the ledgers do, or the round; a set is never refused
abbrev pub speech_refusal : Node → ℕ → Speech → Option Refusal
speech_refusal n from (speech.Validation v) = option_map refusal_from (refusal_at n (second_of n) from v)
speech_refusal n from (speech.Header h) = option_map HeaderRefused (add_refusal n.ledgers h)
speech_refusal n from (speech.Proposal p) = option_map round_from (result_err (proposal_answer n from p))
speech_refusal n from (speech.TxSet ids) = None
speech_refusal n from (speech.Tx tx) = tx_refusal n tx

-- a member's row takes a validation, the ledgers a header, and the round a proposal, a set or a transaction.
-- Validations that waited for a header are votes from then on; a set is the one that the member holds; nothing is sent
-- on
abbrev pub taken_reply : Node → ℕ → Speech → Reply
taken_reply n from (speech.Validation v) = reporting_reply (with_taken n (second_of n) from v) (Took TakenValidation) None
taken_reply n from (speech.Header h) = record {
  node = record n { ledgers = with_header n.ledgers h };
  answer = Took (TakenHeader (header_id h));
  items = [];
  issued = None;
  report = None;
}
taken_reply n from (speech.Proposal p) =
    let place = proposal_answer n from p in
    reply_with (record n { round = with_answer place from p n.round }) (placed_as place) []
taken_reply n from (speech.TxSet ids) =
    reply_with (record n { round = hold from ids n.round }) (Took (taken.Set (set_id_of ids))) []
taken_reply n from (speech.Tx tx) = reply_with (with_tx n tx) (Took taken.Pending) []

-- what a member says is refused or taken
abbrev pub speech_reply : Node → ℕ → Speech → Reply
speech_reply n from what = reply_unless n (speech_refusal n from what) (taken_reply n from what)

-- why it refuses bytes, if it does: it hears nothing in them, or refuses what they say
abbrev pub frame_refusal : Node → List ℕ → Option Refusal
frame_refusal n bytes =
    let said = said_in (raw_in bytes) in
    option_or (hearing_refusal n.keys n.list.members bytes) (speech_refusal n said.from said.what)

-- bytes are refused for the first cause, or what they say is taken
abbrev pub bytes_reply : Node → List ℕ → Reply
bytes_reply n bytes =
    let said = said_in (raw_in bytes) in reply_unless n (frame_refusal n bytes) (taken_reply n said.from said.what)

-- a transaction that is handed in is sent
abbrev pub submitted_reply : Node → TxId → Reply
submitted_reply n tx = reply_unless n (tx_refusal n tx) (reply_with (with_tx n tx) Done (TxItem tx ∷ []))

-- a list isn't set if a member other than the node has no key; the lowest one is told
abbrev pub key_refusal : Node → TrustedList → Option Refusal
key_refusal n list = option_map NoKey (lowest_missing n.keys list.members)

-- members that stay keep what is known of them, and of new ones nothing is
abbrev pub with_list : Node → TrustedList → Node
with_list n list = record n {
  list = list;
  rows = relisted list.members n.rows;
  round = relisted_round list.members n.round;
  last = over_another_list n.last;
}

-- the list is set, and the rows report what arises in them under it, unless a key is missing
abbrev pub relisted_reply : Node → TrustedList → Reply
relisted_reply n list = reply_unless n (key_refusal n list) (reporting_reply (with_list n list) Done None)

-- whom it hears in bytes is another
abbrev pub HearsOthers : Node → List ℕ → Type 0
HearsOthers n bytes = (said : Spoken) → spoken_in n.keys n.list.members bytes ≡ Ok said → said.from ≢ n.me
