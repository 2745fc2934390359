-- What a peer is handed first once a link to it has opened: the headers of the chain of the ledger on which the node's
-- round was then. Source: this profile, by which ledgers aren't fetched.
use Rattle.std.specs.Prelude.{ℕ, zero, suc, ◌+◌, List, [], map, drop, set, get_or, replicate, option_map, unwrap_or}
use Rattle.std.specs.Prelude.{Some, None}
use Rattle.std.specs.declared.option.Option.{Option}
use Rattle.xl_base.specs.declared.ids.LedgerId.{LedgerId}
use Rattle.xl_base.specs.Members.{most_members}
use Rattle.xl_ledger.specs.declared.header.Header.{Header}
use Rattle.xl_ledger.specs.Chains.{chain, id_at, place_of}
use Rattle.xl_core.specs.declared.the_core.greeting.Greeting.{Greeting}
use Rattle.xl_core.specs.Items.{frame_for, header_body_at}
use Rattle.xl_core.specs.Node.{Node}

-- none of the numbers from 1 to 64 is greeted
abbrev pub none_greeted : List (Option Greeting)
none_greeted = replicate most_members None

-- the chain of the ledger on which a node's round is, from sequence 1 on: every node knows the root
abbrev pub greeting_of : Node → Greeting
greeting_of n = record { target = id_at n.ledgers.headers n.round.setting.previous; next = 1 }

-- with what a number is greeted; one outside 1 to 64 isn't
abbrev pub greeting_at : List (Option Greeting) → ℕ → Option Greeting
greeting_at greetings zero = None
greeting_at greetings (suc place) = get_or greetings place None

-- all greetings, with that of a number
abbrev pub with_greeting : List (Option Greeting) → ℕ → Option Greeting → List (Option Greeting)
with_greeting greetings zero greeting = greetings
with_greeting greetings (suc place) greeting = set greetings place greeting

-- the chain of the ledger of an id; nothing if none is known
abbrev pub chain_to : List Header → LedgerId → List ℕ
chain_to ledgers id = unwrap_or (option_map (chain ledgers) (place_of ledgers id)) []

-- the ledgers whose headers are yet to be handed out
abbrev pub yet_to_hand : List Header → Greeting → List ℕ
yet_to_hand ledgers g = drop g.next (chain_to ledgers g.target)

-- the frames of these headers for a member
abbrev pub greeting_frames : Node → Option Greeting → ℕ → List (Option (List ℕ))
greeting_frames n None to = []
greeting_frames n (Some g) to = map (λ ledger. frame_for n to (header_body_at n ledger)) (yet_to_hand n.ledgers.headers g)

-- a greeting once this many more headers were handed out
abbrev pub further : ℕ → Greeting → Greeting
further count g = record { target = g.target; next = g.next + count }

-- all greetings, once this many more were handed out to a number
abbrev pub further_at : List (Option Greeting) → ℕ → ℕ → List (Option Greeting)
further_at greetings number count =
    with_greeting greetings number (option_map (further count) (greeting_at greetings number))
