-- The members that a journal without keys names, and the public keys that its auditor has for them. Source: this
-- project's own formats.
use Rattle.std.specs.Prelude.{ℕ, ◌==◌, ◌||◌, not, List, [], ◌∷◌, length, decimal, codes, is_some, Result, Ok, Err, if◌then◌else◌}
use Rattle.std.specs.Str.{bytes_eq}
use Rattle.xl_lists.specs.Lists.{is_outside}
use Rattle.xl_tags.specs.PairKeys.{pair_key_of}
use Rattle.xl_tags.specs.Rings.{Ring, key_of, with_key}
use Rattle.xl_sched.specs.declared.refusal.SchedRefusal.{SchedRefusal}
use Rattle.xl_sched.specs.declared.refusal.SchedRefusal.TheVariants.{Number, Twice}
use Rattle.xl_sched.specs.Members.{members_of}
use Rattle.xl_sched.specs.Refusals.{◌>>=◌, miscounted}
use Rattle.xl_audit.specs.Words.{others, word_at}

-- The public key that an auditor has for a member: that which a schedule gives it with the journal's own
abbrev pub with_peer : Ring → ℕ → Result Ring SchedRefusal
with_peer ring m =
    if m == ring.me || is_outside m then Err (Number (decimal m))
    else if is_some (key_of ring m) then Err (Twice (decimal m))
    else Ok (with_key ring m (pair_key_of ring.me m))

-- a ring with the public keys of these members too
abbrev pub with_peers : Ring → List ℕ → Result Ring SchedRefusal
with_peers ring [] = Ok ring
with_peers ring (m ∷ ms) = do
  next ← with_peer ring m
  with_peers next ms

-- the numbers that a token names
abbrev pub numbers_in : List ℕ → Result (List ℕ) SchedRefusal
numbers_in token = if bytes_eq token (codes "-") then Ok [] else members_of token

-- a ring with the public keys of the members that the line of these tokens names
abbrev pub peers_in : Ring → List (List ℕ) → Result Ring SchedRefusal
peers_in ring words =
    if not (length (others words) == 1) then miscounted (others words)
    else do
      members ← numbers_in (word_at (others words) 0)
      with_peers ring members
