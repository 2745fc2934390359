-- What is known of publishers, and how a roll changes it. Source: this project's own rule.
use Rattle.std.specs.Prelude.{◌≡◌, ℕ, ◌-◌, ◌&&◌, nat_le, Bool, List, length, replicate, Option, Some, None, is_none, Result, slice_set, if◌then◌else◌}
use Rattle.xl_base.specs.Refusals.{unless_refused}
use Rattle.xl_publish.specs.declared.publishers.Took.{Took}
use Rattle.xl_publish.specs.declared.publishers.Took.TheVariants.{New, Kept}
use Rattle.xl_publish.specs.declared.refusal.RollRefusal.{RollRefusal}
use Rattle.xl_publish.specs.Fields.{publisher_in, seq_in}
use Rattle.xl_publish.specs.Orders.{is_below}
use Rattle.xl_publish.specs.Refusing.{of_publisher, refusal_of}

pub record Register : Type 0 where
  -- a key, or none, for each of the publishers 1 to 16, in this order
  pub keys : List (Option (List ℕ))
  -- the bytes of the kept roll of each, or none
  pub kept : List (Option (List ℕ))

-- what every register keeps: a place for each publisher
pub record IsRegister (register : Register) : Type 0 where
  pub keys : length register.keys ≡ 16
  pub kept : length register.kept ≡ 16

-- no keys and no rolls
unfoldable pub no_publishers : Register
no_publishers = record { keys = replicate 16 None; kept = replicate 16 None }

-- the key of a publisher
abbrev pub key_of : Register → ℕ → Option (List ℕ)
key_of register publisher = of_publisher register.keys publisher

-- the kept roll of a publisher
abbrev pub kept_of : Register → ℕ → Option (List ℕ)
kept_of register publisher = of_publisher register.kept publisher

-- whether a publisher may be given a key: it has none yet
abbrev pub is_new : Register → ℕ → Bool
is_new register publisher = nat_le 1 publisher && nat_le publisher 16 && is_none (key_of register publisher)

abbrev pub with_key : Register → ℕ → List ℕ → Register
with_key register publisher key = record {
  keys = slice_set register.keys (publisher - 1) (Some key);
  kept = register.kept;
}

-- a publisher is given a key, unless it may not be
abbrev pub after_key : Register → ℕ → List ℕ → Register
after_key register publisher key = if is_new register publisher then with_key register publisher key else register

abbrev pub with_roll : Register → List ℕ → Register
with_roll register bytes = record {
  keys = register.keys;
  kept = slice_set register.kept (publisher_in bytes - 1) (Some bytes);
}

-- a right roll is kept now where it is above the kept one, or there is none; else the kept one stays, which has this
-- sequence
abbrev pub took_of : Option (List ℕ) → List ℕ → Took
took_of None bytes = New
took_of (Some kept) bytes = if is_below kept bytes then New else Kept (seq_in kept)

abbrev pub after_took : Register → Took → List ℕ → Register
after_took register New bytes = with_roll register bytes
after_took register (Kept seq) bytes = register

-- a roll is taken, unless it is refused
abbrev pub after_roll : Register → List ℕ → Register
after_roll register bytes =
    if is_none (refusal_of register.keys bytes)
    then after_took register (took_of (kept_of register (publisher_in bytes)) bytes) bytes
    else register

-- the answer to a roll
abbrev pub answer_to : Register → List ℕ → Result Took RollRefusal
answer_to register bytes =
    unless_refused (refusal_of register.keys bytes) (took_of (kept_of register (publisher_in bytes)) bytes)
