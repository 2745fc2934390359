-- The bodies of frames: the one spelling of each, by its kind. Source: this project's own layout.
use Rattle.std.specs.Prelude.{◌≡◌, ℕ, ◌^◌, ◌<◌, ◌==◌, nat_lt, Bool, List, [], ◌∷◌, ◌++◌, length, take, drop, slice_index, IfSome, Result, if◌then◌else◌}
use Rattle.std.specs.Prelude.{Some, None}
use Rattle.std.specs.declared.option.Option.{Option}
use Rattle.std.specs.List.{AllByRecursion}
use Rattle.byteorder.specs.Endian.{big_bytes, big_number}
use Rattle.xl_base.specs.declared.ids.LedgerId.{LedgerId}
use Rattle.xl_base.specs.declared.ids.TxId.{TxId}
use Rattle.xl_wire.specs.declared.body.Body.{Body}
use Rattle.xl_wire.specs.declared.body.Body.TheVariants as bodies
use Rattle.xl_wire.specs.declared.proposal.Proposal.{Proposal}
use Rattle.xl_wire.specs.declared.validation.Validation.{Validation}
use Rattle.xl_wire.specs.declared.refusal.WireRefusal.{WireRefusal}
use Rattle.xl_wire.specs.declared.refusal.WireRefusal.TheVariants.{Flags}
use Rattle.xl_base.specs.Refusals.{refused_if, unless_refused}
use Rattle.xl_base.specs.Sets.{IsSet, id_bytes}
use Rattle.xl_wire.specs.Sets.{ids_in}
use Rattle.xl_wire.specs.SetsRead.{set_refusal}

-- 2 for a validation that tells what its sender last reported, 1 for all else
abbrev pub version_for : Option LedgerId → ℕ
version_for None = 1
version_for (Some id) = 2

abbrev pub version_of : Body → ℕ
version_of (bodies.Validation validation) = version_for validation.validated
version_of other = 1

abbrev pub kind_of : Body → ℕ
kind_of (bodies.Proposal proposal) = 1
kind_of (bodies.Validation validation) = 2
kind_of (bodies.Header header) = 3
kind_of (bodies.TxSet ids) = 4
kind_of (bodies.Tx id) = 5

-- 0 for a partial validation, 1 for a full one
abbrev pub flags_of : Bool → ℕ
flags_of full = if full then 1 else 0

abbrev pub proposal_bytes : Proposal → List ℕ
proposal_bytes p = p.prev.0 ++ p.set.0 ++ big_bytes 4 p.pseq ++ big_bytes 4 p.close ++ big_bytes 4 p.time

-- what both versions have of a validation
abbrev pub vote_bytes : Validation → List ℕ
vote_bytes v = v.id.0 ++ big_bytes 4 v.seq ++ big_bytes 4 v.signed ++ flags_of v.full ∷ []

abbrev pub validated_bytes : Option LedgerId → List ℕ
validated_bytes None = []
validated_bytes (Some id) = id.0

-- and then the id of the ledger that its sender last reported, if it tells that
abbrev pub validation_bytes : Validation → List ℕ
validation_bytes v = vote_bytes v ++ validated_bytes v.validated

-- their number, and then the ids
abbrev pub set_bytes : List TxId → List ℕ
set_bytes ids = big_bytes 2 (length ids) ++ id_bytes ids

abbrev pub body_bytes : Body → List ℕ
body_bytes (bodies.Proposal proposal) = proposal_bytes proposal
body_bytes (bodies.Validation validation) = validation_bytes validation
body_bytes (bodies.Header header) = header
body_bytes (bodies.TxSet ids) = set_bytes ids
body_bytes (bodies.Tx id) = id.0

pub record IsProposal (p : Proposal) : Type 0 where
  pub prev : length p.prev.0 ≡ 32
  pub set : length p.set.0 ≡ 32
  pub pseq : p.pseq < 2 ^ 32
  pub close : p.close < 2 ^ 32
  pub time : p.time < 2 ^ 32

pub record IsValidation (v : Validation) : Type 0 where
  pub id : length v.id.0 ≡ 32
  pub seq : v.seq < 2 ^ 32
  pub signed : v.signed < 2 ^ 32
  pub validated : IfSome v.validated (λ id. length id.0 ≡ 32)

abbrev pub IsId : TxId → Type 0
IsId id = length id.0 ≡ 32

pub record IsTxSet (ids : List TxId) : Type 0 where
  pub each : AllByRecursion IsId ids
  pub set : IsSet ids

-- what has a spelling
abbrev pub IsBody : Body → Type 0
IsBody (bodies.Proposal proposal) = IsProposal proposal
IsBody (bodies.Validation validation) = IsValidation validation
IsBody (bodies.Header header) = length header ≡ 118
IsBody (bodies.TxSet ids) = IsTxSet ids
IsBody (bodies.Tx id) = IsId id

-- these bytes, all of them, spell the body as one of this kind
pub record SpellsBody (body : Body) (kind : ℕ) (bytes : List ℕ) : Type 0 where
  pub fits : IsBody body
  pub kind_is : kind ≡ kind_of body
  pub spelling : bytes ≡ body_bytes body

abbrev pub flags_refusal : List ℕ → Option WireRefusal
flags_refusal bytes = refused_if (nat_lt 1 (slice_index bytes 40)) (Flags (slice_index bytes 40))

-- why a body of this kind is refused
abbrev pub body_refusal : ℕ → List ℕ → Option WireRefusal
body_refusal kind bytes =
    if kind == 2 then flags_refusal bytes
    else if kind == 4 then set_refusal bytes
    else None

abbrev pub proposal_in : List ℕ → Proposal
proposal_in bytes = record {
  prev = record { 0 = take 32 bytes };
  set = record { 0 = take 32 (drop 32 bytes) };
  pseq = big_number 4 (drop 64 bytes);
  close = big_number 4 (drop 68 bytes);
  time = big_number 4 (drop 72 bytes);
}

-- the id behind what both versions have, if there is more
abbrev pub validated_in : List ℕ → Option LedgerId
validated_in bytes = if nat_lt 41 (length bytes) then Some (record { 0 = take 32 (drop 41 bytes) }) else None

abbrev pub validation_in : List ℕ → Validation
validation_in bytes = record {
  id = record { 0 = take 32 bytes };
  seq = big_number 4 (drop 32 bytes);
  signed = big_number 4 (drop 36 bytes);
  full = slice_index bytes 40 == 1;
  validated = validated_in bytes;
}

-- what the fields hold
abbrev pub body_in : ℕ → List ℕ → Body
body_in kind bytes =
    if kind == 1 then bodies.Proposal (proposal_in bytes)
    else if kind == 2 then bodies.Validation (validation_in bytes)
    else if kind == 3 then bodies.Header bytes
    else if kind == 4 then bodies.TxSet (ids_in (big_number 2 bytes) (drop 2 bytes))
    else bodies.Tx (record { 0 = bytes })

-- the body of this kind in the bytes, or the first cause why there is none
abbrev pub body_of : ℕ → List ℕ → Result Body WireRefusal
body_of kind bytes = unless_refused (body_refusal kind bytes) (body_in kind bytes)
