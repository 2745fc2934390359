-- What was hashed, with its id. Source: what the code of this crate keeps.
use Rattle.std.specs.Prelude.{◌≡◌, []}
use Rattle.std.specs.String.{string_bytes}
use Rattle.hex.specs.Hex.{encode_lower}
use Rattle.xl_base.specs.Sets.{set_id_of}
use Rattle.xl_ledger.specs.Headers.{header_id}
use Rattle.xl_ledger.specs.Reading.{header_in}
use Rattle.xl_told.specs.declared.hashed.NamedHeader.{NamedHeader}
use Rattle.xl_told.specs.declared.hashed.NamedSet.{NamedSet}
use Rattle.xl_told.specs.declared.hashed.SpelledId.{SpelledId}
use Rattle.xl_told.specs.declared.hashed.SpelledProposal.{SpelledProposal}
use Rattle.xl_told.specs.declared.hashed.SpelledValidation.{SpelledValidation}
use Rattle.xl_told.specs.Words.{proposal_text, validation_text}

abbrev pub IsNamedHeader : NamedHeader → Type 0
IsNamedHeader named = named.id ≡ header_id (header_in named.bytes)

abbrev pub IsNamedSet : NamedSet → Type 0
IsNamedSet named = named.id ≡ set_id_of named.ids.items

abbrev pub IsSpelled : SpelledId → Type 0
IsSpelled spelled = string_bytes spelled.digits ≡ encode_lower spelled.id.0

-- in no names
abbrev pub IsSpelledProposal : SpelledProposal → Type 0
IsSpelledProposal spelled = string_bytes spelled.words ≡ proposal_text [] spelled.proposal

abbrev pub IsSpelledValidation : SpelledValidation → Type 0
IsSpelledValidation spelled = string_bytes spelled.words ≡ validation_text [] spelled.validation
