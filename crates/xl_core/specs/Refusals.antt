-- A refusal of a part of the node is one of the node's, and each has a number. Source: this project's own formats.
use Rattle.std.specs.Prelude.{ℕ}
use Rattle.xl_wire.specs.Codes.{code_of as frame_code}
use Rattle.xl_tags.specs.Codes.{code_of as tag_code}
use Rattle.xl_ledger.specs.Codes.{code_of as header_code}
use Rattle.xl_rounds.specs.Codes.{code_of as round_code}
use Rattle.xl_rounds.specs.declared.refusal.RoundRefusal.{RoundRefusal}
use Rattle.xl_rounds.specs.declared.refusal.RoundRefusal.TheVariants as round
use Rattle.xl_validations.specs.Codes.{code_of as row_code}
use Rattle.xl_validations.specs.declared.refusal.ValRefusal.{ValRefusal}
use Rattle.xl_validations.specs.declared.refusal.ValRefusal.TheVariants as row
use Rattle.xl_core.specs.declared.refusal.Refusal.{Refusal}
use Rattle.xl_core.specs.declared.refusal.Refusal.TheVariants as node

abbrev pub refusal_from : ValRefusal → Refusal
refusal_from (row.Stale now signed) = node.Stale now signed
refusal_from (row.Repeat id) = node.Repeat id
refusal_from (row.Conflict id) = node.Conflict id
refusal_from (row.OldSeq largest) = node.OldSeq largest

abbrev pub round_from : RoundRefusal → Refusal
round_from (round.Pending tx) = node.Pending tx
round_from (round.PoolFull most) = node.PoolFull most
round_from (round.WrongPrev ours) = node.WrongPrev ours
round_from (round.OldPosition kept) = node.OldPosition kept
round_from (round.Left member) = node.Left member
round_from (round.StaleProposal now) = node.StaleProposal now

-- the number of each refusal
abbrev pub code_of : Refusal → ℕ
code_of (node.Frame why) = frame_code why
code_of (node.Tag why) = tag_code why
code_of (node.Header why) = header_code why
code_of (node.Stale now signed) = row_code (row.Stale now signed)
code_of (node.Repeat id) = row_code (row.Repeat id)
code_of (node.Conflict id) = row_code (row.Conflict id)
code_of (node.OldSeq largest) = row_code (row.OldSeq largest)
code_of (node.Pending tx) = round_code (round.Pending tx)
code_of (node.PoolFull most) = round_code (round.PoolFull most)
code_of (node.WrongPrev ours) = round_code (round.WrongPrev ours)
code_of (node.OldPosition kept) = round_code (round.OldPosition kept)
code_of (node.Left member) = round_code (round.Left member)
code_of (node.StaleProposal now) = round_code (round.StaleProposal now)
code_of (node.NotAfter kept) = 30
code_of (node.IssuingOff failed) = 31
code_of (node.KeepFault count) = 32
code_of (node.Short lack) = 45
code_of (node.Extra more) = 46
code_of (node.NoKey member) = 48
