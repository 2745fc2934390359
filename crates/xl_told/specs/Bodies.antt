-- What a frame says. Source: this project's own formats.
use Rattle.std.specs.Prelude.{ℕ, List, ◌++◌, length, decimal, codes}
use Rattle.xl_base.specs.Sets.{set_id_of}
use Rattle.xl_ledger.specs.declared.header.Header.{Header}
use Rattle.xl_ledger.specs.Headers.{header_id}
use Rattle.xl_ledger.specs.Reading.{header_in}
use Rattle.xl_sched.specs.declared.named.Named.{Named}
use Rattle.xl_wire.specs.declared.body.Body.{Body}
use Rattle.xl_wire.specs.declared.body.Body.TheVariants as body
use Rattle.xl_wire.specs.declared.decoding.Decoded.{Decoded}
use Rattle.xl_wire.specs.declared.decoding.Decoded.TheVariants.{Whole, Need, Refused}
use Rattle.xl_running.specs.Texts.{id_text, space}
use Rattle.xl_told.specs.Words.{proposal_text, set_text, tx_text, validation_text}

abbrev pub header_text : List Named → Header → List ℕ
header_text names h =
    codes "header " ++ decimal h.seq ++ space ++ id_text names (header_id h) ++ space ++ id_text names h.parent ++ space
    ++ decimal h.close

-- what a frame says; of a set how many ids it has, and its own id
abbrev pub body_text : List Named → Body → List ℕ
body_text names (body.Proposal p) = codes "proposal " ++ proposal_text names p
body_text names (body.Validation v) = codes "validation " ++ validation_text names v
body_text names (body.Header bytes) = header_text names (header_in bytes)
body_text names (body.TxSet ids) = codes "set " ++ decimal (length ids) ++ space ++ set_text names (set_id_of ids)
body_text names (body.Tx id) = codes "tx " ++ tx_text names id

-- what the bytes of a frame say; nodes send whole frames alone
abbrev pub said_text : List Named → Decoded → List ℕ
said_text names (Whole frame n) = body_text names frame.body
said_text names (Refused why) = codes "none"
said_text names (Need lack) = codes "none"
