-- What a client is answered. Source: this project's own formats; the codes are those of the node's refusals.
use Rattle.std.specs.Prelude.{ℕ, List, ◌++◌, codes, decimal, option_map}
use Rattle.std.specs.declared.option.Option.{Option}
use Rattle.std.specs.Result.{result_ok}
use Rattle.hex.specs.Hex.{decode_sized}
use Rattle.xl_base.specs.declared.ids.TxId.{TxId}
use Rattle.xl_core.specs.Refusals.{code_of}
use Rattle.xl_door.specs.declared.replies.Reply.{Reply}
use Rattle.xl_door.specs.declared.replies.Reply.TheVariants as reply

-- the most bytes that a line has: an id is 64 hexadecimal digits, of either case
abbrev pub longest_line : ℕ
longest_line = 64

-- the id that a line is
abbrev pub id_of : List ℕ → Option TxId
id_of line = option_map (λ bytes. record { 0 = bytes }) (result_ok (decode_sized line 32))

abbrev pub refused_text : ℕ → List ℕ
refused_text code = codes "refused " ++ decimal code ++ codes "\n"

-- the line that answers
abbrev pub text_of : Reply → List ℕ
text_of reply.Taken = codes "taken\n"
text_of (reply.Refused why) = refused_text (code_of why)
text_of reply.NoId = codes "no id\n"
text_of reply.TooLong = codes "too long\n"
text_of reply.NoTurn = codes "no turn\n"
