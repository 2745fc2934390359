-- What is kept of frames that were written last. Source: what the code of this crate keeps.
use Rattle.std.specs.Prelude.{◌≡◌, IfSome, ℕ, List, Result, Ok, Err, codes, true}
use Rattle.std.specs.String.{string_bytes}
use Rattle.xl_sched.specs.declared.named.Named.{Named}
use Rattle.xl_tell.specs.declared.echo.Echo.{Echo}
use Rattle.xl_tell.specs.declared.echo.Echoes.{Echoes}
use Rattle.xl_tell.specs.declared.echo.PartsEcho.{PartsEcho}
use Rattle.xl_told.specs.Bodies.{body_text}
use Rattle.xl_wire.specs.Bodies.{body_of}
use Rattle.xl_wire.specs.declared.body.Body.{Body}
use Rattle.xl_wire.specs.declared.refusal.WireRefusal.{WireRefusal}
use Rattle.xl_world.specs.Sending.{body_said}

-- the words are those of what was said
abbrev pub IsEcho : List Named → Echo → Type 0
IsEcho names e = IfSome e.said (λ said. string_bytes e.words ≡ body_text names (body_said said))

-- what a frame says whose body is read so
abbrev pub parts_text : List Named → Result Body WireRefusal → List ℕ
parts_text names (Ok body) = body_text names body
parts_text names (Err why) = codes "none"

-- the words are those of the body that was read
abbrev pub IsPartsEcho : List Named → PartsEcho → Type 0
IsPartsEcho names e = e.is_said ≡ true → string_bytes e.words ≡ parts_text names (body_of e.kind e.body.items)

pub record AreEchoes (names : List Named) (es : Echoes) : Type 0 where
  pub proposal : IsEcho names es.proposal
  pub validation : IsEcho names es.validation
  pub header : IsEcho names es.header
  pub tx : IsEcho names es.tx
  pub parts : IsPartsEcho names es.parts
