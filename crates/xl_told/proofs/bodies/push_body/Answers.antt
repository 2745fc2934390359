-- the header is the one that its bytes spell
use Rattle.std.proofs.Common.{◌≡◌, ◌++◌, ◌∙◌, ap, subst, sym}
use Rattle.std.specs.Prelude.{OnOk}
use Rattle.std.specs.String.{string_bytes}
use Rattle.xl_ledger.specs.declared.header.Header.{Header}
use Rattle.xl_ledger.specs.Headers.{header_id}
use Rattle.xl_told.specs.Bodies.{header_text}
use Rattle.xl_told.proofs.bodies.push_body.Goals as goal

pub push_header-requires : goal.push_header-requires
push_header-requires c = c.header_id-id.ensures ∙ ap header_id (sym c.read_header.ensures.exact)

pub returns-in-Header : goal.returns-in-Header
returns-in-Header c =
    rw c.in-Header.is
    (subst
    (λ (h : Header). OnOk c.push_header.result (string_bytes c.push_header.new.text ≡ string_bytes c.args.text.now ++ header_text c.args.reader.now.names h))
    c.read_header.ensures.exact c.push_header.ensures)
