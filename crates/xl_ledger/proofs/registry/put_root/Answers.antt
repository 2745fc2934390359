use Rattle.std.proofs.Common.{◌∷◌, [], ◌++◌, List, ℕ, Option, set, sym, ap, subst, ◌∙◌, arith}
use Rattle.xl_ledger.specs.declared.header.Header.{Header}
use Rattle.xl_ledger.specs.declared.ledger.Ledger.{Ledger}
use Rattle.xl_ledger.specs.Tables.{headers_of, IsIndexed}
use Rattle.xl_ledger.proofs.Storing.{rooted}
use Rattle.xl_ledger.proofs.registry.put_root.Goals as goal

pub returns-clause-indexed : goal.returns-clause-indexed
returns-clause-indexed c =
    let l = c.root-root.result in
    subst (λ (o : Option ℕ). IsIndexed c.push_reserved.new.self.items (set c.args.table.now.items c.bucket_of-bucket.result o)) (sym c.to.ensures)
    (rooted l c.args.ledgers.now.items c.push_reserved.new.self.items c.args.table.now.items c.len.result c.bucket_of-bucket.result c.root.result
    c.requires.some c.requires.unused c.push_reserved.ensures.items c.requires.empty (omega (arith, c.len.ensures, c.args.table.now.ok.0))
    c.root-root.ensures.header c.root-root.ensures.id c.root-root.ensures.jumps c.root-root.ensures.before c.bucket_of-bucket.ensures.value c.bucket_of-bucket.ensures.within c.root.ensures)

pub returns-clause-root : goal.returns-clause-root
returns-clause-root c =
    ap (λ (ls : List Ledger). headers_of ls) (c.push_reserved.ensures.items ∙ ap (λ (ls : List Ledger). ls ++ c.root-root.result ∷ []) c.requires.empty)
    ∙ ap (λ (h : Header). h ∷ []) c.root-root.ensures.header
