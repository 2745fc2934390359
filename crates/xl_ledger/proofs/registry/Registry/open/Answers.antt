-- no ledger and no bucket is in use before the root is put, and the least limit has room for it
use Rattle.std.proofs.Common.{ℕ, Option, None, length, replicate, sym, ap, ◌∙◌, arith}
use Rattle.std.proofs.lemmas.List.{length-map, length-replicate}
use Rattle.xl_ledger.specs.Registries.{Ledgers}
use Rattle.xl_ledger.proofs.registry.Registry.open.Goals as goal

pub put_root-requires-clause-some : goal.put_root-requires-clause-some
put_root-requires-clause-some c = omega (arith, ap length c.in_ok-table.ensures, length-replicate {A = Option ℕ} c.args.limit None, c.requires.least)

pub put_root-requires-clause-unused : goal.put_root-requires-clause-unused
put_root-requires-clause-unused c = c.in_ok-table.ensures ∙ ap (λ (n : ℕ). replicate n None) (sym (ap length c.in_ok-table.ensures ∙ length-replicate {A = Option ℕ} c.args.limit None))

pub invariant_of-result : goal.invariant_of-result
invariant_of-result c =
    let count = sym (length-map c.put_root.new.ledgers.items (λ l. l.header)) ∙ ap length c.put_root.ensures.root in
    record {
      indexed = c.put_root.ensures.indexed;
      room = record {
        least = c.requires.least;
        most = c.requires.most;
        within = omega (arith, count, c.requires.least);
        reserved = omega (arith, c.put_root.ensures.room, c.in_ok-ledgers.ensures.exact);
      };
    }

pub returns : goal.returns
returns c = ap (λ hs. let r : Ledgers = record { headers = hs; limit = c.args.limit } in r) c.put_root.ensures.root
