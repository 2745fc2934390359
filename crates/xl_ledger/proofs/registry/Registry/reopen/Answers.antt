-- once cleared, ledgers and buckets are as at the opening, and the room and the limit stay
use Rattle.std.proofs.Common.{length, sym, ap, ◌∙◌, arith}
use Rattle.std.proofs.lemmas.List.{length-map}
use Rattle.xl_ledger.specs.Registries.{Ledgers, only_root}
use Rattle.xl_ledger.proofs.registry.Registry.reopen.Goals as goal

pub invariant_of-self : goal.invariant_of-self
invariant_of-self c =
    let room = c.self.invariant.room in
    let count = sym (length-map c.put_root.new.ledgers.items (λ l. l.header)) ∙ ap length c.put_root.ensures.root in
    record {
      indexed = c.put_root.ensures.indexed;
      room = record {
        least = room.least;
        most = room.most;
        within = omega (arith, count, room.least);
        reserved = omega (arith, c.put_root.ensures.room, c.clear-2.ensures.capacity, room.reserved);
      };
    }

pub returns : goal.returns
returns c = ap (λ hs. let r : Ledgers = record { headers = hs; limit = c.self.inside.limit } in r) c.put_root.ensures.root ∙ ap (λ (r : Ledgers). only_root r.limit) c.self.view_is
