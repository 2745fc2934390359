-- Queues of a fixed length that lose their oldest items. Source: this profile.
use Rattle.std.specs.Prelude.{ℕ, ◌==◌, nat_lt, List, [], ◌∷◌, ◌++◌, length, drop, if◌then◌else◌, refl}
use Rattle.std.specs.Coded.{Coded, code_by, coded×, coded_ℕ, coded_list}
use Rattle.xl_base.specs.Counts.{one_more}

-- the items that no one has taken, from the oldest on, and how many were lost
pub record Backlog (T : Type 0) : Type 0 where
  pub items : List T
  pub lost : ℕ

module _ {T : Type 0} where
  -- nothing was pushed yet
  abbrev pub no_items : Backlog T
  no_items = record { items = []; lost = 0 }

  -- the new item comes last, and if there are n already the oldest goes
  abbrev pub pushed : ℕ → List T → T → List T
  pushed n items item = if nat_lt (length items) n then items ++ item ∷ [] else drop 1 (items ++ item ∷ [])

  -- after a push into a queue of at most n items
  abbrev pub with_item : ℕ → Backlog T → T → Backlog T
  with_item n queue item = record {
    items = pushed n queue.items item;
    lost = if nat_lt (length queue.items) n then queue.lost else one_more queue.lost;
  }

  -- the oldest item was taken, if there was one
  abbrev pub without_first : Backlog T → Backlog T
  without_first queue = record { items = drop 1 queue.items; lost = queue.lost }

  -- the oldest item was lost, if there was one
  abbrev pub passed_over : Backlog T → Backlog T
  passed_over queue = record {
    items = drop 1 queue.items;
    lost = if length queue.items == 0 then queue.lost else one_more queue.lost;
  }

  -- a backlog is stored as the pair of its fields
  abbrev pub backlog_code : Coded T → Coded (Backlog T)
  backlog_code code =
      code_by (List T × ℕ) (coded× (coded_list code) coded_ℕ)
      (λ q. (q.items, q.lost)) (λ p. record { items = p.0; lost = p.1 }) (λ _. refl)
