-- Rows that nothing expires from.
use Rattle.std.proofs.Common.{◌≡◌, ℕ, Bool, true, false, not, List, [], ◌∷◌, map, Option, Some, None, refl, ap, ◌∙◌}
use Rattle.std.specs.List.{list_any}
use Rattle.std.proofs.lemmas.Bool.{cond-true, or_parts}
use Rattle.xl_wire.specs.declared.validation.Validation.{Validation}
use Rattle.xl_validations.specs.declared.row.Row.{Row}
use Rattle.xl_validations.specs.Rows.{is_current, is_expired, row_at, unexpired}

-- one that isn't expired stays
unexpired_one : (now : ℕ) (o : Option Validation) → is_expired now o ≡ false → unexpired now o ≡ o
unexpired_one now None e = refl
unexpired_one now (Some v) e = cond-true (is_current now v) (Some v) None (kept (is_current now v) e)
  where
    kept : (b : Bool) → not b ≡ false → b ≡ true
    kept true e = refl
    kept false e = absurd (cc e)

-- rows none of which is expired stay as they are
pub none_expired : (now : ℕ) (rows : List Row) → list_any (λ row. is_expired now row.current) rows ≡ false → map (row_at now) rows ≡ rows
none_expired now [] e = refl
none_expired now (row ∷ rows) e =
    let parts = or_parts (is_expired now row.current) (list_any (λ r. is_expired now r.current) rows) e in
    ap (λ o. record { member = row.member; largest = row.largest; current = o } ∷ map (row_at now) rows) (unexpired_one now row.current parts.0)
    ∙ ap (λ rs. row ∷ rs) (none_expired now rows parts.1)
