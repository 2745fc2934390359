-- Rows. Source: rippled's Validations, with seen sequences kept for a node's whole life by this profile.
use Rattle.std.specs.Prelude.{ℕ, ◌+◌, ◌-◌, ◌==◌, ◌&&◌, Bool, false, not, List, [], ◌∷◌, map, find, unwrap_or, count_by, nat_lt, nat_le, if◌then◌else◌}
use Rattle.std.specs.Prelude.{Some, None}
use Rattle.std.specs.declared.option.Option.{Option}
use Rattle.std.specs.Option.{option_and_then, option_map_or}
use Rattle.xl_base.specs.Ids.{same_id}
use Rattle.xl_base.specs.Moments.{future_secs, past_secs}
use Rattle.xl_base.specs.declared.ids.LedgerId.{LedgerId}
use Rattle.xl_wire.specs.declared.validation.Validation.{Validation}
use Rattle.xl_validations.specs.declared.row.Row.{Row}
use Rattle.xl_validations.specs.declared.refusal.ValRefusal.{ValRefusal}
use Rattle.xl_validations.specs.declared.refusal.ValRefusal.TheVariants.{Stale, Repeat, Conflict, OldSeq}

-- signed less than 180 seconds ago, and less than 300 seconds ahead
abbrev pub is_current : ℕ → Validation → Bool
is_current now v = nat_lt (now - past_secs) v.signed && nat_lt v.signed (now + future_secs)

-- a row at the opening
abbrev pub empty_row : ℕ → Row
empty_row member = record { member = member; largest = 0; current = None }

-- a sequence at most the greatest one taken is old
abbrev pub refusal_by_largest : Row → Validation → Option ValRefusal
refusal_by_largest row v = if nat_le v.seq row.largest then Some (OldSeq row.largest) else None

-- of the row's own validation's sequence there is none but itself, and that was taken before
abbrev pub refusal_by_current : Row → Validation → Option Validation → Option ValRefusal
refusal_by_current row v None = refusal_by_largest row v
refusal_by_current row v (Some kept) =
    if kept.seq == v.seq
    then (if same_id kept.id v.id then Some (Repeat kept.id) else Some (Conflict kept.id))
    else refusal_by_largest row v

-- why the row doesn't take the validation: stale, a repeat, a conflict or old, in this order
abbrev pub refusal : Row → ℕ → Validation → Option ValRefusal
refusal row now v = if is_current now v then refusal_by_current row v row.current else Some (Stale now v.signed)

-- the row that has taken the validation
abbrev pub with_validation : Validation → Row → Row
with_validation v row = record { member = row.member; largest = v.seq; current = Some v }

-- the row of a member
abbrev pub row_of : List Row → ℕ → Option Row
row_of rows member = find (λ row. row.member == member) rows

-- the greatest sequence taken from a member; 0 at first, and for one without a row
abbrev pub largest_of : List Row → ℕ → ℕ
largest_of rows member = option_map_or (λ row. row.largest) (row_of rows member) 0

-- the current validation of a member, if it has one
abbrev pub current_of : List Row → ℕ → Option Validation
current_of rows member = option_and_then (λ row. row.current) (row_of rows member)

-- what a member last reported, as its current validation tells
abbrev pub heard_of : List Row → ℕ → Option LedgerId
heard_of rows member = option_and_then (λ v. v.validated) (current_of rows member)

-- why the row of a member doesn't take the validation
abbrev pub refusal_of : List Row → ℕ → ℕ → Validation → Option ValRefusal
refusal_of rows member now v = option_and_then (λ row. refusal row now v) (row_of rows member)

-- the rows with the member's own one changed
abbrev pub at_member : ℕ → (Row → Row) → List Row → List Row
at_member member change [] = []
at_member member change (row ∷ rows) =
    if row.member == member then change row ∷ rows else row ∷ at_member member change rows

-- the row of a member, or an empty one
abbrev pub row_for : List Row → ℕ → Row
row_for rows member = unwrap_or (row_of rows member) (empty_row member)

-- the rows of another list: members that stay keep theirs, and each new one has an empty row
abbrev pub relisted : List ℕ → List Row → List Row
relisted members rows = map (row_for rows) members

-- a validation that is no longer current is removed
abbrev pub unexpired : ℕ → Option Validation → Option Validation
unexpired now None = None
unexpired now (Some v) = if is_current now v then Some v else None

-- whether it was removed then
abbrev pub is_expired : ℕ → Option Validation → Bool
is_expired now None = false
is_expired now (Some v) = not (is_current now v)

-- the row at a second: it keeps its greatest sequence
abbrev pub row_at : ℕ → Row → Row
row_at now row = record { member = row.member; largest = row.largest; current = unexpired now row.current }

-- whether the row holds a full validation of this sequence and id
abbrev pub is_full_of : ℕ → LedgerId → Option Validation → Bool
is_full_of seq id None = false
is_full_of seq id (Some v) = v.full && v.seq == seq && same_id v.id id

-- how many rows do
abbrev pub count_full : ℕ → LedgerId → List Row → ℕ
count_full seq id rows = count_by (λ row. is_full_of seq id row.current) rows

-- whether the row's validation, full or partial, is of this sequence and id
abbrev pub is_of : ℕ → LedgerId → Option Validation → Bool
is_of seq id None = false
is_of seq id (Some v) = v.seq == seq && same_id v.id id

-- whether the row's validation, full or partial, names this id
abbrev pub names : LedgerId → Option Validation → Bool
names id None = false
names id (Some v) = same_id v.id id

-- how many members other than me name it
abbrev pub named : ℕ → LedgerId → List Row → ℕ
named me id rows = count_by (λ row. not (row.member == me) && names id row.current) rows
