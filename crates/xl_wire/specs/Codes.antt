-- The numbers of the refusals. Source: this project's own layout.
use Rattle.std.specs.Prelude.{ℕ}
use Rattle.xl_wire.specs.declared.refusal.WireRefusal.{WireRefusal}
use Rattle.xl_wire.specs.declared.refusal.WireRefusal.TheVariants.{Magic, Version, Kind, Length, Flags, Order, Count}

-- the number of each refusal
abbrev pub code_of : WireRefusal → ℕ
code_of (Magic place) = 1
code_of (Version version) = 2
code_of (Kind kind) = 3
code_of (Length kind length) = 4
code_of (Flags flags) = 5
code_of (Order place) = 6
code_of (Count count) = 7
