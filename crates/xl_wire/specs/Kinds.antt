-- The versions and kinds of frames, and how long their bodies are. Source: this project's own layout.
use Rattle.std.specs.Prelude.{ℕ, ◌+◌, ◌-◌, ◌%◌, ◌==◌, ◌&&◌, ◌||◌, nat_le, Bool, false, List, length, IsTrue, if◌then◌else◌}
use Rattle.xl_wire.specs.Lengths.{longest_body}

-- there are two
abbrev pub is_version : ℕ → Bool
is_version version = version == 1 || version == 2

-- 1 is a proposal, 2 a validation, 3 a header, 4 a set, 5 a transaction; in version 2 there are validations alone
abbrev pub is_kind : ℕ → ℕ → Bool
is_kind version kind = if version == 2 then kind == 2 else nat_le 1 kind && nat_le kind 5

-- a count of 2 bytes, and this many ids of 32 bytes, at most as many as a set may have
abbrev pub is_set_length : ℕ → Bool
is_set_length n = nat_le 2 n && nat_le n longest_body && (n - 2) % 32 == 0

-- whether a body of this kind can have n bytes in version 1
abbrev pub can_have_first : ℕ → ℕ → Bool
can_have_first kind n =
    if kind == 1 then n == 76
    else if kind == 2 then n == 41
    else if kind == 3 then n == 118
    else if kind == 4 then is_set_length n
    else if kind == 5 then n == 32
    else false

-- whether a body of this kind can have n bytes in a version; in version 2 an id follows what version 1 has
abbrev pub can_have : ℕ → ℕ → ℕ → Bool
can_have version kind n =
    if version == 1 then can_have_first kind n
    else version == 2 && kind == 2 && n == 73

-- whether it can in one of them
abbrev pub can_hold : ℕ → ℕ → Bool
can_hold kind n = if kind == 2 then n == 41 || n == 73 else can_have_first kind n

abbrev pub IsLawful : ℕ → ℕ → List ℕ → Type 0
IsLawful version kind body = IsTrue (can_have version kind (length body))

-- how many bytes the frame of a body has
abbrev pub span : List ℕ → ℕ
span body = 46 + length body
