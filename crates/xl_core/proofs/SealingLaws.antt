-- The frame of a validation, as it is written.
use Rattle.std.proofs.Common.{◌≡◌, ℕ, ◌≤◌, List, length, take, subst}
use Rattle.std.proofs.lemmas.List.{take_all}
use Rattle.xl_wire.specs.declared.body.Body.{Body}
use Rattle.xl_wire.specs.Frames.{Spells, raw_of}
use Rattle.xl_wire.specs.Raws.{SpellsRaw}
use Rattle.xl_wire.proofs.FrameLaws.{spelled_raw}
use Rattle.xl_core.specs.Sending.{blank_frame}

-- what is written of a frame, at the front of a room that it fills, spells it
pub written : (from from' to to' n : ℕ) (body : Body) (bytes : List ℕ) → from ≡ from' → to ≡ to' → length bytes ≤ n →
    Spells (blank_frame from to body) (take n bytes) → SpellsRaw (raw_of (blank_frame from' to' body)) bytes
written from from' to to' n body bytes e f all s =
    subst (λ (m : ℕ). SpellsRaw (raw_of (blank_frame m to' body)) bytes) e
    (subst (λ (m : ℕ). SpellsRaw (raw_of (blank_frame from m body)) bytes) f
    (subst (SpellsRaw (raw_of (blank_frame from to body))) (take_all n bytes all)
    (record { frame = spelled_raw (blank_frame from to body) s.frame; spelling = s.spelling })))
