-- Peers as those that are served. Source: what the code of this crate relies on. No public clause cites this file.
use Rattle.std.specs.Prelude.{◌≤◌}
use Rattle.xl_workers.specs.declared.plan.Contact.{Contact}

-- it is a member's number
abbrev pub IsNumber : Contact → Type 0
IsNumber contact = (1 ≤ contact.member) × (contact.member ≤ 64)
