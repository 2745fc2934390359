-- The entry of one turn. Source: what the code of this crate relies on. No public clause cites this file.
use Rattle.std.specs.Prelude.{Bool, true, false, List, [], ◌∷◌}
use Rattle.xl_store.specs.declared.entry.Entry.{Entry}
use Rattle.xl_store.specs.declared.page.Page.{Page}
use Rattle.xl_store.specs.declared.page.Page.TheVariants.{Linked, Bare}

-- what stands on a page
abbrev pub on : Page → List Entry
on (Linked node) = node
on (Bare entry) = entry ∷ []

-- whether it has its node
abbrev pub has_node : Page → Bool
has_node (Linked node) = true
has_node (Bare entry) = false
