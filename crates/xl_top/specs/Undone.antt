-- A command of which nothing was done. Source: this project's own.
use Rattle.std.specs.Prelude.{◌≡◌, List, None}
use Rattle.std.specs.declared.option.Option.{Option}
use Rattle.xl_base.specs.declared.status.Status.{Status}
use Rattle.xl_base.specs.declared.status.Status.TheVariants as status
use Rattle.xl_store.specs.declared.entry.Entry.{Entry}

-- memory ran out before anything was done: no store was opened, and input, output, keeper and hub are as they were
pub record IsUndone (end : Status) (journal : Option (List Entry)) (input output keeper hub : Type 0) : Type 0 where
  pub memory : end ≡ status.OutOfMemory
  pub unopened : journal ≡ None
  pub unread : input
  pub unwritten : output
  pub kept : keeper
  pub unlinked : hub
