-- What a file in memory holds. Source: this project's own, for tests of what saves.
use Rattle.std.specs.Prelude.{option_map}
use Rattle.xl_keep.specs.declared.memory.MemFile.{MemFile}
use Rattle.xl_keep.specs.Files.{Places}

-- the text in place, and the one beside it
abbrev pub places_of : MemFile → Places
places_of file = record {
  stands = option_map (λ text. text.items) file.stands;
  beside = option_map (λ text. text.items) file.beside;
}
