use Rattle.std.proofs.Common.{◌≡◌, false}
use Rattle.xl_keep.specs.Files.{Told}
use Rattle.xl_keep.specs.Saves.{Saved}
use Rattle.xl_keep.proofs.keeper.FileKeeper.replace_in_the_end.Given as goal

abbrev pub invariant-loop : goal.invariant-loop
invariant-loop g l =
    (saved : Told (Saved l.initial.seq false) (g.F.WholeFile.shows l.initial.self.file) (g.F.WholeFile.shows l.self.file))
    × (l.self.faults ≡ l.initial.self.faults)
