use Rattle.std.proofs.Common.{◌≡◌, List, [], None, replicate, refl, sym, subst}
use Rattle.xl_flags.specs.declared.amendment.Amendment.{Amendment}
use Rattle.xl_flags.specs.Kept.{Kept, nothing_kept}
use Rattle.xl_flags.proofs.Opening.{remembers_nothing}
use Rattle.xl_flags.proofs.flag_votes.FlagVotes.open.Goals as goal

abbrev kept_with : List Amendment → Kept
kept_with rows = record { amendments = rows; votes = replicate 64 None; fees = replicate 64 10 }

pub returns : goal.returns
returns c = record {
  remembers = remembers_nothing c.new.result.items 64 c.new.ensures.items refl;
  kept = subst (λ (rows : List Amendment). kept_with rows ≡ nothing_kept) (sym c.new.ensures.items) refl;
}
