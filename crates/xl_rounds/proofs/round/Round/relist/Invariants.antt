use Rattle.std.proofs.Common.{◌≡◌}
use Rattle.xl_rounds.specs.Relisting.{relisted_to}
use Rattle.xl_rounds.proofs.round.Round.relist.Given as goal

-- the members so far have been asked for, and the setting stays
abbrev pub invariant-loop-place : goal.invariant-loop-place
invariant-loop-place l = (l.self ≡ relisted_to l.list.members l.place l.initial.self) × (l.self.setting ≡ l.initial.self.setting)
