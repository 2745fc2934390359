use Rattle.std.proofs.Common.{◌≡◌, ◌-◌, ◌≤◌}
use Rattle.xl_rounds.specs.Rounds.{on_ledger}
use Rattle.xl_rounds.specs.Settings.{setting_on}
use Rattle.xl_rounds.specs.Proposals.{with_all_handed}
use Rattle.xl_rounds.proofs.round.Round.start.Given as goal

-- the later proposals of the members so far are handed, and the round stays on its ledger
abbrev pub invariant-loop-place : goal.invariant-loop-place
invariant-loop-place l =
    (l.place ≤ 64)
    × (l.self ≡ with_all_handed l.registry.headers l.place l.second (on_ledger (setting_on l.registry.headers l.fn.previous l.fn.mode l.fn.now) l.fn.self))
    × (l.self.setting ≡ setting_on l.registry.headers l.fn.previous l.fn.mode l.fn.now)

abbrev pub decreases-loop-place : goal.decreases-loop-place
decreases-loop-place l = 64 - l.place
