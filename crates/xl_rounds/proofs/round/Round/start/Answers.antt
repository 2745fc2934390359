-- places passed over keep nothing for later, so all members are handed in turn, and the round stays on its ledger
use Rattle.std.proofs.Common.{◌≡◌, ◌+◌, arith, ap, subst, ◌∙◌}
use Rattle.xl_rounds.specs.declared.setting.Setting.{Setting}
use Rattle.xl_rounds.specs.Rounds.{Round, on_ledger}
use Rattle.xl_rounds.specs.Settings.{setting_on}
use Rattle.xl_rounds.specs.Proposals.{later_of, with_all_handed}
use Rattle.xl_rounds.proofs.StartLaws.{setting_handed, handed_more, none_handed}
use Rattle.xl_rounds.proofs.Skipping.{ArePassed, handed_skipped}
use Rattle.xl_rounds.proofs.round.Round.start.Goals as goal

pub loop-place-init : goal.loop-place-init
loop-place-init c =
    let ledgers = c.args.registry.now.headers in
    let second = c.secs_of-second.result in
    let r : Round = c.begin.new.self in
    let start : Round = on_ledger (setting_on ledgers c.args.previous c.args.mode c.args.now) c.args.self.now in
    let begun : r ≡ start = c.begin.ensures ∙ ap (λ setting. on_ledger setting c.args.self.now) c.setting_on.ensures.value in
    let next = c.next-place in
    let passed : ArePassed r.later 0 next.result = subst (λ (s : Round). ArePassed s.later 0 next.result) c.self.view_is next.ensures.passed in (
      next.ensures.within,
      handed_skipped ledgers second start r 0 next.result next.ensures.later passed (begun ∙ none_handed ledgers second start),
      ap (λ (s : Round). s.setting) begun,
    )

pub hand-requires : goal.hand-requires
hand-requires c =
    let same : c.loop-place.self.setting.previous ≡ c.args.previous = ap (λ (s : Setting). s.previous) c.loop-place.invariant.2 in
    record { known = omega (arith, same, c.requires.known) }

pub loop-place-preserved : goal.loop-place-preserved
loop-place-preserved c =
    let ledgers = c.args.registry.now.headers in
    let second = c.secs_of-second.result in
    let i = c.loop-place.place in
    let r : Round = c.loop-place.self in
    let new : Round = c.hand.new.self in
    let start : Round = on_ledger (setting_on ledgers c.args.previous c.args.mode c.args.now) c.args.self.now in
    let next = c.next-place-in-loop-place in
    let passed : ArePassed new.later (i + 1) next.result = subst (λ (s : Round). ArePassed s.later (i + 1) next.result) c.self-in-loop-place.view_is next.ensures.passed in (
      next.ensures.within,
      handed_skipped ledgers second start new (i + 1) next.result next.ensures.later passed
          (handed_more ledgers i c.member_at.result second start r new c.member_at.ensures c.loop-place.invariant.1 c.hand.ensures),
      ap (λ (s : Round). s.setting) c.hand.ensures ∙ setting_handed ledgers c.member_at.result (later_of r c.member_at.result) second r ∙ c.loop-place.invariant.2,
    )

pub returns-clause-started : goal.returns-clause-started
returns-clause-started c =
    let ledgers = c.args.registry.now.headers in
    let start : Round = on_ledger (setting_on ledgers c.args.previous c.args.mode c.args.now) c.args.self.now in
    let all : c.loop-place.place ≡ 64 = omega (arith, c.loop-place.invariant.0, c.loop-place-test.false) in
    c.loop-place.invariant.1
    ∙ ap (λ n. with_all_handed ledgers n c.secs_of-second.result start) all
    ∙ ap (λ second. with_all_handed ledgers 64 second start) c.secs_of-second.ensures

pub returns-clause-setting : goal.returns-clause-setting
returns-clause-setting c = c.loop-place.invariant.2
