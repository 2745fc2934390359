use Rattle.std.proofs.Common.{◌≡◌, arith, ap, refl, ◌∙◌}
use Rattle.xl_rounds.specs.Rounds.{Round}
use Rattle.xl_rounds.specs.Relisting.{relisted_to}
use Rattle.xl_rounds.proofs.RelistingLaws.{relisted_more, none_relisted, setting_stays}
use Rattle.xl_rounds.proofs.round.Round.relist.Goals as goal

pub loop-place-init : goal.loop-place-init
loop-place-init c = (none_relisted c.args.list.now.members c.args.self.now, refl)

pub loop-place-preserved : goal.loop-place-preserved
loop-place-preserved c =
    let members = c.args.list.now.members in (
      relisted_more members c.loop-place.place c.member_at.result c.args.self.now c.loop-place.self c.forget_unless_listed.new.self c.member_at.ensures c.loop-place.invariant.0 c.forget_unless_listed.ensures,
      ap (λ (s : Round). s.setting) c.forget_unless_listed.ensures ∙ setting_stays members c.member_at.result c.loop-place.self ∙ c.loop-place.invariant.1,
    )

pub returns-clause-relisted : goal.returns-clause-relisted
returns-clause-relisted c =
    let all : c.loop-place.place ≡ 64 = omega (arith, c.loop-place.auto.place-end, c.loop-place-test.false) in
    c.loop-place.invariant.0 ∙ ap (λ n. relisted_to c.args.list.now.members n c.args.self.now) all
