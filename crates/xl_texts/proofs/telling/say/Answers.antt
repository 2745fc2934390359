use Rattle.xl_lines.specs.Rules.{closes}
use Rattle.xl_texts.proofs.Alone.{said_whole, said_in_part}
use Rattle.xl_texts.proofs.telling.say.Goals as goal

pub returns-in_default : goal.returns-in_default
returns-in_default g c = said_in_part (closes c.args.text.now c.args.verdict) _ _ _ _ c.in_default.ensures.front c.in_default.ensures.less c.in_default.ensures.failed

pub returns : goal.returns
returns g c = said_whole (closes c.args.text.now c.args.verdict) _ _ _ _ c.in-Ok.ensures.front c.in-Ok.ensures.whole c.in-Ok.ensures.exact
