use Rattle.std.proofs.Common.{◌∙◌, ap, unwrap_or, length}
use Rattle.xl_sched.specs.Tokens.{is_blank}
use Rattle.xl_sched.proofs.TokenLemmas.{position_or_len-unwrap}
use Rattle.xl_sched.proofs.tokens.first_blank.Goals as goal

pub returns : goal.returns
returns c = c.unwrap_or.ensures ∙ ap (λ o. unwrap_or o (length c.args.bytes.now)) c.blank_place.ensures ∙ position_or_len-unwrap is_blank c.args.bytes.now
