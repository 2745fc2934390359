use Rattle.std.proofs.Common.{◌≡◌, ◌∙◌, ap, unwrap_or, length, arith}
use Rattle.std.specs.List.{position_or_len}
use Rattle.xl_sched.specs.Tokens.{is_blank}
use Rattle.xl_sched.proofs.TokenLemmas.{position_or_len-unwrap}
use Rattle.xl_pairs.proofs.Placing.{position_or_len-within}
use Rattle.xl_pairs.proofs.words.end_of.Goals as goal
use Rattle.xl_pairs.proofs.words.end_of.Goals.{After-unwrap_or}

place : (c : After-unwrap_or) → c.unwrap_or.result ≡ position_or_len is_blank c.args.line.now
place c = c.unwrap_or.ensures ∙ ap (λ o. unwrap_or o (length c.args.line.now)) c.first_blank.ensures ∙ position_or_len-unwrap is_blank c.args.line.now

pub returns-clause-value : goal.returns-clause-value
returns-clause-value c = place (goal.at.returns-clause-value c).After-unwrap_or

pub returns-clause-within : goal.returns-clause-within
returns-clause-within c = omega (arith, place (goal.at.returns-clause-within c).After-unwrap_or, position_or_len-within is_blank c.args.line.now)
