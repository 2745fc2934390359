use Rattle.std.proofs.Common.{not}
use Rattle.std.proofs.lemmas.List.Sums.{prefix_len-le-length}
use Rattle.xl_sched.specs.Tokens.{is_blank}
use Rattle.xl_sched.proofs.TokenLemmas.{IsTokenSplit-first}
use Rattle.xl_sched.proofs.tokens.split_at_blank.Goals as goal

pub split_at-requires : goal.split_at-requires
split_at-requires c = rw c.first_blank.ensures (prefix_len-le-length (λ b. not (is_blank b)) c.args.bytes.now)

pub returns : goal.returns
returns c =
    rw (c.split_at.ensures.front, c.split_at.ensures.back, c.first_blank.ensures) (IsTokenSplit-first c.args.bytes.now)
