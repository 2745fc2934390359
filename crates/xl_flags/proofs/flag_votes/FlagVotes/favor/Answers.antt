-- what is kept stands for past votes, a vote more on each side keeps it so, and rows are as many as named amendments
use Rattle.std.proofs.Common.{◌≡◌, ◌<◌, ◌≤◌, Ok, Err, length, subst, sym}
use Rattle.std.specs.Prelude.{Result, IfOk, IfErr, MatchResult}
use Rattle.xl_flags.specs.declared.refusal.FlagRefusal.TheVariants.{TooMany}
use Rattle.xl_flags.specs.Votes.{most_amendments, named_amendments}
use Rattle.xl_flags.specs.Kept.{Kept, Past, Remembers, with_favor, kept_favored, with_rows}
use Rattle.xl_flags.proofs.Favoring.{so_many, remembers_vote}
use Rattle.xl_flags.proofs.flag_votes.FlagVotes.favor.Goals as goal

module _ {E : Type 0} where
  done_weaker : (P Q : Unit {0} → Type 0) (R : E → Type 0) → ((u : Unit {0}) → P u → Q u) → (r : Result (Unit {0}) E) → MatchResult r P R → MatchResult r Q R
  done_weaker P Q R h (Ok u) p = h u p
  done_weaker P Q R h (Err e) p = p

  ok_weaker : (P Q : Unit {0} → Type 0) → ((u : Unit {0}) → P u → Q u) → (r : Result (Unit {0}) E) → IfOk r P → IfOk r Q
  ok_weaker P Q h (Ok u) p = h u p
  ok_weaker P Q h (Err e) p = p

  err_weaker : (P Q : E → Type 0) → ((e : E) → P e → Q e) → (r : Result (Unit {0}) E) → IfErr r P → IfErr r Q
  err_weaker P Q h (Ok u) p = p
  err_weaker P Q h (Err e) p = h e p

  ok_part : (P : Unit {0} → Type 0) (R : E → Type 0) → (r : Result (Unit {0}) E) → MatchResult r P R → IfOk r P
  ok_part P R (Ok u) p = p
  ok_part P R (Err e) p = tt

pub returns : goal.returns
returns c = record {
  remembers = done_weaker (λ u. c.take_vote.new.self ≡ kept_favored c.args.member c.args.fee c.args.ids.now c.args.self.now)
      (λ u. (past : Past) → Remembers c.args.self.now past → Remembers c.take_vote.new.self (with_favor past c.args.member c.args.fee c.args.ids.now))
      (λ e. c.take_vote.new.self ≡ c.args.self.now)
      (λ u kept past is. subst (λ (k : Kept). Remembers k (with_favor past c.args.member c.args.fee c.args.ids.now)) (sym kept)
      (remembers_vote past c.args.member c.args.fee c.args.ids.now c.take_vote.ensures.first c.take_vote.ensures.last c.args.self.now is))
      c.take_vote.result c.take_vote.ensures.kept;
  many = err_weaker (λ e. e ≡ TooMany → most_amendments < length (with_rows c.args.self.now.amendments c.args.ids.now))
      (λ e. e ≡ TooMany → (past : Past) → Remembers c.args.self.now past → most_amendments < length (named_amendments (with_favor past c.args.member c.args.fee c.args.ids.now).favors))
      (λ e many too past is. subst (λ n. most_amendments < n) (so_many past c.args.member c.args.fee c.args.ids.now c.take_vote.ensures.first c.take_vote.ensures.last c.args.self.now is) (many too))
      c.take_vote.result c.take_vote.ensures.many;
  few = ok_weaker (λ u. length (with_rows c.args.self.now.amendments c.args.ids.now) ≤ most_amendments)
      (λ u. (past : Past) → Remembers c.args.self.now past → length (named_amendments (with_favor past c.args.member c.args.fee c.args.ids.now).favors) ≤ most_amendments)
      (λ u few past is. subst (λ n. n ≤ most_amendments) (so_many past c.args.member c.args.fee c.args.ids.now c.take_vote.ensures.first c.take_vote.ensures.last c.args.self.now is) few)
      c.take_vote.result c.take_vote.ensures.few;
  kept = ok_part (λ u. c.take_vote.new.self ≡ kept_favored c.args.member c.args.fee c.args.ids.now c.args.self.now) (λ e. c.take_vote.new.self ≡ c.args.self.now)
      c.take_vote.result c.take_vote.ensures.kept;
  many_kept = c.take_vote.ensures.many;
  few_kept = c.take_vote.ensures.few;
}
