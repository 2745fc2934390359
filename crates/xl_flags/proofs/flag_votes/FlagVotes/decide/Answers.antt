-- what is kept stands for past votes and reports, and a report more on each side gives the same lines
use Rattle.std.proofs.Common.{◌≡◌, List, Ok, Err, ◌∙◌, sym, subst}
use Rattle.std.specs.Prelude.{Result, IfOk, OnOk, MatchResult}
use Rattle.xl_base.specs.declared.memory.OutOfMemory.{OutOfMemory}
use Rattle.xl_flags.specs.declared.news.FlagLine.{FlagLine}
use Rattle.xl_flags.specs.Flags.{lines_of, reports_of}
use Rattle.xl_flags.specs.Kept.{Kept, kept_lines, kept_after, Past, Remembers, report_of, with_report}
use Rattle.xl_flags.proofs.Remembering.{lines_are, remembers_report}
use Rattle.xl_flags.proofs.flag_votes.FlagVotes.decide.Goals as goal

weaker : (P Q : List FlagLine → Type 0) → ((news : List FlagLine) → P news → Q news) → (r : Result (List FlagLine) OutOfMemory) → IfOk r P → IfOk r Q
weaker P Q h (Ok news) p = h news p
weaker P Q h (Err e) p = p

both_weaker : (P Q : List FlagLine → Type 0) (R : OutOfMemory → Type 0) → ((news : List FlagLine) → P news → Q news) → (r : Result (List FlagLine) OutOfMemory) →
    MatchResult r P R → MatchResult r Q R
both_weaker P Q R h (Ok news) p = h news p
both_weaker P Q R h (Err e) p = p

ok_part : (P R : Type 0) → (r : Result (List FlagLine) OutOfMemory) → MatchResult r (λ _. P) (λ _. R) → OnOk r P
ok_part P R (Ok news) p = p
ok_part P R (Err e) p = tt

pub returns : goal.returns
returns c = record {
  news = weaker (λ news. news ≡ kept_lines c.args.node c.args.seq c.args.close c.args.counted.now c.args.self.now)
      (λ news. (past : Past) → Remembers c.args.self.now past → news ≡ lines_of c.args.node c.args.seq (report_of past c.args.node c.args.close c.args.counted.now) (reports_of past.reports c.args.node))
      (λ news said past remembers. said
      ∙ lines_are past c.args.node c.args.close c.args.counted.now (c.take_report.ensures.first, c.take_report.ensures.last) c.requires.members c.args.self.now remembers c.args.seq)
      c.take_report.result c.take_report.ensures.said;
  remembers = both_weaker (λ news. c.take_report.new.self ≡ kept_after c.args.node c.args.close c.args.counted.now c.args.self.now)
      (λ news. (past : Past) → Remembers c.args.self.now past → Remembers c.take_report.new.self (with_report past (report_of past c.args.node c.args.close c.args.counted.now)))
      (λ e. c.take_report.new.self ≡ c.args.self.now)
      (λ news kept past remembers. subst (λ (k : Kept). Remembers k (with_report past (report_of past c.args.node c.args.close c.args.counted.now))) (sym kept)
      (remembers_report past c.args.node c.args.close c.args.counted.now (c.take_report.ensures.first, c.take_report.ensures.last) c.requires.members c.args.self.now remembers))
      c.take_report.result c.take_report.ensures.kept;
  said = c.take_report.ensures.said;
  kept = ok_part (c.take_report.new.self ≡ kept_after c.args.node c.args.close c.args.counted.now c.args.self.now) (c.take_report.new.self ≡ c.args.self.now)
      c.take_report.result c.take_report.ensures.kept;
}
