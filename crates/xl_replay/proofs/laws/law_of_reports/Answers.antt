use Rattle.xl_replay.proofs.Headline.{whole_report, refused_report, as_written}
use Rattle.xl_replay.proofs.laws.law_of_reports.Goals as goal

pub returns-clause-headline : goal.returns-clause-headline
returns-clause-headline c = whole_report

pub returns-clause-refusal : goal.returns-clause-refusal
returns-clause-refusal c = refused_report

pub returns-clause-as_written : goal.returns-clause-as_written
returns-clause-as_written c = as_written
