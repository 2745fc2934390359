use Rattle.xl_replay.proofs.Reading.{report_reads}
use Rattle.xl_replay.proofs.SayingOne.{says_one}
use Rattle.xl_replay.proofs.laws.law_of_readings.Goals as goal

pub returns-clause-report : goal.returns-clause-report
returns-clause-report c = report_reads

pub returns-clause-one : goal.returns-clause-one
returns-clause-one c = says_one
