-- what is told of all bytes is what is written so far and what is told of those to come, piece by piece
use Rattle.std.proofs.Common.{◌∙◌, take, arith, subst, refl}
use Rattle.std.proofs.lemmas.List.{length-take}
use Rattle.xl_lines.specs.Soon.{WasRead}
use Rattle.xl_lines.proofs.Soon.{runs_soon_none, runs_soon_more, runs_soon_all, runs_unended, stops_behind, stops_here}
use Rattle.xl_lines.proofs.Runs.{runs_none, runs_more, runs_more_front, runs_last_front, runs_less, runs_more_less, runs_last_less, runs_on, by_fault, write_from, passed_on, ok_exact, got_exact}
use Rattle.xl_lines.proofs.driver.drive.Goals as goal

pub loop-count-init : goal.loop-count-init
loop-count-init g c = record { runs = runs_none _ _ _; soon = runs_soon_none _ _ _; reads = refl; writes = refl }

pub returns-in_err-feed-in-Got-clause-front : goal.returns-in_err-feed-in-Got-clause-front
returns-in_err-feed-in-Got-clause-front g c = runs_more_front c.loop-count.invariant.runs _ (take c.in-Got.count c.read.new.room) c.in-Got.ensures.bytes c.feed.ensures.front

pub loop-count-preserved : goal.loop-count-preserved
loop-count-preserved g c = record {
  runs = runs_more c.loop-count.invariant.runs _ (take c.in-Got.count c.read.new.room) c.in-Got.ensures.bytes (rw c.in-Line.is at c.in_ok-feed-in-Got.ensures.ok);
  soon = runs_soon_more c.loop-count.invariant.soon _ (take c.in-Got.count c.read.new.room) c.in-Got.ensures.bytes (c.in_ok-feed-in-Got.ensures.soon c.in-Line.is) (c.in_ok-feed-in-Got.ensures.later c.in-Line.is) (c.in_ok-feed-in-Got.ensures.unended c.in-Line.is);
  reads = got_exact c.read.result c.in-Got.count _ _ c.in-Got.is c.read.ensures.exact ∙ c.loop-count.invariant.reads;
  writes = ok_exact c.feed.result _ _ _ c.in_ok-feed-in-Got.was c.feed.ensures.cause ∙ c.loop-count.invariant.writes;
}

pub returns-in-Failed-clause-soon : goal.returns-in-Failed-clause-soon
returns-in-Failed-clause-soon g c quiet is bytes read =
    runs_soon_all c.loop-count.invariant.soon quiet bytes (subst (λ left. WasRead (g.I.Source.left c.args.input.now) left bytes) c.in-Failed.ensures.bytes read)

pub returns-in-Refused-clause-front : goal.returns-in-Refused-clause-front
returns-in-Refused-clause-front g c = runs_more_front c.loop-count.invariant.runs _ (take c.in-Got.count c.read.new.room) c.in-Got.ensures.bytes c.feed.ensures.front

pub returns-in-End-clause-front : goal.returns-in-End-clause-front
returns-in-End-clause-front g c = runs_last_front c.loop-count.invariant.runs c.in-End.ensures.bytes.0 c.finish.ensures.front

pub returns-in_err-feed-in-Got-clause-less : goal.returns-in_err-feed-in-Got-clause-less
returns-in_err-feed-in-Got-clause-less g c aloud =
    by_fault c.from_residual.result _ _ _ (passed_on c.from_residual.result c.feed.result c.in_err-feed-in-Got.field-0.0 _ _ c.from_residual.ensures.1 c.in_err-feed-in-Got.was c.feed.ensures.cause)
    (λ is. runs_more_less c.loop-count.invariant.runs _ (take c.in-Got.count c.read.new.room) c.in-Got.ensures.bytes (c.feed.ensures.less (write_from c.from_residual.result c.feed.result c.in_err-feed-in-Got.field-0.0 c.from_residual.ensures.1 c.in_err-feed-in-Got.was is)))

pub returns-in-End-clause-less : goal.returns-in-End-clause-less
returns-in-End-clause-less g c aloud = by_fault c.finish.result _ _ _ c.finish.ensures.cause (λ is. runs_last_less c.loop-count.invariant.runs c.in-End.ensures.bytes.0 (c.finish.ensures.less is))

pub returns-in-Failed-clause-less : goal.returns-in-Failed-clause-less
returns-in-Failed-clause-less g c aloud other = runs_less c.loop-count.invariant.runs (aloud c.loop-count.teller)

pub returns-in_err-feed-in-Got-clause-cut : goal.returns-in_err-feed-in-Got-clause-cut
returns-in_err-feed-in-Got-clause-cut g c is =
    runs_more_less c.loop-count.invariant.runs _ (take c.in-Got.count c.read.new.room) c.in-Got.ensures.bytes (c.feed.ensures.less (write_from c.from_residual.result c.feed.result c.in_err-feed-in-Got.field-0.0 c.from_residual.ensures.1 c.in_err-feed-in-Got.was is))

pub returns-in-End-clause-cut : goal.returns-in-End-clause-cut
returns-in-End-clause-cut g c is = runs_last_less c.loop-count.invariant.runs c.in-End.ensures.bytes.0 (c.finish.ensures.less is)

pub returns-in-Found-clause-front : goal.returns-in-Found-clause-front
returns-in-Found-clause-front g c = runs_more_front c.loop-count.invariant.runs _ (take c.in-Got.count c.read.new.room) c.in-Got.ensures.bytes c.feed.ensures.front

pub returns-in-Found-clause-to_end : goal.returns-in-Found-clause-to_end
returns-in-Found-clause-to_end g c reads _ =
    absurd (runs_on c.loop-count.invariant.runs (take c.in-Got.count c.read.new.room) (rw c.in-Found.is at c.in_ok-feed-in-Got.ensures.ok) (reads c.args.teller.now))

pub returns-in_err-feed-in-Got-clause-further : goal.returns-in_err-feed-in-Got-clause-further
returns-in_err-feed-in-Got-clause-further g c quiet bytes read =
    stops_behind c.loop-count.invariant.soon _ (take c.in-Got.count c.read.new.room) c.in-Got.ensures.bytes (omega (arith, length-take c.in-Got.count c.read.new.room)) quiet bytes read

pub returns-in-Refused-clause-further : goal.returns-in-Refused-clause-further
returns-in-Refused-clause-further g c quiet bytes read =
    stops_behind c.loop-count.invariant.soon _ (take c.in-Got.count c.read.new.room) c.in-Got.ensures.bytes (omega (arith, length-take c.in-Got.count c.read.new.room)) quiet bytes read

pub returns-in-Found-clause-further : goal.returns-in-Found-clause-further
returns-in-Found-clause-further g c quiet bytes read =
    stops_behind c.loop-count.invariant.soon _ (take c.in-Got.count c.read.new.room) c.in-Got.ensures.bytes (omega (arith, length-take c.in-Got.count c.read.new.room)) quiet bytes read

pub returns-in-End-clause-further : goal.returns-in-End-clause-further
returns-in-End-clause-further g c quiet bytes read = stops_here c.loop-count.invariant.soon _ c.in-End.ensures.bytes.1 quiet bytes read

pub returns-in-Failed-clause-further : goal.returns-in-Failed-clause-further
returns-in-Failed-clause-further g c quiet bytes read = stops_here c.loop-count.invariant.soon _ c.in-Failed.ensures.bytes quiet bytes read

pub returns-in-Failed-clause-unended : goal.returns-in-Failed-clause-unended
returns-in-Failed-clause-unended g c quiet is bytes read =
    runs_unended c.loop-count.invariant.soon quiet bytes (subst (λ left. WasRead (g.I.Source.left c.args.input.now) left bytes) c.in-Failed.ensures.bytes read)
