use Rattle.std.proofs.Common.{◌<◌, ◌∙◌, length, arith}
use Rattle.std.proofs.lemmas.Bool.Decides.{nat_tests}
use Rattle.std.proofs.lemmas.List.{take_rest}
use Rattle.xl_io.proofs.Growing.{written_more, less_of_written}
use Rattle.xl_io.proofs.sink.write_all.Goals as goal

pub loop-rest-preserved : goal.loop-rest-preserved
loop-rest-preserved g c = record {
  written = rw take_rest (written_more _ _ _ _ _ _ c.loop-rest.invariant.written c.in-Took.ensures.bytes);
  later = omega arith;
  exact = c.in-Took.ensures.exact (λ e. cc) ∙ c.loop-rest.invariant.exact;
}

pub returns-in-Failed-clause-less : goal.returns-in-Failed-clause-less
returns-in-Failed-clause-less g c =
    let some : 0 < length c.loop-rest.rest.now = grind (arith, nat_tests, c.is_empty.ensures, c.loop-rest-test.true) in
    less_of_written _ _ _ _ _ c.loop-rest.invariant.written c.in-Failed.ensures.bytes some
