use Rattle.std.proofs.Common.{◌<◌, ◌^◌, ap, ◌∙◌, arith}
use Rattle.std.specs.Result.{result_ok}
use Rattle.std.proofs.lemmas.Fmt.{IsAscii-decimal, parse-decimal}
use Rattle.std.proofs.lemmas.Str.{IsUtf8-from_ascii}
use Rattle.xl_keep.proofs.text.value_of.Goals as goal

pub returns-in-Ok : goal.returns-in-Ok
returns-in-Ok c n fits same =
    let wide : n < 2 ^ 64 = omega (arith, fits) in
    let read = c.in-Ok.ensures.cases.0 ∙ same in
    c.ok.ensures.value ∙ ap result_ok (parse-decimal 32 n _ _ fits wide read c.parse.ensures.value.0)

pub returns-in-Err : goal.returns-in-Err
returns-in-Err c n fits same =
    let wide : n < 2 ^ 64 = omega (arith, fits) in
    absurd (c.in-Err.ensures.cases.0 (rw same (IsUtf8-from_ascii _ (IsAscii-decimal n wide))))
