-- each piece goes behind those written whole, so a front of the line is there, and less than all if a write fails
use Rattle.std.proofs.Common.{[], ◌∷◌, ◌++◌, codes}
use Rattle.std.proofs.lemmas.Result.{on_err_weaker}
use Rattle.xl_settings.specs.Lines.{refused_text}
use Rattle.xl_settings.proofs.Written.{front_of_first, less_of_first, front_of_second, less_of_second, on_err}
use Rattle.xl_settings.proofs.line.write_refusal.Goals as goal

pub returns-in_err-write_all-clause-front : goal.returns-in_err-write_all-clause-front
returns-in_err-write_all-clause-front g c =
    front_of_first _ _ (codes "settings ") (refused_text c.args.refusal.now ++ 10 ∷ []) c.write_all.ensures.front

pub returns-in_err-write_all-clause-less : goal.returns-in_err-write_all-clause-less
returns-in_err-write_all-clause-less g c =
    on_err _ (less_of_first _ _ (codes "settings ")
    (refused_text c.args.refusal.now ++ 10 ∷ []) c.in_err-write_all.ensures.less)

pub returns-in_err-write_all-2-clause-front : goal.returns-in_err-write_all-2-clause-front
returns-in_err-write_all-2-clause-front g c =
    front_of_second _ _ _ (codes "settings ")
    (refused_text c.args.refusal.now ++ 10 ∷ []) c.in_ok-write_all.ensures.whole
    (front_of_first _ _ (refused_text c.args.refusal.now) (10 ∷ [])
    (rw c.text.ensures at c.write_all-2.ensures.front))

pub returns-in_err-write_all-2-clause-less : goal.returns-in_err-write_all-2-clause-less
returns-in_err-write_all-2-clause-less g c =
    on_err _ (less_of_second _ _ _ (codes "settings ")
    (refused_text c.args.refusal.now ++ 10 ∷ []) c.in_ok-write_all.ensures.whole
    (less_of_first _ _ (refused_text c.args.refusal.now) (10 ∷ [])
    (rw c.text.ensures at c.in_err-write_all-2.ensures.less)))

pub returns-clause-front : goal.returns-clause-front
returns-clause-front g c =
    front_of_second _ _ _ (codes "settings ")
    (refused_text c.args.refusal.now ++ 10 ∷ []) c.in_ok-write_all.ensures.whole
    (front_of_second _ _ _ (refused_text c.args.refusal.now) (10 ∷ [])
    (rw c.text.ensures at c.in_ok-write_all-2.ensures.whole) c.write_all-3.ensures.front)

pub returns-clause-less : goal.returns-clause-less
returns-clause-less g c =
    on_err_weaker c.write_all-3.result
    (λ less. less_of_second _ _ _ (codes "settings ")
    (refused_text c.args.refusal.now ++ 10 ∷ []) c.in_ok-write_all.ensures.whole
    (less_of_second _ _ _ (refused_text c.args.refusal.now) (10 ∷ [])
    (rw c.text.ensures at c.in_ok-write_all-2.ensures.whole) less))
    c.write_all-3.ensures.less
