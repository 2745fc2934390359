-- if each id has a row already, then naming them all adds none, and the rows are as many as before
use Rattle.std.proofs.Common.{◌≡◌, ◌≤◌, ◌∙◌, true, List, ap, arith, length, subst, sym}
use Rattle.std.specs.List.{list_all}
use Rattle.xl_flags.specs.declared.amendment.Amendment.{Amendment}
use Rattle.xl_flags.specs.Votes.{most_amendments}
use Rattle.xl_flags.specs.Kept.{Kept, has_row}
use Rattle.xl_flags.proofs.Favoring.{all_rows}
use Rattle.xl_flags.proofs.flag_votes.FlagVotes.name_all.Goals as goal

pub returns-then-are_named-clause-rows : goal.returns-then-are_named-clause-rows
returns-then-are_named-clause-rows c =
    let here : c.deref.result.now ≡ c.args.self.now.amendments = c.deref.ensures.value ∙ ap (λ (k : Kept). k.amendments) c.self.view_is in
    let all : list_all (has_row c.args.self.now.amendments) c.args.ids.now ≡ true =
    ap (λ (rows : List Amendment). list_all (has_row rows) c.args.ids.now) (sym here) ∙ (sym c.are_named.ensures ∙ c.if-are_named.true) in
    ap (λ (rows : List Amendment). let k : Kept = record c.args.self.now { amendments = rows } in k) (sym (all_rows c.args.self.now.amendments c.args.ids.now all))

pub returns-then-are_named-clause-few : goal.returns-then-are_named-clause-few
returns-then-are_named-clause-few c =
    let here : c.deref.result.now ≡ c.args.self.now.amendments = c.deref.ensures.value ∙ ap (λ (k : Kept). k.amendments) c.self.view_is in
    let all : list_all (has_row c.args.self.now.amendments) c.args.ids.now ≡ true =
    ap (λ (rows : List Amendment). list_all (has_row rows) c.args.ids.now) (sym here) ∙ (sym c.are_named.ensures ∙ c.if-are_named.true) in
    subst (λ (rows : List Amendment). length rows ≤ most_amendments) (sym (all_rows c.args.self.now.amendments c.args.ids.now all))
    (omega (arith, ap length here, c.deref.ensures.len, c.len.ensures, c.if-len-le-MOST_AMENDMENTS.true))
