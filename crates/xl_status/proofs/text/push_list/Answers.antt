-- the members are those of the list
use Rattle.std.proofs.Common.{◌≡◌, ◌++◌, ℕ, List, subst}
use Rattle.std.specs.Prelude.{OnOk}
use Rattle.std.specs.List.{flat_map}
use Rattle.std.specs.String.{string_bytes}
use Rattle.xl_status.specs.Texts.{member_line}
use Rattle.xl_status.proofs.text.push_list.Goals as goal

pub returns : goal.returns
returns c =
    subst
    (λ (ms : List ℕ). OnOk c.push_members.result
    (string_bytes c.push_members.new.text
    ≡ string_bytes c.args.text.now ++ flat_map (member_line c.args.status.now c.args.hearing.now) ms))
    c.members.ensures.value c.push_members.ensures
