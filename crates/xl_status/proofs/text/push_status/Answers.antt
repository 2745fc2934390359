-- each part of the text is put behind what was there
use Rattle.std.proofs.Common.{◌++◌, ℕ, List, codes}
use Rattle.std.specs.String.{string_bytes}
use Rattle.xl_status.specs.Texts.{profile_lines, core_lines, member_lines, look_line, end_line}
use Rattle.xl_status.proofs.Parts.{behind, on_ok}
use Rattle.xl_status.proofs.text.push_status.Goals as goal

pub returns : goal.returns
returns c =
    let head : List ℕ = codes "xl-status 1\n" in
    let profile = profile_lines c.args.profile.now in
    let core = core_lines c.args.status.now in
    let members = member_lines c.args.status.now c.args.hearing.now in
    let look = look_line c.args.look in
    let end = end_line c.args.ended in
    let old = string_bytes c.args.text.now in
    let first = string_bytes c.push_str.new.self in
    let second = string_bytes c.push_profile.new.text in
    let third = string_bytes c.push_core.new.text in
    let fourth = string_bytes c.push_list.new.text in
    let fifth = string_bytes c.push_look.new.text in
    let sixth = string_bytes c.push_end.new.text in
    on_ok c.push_end.result _ _ c.push_end.ensures
    (behind old fifth sixth (head ++ profile ++ core ++ members ++ look) end
    (behind old fourth fifth (head ++ profile ++ core ++ members) look
    (behind old third fourth (head ++ profile ++ core) members
    (behind old second third (head ++ profile) core
    (behind old first second head profile c.in_ok-push_str.ensures.bytes c.in_ok-push_profile.ensures)
    c.in_ok-push_core.ensures) c.in_ok-push_list.ensures) c.in_ok-push_look.ensures))
