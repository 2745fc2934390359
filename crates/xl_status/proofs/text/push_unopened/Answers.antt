-- each part of the text is put behind what was there
use Rattle.std.proofs.Common.{◌++◌, Some, None, codes}
use Rattle.std.specs.String.{string_bytes}
use Rattle.xl_status.specs.Texts.{profile_lines, number_line, end_at, end_line}
use Rattle.xl_status.proofs.Parts.{behind, on_ok}
use Rattle.xl_status.proofs.text.push_unopened.Goals as goal

pub returns : goal.returns
returns c =
    let head = codes "xl-status 1\n" in
    let profile = profile_lines c.args.profile.now in
    let moment = number_line (codes "moment") c.args.moment in
    let end = end_line (Some (end_at c.args.ended None)) in
    let old = string_bytes c.args.text.now in
    let first = string_bytes c.push_str.new.self in
    let second = string_bytes c.push_profile.new.text in
    let third = string_bytes c.push_number.new.text in
    let fourth = string_bytes c.push_end.new.text in
    on_ok c.push_end.result _ _ c.push_end.ensures
    (behind old third fourth (head ++ profile ++ moment) end
    (behind old second third (head ++ profile) moment
    (behind old first second head profile c.in_ok-push_str.ensures.bytes c.in_ok-push_profile.ensures)
    c.in_ok-push_number.ensures))
