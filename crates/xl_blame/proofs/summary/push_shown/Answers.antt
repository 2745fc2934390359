-- what is kept of all words is what the definitions say of them
use Rattle.std.proofs.Common.{◌≡◌, ◌++◌, ◌∙◌, ℕ, List, ap, arith, sym, length, map}
use Rattle.std.proofs.lemmas.List.{length-map}
use Rattle.std.proofs.lemmas.Result.{IfOk-weaker, on_ok_weaker}
use Rattle.std.specs.List.{flat_map}
use Rattle.std.specs.String.{string_bytes}
use Rattle.xl_lines.specs.declared.machine.Verdict.{Verdict}
use Rattle.xl_forks.specs.Equivocations.{equivocations_in}
use Rattle.xl_forks.specs.Forks.{Fork, fork_seen, forks_in}
use Rattle.xl_forks.specs.declared.equivocation.Equivocation.{Equivocation}
use Rattle.xl_blame.specs.Confessions.{giver_in, named_text}
use Rattle.xl_blame.specs.Summary.{last_line, last_verdict, wrongs_in}
use Rattle.xl_blame.specs.Texts.{fork_line, heard_line}
use Rattle.xl_blame.proofs.Summing.{parts_joined}
use Rattle.xl_blame.proofs.summary.push_shown.Goals as goal

pub returns-clause-text : goal.returns-clause-text
returns-clause-text c =
    let text : List ℕ = string_bytes c.args.text.now in
    let wrong : ℕ = wrongs_in c.args.ended.now in
    let forks : List Fork = forks_in c.args.said.now c.args.reported.now in
    let twice : List Equivocation = equivocations_in c.args.said.now in
    let named : Equivocation → List ℕ = named_text c.args.ended.now (giver_in c.args.answered.now.givers) in
    let forks_are : map fork_seen c.in_ok-forks.forks.items ≡ forks = c.in_ok-forks.ensures c.args.said.now c.in_ok-words.ensures in
    let twice_are : c.in_ok-twice.twice.items ≡ twice = c.in_ok-twice.ensures c.args.said.now c.in_ok-words.ensures in
    let one : c.len.result ≡ length c.in_ok-forks.forks.items = omega (arith, c.len.ensures, c.in_ok-forks.forks.ok.0) in
    let other : c.len-2.result ≡ length c.in_ok-twice.twice.items = omega (arith, c.len-2.ensures, c.in_ok-twice.twice.ok.0) in
    let forks_count : c.len.result ≡ length forks = one ∙ (sym (length-map c.in_ok-forks.forks.items fork_seen) ∙ ap length forks_are) in
    let twice_count : c.len-2.result ≡ length twice = other ∙ ap length twice_are in
    on_ok_weaker c.push_last.result
    (λ e. e
    ∙ (ap (λ n. string_bytes c.push_heard.new.text ++ last_line n c.len.result c.len-2.result) c.wrongs.ensures
    ∙ (ap (λ n. string_bytes c.push_heard.new.text ++ last_line wrong n c.len-2.result) forks_count
    ∙ (ap (λ n. string_bytes c.push_heard.new.text ++ last_line wrong (length forks) n) twice_count
    ∙ parts_joined text (string_bytes c.push_forks.new.text) (string_bytes c.push_all_named.new.text) (string_bytes c.push_heard.new.text)
    (flat_map fork_line forks) (flat_map named twice) (heard_line c.args.answered.now.tally)
    (last_line wrong (length forks) (length twice))
    (c.in_ok-push_forks.ensures
    ∙ ap (λ xs. text ++ flat_map fork_line xs) (ap (map fork_seen) c.deref.ensures.value ∙ forks_are))
    (c.in_ok-push_all_named.ensures
    ∙ ap (λ xs. string_bytes c.push_forks.new.text ++ flat_map named xs) (c.deref-2.ensures.value ∙ twice_are))
    c.in_ok-push_heard.ensures))))
    c.push_last.ensures.text

pub returns-clause-verdict : goal.returns-clause-verdict
returns-clause-verdict c =
    let wrong : ℕ = wrongs_in c.args.ended.now in
    let forks : List Fork = forks_in c.args.said.now c.args.reported.now in
    let twice : List Equivocation = equivocations_in c.args.said.now in
    let forks_are : map fork_seen c.in_ok-forks.forks.items ≡ forks = c.in_ok-forks.ensures c.args.said.now c.in_ok-words.ensures in
    let twice_are : c.in_ok-twice.twice.items ≡ twice = c.in_ok-twice.ensures c.args.said.now c.in_ok-words.ensures in
    let one : c.len.result ≡ length c.in_ok-forks.forks.items = omega (arith, c.len.ensures, c.in_ok-forks.forks.ok.0) in
    let other : c.len-2.result ≡ length c.in_ok-twice.twice.items = omega (arith, c.len-2.ensures, c.in_ok-twice.twice.ok.0) in
    let forks_count : c.len.result ≡ length forks = one ∙ (sym (length-map c.in_ok-forks.forks.items fork_seen) ∙ ap length forks_are) in
    let twice_count : c.len-2.result ≡ length twice = other ∙ ap length twice_are in
    IfOk-weaker c.push_last.result (λ v. v ≡ last_verdict c.wrongs.result c.len.result c.len-2.result)
    (λ v. v ≡ last_verdict wrong (length forks) (length twice))
    (λ (v : Verdict) e. e
    ∙ (ap (λ n. last_verdict n c.len.result c.len-2.result) c.wrongs.ensures
    ∙ (ap (λ n. last_verdict wrong n c.len-2.result) forks_count
    ∙ ap (λ n. last_verdict wrong (length forks) n) twice_count)))
    c.push_last.ensures.verdict
