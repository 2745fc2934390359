-- What is kept tells of a schedule what the list of all votes and flag reports tells.
use Rattle.std.proofs.Common.{◌≡◌, ℕ, ◌+◌, Bool, true, false, cond, List, [], ◌∷◌, refl, ap, subst, ◌∙◌, Option, Some, None, Result, Ok, Err, length}
use Rattle.std.specs.Prelude.{◌==◌, ◌&&◌, ◌||◌, nat_le, nat_lt, codes, decimal, IfOk, IfSome, if◌then◌else◌}
use Rattle.std.specs.Str.{bytes_eq}
use Rattle.std.proofs.lemmas.Bool.{and_parts, cond_both, leb-true}
use Rattle.xl_base.specs.declared.ids.TxId.{TxId}
use Rattle.xl_flags.specs.Votes.{most_amendments}
use Rattle.xl_flags.proofs.Remembering.{IsMember}
use Rattle.xl_lines.specs.declared.machine.Verdict.TheVariants.{Good, Refused}
use Rattle.xl_lines.specs.Lines.{lines_of}
use Rattle.xl_lines.specs.Rules.{closes, refuses as refuses_line}
use Rattle.xl_lines.specs.Soon.{told_soon, unclosed, answerable}
use Rattle.xl_lines.specs.Told.{told_of}
use Rattle.xl_lists.specs.Lists.{is_on}
use Rattle.xl_running.specs.Running.{Running, answer_in, beyond, knows, limits, world_of}
use Rattle.xl_running.specs.Texts.{bad_line}
use Rattle.xl_running.proofs.Alike.{AreAlike, DoAlike, told_alike}
use Rattle.xl_running.proofs.Declaring.{AnswerDeclares, Declares, reading_declares}
use Rattle.xl_running.proofs.Sounding.{IsSound, declares_sound, first_sound, happens_sound, knows_sound}
use Rattle.xl_sched.specs.declared.favor.Favor.{Favor}
use Rattle.xl_sched.specs.declared.line.Line.{Line}
use Rattle.xl_sched.specs.declared.line.Line.TheVariants as line
use Rattle.xl_sched.specs.declared.named.Named.{Named}
use Rattle.xl_sched.specs.Limits.{most_bytes, most_lines}
use Rattle.xl_sched.specs.declared.refusal.SchedRefusal.{SchedRefusal}
use Rattle.xl_sched.specs.declared.refusal.SchedRefusal.TheVariants.{Absent, Header, Limit}
use Rattle.xl_sched.specs.Answers.{LineAnswer, passes, gives, refuses}
use Rattle.xl_sched.specs.Favors.{after_favor, favor_by, favor_line, favor_of, favored_of, some_favor, voter_of}
use Rattle.xl_sched.specs.Members.{member_of}
use Rattle.xl_sched.specs.Numbers.{is_number, number_of, value_of}
use Rattle.xl_sched.specs.Reading.{Reading}
use Rattle.xl_sched.specs.Refusals.{◌>>=◌}
use Rattle.xl_sched.specs.Tokens.{tokens}
use Rattle.xl_voting.specs.Listing.{Listing, list_keeping, nothing_listed}
use Rattle.xl_voting.specs.Tallying.{Tallying, nothing_tallied, tally_keeping}
use Rattle.xl_voting.specs.Texts.{count_line}
use Rattle.xl_voting.specs.Voting.{Voting, after_answer, after_favored, after_line, after_vote, told_at_end, flags_of, flags_soon, nothing_read, rules, silent}
use Rattle.xl_voting.proofs.StandingFor.{StandsFor, as_many, first_stands, voted_stands}
use Rattle.xl_voting.proofs.Telling.{event_same}

-- WHO VOTES

member_read : (token : List ℕ) → IfOk (member_of token) IsMember
member_read token =
    cond_both (is_number token && nat_le 1 (value_of token) && nat_le (value_of token) 64) (Ok (value_of token)) _ (λ r. IfOk r IsMember)
    (λ e. let outer = and_parts (is_number token && nat_le 1 (value_of token)) _ e in (leb-true _ _ (and_parts (is_number token) _ outer.0).1, leb-true _ _ outer.1))
    (λ _. tt)

voter_read : (reading : Reading) (token : List ℕ) (r : Result ℕ SchedRefusal) → IfOk r IsMember →
    IfOk (r >>= (λ m. cond (is_on reading.nodes m || is_on reading.liars m) (Ok m) (Err (Absent token)))) IsMember
voter_read reading token (Err e) member = tt
voter_read reading token (Ok m) member = cond_both (is_on reading.nodes m || is_on reading.liars m) (Ok m) (Err (Absent token)) (λ r. IfOk r IsMember) (λ _. member) (λ _. tt)

abbrev Votes : Favor → Type 0
Votes f = IsMember f.member

parts_read : (member fee : Result ℕ SchedRefusal) (ids : Result (List TxId) SchedRefusal) → IfOk member IsMember →
    IfOk (member >>= (λ m. fee >>= (λ f. ids >>= (λ is. Ok (record { member = m; fee = f; ids = is }))))) Votes
parts_read (Err e) fee ids member = tt
parts_read (Ok m) (Err e) ids member = tt
parts_read (Ok m) (Ok f) (Err e) member = tt
parts_read (Ok m) (Ok f) (Ok is) member = member

favor_read : (reading : Reading) (arguments : List (List ℕ)) → IfOk (favor_of reading arguments) Votes
favor_read reading (a ∷ b ∷ c ∷ []) = parts_read (voter_of reading a) (number_of b) (favored_of reading.names c) (voter_read reading a (member_of a) (member_read a))
favor_read reading other = tt

abbrev IfVotes : Result (Option Favor) SchedRefusal → Type 0
IfVotes r = IfOk r (λ o. IfSome o Votes)

some_read : (r : Result Favor SchedRefusal) → IfOk r Votes → IfVotes (some_favor r)
some_read (Ok f) votes = votes
some_read (Err e) votes = tt

tokens_read : (reading : Reading) (line : List (List ℕ)) → IfVotes (favor_by reading line)
tokens_read reading [] = tt
tokens_read reading (token ∷ arguments) =
    cond_both (bytes_eq token (codes "favor")) (some_favor (favor_of reading arguments)) (Ok None) IfVotes (λ _. some_read (favor_of reading arguments) (favor_read reading arguments)) (λ _. tt)

-- a line of votes names a member
line_votes : (reading : Reading) (bytes : List ℕ) → IfVotes (favor_line reading bytes)
line_votes reading bytes =
    cond_both (reading.lines == 0 || reading.lines == most_lines || nat_lt most_bytes (length bytes)) (Ok None) (favor_by reading (tokens bytes)) IfVotes (λ _. tt) (λ _. tokens_read reading (tokens bytes))

-- LINES

-- the same schedule runs, and what is kept stands for the list
record Like (p : Voting Tallying) (q : Voting Listing) : Type 0 where
  pub running : p.running ≡ q.running
  pub sound : IsSound p.running
  pub votes : StandsFor p.votes q.votes

module _ (r : Running) (t : Tallying) (l : Listing) (is : StandsFor t l) where
  silent_alike : (next : Running) → IsSound next → AreAlike Like (silent next t) (silent next l)
  silent_alike next sound = (refl, record { running = refl; sound = sound; votes = is })

  line_alike : IsSound r → (names : List Named) (read : Line) → Declares names read → AreAlike Like (after_line tally_keeping r t read) (after_line list_keeping r l read)
  line_alike sound names (line.Event e) declared =
      let same = event_same r.reading.names (world_of r) sound.is_run t l is e declared in
      (same.text, record { running = refl; sound = happens_sound r e declared sound; votes = same.votes })
  line_alike sound names other declared = silent_alike _ (declares_sound r names other declared sound)

  vote_alike : IsSound r → (f : Favor) → IsMember f.member → AreAlike Like (after_vote tally_keeping r t f) (after_vote list_keeping r l f)
  vote_alike sound f member = by _ _ (ap (λ (n : ℕ). nat_lt most_amendments n) (as_many t l is f.member f.fee f.ids member))
    where
      by : (a b : Bool) → a ≡ b →
          AreAlike Like
          (if a then refuses_line (bad_line r.reading.lines (Limit (decimal most_amendments))) else silent r (tally_keeping.voted t f.member f.fee f.ids))
          (if b then refuses_line (bad_line r.reading.lines (Limit (decimal most_amendments))) else silent r (list_keeping.voted l f.member f.fee f.ids))
      by true true same = refl
      by false false same = (refl, record { running = refl; sound = sound; votes = voted_stands t l is f.member f.fee f.ids member })
      by true false same = absurd cc
      by false true same = absurd cc

answer_alike : (r : Running) (t : Tallying) (l : Listing) → StandsFor t l → IsSound r → (a : LineAnswer) → AnswerDeclares r.reading.names a → AreAlike Like (after_answer tally_keeping r t a) (after_answer list_keeping r l a)
answer_alike r t l is sound (passes reading) declared = silent_alike r t l is (knows r reading) (knows_sound r reading sound)
answer_alike r t l is sound (gives read reading) declared = line_alike (knows r reading) t l is (knows_sound r reading sound) r.reading.names read declared
answer_alike r t l is sound (refuses why) declared = refl

favored_alike : (r : Running) (t : Tallying) (l : Listing) → StandsFor t l → IsSound r → (bytes : List ℕ) (x : Result (Option Favor) SchedRefusal) → IfVotes x →
    AreAlike Like (after_favored tally_keeping r t bytes x) (after_favored list_keeping r l bytes x)
favored_alike r t l is sound bytes (Ok None) votes = answer_alike r t l is sound (answer_in r bytes) (reading_declares r.reading (length (world_of r).sent) bytes)
favored_alike r t l is sound bytes (Ok (Some f)) votes =
    let reading : Reading = after_favor r.reading (Some f) in
    vote_alike (knows r reading) t l is (knows_sound r reading sound) f votes
favored_alike r t l is sound bytes (Err why) votes = refl

-- THE WHOLE

step_alike : (p : Voting Tallying) (q : Voting Listing) (bytes : List ℕ) (has_ended : Bool) → Like p q → AreAlike Like ((rules tally_keeping).step p bytes has_ended) ((rules list_keeping).step q bytes has_ended)
step_alike p q bytes has_ended like =
    subst (λ (r : Running). AreAlike Like ((rules tally_keeping).step p bytes has_ended) (after_favored list_keeping r q.votes bytes (favor_line r.reading bytes))) like.running
    (favored_alike p.running p.votes q.votes like.votes like.sound bytes (favor_line p.running.reading bytes) (line_votes p.running.reading bytes))

closing_alike : (p : Voting Tallying) (q : Voting Listing) → Like p q → (rules tally_keeping).closing p ≡ (rules list_keeping).closing q
closing_alike p q like =
    ap (λ (r : Running). told_at_end tally_keeping r p.votes) like.running
    ∙ ap (λ (n : ℕ). if q.running.reading.lines == 0 then closes (bad_line 1 (Header [])) Refused else closes (count_line n) Good) like.votes.count

tells_alike : DoAlike Like (rules tally_keeping) (rules list_keeping)
tells_alike = record {
  step = step_alike;
  overrun = λ p q overrun like. ap (λ (r : Running). bad_line (r.reading.lines + 1) (beyond overrun)) like.running;
  closing = closing_alike;
}

closed_alike : DoAlike Like (unclosed (rules tally_keeping)) (unclosed (rules list_keeping))
closed_alike = record { step = step_alike; overrun = tells_alike.overrun; closing = λ p q like. refl }

pub soon_same : (bytes : List ℕ) → told_soon limits (rules tally_keeping) (nothing_read nothing_tallied) bytes ≡ flags_soon bytes
soon_same bytes =
    told_alike Like (unclosed (rules tally_keeping)) (unclosed (rules list_keeping)) closed_alike limits limits.lines (nothing_read nothing_tallied) (nothing_read nothing_listed) (answerable limits (lines_of bytes))
    (record { running = refl; sound = first_sound; votes = first_stands })

pub told_same : (bytes : List ℕ) → told_of limits (rules tally_keeping) (nothing_read nothing_tallied) bytes ≡ flags_of bytes
told_same bytes =
    told_alike Like (rules tally_keeping) (rules list_keeping) tells_alike limits limits.lines (nothing_read nothing_tallied) (nothing_read nothing_listed) (lines_of bytes)
    (record { running = refl; sound = first_sound; votes = first_stands })
