-- What happens, said again.
use Rattle.std.proofs.Common.{◌≡◌, ◌+◌, ◌≤◌, ◌<◌, ◌^◌, ◌&&◌, inl, inr, ℕ, suc, true, cond, nat_le, nat_lt, List, [], ◌∷◌, length, Result, Ok, Err, refl, ap, sym, ◌∙◌, subst, arith, decimal, codes}
use Rattle.std.specs.Option.{ok_or}
use Rattle.std.specs.Result.{result_ok}
use Rattle.std.proofs.lemmas.Bool.{and_parts}
use Rattle.std.proofs.lemmas.Bool.Decides.{nat_tests}
use Rattle.hex.specs.Hex.{IsBytes, encode_lower, decode_of}
use Rattle.hex.proofs.HexLemmas.{decode_of-encode_lower}
use Rattle.xl_sched.specs.declared.event.What.{What}
use Rattle.xl_sched.specs.declared.event.What.TheVariants as what
use Rattle.xl_sched.specs.Limits.{most_lists, most_raw_bytes}
use Rattle.xl_sched.specs.declared.refusal.SchedRefusal.{SchedRefusal}
use Rattle.xl_sched.specs.declared.refusal.SchedRefusal.TheVariants as refusal
use Rattle.xl_sched.specs.declared.word.EventWord.{EventWord}
use Rattle.xl_sched.specs.declared.word.EventWord.TheVariants as event
use Rattle.xl_sched.specs.Refusals.{◌>>=◌}
use Rattle.xl_sched.specs.Numbers.{number_of, place_of}
use Rattle.xl_sched.specs.Names.{tx_id_of}
use Rattle.xl_sched.specs.Members.{member_of, declared_of, members_of, trusted_of}
use Rattle.xl_sched.specs.Events.{asked_issue, issue_event, asked_timer, timer_event, timers_event, submit_event, deliver_event, all_event, drop_event, is_peer, peer_of, greet_event, restart_event, raw_bytes_of, raw_event, prefer_event, set_list, list_event, heard_event}
use Rattle.xl_sched.specs.Saves.{disturbed_of, cut_event, fail_event}
use Rattle.xl_sched.specs.Lies.{lie_word, may_say, lied_of, pair_of, lie_of, lie_event}
use Rattle.xl_sched.specs.Words.{what_of}
use Rattle.xl_sched.specs.Reading.{Reading}
use Rattle.xl_spelling.specs.Spellings.{with_commas, lied_words, what_words}
use Rattle.xl_base.specs.Ids.{IsId}
use Rattle.xl_spelling.specs.Stored.{IsStoredAsk, IsStoredLied, IsStoredWhat}
use Rattle.xl_spelling.proofs.Parts.{steps, same-ok, passed, passed_by, number-same, member-same, declared-same, place-same}
use Rattle.xl_spelling.proofs.Small.{AreLike, small-inked, number-small, declared-small, id-small, bytes-small, like-more, like-widen}
use Rattle.xl_spelling.proofs.Asks.{IsAgain, issue-again, timer-again, save-again}
use Rattle.xl_spelling.proofs.Members.{texts, list-again, trusted-made, trusted-again}
use Rattle.xl_spelling.proofs.Saying.{tx_id-read, lied-again}
use Rattle.xl_spelling.proofs.WordLemmas.{event_text}

-- an event of this word says again what it said
abbrev pub IsEventAgain : (List (List ℕ) → Result What SchedRefusal) → List ℕ → List (List ℕ) → What → Type 0
IsEventAgain read word old w = IsAgain what_words read word 16900 old w

-- an event that is made of one part, which is said again
part_event-again : {A : Type 0} (part : List (List ℕ) → Result A SchedRefusal) (word : List ℕ) (make : A → What) (old again : List (List ℕ)) (w : What) (a : A) →
    make a ≡ w → what_words (make a) ≡ word ∷ again → part again ≡ Ok a → length again ≡ length old → AreLike 16900 old again → IsEventAgain (λ tokens. part tokens >>= (λ a. Ok (make a))) word old w
part_event-again part word make old again w a is words same count like = record {
  arguments = again;
  words = ap what_words (sym is) ∙ words;
  same = ap (λ read. read >>= (λ a. Ok (make a))) same ∙ ap (λ w. Ok w) is;
  count = count;
  like = like;
}

-- an event of no token
bare_event-again : (read : List (List ℕ) → Result What SchedRefusal) (word : List ℕ) (made w : What) → what_words made ≡ word ∷ [] → read [] ≡ Ok made → read [] ≡ Ok w → IsEventAgain read word [] w
bare_event-again read word made w words gives e =
    let is = same-ok made w (sym gives ∙ e) in
    record { arguments = []; words = ap what_words (sym is) ∙ words; same = e; count = refl; like = inl refl }

-- an event of a declared node alone
node_event-again : (reading : Reading) (read : List (List ℕ) → Result What SchedRefusal) (word : List ℕ) (made : ℕ → What) (number : List ℕ) (w : What) →
    ((node : ℕ) → what_words (made node) ≡ word ∷ decimal node ∷ []) → read (number ∷ []) ≡ (declared_of reading.nodes number >>= (λ node. Ok (made node))) → read (number ∷ []) ≡ Ok w →
    IsEventAgain read word (number ∷ []) w
node_event-again reading read word made number w words gives e =
    let n = steps (declared_of reading.nodes number) (λ node. Ok (made node)) w (sym gives ∙ e) in
    let is = same-ok (made n.value) w n.rest in
    let node = declared-same reading.nodes number n.value n.gave in
    record { arguments = number ∷ []; words = ap what_words (sym is) ∙ words n.value ∙ ap (λ (t : List ℕ). word ∷ t ∷ []) node; same = e; count = refl; like = inl refl }

issue_event-again : (reading : Reading) (old : List (List ℕ)) (w : What) → issue_event reading old ≡ Ok w → IsStoredWhat w → IsEventAgain (issue_event reading) (codes "issue") old w
issue_event-again reading old w e stored =
    let a = steps (asked_issue reading old) (λ a. Ok (what.Ask a)) w e in
    let is = same-ok (what.Ask a.value) w a.rest in
    let fits : IsStoredAsk a.value = subst IsStoredWhat (sym is) stored in
    let again = issue-again reading old a.value a.gave fits in
    part_event-again (asked_issue reading) (codes "issue") (λ a. what.Ask a) old again.arguments w a.value is again.words again.same again.count
    (like-widen 100 16900 old again.arguments (omega arith) again.like)

timer_event-again : (reading : Reading) (old : List (List ℕ)) (w : What) → timer_event reading old ≡ Ok w → IsEventAgain (timer_event reading) (codes "timer") old w
timer_event-again reading old w e =
    let a = steps (asked_timer reading old) (λ a. Ok (what.Ask a)) w e in
    let is = same-ok (what.Ask a.value) w a.rest in
    let again = timer-again reading old a.value a.gave in
    part_event-again (asked_timer reading) (codes "timer") (λ a. what.Ask a) old again.arguments w a.value is again.words again.same again.count
    (like-widen 100 16900 old again.arguments (omega arith) again.like)

timers_event-again : (old : List (List ℕ)) (w : What) → timers_event old ≡ Ok w → IsEventAgain timers_event (codes "timers") old w
timers_event-again (more ∷ rest) w e = absurd (cc)
timers_event-again [] w e = bare_event-again timers_event (codes "timers") what.Timers w refl refl e

submit_event-again : (reading : Reading) (old : List (List ℕ)) (w : What) → submit_event reading old ≡ Ok w → IsStoredWhat w → IsEventAgain (submit_event reading) (codes "submit") old w
submit_event-again reading (number ∷ id ∷ []) w e stored =
    let n = steps (declared_of reading.nodes number) (λ node. tx_id_of reading.names id >>= (λ tx. Ok (what.Submit node tx))) w e in
    let i = steps (tx_id_of reading.names id) (λ tx. Ok (what.Submit n.value tx)) w n.rest in
    let is = same-ok (what.Submit n.value i.value) w i.rest in
    let fits : IsId i.value.0 = subst IsStoredWhat (sym is) stored in
    let digits = encode_lower i.value.0 in
    let node = declared-same reading.nodes number n.value n.gave in
    let node-small = declared-small reading.nodes number n.value n.gave in
    let digits-small = id-small i.value.0 fits in
    record {
      arguments = number ∷ digits ∷ [];
      words = ap what_words (sym is) ∙ cc node;
      same =
          ap (λ read. declared_of reading.nodes number >>= (λ node. read >>= (λ tx. Ok (what.Submit node tx))))
          (tx_id-read reading.names i.value fits ∙ sym i.gave)
          ∙ e;
      count = refl;
      like = inr ((small-inked 10 number node-small, (small-inked 64 digits digits-small, tt)), omega (arith, node-small.few, digits-small.few));
    }
submit_event-again reading other w e stored = absurd (cc)

deliver_event-again : (sent : ℕ) (old : List (List ℕ)) (w : What) → deliver_event sent old ≡ Ok w → IsStoredWhat w → IsEventAgain (deliver_event sent) (codes "deliver") old w
deliver_event-again sent (number ∷ []) w e stored =
    let p = steps (place_of sent number) (λ place. Ok (what.Deliver place)) w e in
    let is = same-ok (what.Deliver p.value) w p.rest in
    let fits : p.value < 2 ^ 64 = subst IsStoredWhat (sym is) stored in
    let place = place-same sent number p.value fits p.gave in
    record { arguments = number ∷ []; words = ap what_words (sym is) ∙ cc place; same = e; count = refl; like = inl refl }
deliver_event-again sent other w e stored = absurd (cc)

all_event-again : (old : List (List ℕ)) (w : What) → all_event old ≡ Ok w → IsEventAgain all_event (codes "all") old w
all_event-again (more ∷ rest) w e = absurd (cc)
all_event-again [] w e = bare_event-again all_event (codes "all") what.All w refl refl e

drop_event-again : (old : List (List ℕ)) (w : What) → drop_event old ≡ Ok w → IsEventAgain drop_event (codes "drop") old w
drop_event-again (more ∷ rest) w e = absurd (cc)
drop_event-again [] w e = bare_event-again drop_event (codes "drop") what.Drop w refl refl e

peer-same : (reading : Reading) (node : ℕ) (t : List ℕ) (n : ℕ) → peer_of reading node t ≡ Ok n → decimal n ≡ t
peer-same reading node t n e =
    let m = steps (member_of t) (λ other. cond (is_peer reading node other) (Ok other) (Err (refusal.Absent t))) n e in
    let p = passed (is_peer reading node m.value) m.value n (refusal.Absent t) m.rest in
    ap (λ k. decimal k) (sym p.1) ∙ member-same t m.value m.gave

greet_event-again : (reading : Reading) (old : List (List ℕ)) (w : What) → greet_event reading old ≡ Ok w → IsEventAgain (greet_event reading) (codes "greet") old w
greet_event-again reading (number ∷ other ∷ []) w e =
    let n = steps (declared_of reading.nodes number) (λ node. peer_of reading node other >>= (λ peer. Ok (what.Greet node peer))) w e in
    let p = steps (peer_of reading n.value other) (λ peer. Ok (what.Greet n.value peer)) w n.rest in
    let is = same-ok (what.Greet n.value p.value) w p.rest in
    let node = declared-same reading.nodes number n.value n.gave in
    let peer = peer-same reading n.value other p.value p.gave in
    record { arguments = number ∷ other ∷ []; words = ap what_words (sym is) ∙ cc (node, peer); same = e; count = refl; like = inl refl }
greet_event-again reading other w e = absurd (cc)

restart_event-again : (reading : Reading) (old : List (List ℕ)) (w : What) → restart_event reading old ≡ Ok w → IsEventAgain (restart_event reading) (codes "restart") old w
restart_event-again reading (number ∷ []) w e = node_event-again reading (restart_event reading) (codes "restart") (λ node. what.Restart node) number w (λ node. refl) refl e
restart_event-again reading other w e = absurd (cc)

prefer_event-again : (reading : Reading) (old : List (List ℕ)) (w : What) → prefer_event reading old ≡ Ok w → IsEventAgain (prefer_event reading) (codes "prefer") old w
prefer_event-again reading (number ∷ []) w e = node_event-again reading (prefer_event reading) (codes "prefer") (λ node. what.Prefer node) number w (λ node. refl) refl e
prefer_event-again reading other w e = absurd (cc)

-- a list's line, with the members by rising number
set_list-again : (reading : Reading) (old : List (List ℕ)) (w : What) → set_list reading old ≡ Ok w → IsEventAgain (set_list reading) (codes "list") old w
set_list-again reading (number ∷ quorum ∷ members ∷ []) w e =
    let n = steps (declared_of reading.nodes number) (λ node. number_of quorum >>= (λ least. members_of members >>= (λ numbers. trusted_of numbers least >>= (λ list. Ok (what.List node list))))) w e in
    let q = steps (number_of quorum) (λ least. members_of members >>= (λ numbers. trusted_of numbers least >>= (λ list. Ok (what.List n.value list)))) w n.rest in
    let m = steps (members_of members) (λ numbers. trusted_of numbers q.value >>= (λ list. Ok (what.List n.value list))) w q.rest in
    let t = steps (trusted_of m.value q.value) (λ list. Ok (what.List n.value list)) w m.rest in
    let is = same-ok (what.List n.value t.value) w t.rest in
    let trusted = trusted-made m.value q.value t.value t.gave in
    let listed = list-again t.value trusted.valid in
    let text = with_commas (texts t.value.members) in
    let node = declared-same reading.nodes number n.value n.gave in
    let least : decimal t.value.quorum ≡ quorum = ap (λ k. decimal k) trusted.its_quorum ∙ number-same quorum q.value q.gave in
    let node-small = declared-small reading.nodes number n.value n.gave in
    let least-small = number-small quorum q.value q.gave in
    record {
      arguments = number ∷ quorum ∷ text ∷ [];
      words = ap what_words (sym is) ∙ cc (node, least);
      same =
          ap (λ read. read >>= (λ node. number_of quorum >>= (λ least. members_of text >>= (λ numbers. trusted_of numbers least >>= (λ list. Ok (what.List node list)))))) n.gave
          ∙ ap (λ read. read >>= (λ least. members_of text >>= (λ numbers. trusted_of numbers least >>= (λ list. Ok (what.List n.value list))))) q.gave
          ∙ ap (λ read. read >>= (λ numbers. trusted_of numbers q.value >>= (λ list. Ok (what.List n.value list)))) listed.same
          ∙ ap (λ read. read >>= (λ list. Ok (what.List n.value list))) (trusted-again t.value q.value trusted)
          ∙ ap (λ w. Ok w) is;
      count = refl;
      like = inr (
        (small-inked 10 number node-small, (small-inked 10 quorum least-small, (small-inked 192 text listed.small, tt))),
        omega (arith, node-small.few, least-small.few, listed.small.few),
      );
    }
set_list-again reading other w e = absurd (cc)

list_event-again : (reading : Reading) (old : List (List ℕ)) (w : What) → list_event reading old ≡ Ok w → IsEventAgain (list_event reading) (codes "list") old w
list_event-again reading old w e =
    let room = passed_by (nat_lt reading.lists most_lists) (set_list reading old) w (refusal.Limit (decimal most_lists)) e in
    let again = set_list-again reading old w room.1 in
    record {
      arguments = again.arguments;
      words = again.words;
      same = ap (λ b. cond b (set_list reading again.arguments) (Err (refusal.Limit (decimal most_lists)))) room.0 ∙ again.same;
      count = again.count;
      like = again.like;
    }

heard_event-again : (reading : Reading) (old : List (List ℕ)) (w : What) → heard_event reading old ≡ Ok w → IsEventAgain (heard_event reading) (codes "heard") old w
heard_event-again reading (number ∷ []) w e = node_event-again reading (heard_event reading) (codes "heard") (λ node. what.Heard node) number w (λ node. refl) refl e
heard_event-again reading other w e = absurd (cc)

cut_event-again : (reading : Reading) (old : List (List ℕ)) (w : What) → cut_event reading old ≡ Ok w → IsStoredWhat w → IsEventAgain (cut_event reading) (codes "cut") old w
cut_event-again reading old w e stored =
    let s = steps (disturbed_of reading old) (λ save. Ok (what.Cut save.0 save.1)) w e in
    let is = same-ok (what.Cut s.value.0 s.value.1) w s.rest in
    let fits : IsStoredAsk s.value.1 = subst IsStoredWhat (sym is) stored in
    let again = save-again reading old s.value s.gave fits in
    part_event-again (disturbed_of reading) (codes "cut") (λ save. what.Cut save.0 save.1) old again.arguments w s.value is
    (ap (λ ts. codes "cut" ∷ ts) again.words) again.same again.count (like-widen 120 16900 old again.arguments (omega arith) again.like)

fail_event-again : (reading : Reading) (old : List (List ℕ)) (w : What) → fail_event reading old ≡ Ok w → IsStoredWhat w → IsEventAgain (fail_event reading) (codes "fail") old w
fail_event-again reading old w e stored =
    let s = steps (disturbed_of reading old) (λ save. Ok (what.Fail save.0 save.1)) w e in
    let is = same-ok (what.Fail s.value.0 s.value.1) w s.rest in
    let fits : IsStoredAsk s.value.1 = subst IsStoredWhat (sym is) stored in
    let again = save-again reading old s.value s.gave fits in
    part_event-again (disturbed_of reading) (codes "fail") (λ save. what.Fail save.0 save.1) old again.arguments w s.value is
    (ap (λ ts. codes "fail" ∷ ts) again.words) again.same again.count (like-widen 120 16900 old again.arguments (omega arith) again.like)

raw_event-again : (reading : Reading) (old : List (List ℕ)) (w : What) → raw_event reading old ≡ Ok w → IsStoredWhat w → IsEventAgain (raw_event reading) (codes "raw") old w
raw_event-again reading (honest ∷ digits ∷ []) w e stored =
    let n = steps (declared_of reading.nodes honest) (λ to. raw_bytes_of digits >>= (λ bytes. Ok (what.Raw to bytes))) w e in
    let r = steps (raw_bytes_of digits) (λ bytes. Ok (what.Raw n.value bytes)) w n.rest in
    let is = same-ok (what.Raw n.value r.value) w r.rest in
    let fits : IsBytes r.value = subst IsStoredWhat (sym is) stored in
    let d = steps (ok_or (result_ok (decode_of digits)) (refusal.Id digits)) (λ bytes. cond (nat_le 1 (length bytes) && nat_le (length bytes) most_raw_bytes) (Ok bytes) (Err (refusal.Id digits))) r.value r.gave in
    let p = passed (nat_le 1 (length d.value) && nat_le (length d.value) most_raw_bytes) d.value r.value (refusal.Id digits) d.rest in
    let within : (nat_le 1 (length r.value) && nat_le (length r.value) most_raw_bytes) ≡ true = subst (λ (bytes : List ℕ). (nat_le 1 (length bytes) && nat_le (length bytes) most_raw_bytes) ≡ true) p.1 p.0 in
    let parts = and_parts (nat_le 1 (length r.value)) (nat_le (length r.value) most_raw_bytes) within in
    let some : 1 ≤ length r.value = grind (arith, nat_tests) in
    let few : length r.value ≤ most_raw_bytes = grind (arith, nat_tests) in
    let text = encode_lower r.value in
    let again : raw_bytes_of text ≡ Ok r.value =
    ap (λ read. ok_or (result_ok read) (refusal.Id text) >>= (λ bytes. cond (nat_le 1 (length bytes) && nat_le (length bytes) most_raw_bytes) (Ok bytes) (Err (refusal.Id text)))) (decode_of-encode_lower r.value fits)
    ∙ ap (λ b. cond b (Ok r.value) (Err (refusal.Id text))) within in
    let node = declared-same reading.nodes honest n.value n.gave in
    let node-small = declared-small reading.nodes honest n.value n.gave in
    let text-small = bytes-small most_raw_bytes r.value fits some few in
    record {
      arguments = honest ∷ text ∷ [];
      words = ap what_words (sym is) ∙ cc node;
      same = ap (λ read. declared_of reading.nodes honest >>= (λ to. read >>= (λ bytes. Ok (what.Raw to bytes)))) (again ∙ sym r.gave) ∙ e;
      count = refl;
      like = inr ((small-inked 10 honest node-small, (small-inked 16480 text text-small, tt)), omega (arith, node-small.few, text-small.few));
    }
raw_event-again reading other w e stored = absurd (cc)

lie_event-again : (reading : Reading) (old : List (List ℕ)) (w : What) → lie_event reading old ≡ Ok w → IsStoredWhat w → IsEventAgain (lie_event reading) (codes "lie") old w
lie_event-again reading (liar ∷ honest ∷ token ∷ said) w e stored =
    let counted = passed_by (may_say (lie_word token) (length said)) (lie_of (pair_of reading liar honest) (lied_of reading.names (lie_word token) token said)) w (refusal.Count (decimal (length (liar ∷ honest ∷ token ∷ said) + 1))) e in
    let p = steps (pair_of reading liar honest) (λ members. lied_of reading.names (lie_word token) token said >>= (λ lie. Ok (what.Lie members.0 members.1 lie))) w counted.1 in
    let l = steps (lied_of reading.names (lie_word token) token said) (λ lie. Ok (what.Lie p.value.0 p.value.1 lie)) w p.rest in
    let is = same-ok (what.Lie p.value.0 p.value.1 l.value) w l.rest in
    let fits : IsStoredLied l.value = subst IsStoredWhat (sym is) stored in
    let f = steps (declared_of reading.liars liar) (λ from. declared_of reading.nodes honest >>= (λ to. Ok (from, to))) p.value p.gave in
    let t = steps (declared_of reading.nodes honest) (λ to. Ok (f.value, to)) p.value f.rest in
    let pair = same-ok (f.value, t.value) p.value t.rest in
    let from = declared-same reading.liars liar f.value f.gave in
    let to = declared-same reading.nodes honest t.value t.gave in
    let from-small = declared-small reading.liars liar f.value f.gave in
    let to-small = declared-small reading.nodes honest t.value t.gave in
    let again = lied-again reading.names token said l.value l.gave fits in
    record {
      arguments = liar ∷ honest ∷ token ∷ again.arguments;
      words =
          ap what_words (sym is)
          ∙ ap (λ (members : ℕ × ℕ). codes "lie" ∷ decimal members.0 ∷ decimal members.1 ∷ lied_words l.value) (sym pair)
          ∙ cc (from, to, again.words);
      same =
          ap (λ b. cond b (lie_of (pair_of reading liar honest) (lied_of reading.names (lie_word token) token again.arguments)) (Err (refusal.Count (decimal (length (liar ∷ honest ∷ token ∷ again.arguments) + 1)))))
          (ap (may_say (lie_word token)) again.count ∙ counted.0)
          ∙ ap (λ read. lie_of (pair_of reading liar honest) read) (again.same ∙ sym l.gave)
          ∙ counted.1;
      count = ap (λ n. suc (suc (suc n))) again.count;
      like = like-widen 16683 16900 (liar ∷ honest ∷ token ∷ said) (liar ∷ honest ∷ token ∷ again.arguments) (omega arith)
          (like-more 16672 10 liar (honest ∷ token ∷ said) (honest ∷ token ∷ again.arguments) from-small
          (like-more 16661 10 honest (token ∷ said) (token ∷ again.arguments) to-small
          (like-more 16650 10 token said again.arguments again.small again.like)));
    }
lie_event-again reading other w e stored = absurd (cc)

-- an event of whichever word
pub what-again : (reading : Reading) (sent : ℕ) (word : EventWord) (old : List (List ℕ)) (w : What) → what_of reading sent word old ≡ Ok w → IsStoredWhat w → IsEventAgain (what_of reading sent word) (event_text word) old w
what-again reading sent event.Issue old w e stored = issue_event-again reading old w e stored
what-again reading sent event.Submit old w e stored = submit_event-again reading old w e stored
what-again reading sent event.Timer old w e stored = timer_event-again reading old w e
what-again reading sent event.Timers old w e stored = timers_event-again old w e
what-again reading sent event.Deliver old w e stored = deliver_event-again sent old w e stored
what-again reading sent event.All old w e stored = all_event-again old w e
what-again reading sent event.Drop old w e stored = drop_event-again old w e
what-again reading sent event.Greet old w e stored = greet_event-again reading old w e
what-again reading sent event.Restart old w e stored = restart_event-again reading old w e
what-again reading sent event.Cut old w e stored = cut_event-again reading old w e stored
what-again reading sent event.Fail old w e stored = fail_event-again reading old w e stored
what-again reading sent event.Lie old w e stored = lie_event-again reading old w e stored
what-again reading sent event.Raw old w e stored = raw_event-again reading old w e stored
what-again reading sent event.Prefer old w e stored = prefer_event-again reading old w e
what-again reading sent event.List old w e stored = list_event-again reading old w e
what-again reading sent event.Heard old w e stored = heard_event-again reading old w e
