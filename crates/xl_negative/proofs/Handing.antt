-- What nodes hear in the sent frames that are handed to them, one after the other.
use Rattle.std.proofs.Common.{◌≡◌, ℕ, ◌+◌, ◌<◌, ◌≤◌, List, [], ◌++◌, length, drop, get_or, ap, sym, ◌∙◌, append_assoc, append-nil}
use Rattle.std.specs.Prelude.{slice_get}
use Rattle.std.proofs.lemmas.List.{drop_all, drop_more}
use Rattle.std.proofs.lemmas.Option.{slice_get-get_or}
use Rattle.xl_world.specs.Sending.{Sent}
use Rattle.xl_world.specs.World.{World}
use Rattle.xl_negative.specs.Hearing.{heard_if_sent, heard_in_frame, heard_in_sent}
use Rattle.xl_negative.specs.declared.hearing.Heard.{Heard}

-- one of them is heard, and what is left is the frames from the next place on
pub heard_next : (w : World) (k : ℕ) (old new all : List Heard) → k < length w.sent → old ++ heard_in_sent w (drop k w.sent) ≡ all → new ≡ old ++ heard_if_sent w (slice_get w.sent k) →
    new ++ heard_in_sent w (drop (k + 1) w.sent) ≡ all
heard_next w k old new all below left is =
    let f : Sent = get_or w.sent k nothing in
    let rest : List Heard = heard_in_sent w (drop (k + 1) w.sent) in
    ap (λ (hs : List Heard). hs ++ rest) (is ∙ ap (λ o. old ++ heard_if_sent w o) (slice_get-get_or w.sent k nothing below))
    ∙ (append_assoc old (heard_in_frame w f) rest ∙ (ap (λ (fs : List Sent). old ++ heard_in_sent w fs) (sym (drop_more w.sent k nothing below)) ∙ left))
  where
    nothing : Sent
    nothing = record { from = 0; to = 0; bytes = [] }

-- none is left
pub heard_all : (w : World) (k : ℕ) (old all : List Heard) → length w.sent ≤ k → old ++ heard_in_sent w (drop k w.sent) ≡ all → old ≡ all
heard_all w k old all past left = sym (append-nil old) ∙ (ap (λ (fs : List Sent). old ++ heard_in_sent w fs) (sym (drop_all k w.sent past)) ∙ left)
