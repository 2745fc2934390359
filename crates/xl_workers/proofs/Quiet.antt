-- No part of a run but the heartbeat and the last reports takes reports.
use Rattle.std.proofs.Common.{◌≡◌, ℕ, Bool, true, false, List, [], ◌∷◌, ◌++◌, refl, sym, ap, subst}
use Rattle.std.specs.List.{AllByRecursion, flat_map}
use Rattle.std.proofs.lemmas.Grind.{flat_map-append}
use Rattle.xl_base.specs.declared.ids.TxId.{TxId}
use Rattle.xl_core.specs.Answers.{Answer, Done, Refused}
use Rattle.xl_store.specs.Calls.{Call}
use Rattle.xl_store.specs.Retentions.{takes_reports}
use Rattle.xl_peers.specs.Serving.{Deed, IsServing}
use Rattle.xl_peers.specs.Serving as serving
use Rattle.xl_peers.specs.Sessions.{IsSession, Phase}
use Rattle.xl_peers.specs.Steps.{Step, MayTell, Read, call_in, calls, drain, frame, greet, stop_step}
use Rattle.xl_door.specs.declared.ends.Attended.{Attended}
use Rattle.xl_door.specs.declared.ends.Attended.TheVariants as attended
use Rattle.xl_door.specs.declared.replies.Reply.{Reply}
use Rattle.xl_door.specs.declared.replies.Reply.TheVariants as reply
use Rattle.xl_door.specs.Attending.{last_calls}
use Rattle.xl_door.specs.Rounds.{Round, IsRound, IsReply, IsSubmitted, calls_in, said_in}
use Rattle.xl_heartbeat.proofs.Recording.{IsQuiet}
use Rattle.xl_workers.specs.Pairing.{Paired}
use Rattle.xl_workers.specs.Submits.{IsSubmit}

quiet_both : (xs ys : List Call) → AllByRecursion IsQuiet xs → AllByRecursion IsQuiet ys
    → AllByRecursion IsQuiet (xs ++ ys)
quiet_both [] ys a b = b
quiet_both (x ∷ xs) ys a b = (a.0, quiet_both xs ys a.1 b)

pub quiet_submits : (may : ℕ → Bool) (ids : List TxId) (cs : List Call) → Paired (IsSubmit may) ids cs
    → AllByRecursion IsQuiet cs
quiet_submits may [] [] each = tt
quiet_submits may [] (c ∷ cs) each = absurd each
quiet_submits may (id ∷ ids) [] each = absurd each
quiet_submits may (id ∷ ids) (c ∷ cs) each = (ap takes_reports each.0.2, quiet_submits may ids cs each.1)

-- a session that goes on by a step
quiet_more : (steps more : List Step) → AllByRecursion IsQuiet (calls steps) → AllByRecursion IsQuiet (calls more)
    → AllByRecursion IsQuiet (calls (steps ++ more))
quiet_more steps more a b =
    subst (λ (cs : List Call). AllByRecursion IsQuiet cs) (sym (flat_map-append call_in steps more))
    (quiet_both (calls steps) (calls more) a b)

module _ (may : ℕ → Bool) (member : ℕ) where
  quiet_session : (steps : List Step) (phase : Phase) → IsSession may member steps phase
      → AllByRecursion IsQuiet (calls steps)
  quiet_session steps phase IsSession.begins = tt
  quiet_session steps phase (IsSession.greets earlier s) =
      quiet_more earlier (greet member ∷ []) (quiet_session earlier _ s) (refl, tt)
  quiet_session steps phase (IsSession.goes_on earlier s) =
      quiet_more earlier (stop_step false ∷ []) (quiet_session earlier _ s) (refl, tt)
  quiet_session steps phase (IsSession.stops earlier s) =
      quiet_more earlier (stop_step true ∷ []) (quiet_session earlier _ s) (refl, tt)
  quiet_session steps phase (IsSession.looks earlier answer s) =
      quiet_more earlier (MayTell answer ∷ []) (quiet_session earlier _ s) tt
  quiet_session steps phase (IsSession.drains earlier frames s some) =
      quiet_more earlier (drain member frames ∷ []) (quiet_session earlier _ s) (refl, tt)
  quiet_session steps phase (IsSession.drained earlier frames s none) =
      quiet_more earlier (drain member frames ∷ []) (quiet_session earlier _ s) (refl, tt)
  quiet_session steps phase (IsSession.reads earlier reading s new) =
      quiet_more earlier (Read reading ∷ []) (quiet_session earlier _ s) tt
  quiet_session steps phase (IsSession.hands earlier now bytes answer rest s given handed) =
      quiet_more earlier (frame now bytes answer ∷ []) (quiet_session earlier _ s) (refl, tt)
  quiet_session steps phase (IsSession.handed earlier rest s handed more) = quiet_session earlier _ s

  deeds_more : (deeds more : List Deed) → AllByRecursion IsQuiet (flat_map serving.calls_in deeds)
      → AllByRecursion IsQuiet (flat_map serving.calls_in more)
      → AllByRecursion IsQuiet (flat_map serving.calls_in (deeds ++ more))
  deeds_more deeds more a b =
      subst (λ (cs : List Call). AllByRecursion IsQuiet cs) (sym (flat_map-append serving.calls_in deeds more))
      (quiet_both (flat_map serving.calls_in deeds) (flat_map serving.calls_in more) a b)

  pub quiet_serving : (deeds : List Deed) (round : serving.Round) → IsServing may member deeds round
      → AllByRecursion IsQuiet (flat_map serving.calls_in deeds)
  quiet_serving deeds round IsServing.begins = tt
  quiet_serving deeds round (IsServing.asks earlier answer s) =
      deeds_more earlier (Deed.Asked answer ∷ []) (quiet_serving earlier _ s) (refl, tt)
  quiet_serving deeds round (IsServing.opens earlier answer s) =
      deeds_more earlier (Deed.Opened answer ∷ []) (quiet_serving earlier _ s) tt
  quiet_serving deeds round (IsServing.talks earlier steps written e s talk) =
      deeds_more earlier (Deed.Talked steps written e ∷ []) (quiet_serving earlier _ s)
      (quiet_both (calls steps) [] (quiet_session steps talk.phase talk.run) tt)

module _ (may : ℕ → Bool) where
  quiet_submitted : (line : List ℕ) (cs : List Call) (answered : Answer) → IsSubmitted may line cs answered
      → AllByRecursion IsQuiet cs
  quiet_submitted line cs answered did =
      subst (λ (l : List Call). AllByRecursion IsQuiet l) (sym did.4) (refl, tt)

  none_quiet : (cs : List Call) → cs ≡ [] → AllByRecursion IsQuiet cs
  none_quiet cs none = subst (λ (l : List Call). AllByRecursion IsQuiet l) (sym none) tt

  quiet_reply : (line : List ℕ) (cs : List Call) (answered : Reply) → IsReply may line cs answered
      → AllByRecursion IsQuiet cs
  quiet_reply line cs reply.Taken did = quiet_submitted line cs Done did
  quiet_reply line cs (reply.Refused why) did = quiet_submitted line cs (Refused why) did
  quiet_reply line cs reply.NoId did = none_quiet cs did.2
  quiet_reply line cs reply.TooLong did = none_quiet cs did.1
  quiet_reply line cs reply.NoTurn did = none_quiet cs did.1

  quiet_said : (round : Round) → IsRound may round → AllByRecursion IsQuiet (said_in round)
  quiet_said Round.Quiet did = tt
  quiet_said (Round.Heard line cs answered taken) did = quiet_reply line cs answered did.0

  quiet_rounds : (rounds : List Round) → AllByRecursion (IsRound may) rounds
      → AllByRecursion IsQuiet (flat_map calls_in rounds)
  quiet_rounds [] each = tt
  quiet_rounds (round ∷ rounds) each =
      quiet_both (calls_in round) (flat_map calls_in rounds) (refl, quiet_said round each.0)
      (quiet_rounds rounds each.1)

  quiet_last : (why : Attended) → AllByRecursion IsQuiet (last_calls why)
  quiet_last attended.Stopped = (refl, tt)
  quiet_last (attended.StoreFull n) = tt

  pub quiet_attending : (rounds : List Round) (why : Attended) → AllByRecursion (IsRound may) rounds
      → AllByRecursion IsQuiet (flat_map calls_in rounds ++ last_calls why)
  quiet_attending rounds why each =
      quiet_both (flat_map calls_in rounds) (last_calls why) (quiet_rounds rounds each) (quiet_last why)
