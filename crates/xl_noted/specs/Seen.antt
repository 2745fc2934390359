-- What the code notes, as the definitions see it. Source: what the code of this crate keeps.
use Rattle.xl_noted.specs.declared.noted.Noted.{Noted as Kept}
use Rattle.xl_noted.specs.declared.noted.NotedRound.{NotedRound as KeptRound}
use Rattle.xl_noted.specs.Noted.{Noted, NotedRound}

abbrev pub round_seen : KeptRound → NotedRound
round_seen r = record {
  phase = r.phase;
  mode = r.mode;
  started = r.started;
  position = r.position;
  own = r.own.items;
  pending = r.pending.items;
  proposers = r.proposers;
  agreeing = r.agreeing;
}

abbrev pub noted_seen : Kept → Noted
noted_seen n = record {
  time = n.time;
  kept = n.kept;
  failed_save = n.failed_save;
  list = n.list;
  members = n.members.items;
  ledgers = n.ledgers;
  last = n.last;
  preferred = n.preferred;
  round = round_seen n.round;
}
