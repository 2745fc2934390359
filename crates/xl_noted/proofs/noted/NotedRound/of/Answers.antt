use Rattle.xl_noted.proofs.noted.NotedRound.of.Goals as goal

pub returns : goal.returns
returns c = cc (
  c.phase.ensures,
  c.mode.ensures,
  c.started.ensures,
  c.position.ensures,
  c.in_ok-from_slice.ensures.items,
  c.own_set.ensures.value,
  c.in_ok-from_slice-2.ensures.items,
  c.pending.ensures.value,
  c.proposers.ensures,
  c.agreeing.ensures,
)
