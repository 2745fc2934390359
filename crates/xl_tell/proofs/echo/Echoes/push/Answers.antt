-- what was said last of each other kind stays
use Rattle.xl_tell.proofs.echo.Echoes.push.Goals as goal

pub returns-in_ok-push-in-Proposal-clause-echoes : goal.returns-in_ok-push-in-Proposal-clause-echoes
returns-in_ok-push-in-Proposal-clause-echoes c = record {
  proposal = c.in_ok-push-in-Proposal.ensures.echo;
  validation = c.requires.validation;
  header = c.requires.header;
  tx = c.requires.tx;
  parts = c.requires.parts;
}

pub returns-in_ok-push-in-Validation-clause-echoes : goal.returns-in_ok-push-in-Validation-clause-echoes
returns-in_ok-push-in-Validation-clause-echoes c = record {
  proposal = c.requires.proposal;
  validation = c.in_ok-push-in-Validation.ensures.echo;
  header = c.requires.header;
  tx = c.requires.tx;
  parts = c.requires.parts;
}

pub returns-in_ok-push-in-Header-clause-echoes : goal.returns-in_ok-push-in-Header-clause-echoes
returns-in_ok-push-in-Header-clause-echoes c = record {
  proposal = c.requires.proposal;
  validation = c.requires.validation;
  header = c.in_ok-push-in-Header.ensures.echo;
  tx = c.requires.tx;
  parts = c.requires.parts;
}

pub returns-in_ok-push-in-Tx-clause-echoes : goal.returns-in_ok-push-in-Tx-clause-echoes
returns-in_ok-push-in-Tx-clause-echoes c = record {
  proposal = c.requires.proposal;
  validation = c.requires.validation;
  header = c.requires.header;
  tx = c.in_ok-push-in-Tx.ensures.echo;
  parts = c.requires.parts;
}
