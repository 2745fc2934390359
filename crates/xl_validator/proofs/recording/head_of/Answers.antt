use Rattle.std.proofs.Common.{◌∙◌, ap, subst, sym}
use Rattle.xl_core.specs.Rest.{IsKeyed}
use Rattle.xl_lists.specs.Lists.{TrustedList}
use Rattle.xl_settings.specs.Peers.{are_peers}
use Rattle.xl_validator.proofs.Opening.{keyed}
use Rattle.xl_validator.proofs.recording.head_of.Goals as goal

pub invariant_of-result-clause-keyed : goal.invariant_of-result-clause-keyed
invariant_of-result-clause-keyed c =
    let s = c.args.settings.now in
    subst (λ (list : TrustedList). IsKeyed s.me list.members c.keys_of.result) (sym c.copy.ensures)
    (keyed c.keys_of.result s.me c.as_slice.result.now s.list.members c.keys_of.ensures.own c.keys_of.ensures.peers
    (ap (are_peers s.me s.list.members) c.as_slice.ensures ∙ c.requires.runnable.peers))
