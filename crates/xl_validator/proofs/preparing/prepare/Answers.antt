-- in runnable settings each listed member is the node or a peer, and each peer gets a key, so none lacks one
use Rattle.std.proofs.Common.{List, IfSome, ◌∙◌, ap, sym, subst}
use Rattle.xl_core.specs.Core.{Core}
use Rattle.xl_settings.specs.Peers.{PeerSetting, are_peers}
use Rattle.xl_settings.specs.Runnable.{AreEverPeers}
use Rattle.xl_validator.proofs.Opening.{is_ready, keyed, same_pulse, the_task}
use Rattle.xl_validator.proofs.SettingLists.{ever_keyed, ever_led}
use Rattle.xl_validator.proofs.preparing.prepare.Goals as goal

pub open-requires-clause-keyed : goal.open-requires-clause-keyed
open-requires-clause-keyed c =
    let s = c.args.judged.settings in
    keyed c.keys_of.result s.me c.as_slice.result.now s.list.members
    c.keys_of.ensures.own c.keys_of.ensures.peers
    (ap (are_peers s.me s.list.members) c.as_slice.ensures ∙ c.requires.runnable.peers)

pub returns-in-Ok-clause-task : goal.returns-in-Ok-clause-task
returns-in-Ok-clause-task c =
    the_task c.args.judged.settings _ c.in-Ok.core c.in_ok-plan.plan c.in_ok-plan.ensures.plan c.args.judged.now
    (same_pulse c.args.judged.settings c.args.judged.now c.timing_of-timing.result c.timing_of-timing.ensures c.copy.result c.copy.ensures
    c.rolls_text_of.result c.rolls_text_of.ensures)

pub returns-in-Ok-clause-ready : goal.returns-in-Ok-clause-ready
returns-in-Ok-clause-ready c =
    is_ready c.args.judged.settings _ c.in-Ok.core c.in_ok-plan.plan c.in_ok-plan.ensures.plan c.keys_of.result
    c.as_slice.result.now c.as_slice.ensures c.keys_of.ensures.peers
    (ap (λ (core : Core). core.node.keys) c.in-Ok.ensures.opened) c.requires.runnable

pub returns-in-Ok-clause-keyed : goal.returns-in-Ok-clause-keyed
returns-in-Ok-clause-keyed c = λ led is.
    let s = c.args.judged.settings in
    ever_keyed c.keys_of.result s.me c.as_slice.result.now c.keys_of.ensures.own c.keys_of.ensures.peers
    led c.in-Ok.core (ap (λ (core : Core). core.node.keys) c.in-Ok.ensures.opened)
    (subst (λ (ps : List PeerSetting). IfSome led (AreEverPeers s.me ps)) (sym c.as_slice.ensures)
    (ever_led s.me s.peers s.rolls s.publishing led is c.requires.runnable.named c.requires.runnable.threshold))
