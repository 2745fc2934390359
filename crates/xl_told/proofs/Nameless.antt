-- A proposal or a validation whose ids have no name is spelled as in no names.
use Rattle.std.proofs.Common.{◌≡◌, ℕ, List, [], ◌++◌, Option, Some, None, IfSome, ap, refl, ◌∙◌}
use Rattle.std.specs.Prelude.{decimal}
use Rattle.hex.specs.Hex.{encode_lower}
use Rattle.xl_base.specs.declared.ids.LedgerId.{LedgerId}
use Rattle.xl_running.specs.Texts.{named_text, space}
use Rattle.xl_sched.specs.declared.named.Named.{Named}
use Rattle.xl_sched.specs.Names.{name_of}
use Rattle.xl_wire.specs.declared.proposal.Proposal.{Proposal}
use Rattle.xl_wire.specs.declared.validation.Validation.{Validation}
use Rattle.xl_told.specs.Words.{fullness_text, proposal_text, set_text, validated_text, validation_text}

pub nameless : (names : List Named) (p : Proposal) → name_of names p.prev.0 ≡ None → name_of names p.set.0 ≡ None → proposal_text names p ≡ proposal_text [] p
nameless names p prev set =
    let id : LedgerId = record { 0 = p.set.0 } in
    ap (λ (o : Option (List ℕ)). named_text o p.prev ++ space ++ set_text names p.set ++ space ++ decimal p.pseq ++ space ++ decimal p.close ++ space ++ decimal p.time) prev
    ∙ ap (λ (o : Option (List ℕ)). encode_lower p.prev.0 ++ space ++ named_text o id ++ space ++ decimal p.pseq ++ space ++ decimal p.close ++ space ++ decimal p.time) set

nameless_if_told : (names : List Named) (o : Option LedgerId) → IfSome o (λ id. name_of names id.0 ≡ None) → validated_text names o ≡ validated_text [] o
nameless_if_told names None none = refl
nameless_if_told names (Some id) none = ap (λ (o : Option (List ℕ)). space ++ named_text o id) none

pub nameless_vote : (names : List Named) (v : Validation) → name_of names v.id.0 ≡ None → IfSome v.validated (λ id. name_of names id.0 ≡ None) → validation_text names v ≡ validation_text [] v
nameless_vote names v id told =
    ap (λ (o : Option (List ℕ)). decimal v.seq ++ space ++ named_text o v.id ++ space ++ decimal v.signed ++ space ++ fullness_text v.full ++ validated_text names v.validated) id
    ∙ ap (λ (t : List ℕ). decimal v.seq ++ space ++ encode_lower v.id.0 ++ space ++ decimal v.signed ++ space ++ fullness_text v.full ++ t) (nameless_if_told names v.validated told)
