use Rattle.std.proofs.Common.{◌∙◌, map, refl, ap}
use Rattle.xl_validator.specs.Openings.{target_at}
use Rattle.xl_validator.proofs.preparing.plan_of.Goals as goal

pub returns-in-Ok-contacts_of : goal.returns-in-Ok-contacts_of
returns-in-Ok-contacts_of c = record {
  plan = record {
    turns = refl;
    submits = c.in-Ok.ensures.items ∙ c.as_slice.ensures;
    targets = c.in-Ok-contacts_of.ensures.each ∙ ap (map target_at) c.into_vec.ensures;
    door = refl;
    pulse = refl;
    numbers = c.in-Ok-contacts_of.ensures.numbers;
  };
  keeps = refl;
}
