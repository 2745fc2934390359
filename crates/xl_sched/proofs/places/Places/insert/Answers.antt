use Rattle.std.proofs.Common.{◌∙◌, ap}
use Rattle.std.specs.Str.{bytes_eq}
use Rattle.xl_sched.specs.Places.{place_of_name, with_place}
use Rattle.xl_sched.proofs.PlaceLemmas.{with_place-new, none_too, restored}
use Rattle.xl_sched.proofs.places.Places.insert.Goals as goal

pub returns-in-Err-clause-kept : goal.returns-in-Err-clause-kept
returns-in-Err-clause-kept c = record {
  by_name = λ other. restored (bytes_eq other c.args.name.now) c.args.place _ _ _ _ (c.in_ok-insert_name.ensures.names other) (c.insert_id.ensures.names other) (c.remove_name.ensures.absent other) (c.remove_name.ensures.others other) (none_too (place_of_name c.args.self.now) other c.args.name.now c.requires);
  by_id = λ other. c.remove_name.ensures.ids other ∙ c.in-Err.ensures.kept.by_id other ∙ c.insert_name.ensures.ids other;
}

pub returns-in-Ok-clause-more : goal.returns-in-Ok-clause-more
returns-in-Ok-clause-more c = record {
  by_name = λ other. c.insert_id.ensures.names other ∙ c.in_ok-insert_name.ensures.names other ∙ with_place-new (place_of_name c.args.self.now other) (bytes_eq other c.args.name.now) c.args.place (none_too (place_of_name c.args.self.now) other c.args.name.now c.requires);
  by_id = λ other. c.in-Ok.ensures.ids other ∙ ap (λ kept. with_place kept (bytes_eq other c.args.id.now) c.args.place) (c.in_ok-insert_name.ensures.ids other);
}
