use Rattle.std.proofs.Common.{◌+◌, ◌-◌, arith}
use Rattle.std.proofs.lemmas.Option.{slice_get_within}
use Rattle.xl_world.specs.declared.frames.KeptBytes.{KeptBytes}
use Rattle.xl_world.specs.declared.frames.SentPlace.TheVariants as place
use Rattle.xl_world.proofs.Framing.{kept_there}
use Rattle.xl_world.proofs.frames.find.Goals as goal

pub returns-then-is_same_to_others-clause-kept : goal.returns-then-is_same_to_others-clause-kept
returns-then-is_same_to_others-clause-kept c =
    let p : KeptBytes = c.in-Some.found in
    let within = c.requires.within c.args.place p c.in-Some.ensures in
    kept_there c.args.bytes.now c.args.kept.now p.begins (p.begins + p.length - p.begins) (omega (arith, within.0)) (c.is_same_to_others.ensures c.if-is_same_to_others.true)

pub returns-then-is_same_to_others-clause-within : goal.returns-then-is_same_to_others-clause-within
returns-then-is_same_to_others-clause-within c = slice_get_within c.args.places.now c.args.place (place.Bytes c.in-Some.found) c.in-Some.ensures
