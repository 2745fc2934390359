-- what was read leaves a byte of the room at least, and is the text whose rolls are taken
use Rattle.std.proofs.Common.{ℕ, ap, inl, refl, ◌∙◌}
use Rattle.std.proofs.lemmas.List.{length-replicate}
use Rattle.xl_heartbeat.specs.Looks.{look_of}
use Rattle.xl_heartbeat.proofs.Leading.{few_read, read_so}
use Rattle.xl_heartbeat.proofs.looking.take_from.Goals as goal

pub take_text-requires : goal.take_text-requires
take_text-requires g c = record {
  short = few_read c.in-Ok.count c.read_text.new.room (c.in-Ok.ensures.same ∙ length-replicate {A = ℕ} 32769 0)
      c.in-Ok.ensures.fits;
}

pub returns-in-Ok : goal.returns-in-Ok
returns-in-Ok g c =
    read_so c.args.rolls.now.members c.args.publishers.now c.take_text.new.self c.look_of.result c.in-Ok.count
    c.read_text.new.room (c.in-Ok.ensures.same ∙ length-replicate {A = ℕ} 32769 0) c.in-Ok.ensures.fits
    (c.look_of.ensures ∙ ap look_of c.take_text.ensures.refused) c.take_text.ensures.taken

pub returns-in-Err : goal.returns-in-Err
returns-in-Err g c = inl (refl, refl)
