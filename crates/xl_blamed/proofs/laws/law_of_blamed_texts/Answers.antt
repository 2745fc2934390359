use Rattle.xl_blamed.proofs.Texts.{texts_agree, texts_are_blamed}
use Rattle.xl_blamed.proofs.laws.law_of_blamed_texts.Goals as goal

pub returns : goal.returns
returns c = record { blamed = texts_are_blamed; agree = texts_agree }
