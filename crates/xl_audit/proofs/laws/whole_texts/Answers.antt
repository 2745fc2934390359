use Rattle.xl_audit.proofs.Whole.{text_is_judged, yes_of_the_text, no_of_the_text}
use Rattle.xl_audit.proofs.laws.whole_texts.Goals as goal

pub returns : goal.returns
returns c = record { judged = text_is_judged; yes = yes_of_the_text; no = no_of_the_text }
