-- What `xl flags` promises of its text. Source: this project's own.
use Rattle.xl_texts.specs.Promises.{Promise, on, always}
use Rattle.xl_voting.specs.Voting.{flags_of, flags_soon}

abbrev pub flags_promise : Promise
flags_promise = record { told = flags_of; soon = flags_soon; reads = on; shows = always }
