-- What `xl show` promises of its text. Source: this project's own.
use Rattle.xl_texts.specs.Promises.{Promise, on, always}
use Rattle.xl_show.specs.Shown.{shown_of}
use Rattle.xl_show.specs.Soon.{shown_soon}

abbrev pub show_promise : Promise
show_promise = record { told = shown_of; soon = shown_soon; reads = on; shows = always }
