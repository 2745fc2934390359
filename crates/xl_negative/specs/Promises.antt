-- What `xl negative` promises of its text. Source: this project's own.
use Rattle.xl_texts.specs.Promises.{Promise, on, if_read}
use Rattle.xl_negative.specs.Writing.{negative_of, negative_soon}

-- its last lines are written before the end is read, and nothing may come behind them
abbrev pub negative_promise : Promise
negative_promise = record { told = negative_of; soon = negative_soon; reads = on; shows = if_read }
