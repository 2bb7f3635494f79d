-- The number of bytes that wait to be written to outputs.
use Rattle.std.specs.Prelude.{◌≤◌, List, length}
use Rattle.std.specs.List.{All}
use Rattle.mkv_outputs.specs.declared.sink.Sink.{Sink}
use Rattle.mkv_outputs.specs.declared.sink.TheConstants.{ROOM}

-- No more bytes wait for the output `s` than its buffer may hold, ROOM. Required for each write to it. Used by `flush`, `write` and others.
abbrev pub WaitFew : Sink → Type 0
WaitFew s = length s.waiting ≤ ROOM

-- For each of the outputs `sinks` no more bytes wait than its buffer may hold. It is true of every `Outputs`.
abbrev pub EachWaitsFew : List Sink → Type 0
EachWaitsFew sinks = All WaitFew sinks
