-- What sinks in memory hold and count.
use Rattle.std.specs.Prelude.{ℕ, List}
use Rattle.outside.specs.declared.sink.MemSink.{MemSink}
use Rattle.outside.specs.declared.sink.FuseSink.{FuseSink}

-- what was written
abbrev pub sink_bytes : MemSink → List ℕ
sink_bytes sink = sink.bytes.items

-- how many bytes it takes in all
abbrev pub room_of : MemSink → ℕ
room_of sink = sink.room

-- how many writes failed
abbrev pub sink_faults : MemSink → ℕ
sink_faults sink = sink.faults

abbrev pub fuse_bytes : FuseSink → List ℕ
fuse_bytes fuse = sink_bytes fuse.sink

abbrev pub fuse_room : FuseSink → ℕ
fuse_room fuse = room_of fuse.sink

abbrev pub fuse_faults : FuseSink → ℕ
fuse_faults fuse = sink_faults fuse.sink

-- the numbers of the calls that fail, and the number of the last call
abbrev pub listed_calls : FuseSink → List ℕ
listed_calls fuse = fuse.fails.items

abbrev pub calls_made : FuseSink → ℕ
calls_made fuse = fuse.calls

-- the most bytes that a call takes
abbrev pub most_of : FuseSink → ℕ
most_of fuse = fuse.most
