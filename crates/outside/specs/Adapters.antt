-- What is told of the system's files and output.
use Rattle.std.specs.Prelude.{ℕ, List, Option, None}
use Rattle.outside.specs.declared.disk.DiskFiles.{DiskFiles}
use Rattle.outside.specs.declared.disk.StdSink.{StdSink}

abbrev pub disk_faults : {R Handle Access : Type 0} → DiskFiles R Handle Access → ℕ
disk_faults files = files.faults

abbrev pub output_faults : {R : Type 0} → StdSink R → ℕ
output_faults sink = sink.faults

-- what is told of the bytes that were written: nothing
abbrev pub untold : Option (List ℕ)
untold = None
