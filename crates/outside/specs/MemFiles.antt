-- What files in memory hold and count.
use Rattle.std.specs.Prelude.{ℕ, List, Option, Some, None, Vec}
use Rattle.std.specs.declared.alloc.Global.{Global}
use Rattle.std.specs.BTreeMap.{get_by_text}
use Rattle.outside.specs.Told.{Told, Absent, Holds}
use Rattle.outside.specs.declared.files.MemFiles.{MemFiles}
use Rattle.outside.specs.declared.files.FuseFiles.{FuseFiles}

abbrev pub told_of : Option (Vec ℕ Global) → Told
told_of None = Absent
told_of (Some bytes) = Holds bytes.items

-- what is under a name
abbrev pub content : MemFiles → List ℕ → Told
content files name = told_of (get_by_text files.contents name)

-- how many reads failed
abbrev pub faults_of : MemFiles → ℕ
faults_of files = files.faults

abbrev pub fuse_content : FuseFiles → List ℕ → Told
fuse_content fuse name = content fuse.files name

abbrev pub fuse_faults : FuseFiles → ℕ
fuse_faults fuse = faults_of fuse.files

-- the numbers of the calls that fail, and the number of the last call
abbrev pub listed_calls : FuseFiles → List ℕ
listed_calls fuse = fuse.fails.items

abbrev pub calls_made : FuseFiles → ℕ
calls_made fuse = fuse.calls
