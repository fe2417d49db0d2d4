-- What a manifest says.
use Rattle.std.specs.Prelude.{◌≡◌, ℕ, ◌%◌, ◌≤◌, ◌<◌, true, List, Option, length, map, All}
use Rattle.std.specs.Option.{ForSome}
use Rattle.rv_decode.specs.declared.ins.Isa.{Isa}
use Rattle.probe_tools.specs.declared.tool.Tool.{Tool}
use Rattle.manifest.specs.Names.{is_name, is_file_name, are_distinct}

-- a module: its name, the number of its file, and where it is to stand
pub record ModuleEntry : Type 0 where
  pub name : List ℕ
  pub file : ℕ
  pub base : ℕ

-- a guest: its name, the number of its module, its round, tool, instruction set, the most instructions of a block, the
-- most that are done, how many blocks it keeps, the size of its stack, and the file that it reads
pub record GuestEntry : Type 0 where
  pub name : List ℕ
  pub «module» : ℕ
  pub round : ℕ
  pub tool : Tool
  pub isa : Isa
  pub max : ℕ
  pub fuel : ℕ
  pub pool : ℕ
  pub stack : ℕ
  pub input : Option (List ℕ)

-- names of files, and modules and guests in order
pub record Listing : Type 0 where
  pub files : List (List ℕ)
  pub modules : List ModuleEntry
  pub guests : List GuestEntry

-- what every module keeps
pub record IsModule (name : List ℕ) (base : ℕ) : Type 0 where
  pub spelled : is_name name ≡ true
  pub in_range : base ≤ 4294967292
  pub aligned : base % 4 ≡ 0

-- what every guest keeps
pub record IsGuest (g : GuestEntry) : Type 0 where
  pub spelled : is_name g.name ≡ true
  pub round : g.round ≤ 15
  pub some_words : 1 ≤ g.max
  pub few_words : g.max ≤ 64
  pub some_fuel : 1 ≤ g.fuel
  pub little_fuel : g.fuel ≤ 1000000000
  pub some_blocks : 16 ≤ g.pool
  pub few_blocks : g.pool ≤ 65536
  pub some_stack : 4096 ≤ g.stack
  pub small_stack : g.stack ≤ 1048576
  pub stack_aligned : g.stack % 16 ≡ 0
  pub input : ForSome g.input (λ n. is_file_name n ≡ true)

-- what every manifest keeps; modules have names of their own
pub record IsListing (files : List (List ℕ)) (modules : List ModuleEntry) (guests : List GuestEntry) : Type 0 where
  pub some_file : 1 ≤ length files
  pub few_files : length files ≤ 32
  pub some_module : 1 ≤ length modules
  pub few_modules : length modules ≤ 32
  pub some_guest : 1 ≤ length guests
  pub few_guests : length guests ≤ 64
  pub own_names : are_distinct (map (λ m. m.name) modules) ≡ true
  pub files_spelled : All (λ n. is_file_name n ≡ true) files
  pub have_files : All (λ m. m.file < length files) modules
  pub have_modules : All (λ g. g.«module» < length modules) guests
