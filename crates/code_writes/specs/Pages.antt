-- The blocks that meet each page.
use Rattle.std.specs.Prelude.{ℕ, List, [], unwrap_or}
use Rattle.std.specs.Ordering.{nat_cmp}
use Rattle.std.specs.BTreeMap.{get}
use Rattle.code_writes.specs.declared.page.Block.{Block}
use Rattle.code_writes.specs.declared.pages.Pages.{Pages}

-- the blocks on the page p
abbrev pub on_page : Pages → ℕ → List Block
on_page pages p = unwrap_or (get nat_cmp pages.lists p) []
