-- The printed text of a guest.
use Rattle.std.specs.Prelude.{ℕ, Bool, if◌then◌else◌, List, [], ◌++◌, length, codes, decimal}
use Rattle.std.specs.FinMap as fin
use Rattle.probe_tools.specs.declared.tool.Tool.{Tool}
use Rattle.probe_tools.specs.declared.tool.Tool.TheVariants as tools
use Rattle.plain_machine.specs.declared.ends.Kind.{Kind}
use Rattle.plain_machine.specs.declared.ends.Kind.TheVariants as kinds
use Rattle.plain_machine.specs.declared.ends.End.{End}
use Rattle.plain_machine.specs.declared.ends.End.TheVariants as ends
use Rattle.report.specs.Rows.{Rows}
use Rattle.report.specs.Text.{hex, report_text}
use Rattle.block_ledger.specs.Ledger.{Counts}
use Rattle.guest_loop.specs.declared.guest.Ran.{Ran}
use Rattle.guest_loop.specs.Guest.{counts_of}

abbrev pub kind_text : Kind → List ℕ
kind_text kinds.Fetch = codes "fetch"
kind_text kinds.Misaligned = codes "misaligned"
kind_text kinds.Load = codes "load"
kind_text kinds.Store = codes "store"
kind_text kinds.Illegal = codes "illegal"
kind_text kinds.Break = codes "break"
kind_text kinds.Output = codes "output"

unfoldable pub end_text : End → List ℕ
end_text (ends.Exit status) = codes "exit " ++ decimal status
end_text (ends.Fault kind pc) = codes "fault " ++ kind_text kind ++ codes " " ++ hex pc
end_text ends.Fuel = codes "fuel"
end_text ends.Unplaced = codes "unplaced"

abbrev pub tool_text : Tool → List ℕ
tool_text tools.Blocks = codes "blocks"
tool_text tools.Calls = codes "calls"
tool_text tools.Memory = codes "memory"

-- the end, and how many bytes were written
unfoldable pub end_line : End → ℕ → List ℕ
end_line end count = codes " " ++ end_text end ++ codes "\noutput " ++ decimal count ++ codes "\n"

-- the end of the output's line, the tool, and how many rows there are
unfoldable pub report_line : Rows → List ℕ
report_line r = codes "\nreport " ++ tool_text r.tool ++ codes " " ++ decimal (fin.len r.counts) ++ codes "\n"

-- what was counted of its blocks
unfoldable pub counts_line : Counts → List ℕ
counts_line c = codes "counts blocks " ++ decimal c.blocks ++ codes " reused " ++ decimal c.reused ++ codes " built " ++ decimal c.built ++ codes " linked " ++ decimal c.linked ++ codes "\n"

-- that line, where it is asked for
abbrev pub counts_text : Bool → Counts → List ℕ
counts_text asked c = if asked then counts_line c else []

-- a guest by its name: its end, its output, the rows of its report, and its counts where they are asked for
abbrev pub text_of : List ℕ → End → List ℕ → Rows → Bool → Counts → List ℕ
text_of name end output r asked c = codes "guest " ++ name ++ end_line end (length output) ++ output ++ report_line r ++ report_text r ++ counts_text asked c

-- a guest that ran
abbrev pub text_in : Bool → Ran → List ℕ
text_in asked ran = text_of ran.end.name ran.end.end ran.output ran.report asked (counts_of ran.end.counts)
