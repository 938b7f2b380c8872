use Rattle.std.proofs.Common.{◌≡◌, ◌++◌, map, drop}
use Rattle.fs_lang.specs.Meaning.{program_of}
use Rattle.reports.specs.Reports.{program_lines}
use Rattle.reports.proofs.programs.push_programs.Given as goal

-- what stands so far, and behind it the lines that are left, is what stood and all lines
abbrev pub invariant-loop-k : goal.invariant-loop-k
invariant-loop-k l =
    l.into.items ++ program_lines l.known l.source l.catalog (drop l.k l.plain) (map program_of l.rest) ≡ l.fn.into.items ++ program_lines l.known l.source l.catalog l.plain (map program_of l.programs)
