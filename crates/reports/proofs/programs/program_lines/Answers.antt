use Rattle.std.proofs.Common.{length, sym, subst, ◌<◌}
use Rattle.std.specs.List.{AllByRecursion}
use Rattle.reports.proofs.programs.program_lines.Goals as goal

pub push_programs-requires : goal.push_programs-requires
push_programs-requires c = subst (AllByRecursion (λ k. k < length c.args.made.now.catalog.resources)) (sym c.as_slice-plain.ensures) c.requires
