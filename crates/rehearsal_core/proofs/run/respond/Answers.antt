use Rattle.std.proofs.Common.{subst, sym, refl}
use Rattle.rehearsal_core.specs.Steps.{SaysOf}
use Rattle.rehearsal_core.proofs.LoadLaws.{says_of_named, says_of_workload}
use Rattle.rehearsal_core.proofs.run.respond.Goals as goal

pub returns-in-Files-clause-says : goal.returns-in-Files-clause-says
returns-in-Files-clause-says g c =
    says_of_named (g.S.Shelf.holds c.args.shelf.now) c.args.request c.in-Files.files (g.S.Shelf.faults c.args.shelf.now) (g.S.Shelf.faults c.read.new.shelf) c.read.result
    c.in-Files.is c.read.ensures.says

pub returns-in-Workload-clause-says : goal.returns-in-Workload-clause-says
returns-in-Workload-clause-says g c =
    let held = g.S.Shelf.holds c.args.shelf.now in
    let faults = g.S.Shelf.faults c.args.shelf.now in
    subst (SaysOf c.args.request held faults faults) (sym c.concluded.ensures)
    (says_of_workload held c.args.request c.in-Workload.size faults faults c.answer_workload.result c.in-Workload.is refl c.answer_workload.ensures.report c.answer_workload.ensures.refused)
