use Rattle.std.proofs.Common.{subst, sym}
use Rattle.rehearsal_core.specs.Steps.{request_about, SaysOf}
use Rattle.rehearsal_core.proofs.LoadLaws.{says}
use Rattle.rehearsal_core.proofs.run.read.Goals as goal

pub returns-in-Ok-clause-says : goal.returns-in-Ok-clause-says
returns-in-Ok-clause-says g c =
    let held = g.S.Shelf.holds c.args.shelf.now in
    let before = g.S.Shelf.faults c.args.shelf.now in
    let now = g.S.Shelf.faults c.read_files.new.shelf in
    subst (SaysOf (request_about c.args.names) held before now) (sym c.concluded.ensures)
    (says held c.args.names c.kind_of-kind.result c.in-Ok.files before now c.answer_read.result c.kind_of-kind.ensures c.in-Ok.ensures.read.0 c.in-Ok.ensures.read.1 c.answer_read.ensures.report c.answer_read.ensures.refused)
