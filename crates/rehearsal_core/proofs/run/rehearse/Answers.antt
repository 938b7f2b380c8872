use Rattle.rehearsal_core.proofs.HeadlineLaws.{headline_of}
use Rattle.rehearsal_core.proofs.Endings.{owes}
use Rattle.rehearsal_core.proofs.run.rehearse.Goals as goal

pub returns-clause-headline : goal.returns-clause-headline
returns-clause-headline g c = headline_of c.program_readings.ensures.none _ _ c.answered.ensures.tells

pub returns-clause-tells : goal.returns-clause-tells
returns-clause-tells g c = c.answered.ensures.tells

pub returns-clause-owes : goal.returns-clause-owes
returns-clause-owes g c =
    owes c.reports_exclude_refusals.ensures.catalogs c.reports_exclude_refusals.ensures.graphs c.reports_exclude_refusals.ensures.programs c.reports_exclude_refusals.ensures.comparisons c.one_list_of_proofs.ensures
    c.accepted_logs_have_no_fault.ensures c.one_request.ensures _ _ c.answered.ensures
