use Rattle.rehearsal_core.proofs.Endings.{never_rose, never_a_write_fault, never_a_read_fault}
use Rattle.rehearsal_core.proofs.sure.rehearse_in_memory.Goals as goal

pub returns-clause-writes : goal.returns-clause-writes
returns-clause-writes c = never_a_write_fault _ _ c.rehearse.ensures.tells never_rose never_rose

pub returns-clause-reads : goal.returns-clause-reads
returns-clause-reads c = never_a_read_fault _ _ c.rehearse.ensures.tells never_rose (λ n missing. missing)
