use Rattle.model_laws.proofs.JoinLaws.{runs_steps, runs_both, mark_leaves}
use Rattle.model_laws.proofs.sequences_join.Goals as goal

pub returns-clause-steps : goal.returns-clause-steps
returns-clause-steps c = runs_steps

pub returns-clause-joined : goal.returns-clause-joined
returns-clause-joined c = runs_both

pub returns-clause-mark : goal.returns-clause-mark
returns-clause-mark c = mark_leaves (record { id = c.changes.ensures.id; err = c.changes.ensures.err; mkdir = c.changes.ensures.mkdir; creat = c.changes.ensures.creat; rm = c.changes.ensures.rm; no_steps = c.changes.ensures.no_steps; steps = c.changes.ensures.steps; choice = c.changes.ensures.choice; file = c.tests.ensures.file; folder = c.tests.ensures.folder })
