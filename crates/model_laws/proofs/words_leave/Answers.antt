use Rattle.model_semantics.specs.Words.{dir, put}
use Rattle.model_laws.proofs.LeftLaws.{dir_leaves, dir_there, put_leaves, drop_leaves, need_where, dir_changes, put_changes}
use Rattle.model_laws.proofs.words_leave.Goals as goal

pub returns-clause-dir : goal.returns-clause-dir
returns-clause-dir c = dir_leaves (record { id = c.changes.ensures.id; err = c.changes.ensures.err; mkdir = c.changes.ensures.mkdir; creat = c.changes.ensures.creat; rm = c.changes.ensures.rm; no_steps = c.changes.ensures.no_steps; steps = c.changes.ensures.steps; choice = c.changes.ensures.choice; file = c.tests.ensures.file; folder = c.tests.ensures.folder })

pub returns-clause-dir_there : goal.returns-clause-dir_there
returns-clause-dir_there c = dir_there (record { id = c.changes.ensures.id; err = c.changes.ensures.err; mkdir = c.changes.ensures.mkdir; creat = c.changes.ensures.creat; rm = c.changes.ensures.rm; no_steps = c.changes.ensures.no_steps; steps = c.changes.ensures.steps; choice = c.changes.ensures.choice; file = c.tests.ensures.file; folder = c.tests.ensures.folder })

pub returns-clause-dir_elsewhere : goal.returns-clause-dir_elsewhere
returns-clause-dir_elsewhere c p t u q h n = c.constructs.ensures.kept (dir p) t u q h (dir_changes p q n)

pub returns-clause-put : goal.returns-clause-put
returns-clause-put c = put_leaves (record { id = c.changes.ensures.id; err = c.changes.ensures.err; mkdir = c.changes.ensures.mkdir; creat = c.changes.ensures.creat; rm = c.changes.ensures.rm; no_steps = c.changes.ensures.no_steps; steps = c.changes.ensures.steps; choice = c.changes.ensures.choice; file = c.tests.ensures.file; folder = c.tests.ensures.folder })

pub returns-clause-put_elsewhere : goal.returns-clause-put_elsewhere
returns-clause-put_elsewhere c p content t u q h n = c.constructs.ensures.kept (put p content) t u q h (put_changes p q content n)

pub returns-clause-drop : goal.returns-clause-drop
returns-clause-drop c = drop_leaves (record { id = c.changes.ensures.id; err = c.changes.ensures.err; mkdir = c.changes.ensures.mkdir; creat = c.changes.ensures.creat; rm = c.changes.ensures.rm; no_steps = c.changes.ensures.no_steps; steps = c.changes.ensures.steps; choice = c.changes.ensures.choice; file = c.tests.ensures.file; folder = c.tests.ensures.folder })

pub returns-clause-need : goal.returns-clause-need
returns-clause-need c = need_where (record { id = c.changes.ensures.id; err = c.changes.ensures.err; mkdir = c.changes.ensures.mkdir; creat = c.changes.ensures.creat; rm = c.changes.ensures.rm; no_steps = c.changes.ensures.no_steps; steps = c.changes.ensures.steps; choice = c.changes.ensures.choice; file = c.tests.ensures.file; folder = c.tests.ensures.folder })
