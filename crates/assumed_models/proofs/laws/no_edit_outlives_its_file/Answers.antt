use Rattle.fs_semantics.specs.Programs.{Creat, Link, Rm, Cp}
use Rattle.assumed_models.proofs.LostLaws.{lost}
use Rattle.assumed_models.proofs.laws.no_edit_outlives_its_file.Goals as goal

pub returns-clause-made : goal.returns-clause-made
returns-clause-made c marks p content t u h m one =
    lost (record { drop = c.words_leave.ensures.drop; steps = c.sequences_join.ensures.steps; kept = c.constructs.ensures.kept; same = c.paths.ensures.same }) (Creat p content) (marks p) t u h m one

pub returns-clause-linked : goal.returns-clause-linked
returns-clause-linked c marks p target t u h m one =
    lost (record { drop = c.words_leave.ensures.drop; steps = c.sequences_join.ensures.steps; kept = c.constructs.ensures.kept; same = c.paths.ensures.same }) (Link p target) (marks p) t u h m one

pub returns-clause-removed : goal.returns-clause-removed
returns-clause-removed c marks p t u h m one =
    lost (record { drop = c.words_leave.ensures.drop; steps = c.sequences_join.ensures.steps; kept = c.constructs.ensures.kept; same = c.paths.ensures.same }) (Rm p) (marks p) t u h m one

pub returns-clause-copied : goal.returns-clause-copied
returns-clause-copied c marks from p t u h m one =
    lost (record { drop = c.words_leave.ensures.drop; steps = c.sequences_join.ensures.steps; kept = c.constructs.ensures.kept; same = c.paths.ensures.same }) (Cp from p) (marks p) t u h m one
