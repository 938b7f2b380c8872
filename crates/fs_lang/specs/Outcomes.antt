-- What the outcomes of the code stand for.
use Rattle.std.specs.Prelude.{Some, None}
use Rattle.fs_semantics.specs.Programs as model
use Rattle.fs_lang.specs.declared.tree.Outcome.{Outcome}
use Rattle.fs_lang.specs.declared.tree.Outcome.TheVariants as outcome

-- a tree, or none for Error
abbrev pub outcome_of : Outcome → model.Outcome
outcome_of (outcome.Ended t) = Some t
outcome_of outcome.Error = None
