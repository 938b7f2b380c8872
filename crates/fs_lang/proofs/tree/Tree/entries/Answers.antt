use Rattle.std.proofs.Common.{ap, subst, ◌∙◌}
use Rattle.std.specs.FinMap as map
use Rattle.fs_lang.specs.Trees.{entries_of}
use Rattle.fs_semantics.specs.FileTree.{IsTree}
use Rattle.fs_lang.proofs.EntryLaws.{entries_are}
use Rattle.fs_lang.proofs.EntryOrder.{has_place}
use Rattle.fs_lang.proofs.tree.Tree.entries.Goals as goal

pub returns-clause-entries : goal.returns-clause-entries
returns-clause-entries c = ap entries_of c.iter.ensures.rest ∙ entries_are c.self.inside.entries c.iter.ensures.ordered ∙ ap map.entries c.self.view_is

pub returns-clause-place : goal.returns-clause-place
returns-clause-place c = has_place c.args.self.now (subst IsTree c.self.view_is c.self.invariant)
