use Rattle.std.proofs.Common.{sym, ap, subst, ◌∙◌}
use Rattle.std.specs.FinMap as map
use Rattle.fs_semantics.specs.FileTree.{IsTree, parent}
use Rattle.fs_semantics.specs.Entries.{IsFreeAt, IsFolderAt}
use Rattle.fs_lang.specs.Meaning.{entry_of}
use Rattle.fs_lang.specs.Trees.{tree_of}
use Rattle.fs_lang.proofs.TreeLaws.{inserted, grown}
use Rattle.fs_lang.proofs.tree.Tree.add.Goals as goal

pub invariant_of-self-2 : goal.invariant_of-self-2
invariant_of-self-2 c =
    let more = inserted c.self.inside.entries c.insert.new.self c.args.p c.args.entry c.in_ok-insert.ensures.updates in
    subst IsTree (sym more)
    (grown (tree_of c.self.inside.entries) c.args.p c.args.entry c.self.invariant c.segments.ensures.segments c.entry_is_bytes.ensures
    (subst (λ u. IsFreeAt u c.args.p) (sym c.self.view_is) c.requires.free)
    (subst (λ u. IsFolderAt u (parent c.args.p)) (sym c.self.view_is) c.requires.above))

pub returns-clause-ok : goal.returns-clause-ok
returns-clause-ok c =
    inserted c.self.inside.entries c.insert.new.self c.args.p c.args.entry c.in_ok-insert.ensures.updates
    ∙ ap (λ u. map.insert u c.args.p (entry_of c.args.entry)) c.self.view_is
