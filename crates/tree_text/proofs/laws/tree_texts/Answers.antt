use Rattle.std.proofs.Common.{subst, sym}
use Rattle.tree_text.specs.TreeText.{AreMembers}
use Rattle.tree_text.proofs.WriteLaws.{are_members}
use Rattle.tree_text.proofs.TextLaws.{keys_rise, same_written}
use Rattle.tree_text.proofs.ReadLaws.{one_tree, same_read}
use Rattle.tree_text.proofs.laws.tree_texts.Goals as goal

pub returns-clause-same : goal.returns-clause-same
returns-clause-same c t u is_t is_u e =
    let members = are_members c.path_texts.ensures.same c.paths.ensures.same in
    one_tree c.path_texts.ensures.same c.file_trees.ensures.same _ t u is_t is_u (members t is_t)
    (subst (λ ms. AreMembers ms u) (sym (same_written t u e)) (members u is_u))

pub returns-clause-one : goal.returns-clause-one
returns-clause-one c bytes t u a b =
    one_tree c.path_texts.ensures.same c.file_trees.ensures.same a.members t u a.is_tree b.is_tree a.are
    (subst (λ ms. AreMembers ms u) (same_read bytes b.members a.members b.is_read a.is_read) b.are)

pub returns-clause-members : goal.returns-clause-members
returns-clause-members c t is = are_members c.path_texts.ensures.same c.paths.ensures.same t is

pub returns-clause-order : goal.returns-clause-order
returns-clause-order c t = keys_rise t
