use Rattle.std.proofs.Common.{◌≡◌, map, sym, subst, ◌∙◌}
use Rattle.std.proofs.lemmas.List.{map-append}
use Rattle.std.specs.Map.Iter.{deref_pair}
use Rattle.std.proofs.lemmas.Map.Iter.{rest_more, rest_so_far, iter_end}
use Rattle.serde_json.specs.View.{members_view}
use Rattle.fs_semantics.specs.FileTree.{Tree, IsTree}
use Rattle.tree_text.specs.TreeText.{AreMembers, IsWithinLimits}
use Rattle.json_parts.specs.Forms.{IfForm}
use Rattle.tree_text.proofs.ReadLaws.{told_of, read_nothing, read_more, unread, passed_on}
use Rattle.tree_text.proofs.reading.tree_in.Goals as goal

pub loop-key-init : goal.loop-key-init
loop-key-init c = read_nothing c.in_ok-tree.tree c.in_ok-tree.ensures

pub loop-key-preserved : goal.loop-key-preserved
loop-key-preserved c =
    read_more c.file_trees.ensures.put (told_of c.paths.ensures.same) (map deref_pair c.loop-key.yielded) _ c.in-Some.key.now c.in-Some.json.now c.as_str.result.now c.loop-key.tree c.add_member.new.tree
    (map-append deref_pair c.loop-key.yielded _) c.as_str.ensures.value c.loop-key.invariant c.in_ok-add_member.ensures.ok

pub returns-in_err-add_member-clause-none : goal.returns-in_err-add_member-clause-none
returns-in_err-add_member-clause-none c =
    let all = c.args.members.now.entries in
    let start : c.into_iter-key-iterator.result ≡ all = c.into_iter-key-iterator.ensures.into_iter_gives ∙ c.iter-key-items.ensures.rest in
    let so_far = sym start ∙ rest_so_far deref_pair c.loop-key.yielded c.into_iter-key-iterator.result c.loop-key.key-iterator c.loop-key.yielded_by in
    let next = rest_more deref_pair c.loop-key.key-iterator c.next.new.self c.next.result (c.in-Some.key, c.in-Some.json) c.in-Some.is c.next.ensures.steps in
    passed_on (λ e. IfForm e ((t : Tree) → IsTree t → IsWithinLimits t → AreMembers (members_view all) t → ⊥)) c.from_residual-in_err-add_member.result c.in_err-add_member.field-0.0 c.from_residual-in_err-add_member.ensures.1
    (unread c.path_texts.ensures.same c.path_texts.ensures.again c.path_texts.ensures.below c.tests.ensures.folder (told_of c.paths.ensures.same) all (map deref_pair c.loop-key.yielded) c.loop-key.key-iterator c.next.new.self c.in-Some.key.now c.in-Some.json.now
    c.as_str.result.now c.loop-key.tree c.in_err-add_member.field-0.0 c.iter-key-items.ensures.ordered so_far next c.as_str.ensures.value c.is_tree.ensures c.loop-key.invariant.0 c.in_err-add_member.ensures.err)

pub returns-clause-members : goal.returns-clause-members
returns-clause-members c =
    let all = c.args.members.now.entries in
    let start : c.into_iter-key-iterator.result ≡ all = c.into_iter-key-iterator.ensures.into_iter_gives ∙ c.iter-key-items.ensures.rest in
    let end = iter_end deref_pair all c.loop-key.yielded c.into_iter-key-iterator.result c.loop-key.key-iterator c.next.new.self c.next.result start c.loop-key.yielded_by c.in-None.is c.next.ensures.steps in
    subst (λ es. AreMembers (members_view es) c.loop-key.tree) end.0 c.loop-key.invariant.0
