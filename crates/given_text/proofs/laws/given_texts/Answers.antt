use Rattle.std.proofs.Common.{◌≡◌, sym, subst}
use Rattle.std.specs.Prelude.{◌≢◌, ◌↔◌, IsTrue, [], ◌⊎◌}
use Rattle.std.specs.List.{AllByRecursion}
use Rattle.fs_semantics.specs.FileTree.{IsSegment, parent, is_among}
use Rattle.given_links.specs.Links.{AreLinks}
use Rattle.given_text.specs.Folders.{IsAboveOne}
use Rattle.given_text.specs.Form.{named}
use Rattle.given_text.proofs.OneGiven.{one_given}
use Rattle.given_text.proofs.JustLaws.{same_tree, folders_where, folders_proper, parents_stand}
use Rattle.given_text.proofs.laws.given_texts.Goals as goal

pub returns-clause-one : goal.returns-clause-one
returns-clause-one c = one_given

pub returns-clause-links : goal.returns-clause-links
returns-clause-links c bytes g is = subst AreLinks (sym is.gives.closed.links) is.gives.sound.links

pub returns-clause-folders : goal.returns-clause-folders
returns-clause-folders c bytes g is p =
    let closed = is.gives.closed in
    subst (λ ps. IsTrue (is_among p ps) ↔ ((p ≢ []) × IsAboveOne p (named is.gives.stated))) (sym closed.folders) (folders_where (named is.gives.stated) closed.tree closed.just p)

pub returns-clause-parents : goal.returns-clause-parents
returns-clause-parents c bytes g is p =
    let closed = is.gives.closed in
    subst (λ ps. IsTrue (is_among p ps) → (parent p ≡ []) ⊎ IsTrue (is_among (parent p) ps)) (sym closed.folders) (parents_stand (named is.gives.stated) closed.tree closed.just p)

pub returns-clause-proper : goal.returns-clause-proper
returns-clause-proper c bytes g is =
    let closed = is.gives.closed in
    subst (AllByRecursion (AllByRecursion IsSegment)) (sym closed.folders) (folders_proper (named is.gives.stated) closed.tree closed.just)

pub returns-clause-trees : goal.returns-clause-trees
returns-clause-trees c = same_tree
