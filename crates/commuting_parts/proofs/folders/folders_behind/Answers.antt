use Rattle.std.proofs.Common.{◌≡◌, subst, subst₂}
use Rattle.std.specs.BTreeSet.{BTreeSet}
use Rattle.fs_semantics.specs.FileTree.{Path}
use Rattle.effect_sets.specs.Members.{Lists, members, sets_of}
use Rattle.commuting_parts.specs.Prints.{AreApartIn}
use Rattle.commuting_parts.proofs.FolderLaws.{folders_swap}
use Rattle.commuting_parts.proofs.folders.folders_behind.Goals as goal

pub returns : goal.returns
returns c es fs divided divided_too rests =
    let Apart : BTreeSet Path → Lists → Lists → Type 0 = λ folders x y. AreApartIn (members folders) (sets_of x) (sets_of y) in
    let Sure : BTreeSet Path → Lists → Type 0 = λ sure x. sure.keys ≡ x.sure in
    let left_made = c.get-left_made.ensures in
    let right_made = c.get-right_made.ensures in
    let left_rest = c.get-left_rest.ensures in
    let right_rest = c.get-right_rest.ensures in
    folders_swap c.prints.ensures.commute c.prints.ensures.makes c.args.folders.now c.in_ok-after_left.after_left c.in_ok-after_right.after_right c.in_ok-behind.behind
    es fs c.args.left.now c.args.right.now divided divided_too
    (subst₂ (Apart c.args.folders.now) left_made right_made (c.are_apart.ensures c.if-not-are_apart.false))
    (subst₂ (Apart c.in_ok-after_left.after_left) left_rest right_made (c.are_apart-2.ensures c.if-not-are_apart-2.false))
    (subst₂ (Apart c.in_ok-after_right.after_right) right_rest left_made (c.are_apart-3.ensures c.if-not-are_apart-3.false))
    c.sure.result.now c.sure-2.result.now c.sure-3.result.now
    (subst (Sure c.sure.result.now) left_made c.sure.ensures) (subst (Sure c.sure-2.result.now) right_made c.sure-2.ensures)
    (subst (Sure c.sure-3.result.now) right_made c.sure-3.ensures)
    c.in_ok-after_left.ensures c.in_ok-after_right.ensures c.in_ok-behind.ensures rests
