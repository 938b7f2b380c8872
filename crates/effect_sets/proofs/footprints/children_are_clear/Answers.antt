use Rattle.std.proofs.Common.{◌≡◌, Bool, ◌||◌, subst₂}
use Rattle.std.specs.Prelude.{◌↔◌, IsTrue, false}
use Rattle.fs_semantics.specs.FileTree.{Path, parent, is_among}
use Rattle.effect_sets.specs.Members.{Lists, members}
use Rattle.effect_sets.proofs.ClearLaws.{clear_of_children}
use Rattle.effect_sets.proofs.footprints.children_are_clear.Goals as goal

-- it tells whether nothing that the first changes lies in a path whose children matter to the second
abbrev Clear : Bool → Lists → Lists → Type 0
Clear b f g = IsTrue b ↔ ((q : Path) → IsTrue (is_among q f.writes || is_among q f.folders) → is_among (parent q) g.children ≡ false)

pub returns : goal.returns
returns c =
    let f = c.f.inside in
    let g = c.g.inside in
    let law = clear_of_children (members f.parents) (members g.found.children) f.found.writes.keys f.found.folders.keys c.f.invariant in
    subst₂ (λ x y. Clear c.is_disjoint.result x y) c.f.view_is c.g.view_is
    ((λ h. law.0 (c.is_disjoint.ensures.0 h)), (λ h. c.is_disjoint.ensures.1 (law.1 h)))
