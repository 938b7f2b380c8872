use Rattle.std.proofs.Common.{◌≡◌, Bool, subst₂}
use Rattle.std.specs.Prelude.{◌↔◌, IsTrue, false}
use Rattle.fs_semantics.specs.FileTree.{Path, is_among}
use Rattle.effect_sets.specs.Members.{Lists}
use Rattle.effect_sets.proofs.footprints.folders_are_clear.Goals as goal

-- it tells whether no folder that the first makes sure of is read by the second
abbrev Clear : Bool → Lists → Lists → Type 0
Clear b f g = IsTrue b ↔ ((q : Path) → IsTrue (is_among q f.folders) → is_among q g.reads ≡ false)

pub returns : goal.returns
returns c = subst₂ (λ x y. Clear c.is_disjoint.result x y) c.f.view_is c.g.view_is c.is_disjoint.ensures
