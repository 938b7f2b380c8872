use Rattle.std.proofs.Common.{◌≡◌, Bool, ◌&&◌, ◌||◌, subst, subst₂, sym}
use Rattle.std.specs.Prelude.{◌↔◌, IsTrue, false}
use Rattle.fs_semantics.specs.FileTree.{Path, is_among}
use Rattle.effect_sets.specs.Members.{Lists, members}
use Rattle.effect_sets.proofs.ClearLaws.{clear_of_three}
use Rattle.effect_sets.proofs.footprints.writes_are_clear.Goals as goal

-- it tells whether nothing that the first writes is read, written or made sure of by the second
abbrev Clear : Bool → Lists → Lists → Type 0
Clear b f g = IsTrue b ↔ ((q : Path) → IsTrue (is_among q f.writes) → (is_among q g.reads || is_among q g.writes || is_among q g.folders) ≡ false)

pub returns : goal.returns
returns c =
    let f = c.f.inside.found in
    let g = c.g.inside.found in
    subst (λ b. Clear b c.args.f.now c.args.g.now) (sym c.all_three.ensures)
    (subst₂ (λ x y. Clear (c.is_disjoint-of_reads.result && c.is_disjoint-of_writes.result && c.is_disjoint-of_folders.result) x y) c.f.view_is c.g.view_is
    (clear_of_three (members f.writes) (members g.reads) (members g.writes) (members g.folders) _ _ _ c.is_disjoint-of_reads.ensures c.is_disjoint-of_writes.ensures c.is_disjoint-of_folders.ensures))
