-- The marks of edits tell the file and the resource.
use Rattle.std.proofs.Common.{◌≡◌, ℕ, List, [], ◌∷◌, codes}
use Rattle.std.specs.List.{AllByRecursion}
use Rattle.fs_semantics.specs.FileTree.{Path, IsSegment}
use Rattle.fs_lang.specs.PathText.{path_text}
use Rattle.fs_lang.specs.Names.{segment_of}
use Rattle.pp_value.specs.Shown.{shown_ref}
use Rattle.catalog_semantics.specs.declared.catalog.Resource.{Resource}
use Rattle.pkg_listing.proofs.SetLaws.{SameText}
use Rattle.model_semantics.specs.Words.{mark_path}
use Rattle.assumed_models.specs.Behaviors.{edit_mark}

-- marks of edits with equal parts have these equal
two : (a b c d : List ℕ) → ◌≡◌ {A = Path} (mark_path (codes "edit") (a ∷ b ∷ [])) (mark_path (codes "edit") (c ∷ d ∷ [])) → (a ≡ c) × (b ≡ d)
two a b c d h = (cc, cc)

-- the same mark of an edit is one of the same file and of the same resource
pub marks_tell : SameText → ((a b : List ℕ) → segment_of a ≡ segment_of b → a ≡ b) → (r s : Resource) (p q : Path) → AllByRecursion IsSegment p → AllByRecursion IsSegment q → edit_mark r p ≡ edit_mark s q
    → (p ≡ q) × (shown_ref r.id ≡ shown_ref s.id)
marks_tell texts names r s p q is_p is_q h =
    let parts = two (segment_of (path_text p)) (segment_of (shown_ref r.id)) (segment_of (path_text q)) (segment_of (shown_ref s.id)) h in
    (texts p q is_p is_q (names (path_text p) (path_text q) parts.0), names (shown_ref r.id) (shown_ref s.id) parts.1)
