-- What a table with a path or a content more has.
use Rattle.std.proofs.Common.{◌≡◌, ◌⊎◌, inl, inr, ℕ, List, [], ◌∷◌, length, slice_get, Option, Some, None, refl}
use Rattle.fs_semantics.specs.FileTree.{Path}
use Rattle.fs_interpreter.specs.Places.{Listed, HasPath, HasContent, Keeps, place_in, content_place, or_added, with_path, with_content}
use Rattle.fs_interpreter.proofs.SearchLaws.{place_there, content_there}
use Rattle.fs_interpreter.proofs.KeptLists.{get_front}
use Rattle.rh_base.proofs.Lists.{get_last}

-- what stands in a list stands there still when one is added that wasn't there
kept : {X : Type 0} (o : Option ℕ) (xs : List X) (x y : X) (i : ℕ) → slice_get xs i ≡ Some y → slice_get (or_added o xs x) i ≡ Some y
kept None xs x y i h = get_front xs (x ∷ []) y i h
kept (Some j) xs x y i h = h

-- a table with a path has that path
pub path_added : (table : Listed) (p : Path) → HasPath (with_path table p) p
path_added table p = elim (place_in table.paths p) as (λ o. place_in table.paths p ≡ o → (p ≡ []) ⊎ ((i : ℕ) × (slice_get (or_added o table.paths p) i ≡ Some p))) [
  | None ↦ λ e. inr (length table.paths, get_last table.paths p)
  | Some j ↦ λ e. inr (j, place_there table.paths p j e)
] refl

-- and it has all that the table had
pub keeps_path : (table : Listed) (p : Path) → Keeps table (with_path table p)
keeps_path table p = record {
  paths = λ q h. elim h [
    | inl top ↦ inl top
    | inr there ↦ inr (there.0, kept (place_in table.paths p) table.paths p q there.0 there.1)
  ];
  contents = λ c h. h;
}

-- a table with a content has that content
pub content_added : (table : Listed) (c : List ℕ) → HasContent (with_content table c) c
content_added table c = elim (content_place table.contents c) as (λ o. content_place table.contents c ≡ o → (i : ℕ) × (slice_get (or_added o table.contents c) i ≡ Some c)) [
  | None ↦ λ e. (length table.contents, get_last table.contents c)
  | Some j ↦ λ e. (j, content_there table.contents c j e)
] refl

-- and it has all that the table had
pub keeps_content : (table : Listed) (c : List ℕ) → Keeps table (with_content table c)
keeps_content table c = record {
  paths = λ p h. h;
  contents = λ d h. (h.0, kept (content_place table.contents c) table.contents c d h.0 h.1);
}
