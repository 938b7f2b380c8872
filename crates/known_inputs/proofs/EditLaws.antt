-- A path among those that resources edit.
use Rattle.std.proofs.Common.{◌≡◌, ◌||◌, ◌++◌, ◌+◌, ℕ, List, [], ◌∷◌, map, refl, sym, ap, ◌∙◌}
use Rattle.std.proofs.Math.Bool.{or_assoc}
use Rattle.fs_semantics.specs.FileTree.{Path, path_eq, is_among}
use Rattle.assumed_text.specs.declared.assumed.Assumption.{Assumption}
use Rattle.compiled_text.specs.declared.catalog.CompiledResource.{CompiledResource}
use Rattle.known_inputs.specs.Inputs.{edits_at, edits_from}

-- it is one of the first, or one of the second
among_both : (read : Path → Path) (p : Path) (paths others : List Path) → is_among p (map read (paths ++ others)) ≡ (is_among p (map read paths) || is_among p (map read others))
among_both read p [] others = refl
among_both read p (q ∷ paths) others = ap (λ b. path_eq p (read q) || b) (among_both read p paths others) ∙ sym (or_assoc (path_eq p (read q)) _ _)

-- what the first of these edits, or what the others edit
pub edited_by_first : (read : Path → Path) (p : Path) (all : List CompiledResource) (rows : List Assumption) (place : ℕ) (r : CompiledResource) (resources : List CompiledResource)
    → is_among p (map read (edits_from all rows place (r ∷ resources))) ≡ (is_among p (map read (edits_at all rows place r)) || is_among p (map read (edits_from all rows (place + 1) resources)))
edited_by_first read p all rows place r resources = among_both read p (edits_at all rows place r) (edits_from all rows (place + 1) resources)
