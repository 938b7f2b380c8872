-- The texts of paths as they are written.
use Rattle.std.proofs.Common.{◌≡◌, ◌≢◌, ℕ, ◌≤◌, List, [], ◌∷◌, ◌++◌, length, Option, Some, refl, sym, ap, ◌∙◌, append_assoc}
use Rattle.std.specs.List.{AllByRecursion}
use Rattle.std.specs.Prelude.{codes}
use Rattle.rh_base.specs.declared.limits.TheConstants.{PATH_BYTES, PATH_SEGMENTS}
use Rattle.fs_semantics.specs.FileTree.{Path, IsSegment, parent}
use Rattle.fs_semantics.proofs.Trees.{parent_and_last}
use Rattle.fs_lang.specs.PathText.{Segments, IsPathText, spelled, path_text}
use Rattle.fs_lang.specs.Reading.{pieces, segments_of}
use Rattle.fs_lang.proofs.PathLaws.{segments_again, path_again}

-- what is written of a path's segments spells the path
spelled_is : (p : Path) → Segments p (spelled p)
spelled_is [] = tt
spelled_is (s ∷ p) = (codes "/", spelled p, (λ e. cc), (refl, tt), spelled_is p, refl)

-- the text that is written of a path spells it
written : (p : Path) → Segments p (path_text p)
written [] = (refl, tt)
written (s ∷ p) = spelled_is (s ∷ p)

-- and isn't empty
written_some : (p : Path) → path_text p ≢ []
written_some [] e = cc
written_some (s ∷ p) e = cc

-- what is there twice is one
same_some : (p q : Path) → ◌≡◌ {A = Option Path} (Some p) (Some q) → p ≡ q
same_some p q e = cc

-- paths of segments with the same text are the same
pub same_text : (p q : Path) → AllByRecursion IsSegment p → AllByRecursion IsSegment q → path_text p ≡ path_text q → p ≡ q
same_text p q hp hq e =
    same_some p q (sym (segments_again p (path_text p) (written p) hp) ∙ ap (λ t. segments_of (pieces t)) e ∙ segments_again q (path_text q) (written q) hq)

-- a text is that of one path only
pub one_path : (text : List ℕ) (p q : Path) → IsPathText text p → IsPathText text q → p ≡ q
one_path text p q a b = same_some p q (sym (path_again text p a) ∙ path_again text q b)

-- what is written of a path within the limits is a text of it
pub is_text : (p : Path) → AllByRecursion IsSegment p → length (path_text p) ≤ PATH_BYTES → length p ≤ PATH_SEGMENTS → IsPathText (path_text p) p
is_text p proper bytes depth = record { not_empty = written_some p; spelled = written p; segments = proper; bytes = bytes; depth = depth }

-- the segments of two paths joined are written one after the other
spelled_append : (p q : Path) → spelled (p ++ q) ≡ spelled p ++ spelled q
spelled_append [] q = refl
spelled_append (s ∷ p) q = ap (λ t. codes "/" ++ (s ++ t)) (spelled_append p q) ∙ ap (λ t. codes "/" ++ t) (sym (append_assoc s (spelled p) (spelled q)))

-- a path but the root is written as its segments
not_root : (p : Path) → p ≢ [] → path_text p ≡ spelled p
not_root [] h = absurd (h refl)
not_root (s ∷ p) h = refl

-- a path with a segment more isn't the root
longer : (p : Path) (s : List ℕ) → p ++ s ∷ [] ≢ []
longer [] s e = cc
longer (r ∷ p) s e = cc

-- the text of a path begins with that of its parent and has more, where the parent isn't the root
pub text_below : (p : Path) → parent p ≢ [] → (more : List ℕ) × (more ≢ []) × (path_text p ≡ path_text (parent p) ++ more)
text_below p h =
    let last = parent_and_last p (λ e. h (ap parent e)) in (
      codes "/" ++ (last.0 ++ []),
      (λ e. cc),
      ap path_text last.1 ∙ not_root (parent p ++ last.0 ∷ []) (longer (parent p) last.0) ∙ spelled_append (parent p) (last.0 ∷ [])
          ∙ ap (λ t. t ++ spelled (last.0 ∷ [])) (sym (not_root (parent p) h)),
    )
