-- Texts that spell paths, and those that spell none.
use Rattle.std.proofs.Common.{◌≡◌, ◌↔◌, ℕ, List, Option, Some, None, option_map, refl, ap, sym, ◌∙◌, IsUtf8}
use Rattle.fs_semantics.specs.FileTree.{Path}
use Rattle.fs_lang.specs.PathText.{IsPathText, path_text}
use Rattle.fs_lang.specs.Reading.{path_in}
use Rattle.fs_lang.proofs.Bytes.{utf8_bytes}
use Rattle.fs_lang.proofs.PathLaws.{path_found, path_again}
use Rattle.fs_lang.proofs.TextLaws.{same_text}
use Rattle.compiled_relations.specs.Finding.{written}

-- a text that spells no path has none
pub unspelled : (text : List ℕ) → IsUtf8 text → ((p : Path) → IsPathText text p → ⊥) → None ≡ path_in text
unspelled text utf n = at (path_in text) refl
  where
    at : (o : Option Path) → path_in text ≡ o → None ≡ o
    at None e = refl
    at (Some p) e = absurd (n p (path_found text p (utf8_bytes text utf) e))

-- texts of paths are written alike exactly where they spell one path
pub alike : (a b : List ℕ) (p q : Path) → IsPathText a p → IsPathText b q → (written a ≡ written b) ↔ (p ≡ q)
alike a b p q h k =
    let from : written a ≡ Some (path_text p) = ap (option_map path_text) (path_again a p h) in
    let to : written b ≡ Some (path_text q) = ap (option_map path_text) (path_again b q k) in
    ((λ same. same_text p q h.segments k.segments (one_some (path_text p) (path_text q) (sym from ∙ (same ∙ to)))), (λ same. from ∙ (ap (λ r. Some (path_text r)) same ∙ sym to)))
  where
    one_some : (x y : List ℕ) → ◌≡◌ {A = Option (List ℕ)} (Some x) (Some y) → x ≡ y
    one_some x y e = cc
