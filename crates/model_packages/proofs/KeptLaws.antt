-- Paths that are kept, one list after another.
use Rattle.std.proofs.Common.{◌≡◌, ℕ, suc, ◌+◌, ◌<◌, List, [], ◌∷◌, ◌++◌, length, get_or, take, drop, add-one, refl, sym, ap, ◌∙◌}
use Rattle.std.specs.List.{flat_map}
use Rattle.std.proofs.Math.Seq.{drop-cons}
use Rattle.fs_semantics.specs.FileTree.{Path}
use Rattle.pkg_listing.specs.Packages.{with_path}
use Rattle.model_semantics.specs.Words.{fronts, kept}

-- two lists are kept one after the other
pub kept_both : (seen ps qs : List Path) → kept seen (ps ++ qs) ≡ kept (kept seen ps) qs
kept_both seen [] qs = refl
kept_both seen (p ∷ ps) qs = kept_both (with_path seen p) ps qs

-- with one more front of a path, one more is kept
pub next_front : (seen now new : List Path) (n : ℕ) (p front : Path) → now ≡ kept seen (fronts n p) → front ≡ take (n + 1) p → new ≡ with_path now front → new ≡ kept seen (fronts (n + 1) p)
next_front seen now new n p front is front_is added =
    added ∙ (λ i. with_path (is i) ((front_is ∙ ap (λ k. take k p) (add-one n)) i)) ∙ sym (kept_both seen (fronts n p) (take (suc n) p ∷ [])) ∙ ap (λ k. kept seen (fronts k p)) (sym (add-one n))

-- three lists, kept one after the other, are kept as one
pub kept_three : (a b c first second third : List Path) → first ≡ kept [] a → second ≡ kept first b → third ≡ kept second c → third ≡ kept [] (a ++ (b ++ c))
kept_three a b c first second third e f g =
    g ∙ ap (λ s. kept s c) (f ∙ ap (λ s. kept s b) e) ∙ sym (kept_both (kept [] a) b c) ∙ sym (kept_both [] a (b ++ c))

-- with the first part kept, what was kept and what is left are the same whole
pub kept_first : (seen now new ps rest whole : List Path) → kept now (ps ++ rest) ≡ whole → new ≡ kept now ps → kept new rest ≡ whole
kept_first seen now new ps rest whole h e = ap (λ s. kept s rest) e ∙ sym (kept_both now ps rest) ∙ h

-- and so it is with one more path at the end
pub kept_last : (seen now new ps : List Path) (p : Path) → now ≡ kept seen ps → new ≡ with_path now p → new ≡ kept seen (ps ++ p ∷ [])
kept_last seen now new ps p h e = e ∙ ap (λ s. with_path s p) h ∙ sym (kept_both seen ps (p ∷ []))

-- the lists of the items from a place on
pub files_from : {X : Type 0} (f : X → List Path) (xs : List X) (i : ℕ) (x : X) → i < length xs → x ≡ get_or xs i x → flat_map f (drop i xs) ≡ f x ++ flat_map f (drop (i + 1) xs)
files_from f xs i x inside is = ap (flat_map f) (drop-cons xs i x inside ∙ (λ k. sym is k ∷ drop (sym (add-one i) k) xs))
