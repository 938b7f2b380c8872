-- Whether a map from paths is a file tree.
use Rattle.std.proofs.Common.{◌≡◌, ◌≢◌, inl, inr, ℕ, ◌<◌, true, List, [], ◌∷◌, Some, None, refl, sym, subst, ◌∙◌}
use Rattle.std.proofs.lemmas.Bool.{cases_eq}
use Rattle.std.specs.Prelude.{Option, IsTrue, is_some}
use Rattle.std.specs.List.{AllByRecursion}
use Rattle.std.specs.FinMap as map
use Rattle.std.specs.FinMap.{contains_key-keys}
use Rattle.fs_semantics.specs.FileTree.{Segment, Path, IsBytes, IsSegment, path_eq, parent, is_dir, Entry, Folder, File, Link, HasText, Tree, IsTree}
use Rattle.fs_semantics.proofs.Trees.{path_eq_refl, path_eq_same}
use Rattle.finite_domain.specs.Domains.{text_eq}
use Rattle.finite_domain.proofs.Texts.{text_same, text_itself}
use Rattle.finite_search.proofs.Deciding.{Decided, decided_as, decided_both, decided_not, decided_true, decided_below, decided_all, all_found, found_all}

-- whether two texts are the same
decided_text : (c d : List ℕ) → Decided (c ≡ d)
decided_text c d = decided_as (text_same c d) (text_itself c d) (decided_true (text_eq c d))

-- whether a text is of bytes
decided_bytes : (c : List ℕ) → Decided (IsBytes c)
decided_bytes c = decided_all (λ b. b < 256) (λ b. decided_below b 256) c

-- whether a text is a segment
decided_segment : (s : Segment) → Decided (IsSegment s)
decided_segment s =
    decided_as {P = IsBytes s × ((s ≢ []) × (AllByRecursion (λ b. b ≢ 47) s × (AllByRecursion (λ b. b ≢ 0) s × ((s ≢ 46 ∷ []) × (s ≢ 46 ∷ 46 ∷ [])))))}
    (λ h. record { bytes = h.0; nonempty = h.1.0; no_slash = h.1.1.0; no_zero = h.1.1.1.0; not_dot = h.1.1.1.1.0; not_dots = h.1.1.1.1.1 })
    (λ s. (s.bytes, (s.nonempty, (s.no_slash, (s.no_zero, (s.not_dot, s.not_dots))))))
    (decided_both (decided_bytes s) (decided_both (decided_not (decided_text s []))
    (decided_both (decided_all (λ b. b ≢ 47) (λ b. decided_not (cases_eq b 47)) s) (decided_both (decided_all (λ b. b ≢ 0) (λ b. decided_not (cases_eq b 0)) s)
    (decided_both (decided_not (decided_text s (46 ∷ []))) (decided_not (decided_text s (46 ∷ 46 ∷ []))))))))

-- whether nothing stands there
decided_none : (x : Option Entry) → Decided (x ≡ None)
decided_none None = inl refl
decided_none (Some e) = inr (λ h. cc)

-- whether the content or target of an entry is of bytes
decided_text_bytes : (x : Option Entry) → Decided ((text : List ℕ) → HasText x text → IsBytes text)
decided_text_bytes None = inl (λ text h. absurd h)
decided_text_bytes (Some Folder) = inl (λ text h. absurd h)
decided_text_bytes (Some (File c)) = decided_as (λ b text e. subst IsBytes (sym e) b) (λ f. f c refl) (decided_bytes c)
decided_text_bytes (Some (Link c)) = decided_as (λ b text e. subst IsBytes (sym e) b) (λ f. f c refl) (decided_bytes c)

-- where a text is, an entry is
pub text_stands : (x : Option Entry) (text : List ℕ) → HasText x text → is_some x ≡ true
text_stands None text h = absurd h
text_stands (Some e) text h = refl

-- whether all paths with an entry have what is decided of each
decided_keys : (t : Tree) (P : Path → Type 0) → ((p : Path) → Decided (P p)) → Decided ((p : Path) → IsTrue (map.contains_key t p) → P p)
decided_keys t P d = decided_as
    (λ h p k. all_found path_eq path_eq_same P (map.keys t) h p (sym (contains_key-keys t p) ∙ k))
    (λ f. found_all path_eq path_eq_refl P (map.keys t) (λ p k. f p (contains_key-keys t p ∙ k)))
    (decided_all P d (map.keys t))

-- whether the map is a file tree
pub decided_tree : (t : Tree) → Decided (IsTree t)
decided_tree t =
    let Texts : Path → Type 0 = λ p. (text : List ℕ) → HasText (map.get t p) text → IsBytes text in
    decided_as {P = (map.get t [] ≡ None) × (((p : Path) → IsTrue (map.contains_key t p) → AllByRecursion IsSegment p)
    × (((p : Path) → IsTrue (map.contains_key t p) → IsTrue (is_dir t (parent p))) × ((p : Path) → IsTrue (map.contains_key t p) → Texts p)))}
    (λ h. record { no_root = h.0; paths = h.1.0; parents = h.1.1.0; texts = λ p text k. h.1.1.1 p (text_stands (map.get t p) text k) text k })
    (λ s. (s.no_root, (s.paths, (s.parents, (λ p k. s.texts p)))))
    (decided_both (decided_none (map.get t [])) (decided_both (decided_keys t (AllByRecursion IsSegment) (decided_all IsSegment decided_segment))
    (decided_both (decided_keys t (λ p. IsTrue (is_dir t (parent p))) (λ p. decided_true (is_dir t (parent p)))) (decided_keys t Texts (λ p. decided_text_bytes (map.get t p))))))
