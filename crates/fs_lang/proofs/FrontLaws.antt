-- The tests of paths mean what they say.
use Rattle.std.proofs.Common.{◌≡◌, ◌≢◌, ◌↔◌, ◌<◌, arith, length, length-append, Bool, true, false, not, ◌&&◌, List, [], ◌∷◌, ◌++◌, refl, sym, ap, ◌∙◌}
use Rattle.std.proofs.lemmas.List.{append-nil}
use Rattle.std.specs.List.{AllByRecursion}
use Rattle.std.specs.Str.{bytes_eq}
use Rattle.std.proofs.lemmas.Slice.Eq.{bytes_eq-Decides}
use Rattle.fs_semantics.specs.FileTree.{Path}
use Rattle.fs_semantics.specs.Disjoint.{IsAncestor, IsDisjointFrom, AreDisjoint}
use Rattle.fs_lang.specs.Fronts.{is_front, is_disjoint, is_disjoint_from_all, are_disjoint}
use Rattle.std.proofs.lemmas.Bool.{and_parts, and_from}
use Rattle.fs_semantics.proofs.ConstructLaws.{not_false}

-- a path that is told to begin another does so
pub front_of : (p q : Path) → is_front p q ≡ true → (more : Path) × (q ≡ p ++ more)
front_of [] q h = (q, refl)
front_of (s ∷ p) [] h = cc
front_of (s ∷ p) (r ∷ q) h =
    let two = and_parts (bytes_eq s r) (is_front p q) h in
    let rest = front_of p q two.1 in
    let same : s ≡ r = (bytes_eq-Decides s r).0 two.0 in
    (rest.0, ap (λ t. t ∷ q) (sym same) ∙ ap (λ t. s ∷ t) rest.1)

-- and a path that begins another is told to
pub front_append : (p more : Path) → is_front p (p ++ more) ≡ true
front_append [] more = refl
front_append (s ∷ p) more = and_from _ _ ((bytes_eq-Decides s s).1 refl) (front_append p more)

-- the test is true exactly where the paths are disjoint
pub disjoint_found : (p q : Path) → is_disjoint p q ≡ true → IsDisjointFrom p q
disjoint_found p q h =
    let two = and_parts (not (is_front p q)) (not (is_front q p)) h in
    record {
      differ = λ e. not_false (is_front p q) two.0 (ap (is_front p) (sym e ∙ sym (append-nil p)) ∙ front_append p []);
      not_above = λ a. not_false (is_front p q) two.0 (ap (is_front p) a.2 ∙ front_append p a.0);
      not_below = λ a. not_false (is_front q p) two.1 (ap (is_front q) a.2 ∙ front_append q a.0);
    }

-- of two paths that differ, one that isn't above the other isn't told to begin it
no_front : (p q : Path) → p ≢ q → (IsAncestor p q → ⊥) → (b : Bool) → is_front p q ≡ b → not b ≡ true
no_front p q differ none false e = refl
no_front p q differ none true e = let rest = front_of p q e in absurd (longer rest.0 rest.1)
  where
    longer : (more : Path) → q ≡ p ++ more → ⊥
    longer [] e = differ (sym (e ∙ append-nil p))
    longer (s ∷ more) e = none (s ∷ more, (λ k. cc), e)

-- disjoint paths are told to be so
pub disjoint_again : (p q : Path) → IsDisjointFrom p q → is_disjoint p q ≡ true
disjoint_again p q a = and_from _ _ (no_front p q a.differ a.not_above _ refl) (no_front q p (λ e. a.differ (sym e)) a.not_below _ refl)

-- a path that is told to be disjoint from all of these is so
all_found : (p : Path) (qs : List Path) → is_disjoint_from_all p qs ≡ true → AllByRecursion (IsDisjointFrom p) qs
all_found p [] h = tt
all_found p (q ∷ qs) h = let two = and_parts (is_disjoint p q) (is_disjoint_from_all p qs) h in (disjoint_found p q two.0, all_found p qs two.1)

-- and one that is so is told to be
all_again : (p : Path) (qs : List Path) → AllByRecursion (IsDisjointFrom p) qs → is_disjoint_from_all p qs ≡ true
all_again p [] a = refl
all_again p (q ∷ qs) a = and_from _ _ (disjoint_again p q a.0) (all_again p qs a.1)

-- paths that are told to be disjoint are so
pub are_disjoint_found : (ps : List Path) → are_disjoint ps ≡ true → AreDisjoint ps
are_disjoint_found [] h = tt
are_disjoint_found (p ∷ ps) h = let two = and_parts (is_disjoint_from_all p ps) (are_disjoint ps) h in (all_found p ps two.0, are_disjoint_found ps two.1)

-- and paths that are so are told to be
pub are_disjoint_again : (ps : List Path) → AreDisjoint ps → are_disjoint ps ≡ true
are_disjoint_again [] a = refl
are_disjoint_again (p ∷ ps) a = and_from _ _ (all_again p ps a.0) (are_disjoint_again ps a.1)

-- a shorter path that is told to begin another is above it
longer_front : (p q : Path) → length p < length q → is_front p q ≡ true → IsAncestor p q
longer_front p q l h =
    let rest = front_of p q h in
    (rest.0, (λ e. let same : length q ≡ length p = ap length (rest.1 ∙ ap (λ m. p ++ m) e ∙ append-nil p) in absurd (omega arith)), rest.1)

-- a list that isn't empty has a length
some_length : (more : Path) → more ≢ [] → 0 < length more
some_length [] h = absurd (h refl)
some_length (s ∷ more) h = omega arith

-- a path above another is shorter, and is told to begin it
front_longer : (p q : Path) → IsAncestor p q → (length p < length q) × (is_front p q ≡ true)
front_longer p q a =
    (omega (arith, ap length a.2, length-append p a.0, some_length a.0 a.1), ap (is_front p) a.2 ∙ front_append p a.0)

-- a path is above another where it is shorter and begins it
pub ancestor : (p q : Path) → ((length p < length q) × (is_front p q ≡ true)) ↔ IsAncestor p q
ancestor p q = ((λ h. longer_front p q h.0 h.1), front_longer p q)
