-- Tests of what stands at a path.
use Rattle.std.proofs.Common.{◌≡◌, ℕ, ◌+◌, ◌==◌, Bool, true, false, List, [], ◌∷◌, ◌++◌, length, nat_eq, IsTrue, refl, sym, ap, subst, ◌∙◌, arith, eqb-true, eq-eqb}
use Rattle.std.specs.FinMap as finite
use Rattle.fs_semantics.specs.FileTree.{Path, Tree, parent, is_dir, is_none, is_folder_entry, is_no_entry}
use Rattle.fs_semantics.specs.Disjoint.{IsAncestor}
use Rattle.fs_semantics.proofs.Trees.{parent_of_child, parent_and_last, parent_is_above}

-- the root is a folder
pub dir_root : (t : Tree) (p : Path) → p ≡ [] → is_dir t p ≡ true
dir_root t p e = ap (is_dir t) e

-- another path is one where its entry is
pub dir_below : (t : Tree) (p : Path) → (p ≡ [] → ⊥) → is_dir t p ≡ is_folder_entry (finite.get t p)
dir_below t [] h = absurd (h refl)
dir_below t (s ∷ p) h = refl

-- the root isn't free
pub none_root : (t : Tree) (p : Path) → p ≡ [] → is_none t p ≡ false
none_root t p e = ap (is_none t) e

-- another path is free where it has no entry
pub none_below : (t : Tree) (p : Path) → (p ≡ [] → ⊥) → is_none t p ≡ is_no_entry (finite.get t p)
none_below t [] h = absurd (h refl)
none_below t (s ∷ p) h = refl

-- ---- children

-- a path that isn't told to be empty isn't the root
pub not_root : (xs q : Path) (b : Bool) → xs ≡ q → b ≡ (length xs == 0) → b ≡ false → q ≡ [] → ⊥
not_root xs q b same is off none =
    let zero_ : length xs ≡ 0 = ap length (same ∙ none) in
    let on : (length xs == 0) ≡ true = ap (λ n. n == 0) zero_ in
    let clash : ◌≡◌ {A = Bool} true false = sym on ∙ sym is ∙ off in cc

-- two paths joined are as long as both together
long : (p more : Path) → length (p ++ more) ≡ length p + length more
long [] more = omega arith
long (s ∷ p) more = let rest = long p more in omega (arith, rest)

-- a path of length one is one segment
one_long : (more : Path) → length more ≡ 1 → (s : List ℕ) × (more ≡ s ∷ [])
one_long [] h = absurd (omega (arith, h))
one_long (s ∷ []) h = (s, refl)
one_long (s ∷ r ∷ more) h = absurd (omega (arith, h))

-- what goes on by one segment is a child
pub is_next : (p q xs ys : Path) → xs ≡ q → ys ≡ p → IsAncestor p q → IsTrue (nat_eq (length xs) (length ys + 1)) → parent q ≡ p
is_next p q xs ys x y above k =
    let sum = long p above.0 in
    let whole = ap length above.2 in
    let left = ap length x in
    let right = ap length y in
    let same = eqb-true (length xs) (length ys + 1) k in
    let one = one_long above.0 (omega (arith, sum, whole, left, right, same)) in
    ap parent (above.2 ∙ ap (λ m. p ++ m) one.1) ∙ parent_of_child p one.0

-- and a child does so
pub was_next : (p q xs ys : Path) → xs ≡ q → ys ≡ p → (q ≡ [] → ⊥) → parent q ≡ p → IsTrue (nat_eq (length xs) (length ys + 1))
was_next p q xs ys x y there is =
    let last = parent_and_last q there in
    let sum = long (parent q) (last.0 ∷ []) in
    let whole = ap length last.1 in
    let left = ap length x in
    let right = ap length y ∙ ap length (sym is) in
    eq-eqb (length xs) (length ys + 1) (omega (arith, sum, whole, left, right))

-- a path lies below its parent
pub is_above : (p q : Path) → (q ≡ [] → ⊥) → parent q ≡ p → IsAncestor p q
is_above p q there is = subst (λ r. IsAncestor r q) is (parent_is_above q there)
