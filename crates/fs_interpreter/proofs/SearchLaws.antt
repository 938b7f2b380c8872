-- Where paths stand in a table.
use Rattle.std.proofs.Common.{◌≡◌, ◌≢◌, inl, inr, ℕ, zero, suc, ◌+◌, ◌<◌, ◌≤◌, true, false, cond, List, [], ◌∷◌, length, Option, Some, None, refl, sym, ap, subst, ◌∙◌, arith}
use Rattle.std.specs.Prelude.{IfSome, slice_get}
use Rattle.std.specs.List.{AllByRecursion}
use Rattle.std.specs.Ordering.{nat_cmp, is_eq}
use Rattle.std.specs.Cmp.{nat_cmp_total, tied_itself, Equal-is}
use Rattle.std.specs.Cmp.Lexicographic.{slice_cmp}
use Rattle.std.proofs.lemmas.Cmp.{lists_total}
use Rattle.std.specs.FinMap.{nat_cmp-IsAntisymmetric, slice_cmp-IsAntisymmetric}
use Rattle.fs_semantics.specs.FileTree.{Path, path_eq, parent}
use Rattle.fs_semantics.proofs.Trees.{path_eq_same, path_eq_refl, path_eq_other}
use Rattle.fs_interpreter.specs.Places.{Listed, IsTable, one_further, place_in, content_place, children_from, children_in}

-- a place below a count is, one further, below one more
further_below : (n : ℕ) (o : Option ℕ) → IfSome o (λ i. i < n) → IfSome (one_further o) (λ i. i < suc n)
further_below n None h = tt
further_below n (Some i) h = omega arith

-- the place of a path is within the list
pub place_below : (paths : List Path) (p : Path) → IfSome (place_in paths p) (λ i. i < length paths)
place_below [] p = tt
place_below (q ∷ paths) p = elim (path_eq q p) as (λ b. IfSome (cond b (Some 0) (one_further (place_in paths p))) (λ i. i < length (q ∷ paths))) [
  | true ↦ omega arith
  | false ↦ further_below (length paths) (place_in paths p) (place_below paths p)
]

-- what is found at a place is there
pub place_there : (paths : List Path) (p : Path) (i : ℕ) → place_in paths p ≡ Some i → slice_get paths i ≡ Some p
place_there [] p i h = cc
place_there (q ∷ paths) p i h = elim (path_eq q p) as (λ b. path_eq q p ≡ b → cond b (Some 0) (one_further (place_in paths p)) ≡ Some i → slice_get (q ∷ paths) i ≡ Some p) [
  | true ↦ λ e k. let z : 0 ≡ i = cc in subst (λ j. slice_get (q ∷ paths) j ≡ Some p) z (ap Some (path_eq_same q p e))
  | false ↦ λ e k. elim (place_in paths p) as (λ o. place_in paths p ≡ o → one_further o ≡ Some i → slice_get (q ∷ paths) i ≡ Some p) [
    | None ↦ λ f l. cc
    | Some j ↦ λ f l. let z : suc j ≡ i = cc in subst (λ x. slice_get (q ∷ paths) x ≡ Some p) z (place_there paths p j f)
  ] refl k
] refl h

-- where a path isn't found it isn't there
pub place_nowhere : (paths : List Path) (p : Path) → place_in paths p ≡ None → (i : ℕ) → slice_get paths i ≢ Some p
place_nowhere [] p h i e = cc
place_nowhere (q ∷ paths) p h zero e = let same : q ≡ p = cc in
    let found : ◌≡◌ {A = Option ℕ} (Some 0) None = sym (ap (λ b. cond b (Some 0) (one_further (place_in paths p))) (ap (path_eq q) (sym same) ∙ path_eq_refl q)) ∙ h in cc
place_nowhere (q ∷ paths) p h (suc i) e = elim (path_eq q p) as (λ b. cond b (Some 0) (one_further (place_in paths p)) ≡ None → ⊥) [
  | true ↦ λ k. cc
  | false ↦ λ k. elim (place_in paths p) as (λ o. place_in paths p ≡ o → one_further o ≡ None → ⊥) [
    | None ↦ λ f l. place_nowhere paths p f i e
    | Some j ↦ λ f l. cc
  ] refl k
] h

-- a path that is there is found
pub place_found : (paths : List Path) (p : Path) (i : ℕ) → slice_get paths i ≡ Some p → (j : ℕ) × (place_in paths p ≡ Some j)
place_found paths p i h = elim (place_in paths p) as (λ o. place_in paths p ≡ o → (j : ℕ) × (o ≡ Some j)) [
  | None ↦ λ e. absurd (place_nowhere paths p e i h)
  | Some j ↦ λ e. (j, refl)
] refl

-- a path that is the parent of none has no children
no_children_from : (k : ℕ) (paths : List Path) (p : Path) → ((i : ℕ) (q : Path) → slice_get paths i ≡ Some q → parent q ≢ p) → children_from k paths p ≡ []
no_children_from k [] p h = refl
no_children_from k (q ∷ paths) p h = ap (λ b. cond b (k ∷ children_from (suc k) paths p) (children_from (suc k) paths p)) (path_eq_other (parent q) p (h 0 q refl))
    ∙ no_children_from (suc k) paths p (λ i r e. h (suc i) r e)

-- what is neither the root nor in the table has no children there
pub no_children : (table : Listed) (p : Path) → IsTable table → p ≢ [] → place_in table.paths p ≡ None → [] ≡ children_in table.paths p
no_children table p is n none = sym (no_children_from 0 table.paths p (λ i q e f. elim (is.parents i q e) [
  | inl top ↦ n (sym f ∙ top)
  | inr there ↦ place_nowhere table.paths p none there.0 (there.1 ∙ ap Some f)
]))

-- numbers below a bound are below each greater one
within : (k m n : ℕ) (places : List ℕ) → m ≤ n → AllByRecursion (λ i. i < m) places → AllByRecursion (λ i. i < n) places
within k m n [] h all = tt
within k m n (i ∷ places) h all = (omega (arith, all.0), within k m n places h all.1)

-- the places of children are below the end of the list that is numbered
children_from_below : (k : ℕ) (paths : List Path) (p : Path) → AllByRecursion (λ i. i < k + length paths) (children_from k paths p)
children_from_below k [] p = tt
children_from_below k (q ∷ paths) p =
    let more = within 0 (suc k + length paths) (k + length (q ∷ paths)) (children_from (suc k) paths p) (omega arith) (children_from_below (suc k) paths p) in
    elim (path_eq (parent q) p) as (λ b. AllByRecursion (λ i. i < k + length (q ∷ paths)) (cond b (k ∷ children_from (suc k) paths p) (children_from (suc k) paths p))) [
      | true ↦ (omega arith, more)
      | false ↦ more
    ]

-- the places of children are within the list
pub children_below : (paths : List Path) (p : Path) → AllByRecursion (λ i. i < length paths) (children_in paths p)
children_below paths p = within 0 (0 + length paths) (length paths) (children_in paths p) (omega arith) (children_from_below 0 paths p)

-- ---- contents

-- texts that compare equal are equal
bytes_same : (c d : List ℕ) → is_eq (slice_cmp nat_cmp c d) ≡ true → c ≡ d
bytes_same c d h = slice_cmp-IsAntisymmetric nat_cmp-IsAntisymmetric c d ((Equal-is (slice_cmp nat_cmp c d)).0 h)

-- the content that is found at a place is there
pub content_there : (contents : List (List ℕ)) (c : List ℕ) (i : ℕ) → content_place contents c ≡ Some i → slice_get contents i ≡ Some c
content_there [] c i h = cc
content_there (d ∷ contents) c i h = elim (is_eq (slice_cmp nat_cmp d c)) as (λ b. is_eq (slice_cmp nat_cmp d c) ≡ b → cond b (Some 0) (one_further (content_place contents c)) ≡ Some i → slice_get (d ∷ contents) i ≡ Some c) [
  | true ↦ λ e k. (let z : 0 ≡ i = cc in subst (λ j. slice_get (d ∷ contents) j ≡ Some c) z (ap Some (bytes_same d c e)))
  | false ↦ λ e k. elim (content_place contents c) as (λ o. content_place contents c ≡ o → one_further o ≡ Some i → slice_get (d ∷ contents) i ≡ Some c) [
    | None ↦ λ f l. cc
    | Some j ↦ λ f l. (let z : suc j ≡ i = cc in subst (λ x. slice_get (d ∷ contents) x ≡ Some c) z (content_there contents c j f))
  ] refl k
] refl h

-- and a content that is there is found
pub content_found : (contents : List (List ℕ)) (c : List ℕ) (i : ℕ) → slice_get contents i ≡ Some c → (j : ℕ) × (content_place contents c ≡ Some j)
content_found [] c i h = cc
content_found (d ∷ contents) c zero h = (
  0,
  ap (λ b. cond b (Some 0) (one_further (content_place contents c)))
      (ap (λ (x : Option (List ℕ)). is_eq (slice_cmp nat_cmp (or_empty x) c)) h ∙ ap is_eq (tied_itself (lists_total nat_cmp_total) c)),
)
  where
    or_empty : Option (List ℕ) → List ℕ
    or_empty None = []
    or_empty (Some x) = x
content_found (d ∷ contents) c (suc i) h = let found = content_found contents c i h in elim (is_eq (slice_cmp nat_cmp d c)) as (λ b. (j : ℕ) × (cond b (Some 0) (one_further (content_place contents c)) ≡ Some j)) [
  | true ↦ (0, refl)
  | false ↦ (suc found.0, ap one_further found.1)
]
