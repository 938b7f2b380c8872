-- Paths in order are determined by which they are, and so are the weight and the number of paths of the domain.
use Rattle.std.proofs.Common.{◌≡◌, ◌⊎◌, inl, inr, ℕ, true, false, ◌||◌, ◌*◌, List, [], ◌∷◌, length, Less, Equal, refl, sym, ap, ap₂, subst, ◌∙◌}
use Rattle.std.specs.Prelude.{IsTrue}
use Rattle.std.specs.List.Sorted.{IsStrictlySortedBy}
use Rattle.std.specs.Cmp.{tied_itself}
use Rattle.std.proofs.lemmas.Bool.{cases_Bool, cases_order, or_cases, or_left, false_from_ne_true}
use Rattle.std.proofs.lemmas.Map.Keys.{sorted_head, sorted_tail}
use Rattle.fs_semantics.specs.FileTree.{Path, path_cmp, path_eq, is_among}
use Rattle.fs_semantics.specs.Programs.{Program}
use Rattle.fs_semantics.proofs.Trees.{path_total, path_eq_refl, path_eq_same}
use Rattle.fs_semantics.proofs.Keys.{same_bool}
use Rattle.finite_domain.specs.Layouts.{other_segment, HaveSegment, IsFirstFailure, IsFreshChild}
use Rattle.size_limits.specs.Weights.{child_count, all_work, capped, Weighs}
use Rattle.size_limits.specs.Paths.{HasPaths}
use Rattle.path_domain.proofs.LaidLaws.{all_at}

-- each path is less than the next
abbrev Sorted : List Path → Type 0
Sorted ps = IsStrictlySortedBy path_cmp ps

-- the two lists have the same members
abbrev SameMembers : List Path → List Path → Type 0
SameMembers ps qs = (p : Path) → is_among p ps ≡ is_among p qs

-- no path is less than itself
never : (p : Path) → path_cmp p p ≡ Less → ⊥
never p h = let tied : path_cmp p p ≡ Equal = tied_itself path_total p in cc

-- a member of a sorted list is the first, or the first is less than it
behind : (p q : Path) (qs : List Path) → Sorted (q ∷ qs) → is_among p (q ∷ qs) ≡ true → (p ≡ q) ⊎ (path_cmp q p ≡ Less)
behind p q qs sorted h = elim (or_cases (path_eq p q) (is_among p qs) h) [
  | inl here ↦ inl (path_eq_same p q here)
  | inr there ↦ inr (all_at q qs p (sorted_head path_cmp q qs sorted) there)
]

-- the first of a list is one of it
first : (p : Path) (ps : List Path) → is_among p (p ∷ ps) ≡ true
first p ps = or_left (path_eq p p) (is_among p ps) (path_eq_refl p)

-- sorted lists with the same members have the same first one
same_head : (p q : Path) (ps qs : List Path) → Sorted (p ∷ ps) → Sorted (q ∷ qs) → SameMembers (p ∷ ps) (q ∷ qs) → p ≡ q
same_head p q ps qs left right same = elim (behind p q qs right (sym (same p) ∙ first p ps)) [
  | inl here ↦ here
  | inr less ↦ elim (behind q p ps left (same q ∙ first q qs)) [
    | inl here ↦ sym here
    | inr more ↦ absurd (never p (path_total.trans p q p more less))
  ]
]

-- the first one isn't one of the rest
not_again : (p : Path) (ps : List Path) → Sorted (p ∷ ps) → is_among p ps ≡ false
not_again p ps sorted = false_from_ne_true _ (λ h. never p (all_at p ps p (sorted_head path_cmp p ps sorted) h))

-- sorted lists with the same members and the same first one have the same members behind it
same_tail : (p q : Path) (ps qs : List Path) → Sorted (p ∷ ps) → Sorted (q ∷ qs) → p ≡ q → SameMembers (p ∷ ps) (q ∷ qs) → SameMembers ps qs
same_tail p q ps qs left right is same r = elim (cases_Bool (path_eq r p)) [
  | inl here ↦
      let at = path_eq_same r p here in
      ap (λ x. is_among x ps) at ∙ not_again p ps left ∙ sym (ap (λ x. is_among x qs) (at ∙ is) ∙ not_again q qs right)
  | inr other ↦ sym (ap (λ b. b || is_among r ps) other) ∙ same r ∙ ap (λ b. b || is_among r qs) (ap (path_eq r) (sym is) ∙ other)
]

-- sorted lists with the same members are the same
same_sorted : (ps qs : List Path) → Sorted ps → Sorted qs → SameMembers ps qs → ps ≡ qs
same_sorted [] [] left right same = refl
same_sorted [] (q ∷ qs) left right same = let clash : false ≡ true = same q ∙ first q qs in cc
same_sorted (p ∷ ps) [] left right same = let clash : true ≡ false = sym (first p ps) ∙ same p in cc
same_sorted (p ∷ ps) (q ∷ qs) left right same =
    let head = same_head p q ps qs left right same in
    ap₂ (λ x xs. x ∷ xs) head (same_sorted ps qs (sorted_tail path_cmp p ps left) (sorted_tail path_cmp q qs right) (same_tail p q ps qs left right head same))

-- programs have one weight only
pub one_weight : (es : List Program) (v w : ℕ) → Weighs es v → Weighs es w → v ≡ w
one_weight es v w left right =
    let same = same_sorted left.named right.named left.in_order right.in_order
    (λ p. same_bool (is_among p left.named) (is_among p right.named) (λ h. (right.named_are p).1 ((left.named_are p).0 h)) (λ h. (left.named_are p).1 ((right.named_are p).0 h))) in
    left.weight ∙ ap (λ ns. capped (2 * length es * all_work (child_count ns) es)) same ∙ sym right.weight

-- ---- the paths of the domain

-- a property fails first at one number only
one_failure : (P : ℕ → Type 0) (j k : ℕ) → IsFirstFailure P j → IsFirstFailure P k → j ≡ k
one_failure P j k a b = elim (cases_order j k) [
  | inl same ↦ same
  | inr other ↦ elim other [ inl below ↦ absurd (a.fails (b.holds j below)) | inr above ↦ absurd (b.fails (a.holds k above)) ]
]

module _ (es : List Program) (n m : ℕ) (a : HasPaths es n) (b : HasPaths es m) where
  -- two layouts of the programs' domain have the same fresh segment
  segments : a.is_layout.segment ≡ b.is_layout.segment
  segments = one_failure (λ k. HaveSegment es (other_segment k)) _ _ a.is_layout.first_segment b.is_layout.first_segment

  -- a path of the one layout is one of the other
  pub path_too : (p : Path) → IsTrue (is_among p a.layout.paths) → IsTrue (is_among p b.layout.paths)
  path_too p h = elim ((a.is_layout.paths p).0 h) [
    | inl name ↦ (b.is_layout.paths p).1 (inl name)
    | inr fresh ↦ (b.is_layout.paths p).1 (inr (subst (λ k. IsFreshChild es (other_segment k) p) segments fresh))
  ]

-- the domain of the programs has one number of paths only
pub one_count : (es : List Program) (n m : ℕ) → HasPaths es n → HasPaths es m → n ≡ m
one_count es n m a b =
    a.count ∙ ap length (same_sorted a.layout.paths b.layout.paths a.is_layout.in_order b.is_layout.in_order (λ p. same_bool (is_among p a.layout.paths) (is_among p b.layout.paths) (path_too es n m a b p) (path_too es m n b a p))) ∙ sym b.count
