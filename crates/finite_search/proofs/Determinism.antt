-- Whether programs are deterministic.
use Rattle.std.proofs.Common.{◌≡◌, ℕ, Bool, true, false, List, [], ◌∷◌, ◌++◌, ◌||◌, length, refl, sym, ap, ◌∙◌}
use Rattle.std.proofs.lemmas.List.Folds.{list_any-append}
use Rattle.fs_semantics.specs.FileTree.{Path, path_eq, is_root, is_among, Tree, IsTree}
use Rattle.fs_semantics.specs.Programs.{Program}
use Rattle.fs_semantics.specs.Orders.{Told, IsLinearExtension, outcome, IsDeterministic}
use Rattle.fs_semantics.proofs.Decided.{outcome_told}
use Rattle.finite_domain.specs.Domains.{Domain, IsDomain, is_known}
use Rattle.finite_domain.specs.Shadows.{IsOver}
use Rattle.finite_domain.specs.Questions.{IsDeterministicOver}
use Rattle.finite_search.proofs.Deciding.{Decided, decided_as, decided_then}
use Rattle.finite_search.proofs.Extensions.{decided_extensions}
use Rattle.finite_search.proofs.Entries.{decided_tree}
use Rattle.finite_search.proofs.Trees.{IsMadeOf, decided_trees}

-- the root, the named paths and the fresh children
abbrev paths_of : Domain → List Path
paths_of d = [] ∷ (d.named ++ d.fresh)

-- the root is the path without segments
root_is : (p : Path) → is_root p ≡ path_eq p []
root_is [] = refl
root_is (s ∷ p) = refl

-- three tests joined one way and the other
grouped : (a b c : Bool) → (a || (b || c)) ≡ (a || b || c)
grouped true b c = refl
grouped false b c = refl

-- these are the paths that a tree over the domain may have
paths_are : (d : Domain) (p : Path) → is_among p (paths_of d) ≡ (is_known d p || is_among p d.fresh)
paths_are d p = ap (λ b. b || is_among p (d.named ++ d.fresh)) (sym (root_is p)) ∙ ap (λ b. is_root p || b) (list_any-append (path_eq p) d.named d.fresh)
    ∙ grouped (is_root p) (is_among p d.named) (is_among p d.fresh)

-- a tree of these paths and of the domain's contents is over the domain
made_over : (d : Domain) (t : Tree) → IsMadeOf (paths_of d) d.contents t → IsOver d t
made_over d t made = record { paths = λ p k. sym (paths_are d p) ∙ made.paths p k; contents = made.texts }

-- and a tree over the domain is one of these
over_made : (d : Domain) (t : Tree) → IsOver d t → IsMadeOf (paths_of d) d.contents t
over_made d t over = record { paths = λ p k. paths_are d p ∙ over.paths p k; texts = over.contents }

-- every list of programs has a domain
abbrev pub HaveDomains : Type 0
HaveDomains = (es : List Program) → (d : Domain) × IsDomain es d

-- what is deterministic from all trees over a domain is so from all trees
abbrev pub TreesOverAreEnough : Type 0
TreesOverAreEnough = (es : List Program) (d : Domain) → IsDomain es d → (before : ℕ → ℕ → Bool) → IsDeterministicOver d es (Told before) → IsDeterministic es (Told before)

module _ (have : HaveDomains) (enough : TreesOverAreEnough) (es : List Program) (before : ℕ → ℕ → Bool) where
  -- an allowed order
  abbrev Allowed : List ℕ → Type 0
  Allowed o = IsLinearExtension (length es) (Told before) o

  -- whether all allowed orders end alike from the tree
  decided_from : (t : Tree) → Decided ((o : List ℕ) → Allowed o → (p : List ℕ) → Allowed p → outcome es o t ≡ outcome es p t)
  decided_from t = decided_extensions before (length es) (λ o. (p : List ℕ) → Allowed p → outcome es o t ≡ outcome es p t)
      (λ o. decided_extensions before (length es) (λ p. outcome es o t ≡ outcome es p t) (λ p. outcome_told (outcome es o t) (outcome es p t)))

  -- whether they do from all trees over a domain
  decided_over : (d : Domain) → Decided (IsDeterministicOver d es (Told before))
  decided_over d =
      decided_as (λ h t tree over o p a b. h t (over_made d t over) tree o a p b) (λ f t made tree o a p b. f t tree (made_over d t made) o p a b)
      (decided_trees d.contents (paths_of d)
      (λ t. IsTree t → (o : List ℕ) → Allowed o → (p : List ℕ) → Allowed p → outcome es o t ≡ outcome es p t)
      (λ t. decided_then (decided_tree t) (decided_from t)))

  -- and so from all trees
  pub determinism_decided : Decided (IsDeterministic es (Told before))
  determinism_decided =
      let d = have es in
      decided_as (enough es d.0 d.1 before) (λ f t tree over. f t tree) (decided_over d.0)
