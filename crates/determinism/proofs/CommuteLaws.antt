-- Programs that commute wherever neither comes before the other.
use Rattle.std.proofs.Common.{◌≡◌, inl, inr, ℕ, List, [], ◌∷◌, Option, Some, None, refl, sym, subst, ◌∙◌}
use Rattle.std.specs.Prelude.{◌↔◌, slice_index_or, IfSome, IfNone}
use Rattle.fs_semantics.specs.FileTree.{Tree, IsTree}
use Rattle.fs_semantics.specs.Programs.{Program, Id, Outcome, and_then, run}
use Rattle.fs_semantics.specs.Orders.{IsDeterministic, FreeCommute, outcome}
use Rattle.fs_semantics.proofs.Decided.{outcome_told}
use Rattle.finite_domain.specs.Domains as over
use Rattle.finite_domain.specs.Domains.{IsDomain}
use Rattle.finite_domain.specs.Shadows.{IsShadow, StandsFor}
use Rattle.finite_domain.specs.Layouts.{Layout, domain_of, IsLayout}
use Rattle.path_domain.specs.declared.listed.Domain.{Domain}
use Rattle.path_domain.specs.Laid.{layout_of}
use Rattle.cnf.specs.Formulas.{Formula, IsSatisfiable}
use Rattle.proof_check.specs.Refuted.{Refutation, HasNoModel}
use Rattle.order_encode.specs.Witnesses.{HasApartPair}
use Rattle.determinism.specs.Answers.{IsNo, StatesCommuting}

-- what is known of layouts, and of shadows over a domain
abbrev LaidOut : Type 0
LaidOut = (es : List Program) (l : Layout) → IsLayout es l → IsDomain es (domain_of l)

-- each file tree has a shadow over a domain of the programs
abbrev Shadowed : Type 0
Shadowed = (es : List Program) (d : over.Domain) → IsDomain es d → (t : Tree) → IsTree t → (m : List ℕ → List ℕ) × (s : Tree) × IsTree s × IsShadow es d m t s

-- a shadow stands for its tree
abbrev Telling : Type 0
Telling = (es : List Program) (d : over.Domain) → IsDomain es d → (m : List ℕ → List ℕ) (t s : Tree) → IsShadow es d m t s → StandsFor es s t

-- two programs of a list, one after the other
pair_run : (es : List Program) (a b : ℕ) (t : Tree) → outcome es (a ∷ b ∷ []) t ≡ and_then (run (slice_index_or es a Id) t) (run (slice_index_or es b Id))
pair_run es a b t = first (run (slice_index_or es a Id) t)
  where
    last : (o : Outcome) → and_then o (outcome es []) ≡ o
    last None = refl
    last (Some u) = refl

    first : (o : Outcome) → and_then o (outcome es (b ∷ [])) ≡ and_then o (run (slice_index_or es b Id))
    first None = refl
    first (Some u) = last (run (slice_index_or es b Id) u)

module _ (laid : LaidOut) (shadowed : Shadowed) (telling : Telling) (es : List Program) (before : ℕ → ℕ → Type 0) (d : Domain) (is : IsLayout es (layout_of d)) where
  -- where no pair ends apart over the domain, all commute
  none_apart : (HasApartPair es before d → ⊥) → FreeCommute es before
  none_apart none a b a_below b_below free t tree =
      let dom = laid es (layout_of d) is in
      let w = shadowed es (domain_of (layout_of d)) dom t tree in
      let stands = telling es (domain_of (layout_of d)) dom w.0 t w.1 w.3 in
      let same : outcome es (a ∷ b ∷ []) w.1 ≡ outcome es (b ∷ a ∷ []) w.1 = elim (outcome_told (outcome es (a ∷ b ∷ []) w.1) (outcome es (b ∷ a ∷ []) w.1)) [
        | inl e ↦ e
        | inr n ↦ absurd (none (record { tree = w.1; is_tree = w.2; over = w.3.over; left = a; right = b; left_below = a_below; right_below = b_below; free = free; differ = n }))
      ] in
      sym (pair_run es a b t) ∙ (stands.alike (a ∷ b ∷ []) (b ∷ a ∷ [])).1 same ∙ pair_run es b a t

  -- where all commute, no pair ends apart
  none_differ : FreeCommute es before → HasApartPair es before d → ⊥
  none_differ commute h = h.differ (pair_run es h.left h.right h.tree ∙ commute h.left h.right h.left_below h.right_below h.free h.tree h.is_tree ∙ sym (pair_run es h.right h.left h.tree))

  -- a formula that can be true exactly where a pair ends apart over the domain states whether all commute
  pub commuting : (f : Formula) → IsSatisfiable f ↔ HasApartPair es before d → StatesCommuting es before f
  commuting f exact = (
    (λ no_model. none_apart (λ h. let v = exact.1 h in no_model v.0 v.1)),
    (λ commute v sat. none_differ commute (exact.0 (v, sat))),
  )

-- a formula without a model states the question of programs that are deterministic
pub no_order : (es : List Program) (before : ℕ → ℕ → Type 0) (f : Formula) → IsDeterministic es before → HasNoModel f → IsNo es before f
no_order es before f sure no_model = (
  sure,
  (λ d is. (
    (λ sat. absurd (no_model sat.0 sat.1)),
    (λ h. let c = h.counterexample in absurd (c.differ (sure h.tree c.is_tree h.left h.right c.left_allowed c.right_allowed))),
  )),
  no_model,
)

-- where the formula was refuted, programs that are deterministic then have no differences
pub refuted_no : (es : List Program) (before : ℕ → ℕ → Type 0) (f : Formula) → (HasNoModel f → IsDeterministic es before) → (found : Option Refutation) → IfSome found (λ v. v.formula ≡ f) → IfSome found (λ v. HasNoModel f)
    → IfSome found (λ v. IsNo es before v.formula)
refuted_no es before f sure None is none = tt
refuted_no es before f sure (Some v) is none = subst (IsNo es before) (sym is) (no_order es before f (sure none) none)

-- what follows where there is none
pub none_by : {A : Type 0} {P Q : Type 0} (found : Option A) → (P → Q) → IfNone found P → IfNone found Q
none_by None f h = f h
none_by (Some a) f h = tt
