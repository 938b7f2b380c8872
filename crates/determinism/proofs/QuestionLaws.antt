-- A question of order: over which domain it is asked doesn't matter.
use Rattle.std.proofs.Common.{◌≡◌, ◌⊎◌, inl, inr, ℕ, Bool, List, subst}
use Rattle.std.specs.Prelude.{◌↔◌}
use Rattle.fs_semantics.specs.FileTree.{Tree}
use Rattle.fs_semantics.specs.Programs.{Program}
use Rattle.fs_semantics.specs.Orders.{Told, IsDeterministic, IsCounterexample}
use Rattle.finite_domain.specs.Domains as over
use Rattle.finite_domain.specs.Domains.{IsDomain}
use Rattle.finite_domain.specs.Shadows.{IsOver}
use Rattle.finite_domain.specs.Layouts.{Layout, domain_of, IsLayout}
use Rattle.path_domain.specs.declared.listed.Domain.{Domain}
use Rattle.path_domain.specs.Laid.{layout_of}
use Rattle.cnf.specs.Formulas.{Formula, IsSatisfiable}
use Rattle.proof_check.specs.Refuted.{HasNoModel}
use Rattle.order_encode.specs.Witnesses.{HaveDifferentOutcomes, ShowsDifference}
use Rattle.order_encode.specs.declared.witness.Witness.{Witness}
use Rattle.order_encode.specs.declared.witness.Witness.TheVariants as witness
use Rattle.determinism.specs.Questions.{States}
use Rattle.determinism.specs.First.{IsDifference}
use Rattle.determinism.specs.Answers.{HasTwoOrders}

-- what is known of layouts, and of counterexamples over a domain
abbrev LaidOut : Type 0
LaidOut = (es : List Program) (l : Layout) → IsLayout es l → IsDomain es (domain_of l)

-- orders that end differently do so from a tree over the domain too
abbrev Shadowed : Type 0
Shadowed = (es : List Program) (d : over.Domain) → IsDomain es d → (before : ℕ → ℕ → Bool) (t : Tree) (o p : List ℕ) → IsCounterexample es (Told before) t o p
    → (s : Tree) × IsOver d s × IsCounterexample es (Told before) s o p

module _ (laid : LaidOut) (shadowed : Shadowed) (es : List Program) (before : ℕ → ℕ → Bool) where
  -- a counterexample gives different outcomes over each domain of the programs
  pub differ_over : (d : Domain) → IsLayout es (layout_of d) → (t : Tree) (o p : List ℕ) → IsCounterexample es (Told before) t o p → HaveDifferentOutcomes es (Told before) d
  differ_over d is t o p c =
      let w = shadowed es (domain_of (layout_of d)) (laid es (layout_of d) is) before t o p c in
      record { tree = w.0; left = o; right = p; over = w.1; counterexample = w.2 }

  -- what states the question over one layout of the domain states it
  module _ (d : Domain) (is : IsLayout es (layout_of d)) (f : Formula) (exact : IsSatisfiable f ↔ HaveDifferentOutcomes es (Told before) d) where
    -- the formula states the question
    pub states : States es (Told before) f
    states e lay = (
      (λ h. let w = exact.0 h in differ_over e lay w.tree w.left w.right w.counterexample),
      (λ w. exact.1 (differ_over d is w.tree w.left w.right w.counterexample)),
    )

    -- where it has no model the programs are deterministic
    pub none_differ : (((t : Tree) (o p : List ℕ) → IsCounterexample es (Told before) t o p → ⊥) → IsDeterministic es (Told before)) → HasNoModel f → IsDeterministic es (Told before)
    none_differ law no_model = law (λ t o p c. let v = exact.1 (differ_over d is t o p c) in no_model v.0 v.1)

-- a formula that states the question of another graph, which differs where this one does, states that of this one
module _ (laid : LaidOut) (shadowed : Shadowed) (es fs : List Program) (before other : ℕ → ℕ → Bool)
    (forth : (t : Tree) (o p : List ℕ) → IsCounterexample es (Told before) t o p → (left : List ℕ) × (right : List ℕ) × IsCounterexample fs (Told other) t left right)
    (back : (t : Tree) (o p : List ℕ) → IsCounterexample fs (Told other) t o p → (left : List ℕ) × (right : List ℕ) × IsCounterexample es (Told before) t left right) where
  -- such a formula states the question of this graph
  pub other_states : (d : Domain) → IsLayout fs (layout_of d) → (f : Formula) → States fs (Told other) f → States es (Told before) f
  other_states d is f states e lay = (
    (λ h.
        let w = (states d is).0 h in
        let c = back w.tree w.left w.right w.counterexample in
        differ_over laid shadowed es before e lay w.tree c.0 c.1 c.2),
    (λ w.
        let c = forth w.tree w.left w.right w.counterexample in
        (states d is).1 (differ_over laid shadowed fs other d is w.tree c.0 c.1 c.2)),
  )

-- what shows a difference, over a domain, is a witness of one
pub difference : (es : List Program) (before : ℕ → ℕ → Type 0) (d : Domain) (w : Witness) → ShowsDifference es before d w → IsDifference es before w
difference es before d (witness.Orders tree left right) h = (h.counterexample, h.exchange)
difference es before d (witness.Twice tree order) h = absurd h
difference es before d (witness.Ends tree order) h = absurd h

-- what shows a difference has two orders
pub has_two : (es : List Program) (before : ℕ → ℕ → Type 0) (w : Witness) → IsDifference es before w → HasTwoOrders w
has_two es before (witness.Orders tree left right) h = tt
has_two es before (witness.Twice tree order) h = absurd h
has_two es before (witness.Ends tree order) h = absurd h

-- a witness that has two orders isn't of one
pub not_two : (w : Witness) → HasTwoOrders w → ((t : Tree) × (o : List ℕ) × (w ≡ witness.Twice t o)) ⊎ ((t : Tree) × (o : List ℕ) × (w ≡ witness.Ends t o)) → ⊥
not_two w h (inl e) = subst HasTwoOrders e.2 h
not_two w h (inr e) = subst HasTwoOrders e.2 h
