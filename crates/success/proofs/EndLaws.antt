-- The question whether the graph succeeds: over which domain it is asked doesn't matter, and one order stands for all.
use Rattle.std.proofs.Common.{◌≡◌, ℕ, List, length, sym, subst, ◌∙◌}
use Rattle.std.specs.Prelude.{◌↔◌, IsSome, is_some}
use Rattle.fs_semantics.specs.FileTree.{Tree, IsTree}
use Rattle.fs_semantics.specs.Programs.{Program, Outcome}
use Rattle.fs_semantics.specs.Orders.{Told, IsLinearExtension, outcome, IsDeterministic, Succeeds}
use Rattle.finite_domain.specs.Domains as over
use Rattle.finite_domain.specs.Domains.{IsDomain}
use Rattle.finite_domain.specs.Shadows.{IsShadow, StandsFor}
use Rattle.finite_domain.specs.Layouts.{Layout, domain_of, IsLayout}
use Rattle.path_domain.specs.declared.listed.Domain.{Domain}
use Rattle.path_domain.specs.Laid.{layout_of}
use Rattle.orders.specs.Relation.{Relation, comes, Comes}
use Rattle.cnf.specs.Formulas.{Formula, IsSatisfiable}
use Rattle.proof_check.specs.Refuted.{HasNoModel}
use Rattle.order_encode.specs.Witnesses.{IsFirstExtension, HasEnd, ShowsEnd}
use Rattle.order_encode.specs.declared.witness.Witness.{Witness}
use Rattle.order_encode.specs.declared.witness.Witness.TheVariants as witness
use Rattle.success.specs.Questions.{StatesEnd, IsEnd}

-- a layout lists a domain
abbrev LaidOut : Type 0
LaidOut = (es : List Program) (l : Layout) → IsLayout es l → IsDomain es (domain_of l)

-- every tree has a shadow over the domain, and orders tell the same from both
abbrev HaveShadows : Type 0
HaveShadows = (es : List Program) (d : over.Domain) → IsDomain es d → (t : Tree) → IsTree t → (m : List ℕ → List ℕ) × (s : Tree) × IsTree s × IsShadow es d m t s

-- a shadow stands for its tree
abbrev TellTheSame : Type 0
TellTheSame = (es : List Program) (d : over.Domain) → IsDomain es d → (m : List ℕ → List ℕ) (t s : Tree) → IsShadow es d m t s → StandsFor es s t

-- of two runs that both end in a tree, or both don't, the second does where the first does
some_alike : (o p : Outcome) → is_some o ≡ is_some p → IsSome o → IsSome p
some_alike o p e h = sym e ∙ h

module _ (laid : LaidOut) (shadowed : HaveShadows) (tell : TellTheSame) (es : List Program) (order : Relation) where
  -- where the first extension ends in a tree, it does so from one over the domain
  pub end_over : (d : Domain) → IsLayout es (layout_of d) → (t : Tree) (first : List ℕ) → IsTree t → IsFirstExtension order first → IsSome (outcome es first t) → HasEnd es order d
  end_over d is t first tree least ends =
      let whole = domain_of (layout_of d) in
      let known = laid es (layout_of d) is in
      let w = shadowed es whole known t tree in
      let told = tell es whole known w.0 t w.1 w.3 in
      record { tree = w.1; first = first; ended = record { is_first = least; is_tree = w.2; over = w.3.over; ends = some_alike (outcome es first t) (outcome es first w.1) (told.ends first) ends } }

  module _ (d : Domain) (is : IsLayout es (layout_of d)) (f : Formula) (exact : IsSatisfiable f ↔ HasEnd es order d) where
    -- the formula states whether the graph succeeds
    pub states : StatesEnd es order f
    states e lay = (
      (λ h. let w = exact.0 h in end_over e lay w.tree w.first w.ended.is_tree w.ended.is_first w.ended.ends),
      (λ w. exact.1 (end_over d is w.tree w.first w.ended.is_tree w.ended.is_first w.ended.ends)),
    )

    -- where it has no model the graph never succeeds
    pub never : length es ≡ order.count → IsDeterministic es (Told (comes order)) → (first : List ℕ) → IsFirstExtension order first → HasNoModel f → Succeeds es (Told (comes order)) → ⊥
    never long sure first least no_model s =
        let allowed = subst (λ n. IsLinearExtension n (Comes order) first) (sym long) least.allowed in
        let same = sure s.tree s.is_tree s.order first s.allowed allowed in
        let v = exact.1 (end_over d is s.tree first s.is_tree least (subst IsSome same s.ends)) in
        no_model v.0 v.1

-- what shows a run that ends, over a domain, is a witness of one
pub shown : (es : List Program) (order : Relation) (d : Domain) (w : Witness) → ShowsEnd es order d w → IsEnd es order w
shown es order d (witness.Orders tree left right) h = absurd h
shown es order d (witness.Twice tree first) h = absurd h
shown es order d (witness.Ends tree first) h = (h.is_first, h.is_tree, h.ends)
