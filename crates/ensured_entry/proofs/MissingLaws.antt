-- The question whether a run ends without the entry: over which domain it is asked doesn't matter, and one order stands for all.
use Rattle.std.proofs.Common.{◌≡◌, ℕ, Bool, List, [], ◌∷◌, ◌++◌, length, sym, subst, ◌∙◌}
use Rattle.std.specs.Prelude.{◌↔◌}
use Rattle.fs_semantics.specs.FileTree.{Tree}
use Rattle.fs_semantics.specs.Programs.{Program}
use Rattle.fs_semantics.specs.Orders.{Told, IsLinearExtension, IsDeterministic}
use Rattle.finite_domain.specs.Domains as over
use Rattle.finite_domain.specs.Domains.{IsDomain}
use Rattle.finite_domain.specs.Shadows.{IsOver}
use Rattle.finite_domain.specs.Layouts.{Layout, domain_of, IsLayout}
use Rattle.path_domain.specs.declared.listed.Domain.{Domain}
use Rattle.path_domain.specs.Laid.{layout_of}
use Rattle.orders.specs.Relation.{Relation, comes, Comes}
use Rattle.cnf.specs.Formulas.{Formula, IsSatisfiable}
use Rattle.proof_check.specs.Refuted.{HasNoModel}
use Rattle.order_encode.specs.Witnesses.{IsFirstExtension}
use Rattle.order_encode.specs.Missing.{HasMissing, ShowsMissing}
use Rattle.order_encode.specs.declared.witness.Witness.{Witness}
use Rattle.order_encode.specs.declared.witness.Witness.TheVariants as witness
use Rattle.wanted_entry.specs.declared.wanted.Wanted.{Wanted}
use Rattle.wanted_entry.specs.Entries.{Ensures, EndsWithout, probe_of}
use Rattle.ensured_entry.specs.Questions.{StatesMissing, IsMissed}

-- what is known of layouts, and of runs over a domain that end without the entry
abbrev pub LaidOut : Type 0
LaidOut = (es : List Program) (l : Layout) → IsLayout es l → IsDomain es (domain_of l)

-- a run that ends without the entry has one from a tree over the domain that does so
abbrev pub Shadowed : Type 0
Shadowed = (es : List Program) (w : Wanted) (d : over.Domain) → IsDomain (es ++ probe_of w ∷ []) d → (before : ℕ → ℕ → Bool) (t : Tree) (o : List ℕ) → EndsWithout es (Told before) w t o
    → (s : Tree) × IsOver d s × EndsWithout es (Told before) w s o

-- a graph ensures the entry exactly where no run refutes it
abbrev pub Refutable : List Program → (ℕ → ℕ → Type 0) → Wanted → Type 0
Refutable es before w = Ensures es before w ↔ ((t : Tree) (o : List ℕ) → EndsWithout es before w t o → ⊥)

-- the first extension is an allowed order
pub allowed : (es : List Program) (order : Relation) (first : List ℕ) → length es ≡ order.count → IsFirstExtension order first → IsLinearExtension (length es) (Comes order) first
allowed es order first long is = subst (λ n. IsLinearExtension n (Comes order) first) (sym long) is.allowed

module _ (laid : LaidOut) (shadowed : Shadowed) (es : List Program) (order : Relation) (w : Wanted) where
  -- where the first extension ends without the entry, it does so from some tree over the domain
  missing_over : (d : Domain) → IsLayout (es ++ probe_of w ∷ []) (layout_of d) → (t : Tree) (first : List ℕ) → IsFirstExtension order first → EndsWithout es (Comes order) w t first → HasMissing es order d w
  missing_over d is t first least c =
      let s = shadowed es w (domain_of (layout_of d)) (laid (es ++ probe_of w ∷ []) (layout_of d) is) (comes order) t first c in
      record { tree = s.0; first = first; missed = record { is_first = least; over = s.1; without = s.2 } }

  module _ (d : Domain) (is : IsLayout (es ++ probe_of w ∷ []) (layout_of d)) (f : Formula) (exact : IsSatisfiable f ↔ HasMissing es order d w) where
    -- the formula for one domain states the question, whichever domain of this layout it is
    pub states : StatesMissing es order w f
    states e lay = (
      (λ h. let m = exact.0 h in missing_over e lay m.tree m.first m.missed.is_first m.missed.without),
      (λ m. exact.1 (missing_over d is m.tree m.first m.missed.is_first m.missed.without)),
    )

    -- without a model the first extension has no run that ends without the entry, and so no allowed order has one
    module _ (long : length es ≡ order.count) (sure : IsDeterministic es (Told (comes order))) (first : List ℕ) (least : IsFirstExtension order first) where
      -- in a deterministic graph, where some order ends without the entry the first extension does
      in_first : (t : Tree) (o : List ℕ) → EndsWithout es (Told (comes order)) w t o → EndsWithout es (Told (comes order)) w t first
      in_first t o c =
          let may = allowed es order first long least in
          record { is_tree = c.is_tree; allowed = may; after = c.after; ends = sure t c.is_tree first o may c.allowed ∙ c.ends; misses = c.misses }

      -- where the formula has no model the graph ensures the entry
      pub ensured : Refutable es (Told (comes order)) w → HasNoModel f → Ensures es (Told (comes order)) w
      ensured exactly no_model = exactly.1 (λ t o c. let v = exact.1 (missing_over d is t first least (in_first t o c)) in no_model v.0 v.1)

-- a witness of a run without the entry over the domain is one
pub shown : (es : List Program) (order : Relation) (d : Domain) (w : Wanted) (x : Witness) → ShowsMissing es order d w x → IsMissed es order w x
shown es order d w (witness.Orders tree left right) h = absurd h
shown es order d w (witness.Twice tree first) h = absurd h
shown es order d w (witness.Ends tree first) h = h.without
