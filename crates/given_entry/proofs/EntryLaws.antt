-- Runs that end without the entry, with the guard in front and without it.
use Rattle.std.proofs.Common.{◌≡◌, ◌≢◌, ℕ, List, [], ◌∷◌, ◌++◌, length, Some, None, refl, sym, ap, subst, ◌∙◌}
use Rattle.std.specs.Prelude.{◌↔◌}
use Rattle.fs_semantics.specs.FileTree.{Path, Tree}
use Rattle.fs_semantics.specs.Programs.{Program, Outcome}
use Rattle.fs_semantics.specs.Orders.{Told, IsLinearExtension, outcome}
use Rattle.finite_domain.specs.Layouts.{Layout, IsLayout}
use Rattle.path_domain.specs.declared.listed.Domain.{Domain}
use Rattle.path_domain.specs.Laid.{layout_of}
use Rattle.given_hosts.specs.Given.{IsGivenTree, IsDeterministicFrom}
use Rattle.given_hosts.specs.Guard.{guarded, guard_before}
use Rattle.given_hosts.proofs.GuardLaws.{ends_where_stand}
use Rattle.given_hosts.proofs.GraphLaws.{order_behind, ended, leaves}
use Rattle.orders.specs.Relation.{Relation, comes, Comes}
use Rattle.cnf.specs.Formulas.{Formula}
use Rattle.order_encode.specs.Witnesses.{IsFirstExtension}
use Rattle.order_encode.specs.declared.witness.Witness.{Witness}
use Rattle.order_encode.specs.declared.witness.Witness.TheVariants as witness
use Rattle.wanted_entry.specs.declared.wanted.Wanted.{Wanted}
use Rattle.wanted_entry.specs.Entries.{HasWanted, Ensures, EndsWithout, probe_of}
use Rattle.ensured_entry.specs.Questions.{StatesMissing, IsEntryProof, IsMissed}
use Rattle.given_verdict.specs.Ends.{IsRunOf, HasOneOrder}
use Rattle.given_verdict.proofs.SideLaws.{goes}
use Rattle.given_entry.specs.Sizes.{probed}
use Rattle.given_entry.specs.Questions.{EnsuresFrom, EndsWithoutFrom, StatesMissingFrom, IsEntryProofFrom, IsMissedFrom}

-- a run that ends in a tree doesn't end in Error
none_not_some : (r : Outcome) (u : Tree) → r ≡ Some u → r ≡ None → ⊥
none_not_some r u h e = cc

-- where folders are given, the layout with the probe is that of the programs with the guard and the probe
layout_of_probed : (given : List Path) (es : List Program) (w : Wanted) → given ≢ [] → (l : Layout) → IsLayout (probed given es w) l → IsLayout (guarded given es ++ probe_of w ∷ []) l
layout_of_probed [] es w some l h = absurd (some refl)
layout_of_probed (p ∷ ps) es w some l h = h

-- a witness of a run without the entry has one order
pub one_order : (es : List Program) (order : Relation) (w : Wanted) (x : Witness) → IsMissed es order w x → HasOneOrder x
one_order es order w (witness.Orders tree left right) h = h
one_order es order w (witness.Twice tree o) h = tt
one_order es order w (witness.Ends tree o) h = tt

module _ (given : List Path) (es : List Program) (order : Relation) (long : length es ≡ order.count) (w : Wanted) (more : Relation) (before : comes more ≡ guard_before order.count (comes order)) where
  -- what ensures the entry with the guard does so from the trees in which the folders stand
  pub ensures : Ensures (guarded given es) (Told (comes more)) w → EnsuresFrom given es (Told (comes order)) w
  ensures h = (leaves given es (comes order) (comes more) (goes given es order long more before) (λ u. HasWanted u w)).0 h

  module _ (sure : IsDeterministicFrom given es (Told (comes order))) where
    -- the first extension is an allowed order
    allowed : (first : List ℕ) → IsFirstExtension order first → IsLinearExtension (length es) (Told (comes order)) first
    allowed first is = subst (λ n. IsLinearExtension n (Told (comes order)) first) (sym long) is.allowed

    -- a run with the guard that ends without the entry is a run of the first extension that does
    without : (t : Tree) (o first : List ℕ) → EndsWithout (guarded given es) (Comes more) w t o → IsFirstExtension order first → EndsWithoutFrom given es (Comes order) w t first
    without t o first c is_first =
        let l = order_behind given es (comes order) (comes more) (goes given es order long more before) o c.allowed in
        let e = ended given es (comes order) (comes more) (goes given es order long more before) o t l (none_not_some (outcome (guarded given es) o t) c.after c.ends) in
        let may = allowed first is_first in
        record {
          stand = e.0;
          shows = record {
            is_tree = c.is_tree;
            allowed = may;
            after = c.after;
            ends = sym (sure t (record { is_tree = c.is_tree; stand = e.0 }) l.0 first l.2 may) ∙ sym e.1 ∙ c.ends;
            misses = c.misses;
          };
        }

    -- and where the first extension ends without it, so does the first one with the guard
    with_it : length (guarded given es) ≡ more.count → (t : Tree) (o whole : List ℕ) → EndsWithoutFrom given es (Comes order) w t o → IsFirstExtension more whole → EndsWithout (guarded given es) (Comes more) w t whole
    with_it count t o whole c is_whole =
        let may : IsLinearExtension (length (guarded given es)) (Told (comes more)) whole = subst (λ n. IsLinearExtension n (Told (comes more)) whole) (sym count) is_whole.allowed in
        let l = order_behind given es (comes order) (comes more) (goes given es order long more before) whole may in
        let same = ap (λ q. outcome (guarded given es) q t) l.1 ∙ ends_where_stand given es l.0 t l.2.below c.stand
        ∙ sure t (record { is_tree = c.shows.is_tree; stand = c.stand }) l.0 o l.2 c.shows.allowed in
        record { is_tree = c.shows.is_tree; allowed = may; after = c.shows.after; ends = same ∙ c.shows.ends; misses = c.shows.misses }

    -- a witness of a run with the guard, with the guard left out, is one of the graph
    pub missed : (x v : Witness) → IsMissed (guarded given es) more w x → IsRunOf order x v → IsMissedFrom given es order w v
    missed (witness.Orders tree left right) v h is = absurd h
    missed (witness.Twice tree o) v h is = absurd h
    missed (witness.Ends tree o) v h is = subst (IsMissedFrom given es order w) (sym is.2) (without tree o is.0 h is.1)

    module _ (some : given ≢ []) (count : length (guarded given es) ≡ more.count) (first whole : List ℕ) (is_first : IsFirstExtension order first) (is_whole : IsFirstExtension more whole) where
      -- a formula that states the question with the guard states it from the trees in which the folders stand
      pub states : (f : Formula) → StatesMissing (guarded given es) more w f → StatesMissingFrom given es order w f
      states f stated d lay =
          let exact = stated d (layout_of_probed given es w some (layout_of d) lay) in (
            (λ sat.
                let m = exact.0 sat in
                record { tree = m.tree; first = first; over = m.missed.over; is_first = is_first; missed = without m.tree m.first first m.missed.without is_first }),
            (λ m. exact.1 (record {
              tree = m.tree;
              first = whole;
              missed = record { is_first = is_whole; over = m.over; without = with_it count m.tree m.first whole m.missed is_whole };
            })),
          )

      -- and a proof with the guard is one from these
      pub entry_proof : (f : Formula) → IsEntryProof (guarded given es) more w f → IsEntryProofFrom given es order w f
      entry_proof f h = record { states = states f h.states; no_model = h.no_model }
