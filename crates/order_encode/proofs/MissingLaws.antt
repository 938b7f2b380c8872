-- The formula of the question whether a run misses a wanted entry.
use Rattle.std.proofs.Common.{◌≡◌, Bool, true, false, List, ℕ, length, Option, Some, None, refl, sym, ap, subst, ◌∙◌}
use Rattle.std.specs.Prelude.{◌↔◌, ◌&&◌, not}
use Rattle.fs_semantics.specs.FileTree.{Tree}
use Rattle.fs_semantics.specs.Programs.{Program, Outcome}
use Rattle.fs_semantics.specs.Orders.{IsLinearExtension}
use Rattle.fs_interpreter.specs.Places.{Listed, IsTable}
use Rattle.fs_interpreter.specs.States.{State}
use Rattle.fs_interpreter.specs.Standing.{StandsFor}
use Rattle.path_domain.specs.declared.listed.Domain.{Domain}
use Rattle.orders.specs.Relation.{Relation, Comes}
use Rattle.sym_run.specs.Trees.{IsTreeOver}
use Rattle.wanted_entry.specs.declared.wanted.Wanted.{Wanted}
use Rattle.wanted_entry.specs.Entries.{HasWanted}
use Rattle.order_encode.specs.declared.witness.Witness.{Witness}
use Rattle.order_encode.specs.declared.witness.Witness.TheVariants as witness
use Rattle.order_encode.specs.Witnesses.{IsFirstExtension}
use Rattle.order_encode.specs.Told.{wanted_told}
use Rattle.order_encode.specs.Missing.{EndsMissing, IsMissedFrom, HasMissing, ShowsMissing}
use Rattle.order_encode.proofs.GoalLaws.{not_is}
use Rattle.order_encode.proofs.WitnessLaws.{Long, first_same}
use Rattle.order_encode.proofs.ToldLaws.{FindsPath, FindsNoPath, FindsContent, FindsNoContent, wanted_is}
use Rattle.std.proofs.lemmas.Bool.{and_parts, and_from}

-- no error is told, and the entry isn't, exactly where the outcome is a tree without it
module _ (finds_path : FindsPath) (finds_no_path : FindsNoPath) (finds : FindsContent) (finds_not : FindsNoContent) (table : Listed) (is : IsTable table) (s : State) (w : Wanted) where
  -- no error and no entry are told exactly where the outcome is a tree without the entry
  pub misses_is : (o : Outcome) (has : Bool) → StandsFor table s o → has ≡ wanted_told table w s.cell → ((not s.error && not has) ≡ true) ↔ ((u : Tree) × (o ≡ Some u) × (HasWanted u w → ⊥))
  misses_is None has h e = ((λ k. let no : false ≡ true = sym (ap (λ b. not b && not has) h) ∙ k in cc), (λ m. let none = m.1 in cc))
  misses_is (Some t) has h e = (
    (λ k. (t, refl, (not_is has told).0 (and_parts (not s.error) (not has) k).1)),
    (λ m.
        let same : t ≡ m.0 = got m.0 m.1 in
        and_from (not s.error) (not has) (ap not h.no_error) ((not_is has told).1 (λ q. m.2 (subst (λ x. HasWanted x w) same q)))),
  )
    where
      told : (has ≡ true) ↔ HasWanted t w
      told = let exact = wanted_is finds_path finds_no_path finds finds_not table is s t h w in ((λ q. exact.0 (sym e ∙ q)), (λ q. e ∙ exact.1 q))

      got : (u : Tree) → ◌≡◌ {A = Option Tree} (Some t) (Some u) → t ≡ u
      got u q = cc

-- ---- the question

module _ (programs : List Program) (order : Relation) (d : Domain) (wanted : Wanted) (first : List ℕ) (is_first : IsFirstExtension order first) (long : length programs ≡ order.count) where
  -- a tree from which the first extension ends without the entry shows that it misses it
  missed_is : (t : Tree) → IsTreeOver d t → EndsMissing programs first wanted t → IsMissedFrom programs order d wanted t first
  missed_is t over h = record {
    is_first = is_first;
    over = over.is_over;
    without = record {
      is_tree = over.is_tree;
      allowed = subst (λ n. IsLinearExtension n (Comes order) first) (sym long) is_first.allowed;
      after = h.0;
      ends = h.1;
      misses = h.2;
    };
  }

  -- the formula has a model exactly where the first extension misses the entry from some tree
  pub missing_exact : {S : Type 0} → Long → S ↔ ((t : Tree) × IsTreeOver d t × EndsMissing programs first wanted t) → S ↔ HasMissing programs order d wanted
  missing_exact lng exact = (
    (λ s. let h = exact.0 s in record { tree = h.0; first = first; missed = missed_is h.0 h.1 h.2 }),
    (λ h.
        let m = h.missed in
        let one = first_same lng order h.first first m.is_first is_first in
        exact.1 (h.tree, record { is_tree = m.without.is_tree; is_over = m.over }, subst (λ o. EndsMissing programs o wanted h.tree) one (m.without.after, m.without.ends, m.without.misses))),
  )

  -- and a witness with such a tree shows that it does
  pub missing_shown : (w : Witness) → (t : Tree) × (IsTreeOver d t × EndsMissing programs first wanted t) × (w ≡ witness.Ends t first) → ShowsMissing programs order d wanted w
  missing_shown w h = subst (ShowsMissing programs order d wanted) (sym h.2) (missed_is h.0 h.1.0 h.1.1)
