-- What is answered of two graphs with their guards, said of the graphs.
use Rattle.std.proofs.Common.{◌≡◌, ◌≢◌, ℕ, List, [], sym, subst}
use Rattle.std.specs.Prelude.{◌↔◌}
use Rattle.fs_semantics.specs.FileTree.{Path}
use Rattle.fs_semantics.specs.Programs.{Program}
use Rattle.fs_semantics.specs.Orders.{Told}
use Rattle.given_hosts.specs.Given.{IsDeterministicFrom}
use Rattle.given_hosts.specs.Guard.{guarded}
use Rattle.given_hosts.proofs.GraphLaws as graphs
use Rattle.orders.specs.Relation.{Relation, comes}
use Rattle.cnf.specs.Formulas.{Formula}
use Rattle.equal_graphs.specs.Questions.{StatesParting}
use Rattle.equal_graphs.specs.declared.compared.Compared.{Compared}
use Rattle.equal_graphs.specs.declared.compared.Compared.TheVariants as compared
use Rattle.equal_graphs.specs.Compared.{IsCompared}
use Rattle.given_verdict.proofs.SideLaws.{Side, goes, settled_from, unsettled_from, unsettled_orders}
use Rattle.given_equal.specs.Questions.{StatesPartingFrom}
use Rattle.given_equal.specs.Answers.{HasOrders, IsComparedFrom, IsComparedWithout}
use Rattle.given_equal.proofs.PartLaws.{part, states}

-- a witness of a difference of one graph has two orders
pub has_orders : (es : List Program) (order : Relation) (fs : List Program) (other : Relation) (budget : ℕ) (c : Compared) → IsCompared es order fs other budget c → HasOrders c
has_orders es order fs other budget (compared.Left f) h = unsettled_orders es order budget f h
has_orders es order fs other budget (compared.Right l f) h = unsettled_orders fs other budget f h.1
has_orders es order fs other budget (compared.Equal l r v) h = tt
has_orders es order fs other budget (compared.Differ l r t) h = tt
has_orders es order fs other budget (compared.Spent l r f log) h = tt

module _ (given : List Path) (some : given ≢ []) (es : List Program) (order more : Relation) (side : Side given es order more)
    (fs : List Program) (other second : Relation) (other_side : Side given fs other second) (budget : ℕ) where
  -- a formula that states the question with the guards states it from these
  states_of : IsDeterministicFrom given es (Told (comes order)) → IsDeterministicFrom given fs (Told (comes other)) → (f : Formula) → StatesParting (guarded given es) more (guarded given fs) second f → StatesPartingFrom given es order fs other f
  states_of sure other_sure f h =
      states given es order side.long more side.before side.count sure fs other other_side.long second other_side.before other_side.count other_sure some side.first side.whole other_side.first other_side.whole
      side.is_first side.is_whole other_side.is_first other_side.is_whole f h

  -- all that is said of an answer with the guards is said of the answer without them
  said : (a b : Compared) → IsCompared (guarded given es) more (guarded given fs) second budget a → IsComparedWithout a b → IsComparedFrom given es order fs other budget b
  said (compared.Left f) b h is = subst (IsComparedFrom given es order fs other budget) (sym is.2) (unsettled_from given some es order more side budget f is.0 h is.1)
  said (compared.Right l f) b h is =
      subst (IsComparedFrom given es order fs other budget) (sym is.2) (settled_from given some es order more side l h.0, unsettled_from given some fs other second other_side budget f is.0 h.1 is.1)
  said (compared.Equal l r v) b h is =
      let one = settled_from given some es order more side l h.0 in
      let two = settled_from given some fs other second other_side r h.1 in
      subst (IsComparedFrom given es order fs other budget) (sym is) (
        one,
        two,
        (graphs.equal given es fs (comes order) (comes more) (comes other) (comes second) (goes given es order side.long more side.before) (goes given fs other other_side.long second other_side.before)).0 (λ t g. h.2 t g.is_tree),
        record { states = states_of one.deterministic two.deterministic v.formula h.3.states; no_model = h.3.no_model },
      )
  said (compared.Differ l r t) b h is =
      let one = settled_from given some es order more side l h.0 in
      let two = settled_from given some fs other second other_side r h.1 in
      subst (IsComparedFrom given es order fs other budget) (sym is) (
        one,
        two,
        part given es order side.long more side.before side.count one.deterministic fs other other_side.long second other_side.before other_side.count two.deterministic side.first other_side.first side.is_first other_side.is_first t h.2,
      )
  said (compared.Spent l r f log) b h is =
      let one = settled_from given some es order more side l h.0 in
      let two = settled_from given some fs other second other_side r h.1 in
      subst (IsComparedFrom given es order fs other budget) (sym is) (one, two, (states_of one.deterministic two.deterministic f h.2.0, h.2.1))

  -- and so it is of the programs that are those with the guards
  pub both_from : (gs ks : List Program) (a b : Compared) → gs ≡ guarded given es → ks ≡ guarded given fs → IsCompared gs more ks second budget a → IsComparedWithout a b → IsComparedFrom given es order fs other budget b
  both_from gs ks a b d e h is = said a b (subst (λ xs. IsCompared (guarded given es) more xs second budget a) e (subst (λ xs. IsCompared xs more ks second budget a) d h)) is
