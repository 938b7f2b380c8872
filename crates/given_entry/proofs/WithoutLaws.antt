-- What is answered of the graph with the guard, said of the graph.
use Rattle.std.proofs.Common.{◌≡◌, ◌≢◌, ℕ, List, [], refl, sym, ap, subst, ◌∙◌}
use Rattle.std.specs.Prelude.{◌↔◌}
use Rattle.fs_semantics.specs.FileTree.{Path}
use Rattle.fs_semantics.specs.Programs.{Program}
use Rattle.fs_semantics.specs.Orders.{Told}
use Rattle.given_hosts.specs.Given.{IsDeterministicFrom}
use Rattle.given_hosts.specs.Guard.{guarded}
use Rattle.given_hosts.proofs.GraphLaws.{succeeds}
use Rattle.orders.specs.Relation.{Relation, comes}
use Rattle.cnf.specs.Formulas.{Formula}
use Rattle.cnf.specs.declared.log.Step.{Step}
use Rattle.order_encode.specs.declared.witness.Witness.{Witness}
use Rattle.verdict.specs.declared.verdicts.Ends.{Ends}
use Rattle.verdict.specs.declared.verdicts.Ends.TheVariants as ends
use Rattle.verdict.specs.declared.verdicts.Settled.{Settled}
use Rattle.wanted_entry.specs.declared.wanted.Wanted.{Wanted}
use Rattle.ensured_entry.specs.declared.ensured.Late.{Late}
use Rattle.ensured_entry.specs.declared.ensured.Late.TheVariants as late
use Rattle.ensured_entry.specs.declared.ensured.Ensured.{Ensured}
use Rattle.ensured_entry.specs.declared.ensured.Ensured.TheVariants as ensured
use Rattle.ensured_entry.specs.Ensured.{AreEnds, IsSpentOn, IsKnownBefore, IsEnsured}
use Rattle.given_verdict.specs.Settled.{without}
use Rattle.given_verdict.specs.Ends.{IsRunOf}
use Rattle.given_verdict.proofs.SideLaws.{Side, goes, settled_from, unsettled_from, unsettled_orders}
use Rattle.given_verdict.proofs.EndLaws as end_laws
use Rattle.given_entry.specs.Answers.{HasOrders, AreEndsOf, AreEndsFrom, IsSpentOnFrom, IsKnownBeforeFrom, IsEnsuredFrom, IsEnsuredWithout}
use Rattle.given_entry.proofs.EntryLaws.{one_order, ensures, missed, states, entry_proof}

-- ---- what is needed to leave the guard out

-- an answer has the orders that its question asks for
pub has_orders : (es : List Program) (order : Relation) (w : Wanted) (budget : ℕ) (e : Ensured) → IsEnsured es order w budget e → HasOrders e
has_orders es order w budget (ensured.First f) h = unsettled_orders es order budget f h
has_orders es order w budget (ensured.Holds s v (ends.From x)) h = end_laws.one_order es order x h.3.1
has_orders es order w budget (ensured.Holds s v (ends.Never u)) h = tt
has_orders es order w budget (ensured.Fails s x) h = one_order es order w x h.1
has_orders es order w budget (ensured.Spent s a f log) h = tt

-- the answer without the entry, with the guard left out, is the one of the run without it
pub fails_are : (order : Relation) (e : Ensured) (s t : Settled) (x v : Witness) → e ≡ ensured.Fails s x → t ≡ without s → IsRunOf order x v → IsEnsuredWithout order e (ensured.Fails t v)
fails_are order e s t x v is less run = subst (λ d. IsEnsuredWithout order d (ensured.Fails t v)) (sym is) (v, run, ap (λ k. ensured.Fails k v) less)

-- and so is what ends in a tree
pub from_is : (order : Relation) (end : Ends) (x v : Witness) → end ≡ ends.From x → IsRunOf order x v → AreEndsOf order end (ends.From v)
from_is order end x v is run = subst (λ d. AreEndsOf order d (ends.From v)) (sym is) (v, run, refl)

-- ---- what is said

module _ (given : List Path) (some : given ≢ []) (es : List Program) (order more : Relation) (side : Side given es order more) (w : Wanted) (budget : ℕ) where
  -- what the budget was spent on with the guard it was spent on without it
  spent_on : (a : Late) (f : Formula) (steps : List Step) → IsDeterministicFrom given es (Told (comes order)) → IsSpentOn (guarded given es) more w budget a f steps → IsSpentOnFrom given es order w budget a f steps
  spent_on late.Ensures f steps d h = (states given es order side.long w more side.before d some side.count side.first side.whole side.is_first side.is_whole f h.0, h.1)
  spent_on late.Succeeds f steps d h = (end_laws.states given es order side.long d more side.count side.before some side.first side.whole side.is_first side.is_whole f h.0, h.1)

  -- what is known with the guard is known from the trees in which the folders stand
  known : (a : Late) → IsKnownBefore (guarded given es) more w a → IsKnownBeforeFrom given es order w a
  known late.Ensures h = h
  known late.Succeeds h = ensures given es order side.long w more side.before h

  -- whether the graph succeeds with the guard tells whether it does from these
  ended : (a b : Ends) → IsDeterministicFrom given es (Told (comes order)) → AreEnds (guarded given es) more a → AreEndsOf order a b → AreEndsFrom given es order b
  ended (ends.From x) b d h is = subst (AreEndsFrom given es order) (sym is.2) (
    (succeeds given es (comes order) (comes more) (goes given es order side.long more side.before)).0 h.0,
    end_laws.shown given es order side.long d more side.count side.before x is.0 h.1 is.1,
  )
  ended (ends.Never u) b d h is = subst (AreEndsFrom given es order) (sym is) (
    (λ k. h.0 ((succeeds given es (comes order) (comes more) (goes given es order side.long more side.before)).1 k)),
    record { states = end_laws.states given es order side.long d more side.count side.before some side.first side.whole side.is_first side.is_whole u.formula h.1.states; no_model = h.1.no_model },
  )

  -- all that is said of an answer with the guard is said of the answer without it
  said : (a b : Ensured) → IsEnsured (guarded given es) more w budget a → IsEnsuredWithout order a b → IsEnsuredFrom given es order w budget b
  said (ensured.First f) b h is = subst (IsEnsuredFrom given es order w budget) (sym is.2) (unsettled_from given some es order more side budget f is.0 h is.1)
  said (ensured.Holds s v end) b h is =
      let one = settled_from given some es order more side s h.0 in
      subst (IsEnsuredFrom given es order w budget) (sym is.2) (
        one,
        ensures given es order side.long w more side.before h.1,
        entry_proof given es order side.long w more side.before one.deterministic some side.count side.first side.whole side.is_first side.is_whole v.formula h.2,
        ended end is.0 one.deterministic h.3 is.1,
      )
  said (ensured.Fails s x) b h is =
      let one = settled_from given some es order more side s h.0 in
      subst (IsEnsuredFrom given es order w budget) (sym is.2) (one, missed given es order side.long w more side.before one.deterministic x is.0 h.1 is.1)
  said (ensured.Spent s a f log) b h is =
      let one = settled_from given some es order more side s h.0 in
      subst (IsEnsuredFrom given es order w budget) (sym is) (one, known a h.1, spent_on a f log.steps one.deterministic h.2)

  -- and so it is of the programs that are those with the guard
  pub entry_from : (fs : List Program) (a b : Ensured) → fs ≡ guarded given es → IsEnsured fs more w budget a → IsEnsuredWithout order a b → IsEnsuredFrom given es order w budget b
  entry_from fs a b e h is = said a b (subst (λ gs. IsEnsured gs more w budget a) e h) is
