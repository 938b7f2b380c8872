-- The kept programs, one by one; their graph as the definitions have it; and what holds of all where it holds of these.
use Rattle.std.proofs.Common.{◌≡◌, ℕ, ◌<◌, Bool, true, false, List, [], ◌∷◌, map, length, get_or, refl, sym, ap, subst, ◌∙◌, arith}
use Rattle.std.specs.Prelude.{◌↔◌, IsTrue}
use Rattle.std.specs.List.{AllByRecursion}
use Rattle.std.proofs.lemmas.List.{get_or-map, length-map}
use Rattle.fs_semantics.specs.FileTree.{Tree, IsTree}
use Rattle.fs_semantics.specs.Programs.{Program, Id}
use Rattle.fs_semantics.specs.Orders.{Told, IsLinearExtension, IsDeterministic, IsCounterexample, outcome}
use Rattle.fs_lang.specs.declared.program.Program.{Program as CodeProgram}
use Rattle.fs_lang.specs.Meaning.{program_of}
use Rattle.orders.specs.Relation.{Relation, comes, Comes}
use Rattle.sure_folders.specs.Pruning.{chosen, between}
use Rattle.kept_graph.specs.declared.kept.Kept.{Kept}
use Rattle.kept_graph.specs.declared.counterexamples.Completed.{Completed}
use Rattle.kept_graph.specs.Kept.{IsKept, completion}
use Rattle.kept_graph.specs.Completed.{IsCompleted}
use Rattle.kept_graph.proofs.CompletionLaws.{length-chosen, extension_by}

-- the program that is written at a place is the one at that place
pub program_at : (ps : List CodeProgram) (k : ℕ) (e d : CodeProgram) → k < length ps → e ≡ get_or ps k d → program_of e ≡ get_or (map program_of ps) k Id
program_at ps k e d h is = ap program_of is ∙ sym (get_or-map program_of ps k d Id h)

-- ---- the same programs with the same order between them

module _ (es fs : List Program) (same : es ≡ fs) (before other : ℕ → ℕ → Type 0)
    (forth : (a b : ℕ) → a < length fs → b < length fs → before a b → other a b) (back : (a b : ℕ) → a < length fs → b < length fs → other a b → before a b) where
  -- what the one order allows the other allows
  to_other : (o : List ℕ) → IsLinearExtension (length es) before o → IsLinearExtension (length fs) other o
  to_other o a = extension_by (length fs) before other back o (subst (λ xs. IsLinearExtension (length xs) before o) same a)

  -- a counterexample by the one order is one by the other
  pub same_counterexample : (t : Tree) (o p : List ℕ) → IsCounterexample es before t o p → IsCounterexample fs other t o p
  same_counterexample t o p c = record {
    is_tree = c.is_tree;
    left_allowed = to_other o c.left_allowed;
    right_allowed = to_other p c.right_allowed;
    differ = subst (λ xs. (outcome xs o t ≡ outcome xs p t) → ⊥) same c.differ;
  }

  -- what the other allows the one allows
  from_other : (o : List ℕ) → IsLinearExtension (length fs) other o → IsLinearExtension (length es) before o
  from_other o a = subst (λ xs. IsLinearExtension (length xs) before o) (sym same) (extension_by (length fs) other before forth o a)

  -- programs that are deterministic by the one order are so by the other
  pub same_deterministic : IsDeterministic es before → IsDeterministic fs other
  same_deterministic d t is o p a b = subst (λ xs. outcome xs o t ≡ outcome xs p t) same (d t is o p (from_other o a) (from_other p b))

-- ---- the kept graph

module _ (es : List Program) (order : Relation) (kept : Kept) (is : IsKept es order kept) where
  -- as many programs are chosen as are kept
  long : length (chosen es kept.pruned.kept) ≡ length kept.pruned.kept
  long = length-chosen es kept.pruned.kept

  -- a place among the chosen programs is one among those that are kept
  within : (a : ℕ) → a < length (chosen es kept.pruned.kept) → a < length kept.pruned.kept
  within a h = subst (λ n. a < n) long h

  -- what comes before in the kept graph comes before among all
  forth : (a b : ℕ) → a < length (chosen es kept.pruned.kept) → b < length (chosen es kept.pruned.kept) → Comes kept.order a b → between (Comes order) kept.pruned.kept a b
  forth a b h g = (is.before a b (within a h) (within b g)).0

  -- and what comes before among all comes before in the kept graph
  back : (a b : ℕ) → a < length (chosen es kept.pruned.kept) → b < length (chosen es kept.pruned.kept) → between (Comes order) kept.pruned.kept a b → Comes kept.order a b
  back a b h g = (is.before a b (within a h) (within b g)).1

  -- a place in the kept graph is one among the chosen programs
  widen : (a : ℕ) → a < length (map program_of kept.programs) → a < length (chosen es kept.pruned.kept)
  widen a h = subst (λ xs. a < length xs) is.programs h

  -- the kept graph has the counterexamples of the programs that are kept
  pub counterexamples : (t : Tree) (o p : List ℕ) → IsCounterexample (map program_of kept.programs) (Comes kept.order) t o p ↔ IsCounterexample (chosen es kept.pruned.kept) (between (Comes order) kept.pruned.kept) t o p
  counterexamples t o p = (
    same_counterexample (map program_of kept.programs) (chosen es kept.pruned.kept) is.programs (Comes kept.order) (between (Comes order) kept.pruned.kept) forth back t o p,
    same_counterexample (chosen es kept.pruned.kept) (map program_of kept.programs) (sym is.programs) (between (Comes order) kept.pruned.kept) (Comes kept.order)
        (λ a b h g. back a b (widen a h) (widen b g)) (λ a b h g. forth a b (widen a h) (widen b g)) t o p,
  )

  -- it is deterministic exactly where these are
  pub deterministic : IsDeterministic (map program_of kept.programs) (Told (comes kept.order)) ↔ IsDeterministic (chosen es kept.pruned.kept) (between (Told (comes order)) kept.pruned.kept)
  deterministic = (
    same_deterministic (map program_of kept.programs) (chosen es kept.pruned.kept) is.programs (Comes kept.order) (between (Comes order) kept.pruned.kept) forth back,
    same_deterministic (chosen es kept.pruned.kept) (map program_of kept.programs) (sym is.programs) (between (Comes order) kept.pruned.kept) (Comes kept.order)
        (λ a b h g. back a b (widen a h) (widen b g)) (λ a b h g. forth a b (widen a h) (widen b g)),
  )

-- no programs are deterministic
none_differ : (before : ℕ → ℕ → Type 0) (t : Tree) (o p : List ℕ) → IsLinearExtension 0 before o → IsLinearExtension 0 before p → outcome [] o t ≡ outcome [] p t
none_differ before t [] [] a b = refl
none_differ before t [] (k ∷ p) a b = let below = b.below.0 in absurd (omega (arith, below))
none_differ before t (k ∷ o) p a b = let below = a.below.0 in absurd (omega (arith, below))

-- a graph without programs is deterministic
pub nothing_deterministic : (ps : List CodeProgram) (before : ℕ → ℕ → Bool) → ps ≡ [] → IsDeterministic (map program_of ps) (Told before)
nothing_deterministic ps before e = subst (λ xs. IsDeterministic (map program_of xs) (Told before)) (sym e) (λ t is o p a b. none_differ (Told before) t o p a b)

-- ---- completed orders

-- an allowed order has numbers of programs alone
numbers_below : (ps : List CodeProgram) (before : ℕ → ℕ → Type 0) (o : List ℕ) → IsLinearExtension (length (map program_of ps)) before o → AllByRecursion (λ i. i < length ps) o
numbers_below ps before o a = subst (λ n. AllByRecursion (λ i. i < n) o) (length-map ps program_of) a.below

-- and so has a list that is lent from one
pub completed_below : (ps : List CodeProgram) (order : Relation) (whole order_of slice : List ℕ) → IsLinearExtension (length (map program_of ps)) (Comes order) order_of → whole ≡ order_of → slice ≡ whole
    → AllByRecursion (λ i. i < length ps) slice
completed_below ps order whole order_of slice a e f = subst (AllByRecursion (λ i. i < length ps)) (sym (f ∙ e)) (numbers_below ps (Comes order) order_of a)

-- orders that don't end alike are a counterexample
pub completed : (es : List Program) (order : Relation) (kept : Kept) (t : Tree) (o p : List ℕ) (c : Completed) → IsTree t
    → IsLinearExtension (length es) (Comes order) (completion kept.pruned o) → IsLinearExtension (length es) (Comes order) (completion kept.pruned p)
    → c.left ≡ completion kept.pruned o → c.right ≡ completion kept.pruned p → (outcome es c.left t ≡ outcome es c.right t → ⊥) → IsCompleted es order kept.pruned t o p c
completed es order kept t o p c tree left right e f differ = record {
  left_is = e;
  right_is = f;
  counterexample = record {
    is_tree = tree;
    left_allowed = subst (IsLinearExtension (length es) (Comes order)) (sym e) left;
    right_allowed = subst (IsLinearExtension (length es) (Comes order)) (sym f) right;
    differ = differ;
  };
}

-- where a test that tells it is false, it doesn't hold
pub not_alike : (b : Bool) (P : Type 0) → IsTrue b ↔ P → b ≡ false → P → ⊥
not_alike b P told is p = let other : b ≡ true = told.1 p in cc
