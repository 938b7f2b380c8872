-- The order with one more node in front, and the steps of the guard.
use Rattle.std.proofs.Common.{◌≡◌, ◌≢◌, ◌↔◌, ℕ, zero, suc, ◌+◌, ◌<◌, ◌≤◌, ◌==◌, nat_lt, Bool, true, false, ◌&&◌, ◌||◌, List, [], ◌∷◌, map, refl, sym, ap, ap₂, subst, ◌∙◌, arith, eq-eqb, ne_eqb, eqb-true, lt-ltb, ltb-true}
use Rattle.std.specs.Prelude.{IsTrue}
use Rattle.fs_semantics.specs.FileTree.{Path as Segments}
use Rattle.fs_lang.specs.Meaning.{program_of, programs_in}
use Rattle.fs_lang.specs.declared.program.Program.{Program}
use Rattle.fs_semantics.specs.Programs.{next}
use Rattle.fs_semantics.proofs.Keys.{same_bool}
use Rattle.orders.specs.Relation.{Relation, comes, Comes, IsStrictOrder}
use Rattle.orders.specs.Paths.{EndsBelow, Path, edge, and_on}
use Rattle.commute_prune.specs.Pairs.{pairs_of}
use Rattle.commute_prune.proofs.PairLaws.{pairs_from, pairs_in}
use Rattle.kept_graph.proofs.PairLaws.{pairs_bounded}
use Rattle.given_hosts.specs.Guard.{need, need_all, guard_before}
use Rattle.std.proofs.lemmas.Bool.{and_parts}

-- programs that mean the needs of the given folders are the guard's steps
pub steps_are : (es : List Program) (given : List Segments) → map program_of es ≡ map need given → programs_in es ≡ need_all given
steps_are [] [] h = refl
steps_are [] (p ∷ given) h = cc
steps_are (e ∷ es) [] h = cc
steps_are (e ∷ es) (p ∷ given) h =
    let first : program_of e ≡ need p = cc in
    let others : map program_of es ≡ map need given = cc in
    ap₂ next first (steps_are es given others)

-- ---- what the test tells

-- no number is below itself
not_below : (n : ℕ) → nat_lt n n ≡ false
not_below n = elim (nat_lt n n) as (λ b. nat_lt n n ≡ b → b ≡ false) [
  | true ↦ λ e. absurd (let low = ltb-true n n e in omega (arith, low))
  | false ↦ λ e. refl
] refl

-- nothing is told to come before the guard
pub told_last : (n : ℕ) (before : ℕ → ℕ → Bool) (a b : ℕ) → b ≡ n → guard_before n before a b ≡ false
told_last n before a b e = ap (λ k. nat_lt k n && ((a == n) || before a k)) e ∙ ap (λ t. t && ((a == n) || before a n)) (not_below n)

-- the guard is told to come before each program
pub told_first : (n : ℕ) (before : ℕ → ℕ → Bool) (a b : ℕ) → a ≡ n → b < n → guard_before n before a b ≡ true
told_first n before a b e h = ap₂ (λ s t. s && (t || before a b)) (lt-ltb b n h) (eq-eqb a n e)

-- between programs it is told as before
pub told_other : (n : ℕ) (before : ℕ → ℕ → Bool) (a b : ℕ) → a ≢ n → b < n → guard_before n before a b ≡ before a b
told_other n before a b e h = ap₂ (λ s t. s && (t || before a b)) (lt-ltb b n h) (ne_eqb a n e)

-- and so it is told by each test of the order
pub told_by : (order : Relation) (a b : ℕ) (r : Bool) → a ≢ order.count → b ≤ order.count → b ≢ order.count → IsTrue r ↔ Comes order a b → r ≡ guard_before order.count (comes order) a b
told_by order a b r na low nb h = same_bool r (comes order a b) h.0 h.1 ∙ sym (told_other order.count (comes order) a b na (omega (arith, low, nb)))

-- ---- paths of edges

module _ (order : Relation) (strict : IsStrictOrder order) where
  -- the order with the guard in front, as a test
  test : ℕ → ℕ → Bool
  test = guard_before order.count (comes order)

  -- the second is a program, and the first is the guard or comes before it
  pub record Told (a b : ℕ) : Type 0 where
    pub low : b < order.count
    pub from : a ≢ order.count → Comes order a b

  -- what is told to come before is so
  told : (a b : ℕ) → IsTrue (guard_before order.count (comes order) a b) → Told a b
  told a b h =
      let two = and_parts (nat_lt b order.count) ((a == order.count) || comes order a b) h in
      let low = ltb-true b order.count two.0 in
      record { low = low; from = λ n. sym (told_other order.count (comes order) a b n low) ∙ h }

  -- and what is so is told
  back : (a b : ℕ) → b < order.count → (a ≢ order.count → Comes order a b) → IsTrue (guard_before order.count (comes order) a b)
  back a b low h = elim (a == order.count) as (λ t. (a == order.count) ≡ t → IsTrue (guard_before order.count (comes order) a b)) [
    | true ↦ λ e. told_first order.count (comes order) a b (eqb-true a order.count e) low
    | false ↦ λ e.
        let n : a ≢ order.count = (λ s. let t = eq-eqb a order.count s in cc) in
        told_other order.count (comes order) a b n low ∙ h n
  ] refl

  -- what is told is so over two steps, too
  on : (a b c : ℕ) → IsTrue (guard_before order.count (comes order) a b) → IsTrue (guard_before order.count (comes order) b c) → IsTrue (guard_before order.count (comes order) a c)
  on a b c h k =
      let first = told a b h in
      let second = told b c k in
      let differ : b ≢ order.count = (λ e. let low : b < order.count = first.low in omega (arith, low, e)) in
      back a c second.low (λ n. strict.transitive a b c (first.from n) (second.from differ))

  -- a path of edges that are told leads to what is told
  pub path_told : (m a b : ℕ) → Path (pairs_of (guard_before order.count (comes order)) m m) a b → IsTrue (guard_before order.count (comes order) a b)
  path_told m a b (edge h) = (pairs_from (guard_before order.count (comes order)) m m (a, b) h).passes
  path_told m a b (and_on h more) = on _ _ _ (pairs_from (guard_before order.count (comes order)) m m _ h).passes (path_told m _ b more)

  -- what is told is of the guard and the programs
  within : (a b : ℕ) → IsTrue (guard_before order.count (comes order) a b) → (a < order.count + 1) × (b < order.count + 1)
  within a b h =
      let t = told a b h in
      let low : b < order.count = t.low in
      let left : a < order.count + 1 = (elim (a == order.count) as (λ v. (a == order.count) ≡ v → a < order.count + 1) [
        | true ↦ λ e. let same = eqb-true a order.count e in omega (arith, same)
        | false ↦ λ e. let under = (strict.within a b (t.from (λ s. let v = eq-eqb a order.count s in cc))).0 in omega (arith, under)
      ] refl) in
      (left, omega (arith, low))

  -- what is told is an edge
  pub told_path : (a b : ℕ) → IsTrue (guard_before order.count (comes order) a b) → Path (pairs_of (guard_before order.count (comes order)) (order.count + 1) (order.count + 1)) a b
  told_path a b h =
      let two = within a b h in
      edge (pairs_in (guard_before order.count (comes order)) (order.count + 1) (order.count + 1) a b two.0 two.1 h)

  -- no path of edges that are told leads back
  pub never : (m a : ℕ) → Path (pairs_of (guard_before order.count (comes order)) m m) a a → ⊥
  never m a h =
      let t = told a a (path_told m a a h) in
      strict.never_itself a (t.from (λ e. let low : a < order.count = t.low in omega (arith, low, e)))

  -- the orders tell the same of all nodes
  pub same_order : (more : Relation) → ((a b : ℕ) → Comes more a b ↔ Path (pairs_of (guard_before order.count (comes order)) (order.count + 1) (order.count + 1)) a b)
      → comes more ≡ guard_before order.count (comes order)
  same_order more h = λ i a b. same_bool (comes more a b) (guard_before order.count (comes order) a b) (λ k. path_told (order.count + 1) a b ((h a b).0 k)) (λ k. (h a b).1 (told_path a b k)) i
