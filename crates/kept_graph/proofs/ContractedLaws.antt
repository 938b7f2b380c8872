-- Orders of the contracted graph, and the orders of all programs that they stand for.
use Rattle.std.proofs.Common.{◌≡◌, ◌≢◌, inl, inr, ℕ, zero, suc, Bool, true, false, cond, ◌==◌, ◌+◌, ◌<◌, ◌≤◌, List, [], ◌∷◌, ◌++◌, map, take, length, get_or, Some, None, refl, sym, ap, ap₂, subst, ◌∙◌, arith, append_assoc, length-append, eqb-true, eq-eqb}
use Rattle.std.proofs.lemmas.Bool.{eqb-false, ne_eqb}
use Rattle.std.specs.List.{AllByRecursion}
use Rattle.fs_semantics.specs.FileTree.{Tree, IsTree}
use Rattle.fs_semantics.specs.Programs.{Program, Id, Outcome, and_then, run, run_all}
use Rattle.fs_semantics.specs.Orders.{Told, IsLinearExtension, IsDeterministic, IsCounterexample, IsFree, IsExchange, times, outcome}
use Rattle.fs_semantics.proofs.Counts.{all_at, all_back, all_append}
use Rattle.fs_semantics.proofs.Commuting.{outcome-append}
use Rattle.fs_lang.specs.declared.program.Program.{Program as CodeProgram}
use Rattle.fs_lang.specs.declared.program.Program.TheVariants as code
use Rattle.fs_lang.specs.Meaning.{program_of, programs_in, program_of_steps}
use Rattle.orders.specs.Relation.{Relation, comes, Comes}
use Rattle.commute_prune.specs.declared.settling.Pruned.{Pruned}
use Rattle.commute_prune.specs.Pruning.{Leads, EndsAsKept}
use Rattle.sure_folders.specs.Pruning.{Move, ToFirst, ToLast, firsts, lasts, chosen, between, without}
use Rattle.commute_prune.specs.Pruned.{IsPruned}
use Rattle.commute_prune.proofs.StepLaws.{without_keeps}
use Rattle.kept_graph.specs.declared.contracted.Contracted.{Contracted}
use Rattle.kept_graph.specs.Kept.{completion}
use Rattle.kept_graph.specs.Contracted.{Around, steps_of, as_one, contracted_programs, IsContracted, members, expanded}
use Rattle.kept_graph.proofs.CompletionLaws.{length-chosen, extension_by, one_place}
use Rattle.kept_graph.proofs.AroundLaws.{shape, wrapped, wraps}
use Rattle.std.proofs.lemmas.List.{append-nil}
use Rattle.sure_folders.proofs.Places.{program_at}

-- ---- programs

-- the steps that are written in a list are its programs
steps_in : (es : List CodeProgram) → programs_in es ≡ steps_of (map program_of es)
steps_in [] = refl
steps_in (e ∷ es) = let rest = steps_in es in cc

-- a list of the programs with these numbers is, as a program, those programs as one
pub one_of : (es : List CodeProgram) (all : List Program) (ks : List ℕ) → map program_of es ≡ chosen all ks → program_of (code.Steps es) ≡ as_one all ks
one_of es all ks e = program_of_steps es ∙ ap Rattle.fs_semantics.specs.Programs.Steps (steps_in es ∙ ap steps_of e)

-- what is moved is one of all
pub firsts_below : (es : List Program) (before : ℕ → ℕ → Type 0) (n : ℕ) (moves : List Move) (ks kept : List ℕ) → Leads es before moves ks kept → AllByRecursion (λ k. k < n) ks
    → AllByRecursion (λ k. k < n) (firsts moves)
firsts_below es before n [] ks kept leads all = tt
firsts_below es before n (ToFirst k ∷ moves) ks kept leads all =
    (all_at (λ j. j < n) ks k all (omega (arith, leads.0.once)), firsts_below es before n moves (without k ks) kept leads.1 (without_keeps (λ j. j < n) k ks all))
firsts_below es before n (ToLast k ∷ moves) ks kept leads all = firsts_below es before n moves (without k ks) kept leads.1 (without_keeps (λ j. j < n) k ks all)

-- what goes last is among the numbers that there were
pub lasts_below : (es : List Program) (before : ℕ → ℕ → Type 0) (n : ℕ) (moves : List Move) (ks kept : List ℕ) → Leads es before moves ks kept → AllByRecursion (λ k. k < n) ks
    → AllByRecursion (λ k. k < n) (lasts moves)
lasts_below es before n [] ks kept leads all = tt
lasts_below es before n (ToFirst k ∷ moves) ks kept leads all = lasts_below es before n moves (without k ks) kept leads.1 (without_keeps (λ j. j < n) k ks all)
lasts_below es before n (ToLast k ∷ moves) ks kept leads all =
    all_append (λ j. j < n) (lasts moves) (k ∷ []) (lasts_below es before n moves (without k ks) kept leads.1 (without_keeps (λ j. j < n) k ks all))
    (all_at (λ j. j < n) ks k all (omega (arith, leads.0.once)), tt)

-- ---- places in two lists

-- an item of the first of two lists stands at its place in both together
ahead : (xs ys : List Program) (i : ℕ) → i < length xs → get_or (xs ++ ys) i Id ≡ get_or xs i Id
ahead [] ys i h = absurd (omega (arith, h))
ahead (x ∷ xs) ys zero h = refl
ahead (x ∷ xs) ys (suc i) h = ahead xs ys i (omega (arith, h))

-- an item of the second stands behind all of the first
behind : (xs ys : List Program) (i j : ℕ) → j ≡ length xs + i → get_or (xs ++ ys) j Id ≡ get_or ys i Id
behind [] ys i j e = let same : j ≡ i = omega (arith, e) in ap (λ k. get_or ys k Id) same
behind (x ∷ xs) ys i zero e = absurd (omega (arith, e))
behind (x ∷ xs) ys i (suc j) e = behind xs ys i j (omega (arith, e))

-- ---- what a node's program does

-- programs as the steps of one run as they do one after the other
steps_run : (es : List Program) (ks : List ℕ) (t : Tree) → run_all (steps_of (chosen es ks)) t ≡ outcome es ks t
steps_run es [] t = refl
steps_run es (k ∷ ks) t = (λ n. and_then (run (get_or es k Id) t) (λ u. steps_run es ks u n))

-- an empty order behind a run changes nothing
only_then : (es : List Program) (o : Outcome) → and_then o (outcome es []) ≡ o
only_then es None = refl
only_then es (Some t) = refl

module _ (es : List Program) (p : Pruned) where
  -- how many programs are kept
  abbrev n : ℕ
  n = length p.kept

  -- what goes first, and what goes last, each as one program
  abbrev both : List Program
  both = as_one es p.first ∷ as_one es p.last ∷ []

  -- the contracted programs are two more than are kept
  pub long : length (contracted_programs es p) ≡ n + 2
  long = by (chosen es p.kept) (length-chosen es p.kept)
    where
      by : (xs : List Program) → length xs ≡ n → length (xs ++ both) ≡ n + 2
      by xs e = length-append xs both ∙ ap (λ m. m + 2) e

  -- each of them runs as the programs that it stands for
  run_member : (i : ℕ) → i < n + 2 → (t : Tree) → run (get_or (contracted_programs es p) i Id) t ≡ outcome es (members p i) t
  run_member i h t = first_case (i == n) refl
    where
      size : length (chosen es p.kept) ≡ n
      size = length-chosen es p.kept

      rest : i ≢ n → (b : Bool) → (i == n + 1) ≡ b → run (get_or (contracted_programs es p) i Id) t ≡ outcome es (cond b p.last (get_or p.kept i 0 ∷ [])) t
      rest other true e =
          let is = eqb-true i (n + 1) e in
          ap (λ x. run x t) (behind (chosen es p.kept) both 1 i (omega (arith, is, size))) ∙ steps_run es p.last t
      rest other false e =
          let not_last = eqb-false i (n + 1) e in
          let low : i < n = omega (arith, h, other, not_last) in
          ap (λ x. run x t) (ahead (chosen es p.kept) both i (omega (arith, low, size)) ∙ program_at es p.kept i low) ∙ sym (only_then es (run (get_or es (get_or p.kept i 0) Id) t))

      first_case : (b : Bool) → (i == n) ≡ b → run (get_or (contracted_programs es p) i Id) t ≡ outcome es (cond b p.first (cond (i == n + 1) p.last (get_or p.kept i 0 ∷ []))) t
      first_case true e =
          let is = eqb-true i n e in
          ap (λ x. run x t) (behind (chosen es p.kept) both 0 i (omega (arith, is, size))) ∙ steps_run es p.first t
      first_case false e = rest (eqb-false i n e) (i == n + 1) refl

  -- orders end as those that they stand for
  pub outcome_expanded : (o : List ℕ) → AllByRecursion (λ i. i < n + 2) o → (t : Tree) → outcome (contracted_programs es p) o t ≡ outcome es (expanded p o) t
  outcome_expanded [] all t = refl
  outcome_expanded (i ∷ o) all t =
      (λ m. and_then (run_member i all.0 t m) (λ u. outcome_expanded o all.1 u m)) ∙ sym (outcome-append es (members p i) (expanded p o) t)

-- two orders, one behind the other, stand for what each stands for, one behind the other
expanded-append : (p : Pruned) (xs ys : List ℕ) → expanded p (xs ++ ys) ≡ expanded p xs ++ expanded p ys
expanded-append p [] ys = refl
expanded-append p (x ∷ xs) ys = ap (λ r. members p x ++ r) (expanded-append p xs ys) ∙ sym (append_assoc (members p x) (expanded p xs) (expanded p ys))

-- the node behind the kept ones stands for what goes first
member_first : (p : Pruned) → members p (length p.kept) ≡ p.first
member_first p = ap (λ b. cond b p.first (cond (length p.kept == length p.kept + 1) p.last (get_or p.kept (length p.kept) 0 ∷ []))) (eq-eqb (length p.kept) (length p.kept) refl)

-- the node after it stands for what goes last
member_last : (p : Pruned) → members p (length p.kept + 1) ≡ p.last
member_last p =
    let n = length p.kept in
    ap₂ (λ b c. cond b p.first (cond c p.last (get_or p.kept (n + 1) 0 ∷ []))) (ne_eqb (n + 1) n (λ e. omega (arith, e))) (eq-eqb (n + 1) (n + 1) refl)

-- each other node stands for the program that is kept at its place
member_between : (p : Pruned) (i : ℕ) → i < length p.kept → members p i ≡ get_or p.kept i 0 ∷ []
member_between p i h =
    let n = length p.kept in
    ap₂ (λ b c. cond b p.first (cond c p.last (get_or p.kept i 0 ∷ []))) (ne_eqb i n (λ e. omega (arith, e, h))) (ne_eqb i (n + 1) (λ e. omega (arith, e, h)))

-- an order of the kept ones stands for those programs in that order
expanded_between : (p : Pruned) (o : List ℕ) → AllByRecursion (λ i. i < length p.kept) o → expanded p o ≡ map (λ i. get_or p.kept i 0) o
expanded_between p [] all = refl
expanded_between p (i ∷ o) all = ap₂ (λ xs ys. xs ++ ys) (member_between p i all.0) (expanded_between p o all.1)

-- with the two others at its ends it stands for its completion
expanded_wrapped : (p : Pruned) (before : ℕ → ℕ → Type 0) (o : List ℕ) → AllByRecursion (λ i. i < length p.kept) o → expanded p (wrapped (length p.kept) before o) ≡ completion p o
expanded_wrapped p before o all =
    ap₂ (λ xs ys. xs ++ ys) (member_first p) (expanded-append p o ((length p.kept + 1) ∷ [])
    ∙ ap₂ (λ xs ys. xs ++ ys) (expanded_between p o all) (append-nil (members p (length p.kept + 1)) ∙ member_last p))

-- one node more
pub one_member_more : (p : Pruned) (order : List ℕ) (i : ℕ) → i < length order → expanded p (take i order) ++ members p (get_or order i 0) ≡ expanded p (take (suc i) order)
one_member_more p [] i h = absurd (omega (arith, h))
one_member_more p (x ∷ order) zero h = sym (append-nil (members p x))
one_member_more p (x ∷ order) (suc i) h =
    append_assoc (members p x) (expanded p (take i order)) (members p (get_or order i 0)) ∙ ap (λ r. members p x ++ r) (one_member_more p order i (omega (arith, h)))

-- ---- the contracted graph

module _ (es : List Program) (order : Relation) (p : Pruned) (c : Contracted) (is : IsContracted es order p c) where
  -- the order between the kept programs
  abbrev among : ℕ → ℕ → Type 0
  among = between (Comes order) p.kept

  -- how many programs are kept
  abbrev m : ℕ
  m = length p.kept

  -- the contracted graph has two programs more than are kept
  size : length (map program_of c.programs) ≡ m + 2
  size = ap length is.programs ∙ long es p

  -- an allowed order of the contracted graph is allowed by the order around
  pub to_around : (o : List ℕ) → IsLinearExtension (length (map program_of c.programs)) (Comes c.order) o → IsLinearExtension (m + 2) (Around m among) o
  to_around o a = extension_by (m + 2) (Comes c.order) (Around m among) (λ x y h g k. (is.before x y h g).1 k) o (subst (λ l. IsLinearExtension l (Comes c.order) o) size a)

  -- and what that allows is an allowed order of the contracted graph
  from_around : (o : List ℕ) → IsLinearExtension (m + 2) (Around m among) o → IsLinearExtension (length (map program_of c.programs)) (Comes c.order) o
  from_around o a = subst (λ l. IsLinearExtension l (Comes c.order) o) (sym size) (extension_by (m + 2) (Around m among) (Comes c.order) (λ x y h g k. (is.before x y h g).0 k) o a)

  -- such an order ends as the order that it stands for
  ends : (o : List ℕ) → IsLinearExtension (m + 2) (Around m among) o → (t : Tree) → outcome (map program_of c.programs) o t ≡ outcome es (expanded p o) t
  ends o a t = ap (λ xs. outcome xs o t) is.programs ∙ outcome_expanded es p o a.below t

  module _ (leads : IsPruned es (Told (comes order)) p)
      (completed : (o : List ℕ) → IsLinearExtension (length (chosen es p.kept)) (between (Told (comes order)) p.kept) o
      → IsLinearExtension (length es) (Told (comes order)) (firsts leads.moves ++ (map (λ i. get_or p.kept i 0) o ++ lasts leads.moves))) where
    -- what goes first, the kept ones in an order, and what goes last are the completion of that order
    completed_as : (o : List ℕ) → firsts leads.moves ++ (map (λ i. get_or p.kept i 0) o ++ lasts leads.moves) ≡ completion p o
    completed_as o = ap₂ (λ first last. first ++ (map (λ i. get_or p.kept i 0) o ++ last)) (sym leads.first_is) (sym leads.last_is)

    -- what an allowed order stands for is allowed
    pub expanded_allowed : (o : List ℕ) → IsLinearExtension (length (map program_of c.programs)) (Comes c.order) o → IsLinearExtension (length es) (Comes order) (expanded p o)
    expanded_allowed o a =
        let s = shape m among o (to_around o a) in
        subst (IsLinearExtension (length es) (Comes order)) (completed_as s.mid ∙ sym (expanded_wrapped p among s.mid s.allowed.below) ∙ ap (expanded p) (sym s.is))
        (completed s.mid (subst (λ l. IsLinearExtension l among s.mid) (sym (length-chosen es p.kept)) s.allowed))

    -- what a counterexample of the contracted graph stands for is one of all programs
    pub expanded_counterexample : (t : Tree) (o q : List ℕ) → IsCounterexample (map program_of c.programs) (Comes c.order) t o q → IsCounterexample es (Comes order) t (expanded p o) (expanded p q)
    expanded_counterexample t o q x = record {
      is_tree = x.is_tree;
      left_allowed = expanded_allowed o x.left_allowed;
      right_allowed = expanded_allowed q x.right_allowed;
      differ = λ e. x.differ (ends o (to_around o x.left_allowed) t ∙ e ∙ sym (ends q (to_around q x.right_allowed) t));
    }

    module _ (rearranged : (o : List ℕ) → IsLinearExtension (length es) (Told (comes order)) o → EndsAsKept es (Told (comes order)) leads.moves p.kept o) where
      -- an order of the contracted graph that ends as this one does
      record AsContracted (o : List ℕ) : Type 0 where
        order_of : List ℕ
        allowed : IsLinearExtension (length (map program_of c.programs)) (Comes c.order) order_of
        alike : (t : Tree) → IsTree t → outcome es o t ≡ outcome (map program_of c.programs) order_of t

      -- for each allowed order of all programs there is such an order
      as_contracted : (o : List ℕ) → IsLinearExtension (length es) (Comes order) o → AsContracted o
      as_contracted o a =
          let r = rearranged o a in
          let mid = subst (λ l. IsLinearExtension l among r.rest) (length-chosen es p.kept) r.allowed in
          let w = wraps m among r.rest mid in
          record {
            order_of = wrapped m among r.rest;
            allowed = from_around (wrapped m among r.rest) w;
            alike = λ t tree. r.alike t tree ∙ ap (λ xs. outcome es xs t) (completed_as r.rest ∙ sym (expanded_wrapped p among r.rest mid.below)) ∙ sym (ends (wrapped m among r.rest) w t);
          }

      -- where the contracted graph is deterministic, all programs are
      pub contracted_deterministic : IsDeterministic (map program_of c.programs) (Comes c.order) → IsDeterministic es (Comes order)
      contracted_deterministic d t tree o q a b =
          let x = as_contracted o a in
          let y = as_contracted q b in
          x.alike t tree ∙ d t tree x.order_of y.order_of x.allowed y.allowed ∙ sym (y.alike t tree)

      -- where all programs have a counterexample, the contracted graph has one from the same tree
      pub contracted_counterexample : (t : Tree) (o q : List ℕ) → IsCounterexample es (Comes order) t o q
          → (left : List ℕ) × (right : List ℕ) × IsCounterexample (map program_of c.programs) (Comes c.order) t left right
      contracted_counterexample t o q k =
          let x = as_contracted o k.left_allowed in
          let y = as_contracted q k.right_allowed in (
            x.order_of,
            y.order_of,
            record {
              is_tree = k.is_tree;
              left_allowed = x.allowed;
              right_allowed = y.allowed;
              differ = λ e. k.differ (x.alike t k.is_tree ∙ e ∙ sym (y.alike t k.is_tree));
            },
          )

  -- ---- exchanges

  -- a node that is free of another one is a kept one
  kept_one : (a b : ℕ) → a < m + 2 → b < m + 2 → IsFree (Comes c.order) a b → a < m
  kept_one a b h g free = omega (
    arith,
    h,
    λ (e : a ≡ m). free.not_before ((is.before a b h g).1 (inl (e, λ f. free.differ (e ∙ sym f)))),
    λ (e : a ≡ m + 1). free.not_after ((is.before b a g h).1 (inr (inl (e, λ f. free.differ (e ∙ sym f))))),
  )

  -- free nodes are free the other way round
  other_free : (a b : ℕ) → IsFree (Comes c.order) a b → IsFree (Comes c.order) b a
  other_free a b free = record { differ = λ e. free.differ (sym e); not_before = free.not_after; not_after = free.not_before }

  -- orders with two free neighbours exchanged stand for orders of all programs with two free neighbours exchanged
  pub expanded_exchange : ((k : ℕ) → times k p.kept ≤ 1) → (o q : List ℕ) → IsLinearExtension c.order.count (Comes c.order) o → IsExchange (Comes c.order) o q
      → IsExchange (Comes order) (expanded p o) (expanded p q)
  expanded_exchange once o q a e =
      let all = all_back (λ k. k < m + 2) e.front (e.left ∷ e.right ∷ e.back) (subst (AllByRecursion (λ k. k < m + 2)) e.was (subst (λ l. AllByRecursion (λ k. k < l) o) is.count a.below)) in
      let x = kept_one e.left e.right all.0 all.1.0 e.free in
      let y = kept_one e.right e.left all.1.0 all.0 (other_free e.left e.right e.free) in
      let apart : (k l : ℕ) → k < m → l < m → expanded p (e.front ++ k ∷ l ∷ e.back) ≡ expanded p e.front ++ get_or p.kept k 0 ∷ get_or p.kept l 0 ∷ expanded p e.back = λ k l h g.
      expanded-append p e.front (k ∷ l ∷ e.back)
      ∙ ap₂ (λ xs ys. expanded p e.front ++ (xs ++ (ys ++ expanded p e.back))) (member_between p k h) (member_between p l g) in
      record {
        front = expanded p e.front;
        left = get_or p.kept e.left 0;
        right = get_or p.kept e.right 0;
        back = expanded p e.back;
        was = ap (expanded p) e.was ∙ apart e.left e.right x y;
        is = ap (expanded p) e.is ∙ apart e.right e.left y x;
        free = record {
          differ = λ f. e.free.differ (one_place p.kept e.left e.right once x y f);
          not_before = λ k. e.free.not_before ((is.before e.left e.right all.0 all.1.0).1 (inr (inr (x, y, k))));
          not_after = λ k. e.free.not_after ((is.before e.right e.left all.1.0 all.0).1 (inr (inr (y, x, k))));
        };
      }
