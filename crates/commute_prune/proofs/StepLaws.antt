-- Moves that are found, one after the other.
use Rattle.std.proofs.Common.{◌≡◌, ℕ, ◌+◌, ◌<◌, ◌≤◌, Bool, true, false, cond, ◌==◌, List, [], ◌∷◌, ◌++◌, length, Option, Some, None, inl, inr, refl, sym, ap, subst, ◌∙◌, arith, append_assoc}
use Rattle.std.specs.Prelude.{◌↔◌, IsTrue}
use Rattle.std.specs.List.{AllByRecursion, find}
use Rattle.std.proofs.lemmas.Bool.{cases_Bool}
use Rattle.fs_semantics.specs.Orders.{times, up_from}
use Rattle.fs_semantics.proofs.Keys.{same_bool}
use Rattle.fs_semantics.proofs.Counts.{times_itself}
use Rattle.orders.specs.Relation.{Relation, comes, Comes}
use Rattle.commute_prune.specs.declared.settling.Pruning.{Pruning}
use Rattle.sure_folders.specs.Pruning.{Move, ToFirst, ToLast, without, firsts}
use Rattle.commute_prune.specs.Steps.{may_last, may_first, or_first, next_move}
use Rattle.commute_prune.specs.Pruned.{lates, Stepped, Finds, subject, IsStart, IsOnTheWay}
use Rattle.fs_semantics.proofs.Ground.{up_below}

-- an answer that is true exactly where one comes before the other is what the order tells
pub told_by : (order : Relation) (a b : _) (r : Bool) → IsTrue r ↔ Comes order a b → r ≡ comes order a b
told_by order a b r h = same_bool r (comes order a b) h.0 h.1

-- at first all kept numbers are those of programs
pub start_below : (order : Relation) (ks : List ℕ) → ks ≡ up_from 0 order.count → AllByRecursion (λ j. j < order.count) ks
start_below order ks h = subst (AllByRecursion (λ j. j < order.count)) (sym h) (up_below 0 order.count order.count (omega arith))

-- what holds of all numbers holds of all without one
pub without_keeps : (P : ℕ → Type 0) (k : ℕ) (ks : List ℕ) → AllByRecursion P ks → AllByRecursion P (without k ks)
without_keeps P k [] h = tt
without_keeps P k (j ∷ ks) h = elim (cases_Bool (j == k)) [
  | inl here ↦ subst (λ b. AllByRecursion P (cond b (without k ks) (j ∷ without k ks))) (sym here) (without_keeps P k ks h.1)
  | inr other ↦ subst (λ b. AllByRecursion P (cond b (without k ks) (j ∷ without k ks))) (sym other) (h.0, without_keeps P k ks h.1)
]

-- a list without one number is no longer
pub without_short : (k : ℕ) (ks : List ℕ) → length (without k ks) ≤ length ks
without_short k [] = omega arith
without_short k (j ∷ ks) = elim (cases_Bool (j == k)) [
  | inl here ↦ let e = ap (λ b. length (cond b (without k ks) (j ∷ without k ks))) here in let s = without_short k ks in omega arith
  | inr other ↦ let e = ap (λ b. length (cond b (without k ks) (j ∷ without k ks))) other in let s = without_short k ks in omega arith
]

-- and shorter, where that number stood there
without_shorter : (k : ℕ) (ks : List ℕ) → 0 < times k ks → length (without k ks) < length ks
without_shorter k [] h = absurd (omega arith)
without_shorter k (j ∷ ks) h = elim (cases_Bool (j == k)) [
  | inl here ↦ let e = ap (λ b. length (cond b (without k ks) (j ∷ without k ks))) here in let s = without_short k ks in omega arith
  | inr other ↦
      let e = ap (λ b. length (cond b (without k ks) (j ∷ without k ks))) other in
      let there : 0 < times k ks = omega (arith, h, ap (λ b. cond b 1 0 + times k ks) other) in
      let s = without_shorter k ks there in omega arith
]

-- what is found stands in the list
pub found_there : (P : ℕ → Bool) (ks : List ℕ) (k : ℕ) → find P ks ≡ Some k → 0 < times k ks
found_there P [] k h = let no : ◌≡◌ {A = Option ℕ} None (Some k) = h in cc
found_there P (j ∷ ks) k h = elim (cases_Bool (P j)) [
  | inl here ↦
      let e : ◌≡◌ {A = Option ℕ} (Some j) (Some k) = ap (λ b. cond b (Some j) (find P ks)) (sym here) ∙ h in
      let same : j ≡ k = cc in
      omega (arith, times_itself j ks, ap (λ i. times i (j ∷ ks)) same)
  | inr other ↦
      let e = ap (λ b. cond b (Some j) (find P ks)) (sym other) ∙ h in
      let there = found_there P ks k e in omega (arith, there)
]

-- a move to the end is the first that may go last
pub or_last : (a b : Option ℕ) (k : ℕ) → or_first a b ≡ Some (ToLast k) → a ≡ Some k
or_last (Some j) b k h = cc
or_last None (Some j) k h = cc
or_last None None k h = cc

-- a move to the front is the first that may go first, where none may go last
pub or_other : (a b : Option ℕ) (k : ℕ) → or_first a b ≡ Some (ToFirst k) → (a ≡ None) × (b ≡ Some k)
or_other (Some j) b k h = cc
or_other None (Some j) k h = (refl, cc)
or_other None None k h = cc

-- where there is no move, none may go either way
pub or_none : (a b : Option ℕ) → or_first a b ≡ None → (a ≡ None) × (b ≡ None)
or_none (Some j) b h = cc
or_none None (Some j) h = cc
or_none None None h = (refl, refl)

-- the program that moves was kept
pub subject_there : (order : Relation) (rows : List (List Bool)) (ks : List ℕ) (m : Move) → next_move order rows ks ≡ Some m → 0 < times (subject m) ks
subject_there order rows ks (ToLast k) h = found_there (may_last order rows ks) ks k (or_last (find (may_last order rows ks) ks) (find (may_first order rows ks) ks) k h)
subject_there order rows ks (ToFirst k) h = found_there (may_first order rows ks) ks k ((or_other (find (may_last order rows ks) ks) (find (may_first order rows ks) ks) k h).1)

-- with one more move to the front that program goes first, behind the others that do
firsts_last : (moves : List Move) (k : ℕ) → firsts (moves ++ ToFirst k ∷ []) ≡ firsts moves ++ k ∷ []
firsts_last [] k = refl
firsts_last (ToFirst j ∷ moves) k = ap (λ l. j ∷ l) (firsts_last moves k)
firsts_last (ToLast j ∷ moves) k = firsts_last moves k

-- a move to the end changes nothing of what goes first
firsts_same : (moves : List Move) (k : ℕ) → firsts (moves ++ ToLast k ∷ []) ≡ firsts moves
firsts_same [] k = refl
firsts_same (ToFirst j ∷ moves) k = ap (λ l. j ∷ l) (firsts_same moves k)
firsts_same (ToLast j ∷ moves) k = firsts_same moves k

-- with one more move to the end that program went last
lates_last : (moves : List Move) (k : ℕ) → lates (moves ++ ToLast k ∷ []) ≡ lates moves ++ k ∷ []
lates_last [] k = refl
lates_last (ToFirst j ∷ moves) k = lates_last moves k
lates_last (ToLast j ∷ moves) k = ap (λ l. j ∷ l) (lates_last moves k)

-- a move to the front changes nothing of what went last
lates_same : (moves : List Move) (k : ℕ) → lates (moves ++ ToFirst k ∷ []) ≡ lates moves
lates_same [] k = refl
lates_same (ToFirst j ∷ moves) k = lates_same moves k
lates_same (ToLast j ∷ moves) k = ap (λ l. j ∷ l) (lates_same moves k)

-- at first no move was made
pub on_start : (order : Relation) (rows : List (List Bool)) (p : Pruning) → IsStart order p → IsOnTheWay order rows p true
on_start order rows p h = record {
  below = start_below order p.kept h.0;
  ended = λ e. let no : true ≡ false = e in cc;
  done = [];
  leads = λ rest left f. subst (λ ks. Finds order rows rest ks left) h.0 f;
  first_is = h.1;
  late_is = h.2;
}

module _ (order : Relation) (rows : List (List Bool)) (s t : Pruning) (more : Bool) (way : IsOnTheWay order rows s true) where
  -- a move more
  on_move : (m : Move) → next_move order rows s.kept ≡ Some m → more ≡ true → t.kept ≡ without (subject m) s.kept → t.first ≡ firsts (way.done ++ m ∷ []) → t.late.items ≡ lates (way.done ++ m ∷ [])
      → IsOnTheWay order rows t more
  on_move m h yes_more kept first late = record {
    below = subst (AllByRecursion (λ j. j < order.count)) (sym kept) (without_keeps (λ j. j < order.count) (subject m) s.kept way.below);
    ended = λ e. let no : true ≡ false = sym yes_more ∙ e in cc;
    done = way.done ++ m ∷ [];
    leads = λ rest left f. subst (λ ms. Finds order rows ms (up_from 0 order.count) left) (sym (append_assoc way.done (m ∷ []) rest))
        (way.leads (m ∷ rest) left (h, subst (λ ks. Finds order rows rest ks left) kept f));
    first_is = first;
    late_is = late;
  }

  -- one more move leads on
  pub on_step : (o : Option Move) → next_move order rows s.kept ≡ o → Stepped o s t more → IsOnTheWay order rows t more
  on_step None h x = record {
    below = subst (λ p. AllByRecursion (λ j. j < order.count) p.kept) (sym x.1) way.below;
    ended = λ e. ap (λ p. next_move order rows p.kept) x.1 ∙ h;
    done = way.done;
    leads = λ rest left f. way.leads rest left (subst (λ p. Finds order rows rest p.kept left) x.1 f);
    first_is = ap (λ (p : Pruning). p.first) x.1 ∙ way.first_is;
    late_is = ap (λ (p : Pruning). p.late.items) x.1 ∙ way.late_is;
  }
  on_step (Some (ToLast k)) h x =
      on_move (ToLast k) h x.0 x.1 (x.2 ∙ way.first_is ∙ sym (firsts_same way.done k)) (x.3 ∙ ap (λ l. l ++ k ∷ []) way.late_is ∙ sym (lates_last way.done k))
  on_step (Some (ToFirst k)) h x =
      on_move (ToFirst k) h x.0 x.1 (x.2 ∙ ap (λ l. l ++ k ∷ []) way.first_is ∙ sym (firsts_last way.done k)) (x.3 ∙ way.late_is ∙ sym (lates_same way.done k))

  -- equal truth values count alike
  ones : (a b : Bool) → a ≡ b → ◌≡◌ {A = ℕ} (cond a 1 0) (cond b 1 0)
  ones a b e = ap {B = ℕ} (λ c. cond c 1 0) e

  -- with each move one less is kept, until there is none
  pub fewer : (o : Option Move) → next_move order rows s.kept ≡ o → Stepped o s t more → cond more 1 0 + length t.kept < 1 + length s.kept
  fewer None h x = omega (arith, ones more _ x.0, ap (λ (p : Pruning). length p.kept) x.1)
  fewer (Some (ToLast k)) h x = omega (arith, ones more _ x.0, ap length x.1, without_shorter k s.kept (subject_there order rows s.kept (ToLast k) h))
  fewer (Some (ToFirst k)) h x = omega (arith, ones more _ x.0, ap length x.1, without_shorter k s.kept (subject_there order rows s.kept (ToFirst k) h))

-- where none may go last, the first that may go first goes
pub stepped_first : (order : Relation) (rows : List (List Bool)) (s t : Pruning) (k : ℕ) → find (may_last order rows s.kept) s.kept ≡ None → find (may_first order rows s.kept) s.kept ≡ Some k
    → t.kept ≡ without k s.kept → t.first ≡ s.first ++ k ∷ [] → t.late.items ≡ s.late.items → Stepped (next_move order rows s.kept) s t true
stepped_first order rows s t k none some kept first late =
    subst (λ o. Stepped o s t true) (sym (ap (λ o. or_first o (find (may_first order rows s.kept) s.kept)) none ∙ ap (or_first None) some)) (refl, kept, first, late)
