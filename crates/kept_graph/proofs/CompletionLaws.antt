-- Orders of the kept programs, completed.
use Rattle.std.proofs.Common.{◌≡◌, ℕ, zero, suc, ◌<◌, ◌≤◌, List, [], ◌∷◌, ◌++◌, map, length, get_or, refl, sym, ap, ap₂, subst, ◌∙◌, arith, append_assoc}
use Rattle.std.specs.List.{AllByRecursion}
use Rattle.std.proofs.lemmas.List.{map-append}
use Rattle.fs_semantics.specs.Programs.{Program}
use Rattle.fs_semantics.specs.Orders.{Told, NoneAhead, times, IsLinearExtension, IsFree, IsExchange}
use Rattle.fs_semantics.proofs.Counts.{times_itself, all_back}
use Rattle.orders.specs.Relation.{Relation, comes, Comes}
use Rattle.sure_folders.specs.Pruning.{firsts, lasts, chosen, between}
use Rattle.kept_graph.specs.declared.kept.Kept.{Kept}
use Rattle.kept_graph.specs.Kept.{IsKept, completion}
use Rattle.sure_folders.proofs.Places.{counted}

-- ---- one relation in the place of another

module _ (n : ℕ) (before other : ℕ → ℕ → Type 0) (less : (a b : ℕ) → a < n → b < n → other a b → before a b) where
  -- where no node of a list comes before another by the one order, none does by the other
  none_behind : (b : ℕ) (o : List ℕ) → b < n → AllByRecursion (λ k. k < n) o → AllByRecursion (λ a. before a b → ⊥) o → AllByRecursion (λ a. other a b → ⊥) o
  none_behind b [] h all none = tt
  none_behind b (a ∷ o) h all none = ((λ k. none.0 (less a b all.0 h k)), none_behind b o h all.1 none.1)

  -- where none comes before one ahead of it by the one order, none does by the other
  none_ahead : (o : List ℕ) → AllByRecursion (λ k. k < n) o → NoneAhead before o → NoneAhead other o
  none_ahead [] all kept = tt
  none_ahead (b ∷ o) all kept = (none_behind b o all.0 all.1 kept.0, none_ahead o all.1 kept.1)

  -- what the one order allows the other allows
  pub extension_by : (o : List ℕ) → IsLinearExtension n before o → IsLinearExtension n other o
  extension_by o a = record { below = a.below; once = a.once; kept = none_ahead o a.below a.kept }

-- ---- places

-- a number that stands at most once stands at one place
twice : (k : ℕ) (ks : List ℕ) (i : ℕ) → i < length ks → k ≡ get_or ks i 0 → ((j : ℕ) → times j (k ∷ ks) ≤ 1) → ⊥
twice k ks i h e once = omega (arith, once k, times_itself k ks, subst (λ j. 0 < times j ks) (sym e) (counted ks i h))

-- where no number stands twice, one number stands at one place
pub one_place : (ks : List ℕ) (i j : ℕ) → ((k : ℕ) → times k ks ≤ 1) → i < length ks → j < length ks → get_or ks i 0 ≡ get_or ks j 0 → i ≡ j
one_place [] i j once h g e = absurd (omega (arith, h))
one_place (k ∷ ks) zero zero once h g e = refl
one_place (k ∷ ks) zero (suc j) once h g e = absurd (twice k ks j (omega (arith, g)) e once)
one_place (k ∷ ks) (suc i) zero once h g e = absurd (twice k ks i (omega (arith, h)) (sym e) once)
one_place (k ∷ ks) (suc i) (suc j) once h g e = ap suc (one_place ks i j (λ m. omega (arith, once m)) (omega (arith, h)) (omega (arith, g)) e)

-- ---- completed

-- as many programs are chosen as there are numbers
pub length-chosen : (es : List Program) (ks : List ℕ) → length (chosen es ks) ≡ length ks
length-chosen es [] = refl
length-chosen es (k ∷ ks) = ap suc (length-chosen es ks)

-- the neighbours stand behind what goes first and those ahead of them
around : (first : List ℕ) (f : ℕ → ℕ) (front : List ℕ) (x y : ℕ) (back last : List ℕ)
    → first ++ (map f (front ++ x ∷ y ∷ back) ++ last) ≡ (first ++ map f front) ++ f x ∷ f y ∷ (map f back ++ last)
around first f front x y back last =
    ap (λ ks. first ++ (ks ++ last)) (map-append f front (x ∷ y ∷ back))
    ∙ ap (λ ks. first ++ ks) (append_assoc (map f front) (f x ∷ f y ∷ map f back) last)
    ∙ sym (append_assoc first (map f front) (f x ∷ f y ∷ (map f back ++ last)))

module _ (es : List Program) (order : Relation) (kept : Kept) (is : IsKept es order kept) where
  -- an allowed order of the kept graph is one of the programs that are kept
  among : (o : List ℕ) → IsLinearExtension kept.order.count (Comes kept.order) o → IsLinearExtension (length (chosen es kept.pruned.kept)) (between (Told (comes order)) kept.pruned.kept) o
  among o a =
      subst (λ n. IsLinearExtension n (between (Told (comes order)) kept.pruned.kept) o) (sym (length-chosen es kept.pruned.kept))
      (extension_by (length kept.pruned.kept) (Comes kept.order) (between (Told (comes order)) kept.pruned.kept) (λ x y h g k. (is.before x y h g).1 k) o
      (subst (λ n. IsLinearExtension n (Comes kept.order) o) is.count a))

  -- an allowed order of the kept graph, completed, is an allowed order of all programs
  pub allowed : ((o : List ℕ) → IsLinearExtension (length (chosen es kept.pruned.kept)) (between (Told (comes order)) kept.pruned.kept) o
      → IsLinearExtension (length es) (Told (comes order)) (firsts is.pruned.moves ++ (map (λ i. get_or kept.pruned.kept i 0) o ++ lasts is.pruned.moves)))
      → (o : List ℕ) → IsLinearExtension kept.order.count (Comes kept.order) o → IsLinearExtension (length es) (Comes order) (completion kept.pruned o)
  allowed law o a = subst (IsLinearExtension (length es) (Comes order))
      (ap₂ (λ first last. first ++ (map (λ i. get_or kept.pruned.kept i 0) o ++ last)) (sym is.pruned.first_is) (sym is.pruned.last_is)) (law o (among o a))

  -- programs that are free in the kept graph are free among all
  free_too : (x y : ℕ) → x < length kept.pruned.kept → y < length kept.pruned.kept → IsFree (Comes kept.order) x y → IsFree (Comes order) (get_or kept.pruned.kept x 0) (get_or kept.pruned.kept y 0)
  free_too x y h g free = record {
    differ = λ e. free.differ (one_place kept.pruned.kept x y is.some.once h g e);
    not_before = λ k. free.not_before ((is.before x y h g).1 k);
    not_after = λ k. free.not_after ((is.before y x g h).1 k);
  }

  -- orders of the kept graph with two free neighbours exchanged, completed, are such orders of all programs
  pub exchanged : (o p : List ℕ) → IsLinearExtension kept.order.count (Comes kept.order) o → IsExchange (Comes kept.order) o p → IsExchange (Comes order) (completion kept.pruned o) (completion kept.pruned p)
  exchanged o p a e =
      let f : ℕ → ℕ = λ i. get_or kept.pruned.kept i 0 in
      let P : ℕ → Type 0 = λ k. k < kept.order.count in
      let all = all_back P e.front (e.left ∷ e.right ∷ e.back) (subst (AllByRecursion P) e.was a.below) in
      record {
        front = kept.pruned.first ++ map f e.front;
        left = f e.left;
        right = f e.right;
        back = map f e.back ++ kept.pruned.last;
        was = ap (completion kept.pruned) e.was ∙ around kept.pruned.first f e.front e.left e.right e.back kept.pruned.last;
        is = ap (completion kept.pruned) e.is ∙ around kept.pruned.first f e.front e.right e.left e.back kept.pruned.last;
        free = free_too e.left e.right (subst (λ n. e.left < n) is.count all.0) (subst (λ n. e.right < n) is.count all.1.0) e.free;
      }
