-- Two programs that end apart from one tree.
use Rattle.std.proofs.Common.{◌≡◌, ◌⊎◌, inl, inr, ℕ, ◌+◌, ◌<◌, ◌==◌, Bool, true, false, cond, List, length, Some, refl, subst, arith, eqb-true}
use Rattle.std.proofs.lemmas.Bool.{eqb-false}
use Rattle.std.specs.Prelude.{◌↔◌}
use Rattle.fs_semantics.specs.FileTree.{Tree}
use Rattle.fs_semantics.specs.Programs.{Program, Outcome}
use Rattle.fs_semantics.specs.Orders.{IsFree}
use Rattle.path_domain.specs.declared.listed.Domain.{Domain}
use Rattle.orders.specs.Relation.{Relation, Comes}
use Rattle.sym_run.specs.Trees.{IsTreeOver}
use Rattle.order_encode.specs.Goals.{EndApartAt, ApartBehind, ApartBelow}
use Rattle.order_encode.specs.Witnesses.{HasApartPair}
use Rattle.order_encode.proofs.ForkLaws.{below, at_either, one_of, free_turned, apart_turned}

-- it is so already, or the pair ends apart
pub either_is : {F P : Type 0} (a b : Bool) → F → (b ≡ true) ↔ P → (cond a a b ≡ true) ↔ ((a ≡ true) ⊎ (F × P))
either_is true b free h = ((λ e. inl refl), (λ s. refl))
either_is false b free h = ((λ e. inr (free, h.0 e)), (λ s. at_either s (λ e. cc) (λ p. h.1 p.1)))

module _ (es : List Program) (order : Relation) (o : Outcome) (i : ℕ) where
  -- one node more is looked at
  pub behind_step : {A B S : Type 0} (k next : ℕ) → next ≡ k + 1 → i < k → A ↔ (S ⊎ ApartBehind es order o i k) → B ↔ (A ⊎ (IsFree (Comes order) i k × EndApartAt es o i k)) → B ↔ (S ⊎ ApartBehind es order o i next)
  behind_step {B = B} k next e less before now = (
    (λ b. at_either (now.0 b)
        (λ a. at_either (before.0 a) (λ s. inl s) (λ h. let high = h.2 in inr (h.0, h.1, omega (arith, e, high), h.3, h.4)))
        (λ p. inr (k, less, omega (arith, e), p.0, p.1))),
    (λ s. at_either s
        (λ s. now.1 (inl (before.1 (inl s))))
        (λ h. elim (h.0 == k) as (λ b. (h.0 == k) ≡ b → B) [
          | true ↦ λ is. let same = eqb-true h.0 k is in now.1 (inr (subst (IsFree (Comes order) i) same h.3, subst (EndApartAt es o i) same h.4))
          | false ↦ λ is.
              let other = eqb-false h.0 k is in
              let high = h.2 in
              now.1 (inl (before.1 (inr (h.0, h.1, below h.0 k (omega (arith, e, high)) other, h.3, h.4))))
        ] refl)),
  )

module _ (es : List Program) (order : Relation) (o : Outcome) where
  -- below zero there is no row yet, so nothing is asked
  pub none_below : {S : Type 0} (n : ℕ) → n ≡ 0 → (S → ⊥) → S ↔ ApartBelow es order o n
  none_below n e never = ((λ s. absurd (never s)), (λ h. let low = h.1 in absurd (omega (arith, e, low))))

  -- one row more is looked at
  pub below_step : {A B : Type 0} (i next : ℕ) → next ≡ i + 1 → A ↔ ApartBelow es order o i → B ↔ (A ⊎ ApartBehind es order o i order.count) → B ↔ ApartBelow es order o next
  below_step {B = B} i next e before now = (
    (λ b. at_either (now.0 b)
        (λ a. let h = before.0 a in let low = h.1 in (h.0, omega (arith, e, low), h.2))
        (λ h. (i, omega (arith, e), h))),
    (λ h. elim (h.0 == i) as (λ b. (h.0 == i) ≡ b → B) [
      | true ↦ λ is. now.1 (inr (subst (λ k. ApartBehind es order o k order.count) (eqb-true h.0 i is) h.2))
      | false ↦ λ is.
          let other = eqb-false h.0 i is in
          let low = h.1 in
          now.1 (inl (before.1 (h.0, below h.0 i (omega (arith, e, low)) other, h.2)))
    ] refl),
  )

-- from some tree over the domain two free programs end apart
pub pair_is : (es : List Program) (order : Relation) (d : Domain) (S : Type 0) → length es ≡ order.count
    → S ↔ ((t : Tree) × IsTreeOver d t × ApartBelow es order (Some t) order.count) → S ↔ HasApartPair es (Comes order) d
pair_is es order d S same exact = (
  (λ s.
      let h = exact.0 s in
      let i = h.2.0 in
      let i_less = h.2.1 in
      let k = h.2.2.0 in
      let k_less = h.2.2.2 in
      record {
        tree = h.0;
        is_tree = h.1.is_tree;
        over = h.1.is_over;
        left = i;
        right = k;
        left_below = omega (arith, same, i_less);
        right_below = omega (arith, same, k_less);
        free = h.2.2.3;
        differ = h.2.2.4;
      }),
  (λ h.
      let x = h.left in
      let y = h.right in
      let x_less = h.left_below in
      let y_less = h.right_below in
      let tree : IsTreeOver d h.tree = record { is_tree = h.is_tree; is_over = h.over } in
      let first : x < order.count = omega (arith, same, x_less) in
      let second : y < order.count = omega (arith, same, y_less) in
      exact.1 (
        h.tree,
        tree,
        at_either (one_of x y h.free.differ)
            (λ less. (x, first, (y, less, second, h.free, h.differ)))
            (λ less. (y, second, (x, less, first, free_turned (Comes order) x y h.free, apart_turned es (Some h.tree) x y h.differ))),
      )),
)
