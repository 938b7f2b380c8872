-- A group by itself, and what all groups tell.
use Rattle.std.proofs.Common.{◌≡◌, inl, inr, ⊎_elim, ℕ, zero, suc, ◌+◌, ◌<◌, ◌≤◌, List, [], ◌∷◌, ◌++◌, length, get_or, Some, None, refl, sym, ap, subst, subst₂, ◌∙◌, arith, append_assoc}
use Rattle.std.specs.Prelude.{◌↔◌, Option, IfSome}
use Rattle.std.specs.List.{AllByRecursion}
use Rattle.std.proofs.lemmas.Bool.{cases_lt}
use Rattle.std.proofs.lemmas.List.{length-map}
use Rattle.fs_semantics.specs.FileTree.{Tree}
use Rattle.fs_semantics.specs.Programs.{Program, Id, and_then, run}
use Rattle.fs_semantics.specs.Orders.{Told, NoneAhead, up_from, IsLinearExtension, IsIdempotent, IsSecondRunCounterexample, outcome}
use Rattle.fs_semantics.specs.PlainFiles.{Unordered}
use Rattle.fs_semantics.proofs.Counts.{all_front, all_back}
use Rattle.fs_semantics.proofs.Commuting.{none_above}
use Rattle.fs_semantics.proofs.Permuted.{then_alike}
use Rattle.fs_semantics.proofs.Decided.{outcome_told}
use Rattle.finite_domain.specs.Layouts.{IsLayout}
use Rattle.path_domain.specs.declared.listed.Domain.{Domain}
use Rattle.path_domain.specs.Laid.{layout_of}
use Rattle.orders.specs.Relation.{Relation, comes, Comes}
use Rattle.orders.specs.Extensions.{IsLeastReady, TakesLeast}
use Rattle.sure_folders.specs.Pruning.{chosen}
use Rattle.cnf.specs.Formulas.{Formula, IsSatisfiable}
use Rattle.proof_check.specs.Refuted.{HasNoModel}
use Rattle.order_encode.specs.Witnesses.{IsFirstExtension, HasSecondChange}
use Rattle.settled_groups.specs.Groups.{in_turn, GroupSettles}
use Rattle.second_runs.specs.Questions.{IsSecondProof}
use Rattle.second_runs.proofs.SecondLaws.{LaidOut, Shadowed, change_over}

-- ---- programs by their places in a list

-- the program behind the first ones stands at the place of their count
at_end : (front : List Program) (e : Program) (rest : List Program) → get_or (front ++ e ∷ rest) (length front) Id ≡ e
at_end [] e rest = refl
at_end (f ∷ front) e rest = at_end front e rest

-- one program more makes a list one longer
length_next : (front : List Program) (e : Program) → length (front ++ e ∷ []) ≡ suc (length front)
length_next [] e = refl
length_next (f ∷ front) e = ap suc (length_next front e)

-- the programs of a group, put behind others, end in turn as the group does
outcome_behind : (es front : List Program) (group : List ℕ) (t : Tree) → outcome (front ++ chosen es group) (up_from (length front) (length group)) t ≡ outcome es group t
outcome_behind es front [] t = refl
outcome_behind es front (k ∷ group) t =
    let e = get_or es k Id in
    let whole = front ++ e ∷ chosen es group in
    let rest = outcome whole (up_from (suc (length front)) (length group)) in
    ap (λ x. and_then (run x t) rest) (at_end front e (chosen es group))
    ∙ then_alike (run e t) rest (outcome es group) (λ u is.
    subst₂ (λ w n. outcome w (up_from n (length group)) u ≡ outcome es group u) (append_assoc front (e ∷ []) (chosen es group)) (length_next front e) (outcome_behind es (front ++ e ∷ []) group u))

-- the programs of a group by themselves end in turn as the group does
outcome_of_group : (es : List Program) (group : List ℕ) (t : Tree) → outcome (chosen es group) (up_from 0 (length group)) t ≡ outcome es group t
outcome_of_group es group t = outcome_behind es [] group t

-- ---- where nothing comes before anything, the first extension is the list of numbers

-- numbers that count up, and the next one, are one number more that counts up
up_next : (k n m : ℕ) → k + n ≡ m → up_from k n ++ m ∷ [] ≡ up_from k (suc n)
up_next k zero m e = ap (λ x. x ∷ []) (omega (arith, e))
up_next k (suc n) m e = ap (λ xs. k ∷ xs) (up_next (suc k) n m (omega (arith, e)))

module _ (unordered : (n : ℕ) → IsLinearExtension n Unordered (up_from 0 n)) (before : ℕ → ℕ → Type 0) (free : (a b : ℕ) → before a b → ⊥) where
  -- none of a list comes before a number
  none_behind : (b : ℕ) (xs : List ℕ) → AllByRecursion (λ a. before a b → ⊥) xs
  none_behind b [] = tt
  none_behind b (a ∷ xs) = (free a b, none_behind b xs)

  -- in no list does one come before one ahead of it
  none_ahead : (xs : List ℕ) → NoneAhead before xs
  none_ahead [] = tt
  none_ahead (b ∷ xs) = (none_behind b xs, none_ahead xs)

  -- the numbers as they count up are an allowed order
  all_allowed : (n : ℕ) → IsLinearExtension n before (up_from 0 n)
  all_allowed n = record { below = (unordered n).below; once = (unordered n).once; kept = none_ahead (up_from 0 n) }

  -- once all below it are taken, a number is the least that is ready
  least_ready : (n k : ℕ) → k < n → IsLeastReady n before (up_from 0 k) k
  least_ready n k low = record {
    ready = record { below = low; fresh = none_above k k (up_from 0 k) (unordered k).below (omega arith); free = λ a h. absurd (free a k h) };
    least = λ j ready. ⊎_elim
        (λ (h : j < k). absurd (omega (arith, ready.fresh, (unordered k).once j h)))
        (λ (h : k ≤ j). h)
        (cases_lt j k);
  }

  -- from there on the numbers as they count up take the least that is ready, each time
  takes_least : (n k m : ℕ) → k + m ≡ n → TakesLeast n before (up_from 0 k) (up_from k m)
  takes_least n k zero e = tt
  takes_least n k (suc m) e =
      (least_ready n k (omega (arith, e)), subst (λ taken. TakesLeast n before taken (up_from (suc k) m)) (sym (up_next 0 k k (omega arith))) (takes_least n (suc k) m (omega (arith, e))))

-- ---- a group whose question has no model settles

module _ (laid : LaidOut) (shadowed : Shadowed) (unordered : (n : ℕ) → IsLinearExtension n Unordered (up_from 0 n)) (es : List Program) (group : List ℕ) (order : Relation)
    (free : (a b : ℕ) → Comes order a b → ⊥) (count : order.count ≡ length group) (d : Domain) (is : IsLayout (chosen es group) (layout_of d)) (f : Formula)
    (exact : IsSatisfiable f ↔ HasSecondChange (chosen es group) order d) (no_model : HasNoModel f) where
  -- the numbers as they count up are the first extension
  is_first : IsFirstExtension order (up_from 0 (length group))
  is_first = record {
    allowed = subst (λ n. IsLinearExtension n (Comes order) (up_from 0 (length group))) (sym count) (all_allowed unordered (Comes order) free (length group));
    least = subst (λ n. TakesLeast n (Comes order) [] (up_from 0 (length group))) (sym count) (takes_least unordered (Comes order) free (length group) 0 (length group) (omega arith));
  }

  -- the group settles: a second run of it changes nothing
  pub settles : GroupSettles es group
  settles t u tree ends = elim (outcome_told (outcome es group u) (Some u)) [
    | inl same ↦ same
    | inr other ↦
        let c : IsSecondRunCounterexample (chosen es group) (Comes order) t (up_from 0 (length group)) = record {
          is_tree = tree;
          allowed = subst (λ n. IsLinearExtension n (Comes order) (up_from 0 (length group))) (sym (length-map group (λ k. get_or es k Id))) (all_allowed unordered (Comes order) free (length group));
          after = u;
          ends = outcome_of_group es group t ∙ ends;
          changes = λ h. other (sym (outcome_of_group es group u) ∙ h);
        } in
        let v = exact.1 (change_over laid shadowed (chosen es group) order d is t (up_from 0 (length group)) is_first c) in
        absurd (no_model v.0 v.1)
  ]

-- ---- all groups

-- where all numbers of the groups, in turn, are below n, those of each group are
pub each_below : (n : ℕ) (groups : List (List ℕ)) → AllByRecursion (λ k. k < n) (in_turn groups) → AllByRecursion (AllByRecursion (λ k. k < n)) groups
each_below n [] all = tt
each_below n (group ∷ groups) all = (all_front (λ k. k < n) group (in_turn groups) all, each_below n groups (all_back (λ k. k < n) group (in_turn groups) all))

-- where no second run changes anything, any formula without a model states the question
pub stated_by_any : (es : List Program) (order : Relation) (f : Formula) → IsIdempotent es (Told (comes order)) → HasNoModel f → IsSecondProof es order f
stated_by_any es order f same no_model = record {
  states = λ d lay. (
    (λ sat. absurd (no_model sat.0 sat.1)),
    (λ h. let c = h.changed.counterexample in absurd (c.changes (same h.tree c.is_tree h.first h.first c.allowed c.allowed c.after c.ends))),
  );
  no_model = no_model;
}

-- what follows from what holds of whatever is found holds of it
pub some_weaker : {A : Type 0} (P Q : A → Type 0) → ((a : A) → P a → Q a) → (found : Option A) → IfSome found P → IfSome found Q
some_weaker P Q f None h = tt
some_weaker P Q f (Some a) h = f a h
