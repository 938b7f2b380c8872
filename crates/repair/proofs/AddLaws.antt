-- What is known when an arrow that was missing is added.
use Rattle.std.proofs.Common.{◌≡◌, inl, inr, ℕ, ◌<◌, List, [], ◌∷◌, ◌++◌, length, get_or, refl, sym, ap, subst, arith}
use Rattle.std.specs.Prelude.{IsTrue}
use Rattle.std.specs.List.{All}
use Rattle.std.proofs.lemmas.List.{length-append}
use Rattle.std.proofs.lemmas.List.Elements.{All-push, Contains-push, Contains-append_left, Contains-get_or}
use Rattle.fs_semantics.specs.Programs.{Program}
use Rattle.fs_semantics.specs.Orders.{Told, IsLinearExtension, IsDeterministic}
use Rattle.orders.specs.Relation.{Relation, comes, Comes, IsStrictOrder}
use Rattle.repair.specs.Arrows.{ComesWith, step, IsBetweenFree, CanBeAdded, IsOrderWith, Follows}
use Rattle.repair.specs.Repairs.{PointRight}
use Rattle.repair.specs.Missing.{IsMissing}
use Rattle.repair.specs.Steps.{WereMissing, pairs_left, unordered}
use Rattle.repair.proofs.RunLaws.{allowed_by_fewer, deterministic_by_more}
use Rattle.repair.proofs.ArrowLaws.{comes_more, no_arrows, no_circle, allowed_with, allowed_without, followed_by}
use Rattle.repair.proofs.CountLaws.{fewer_unordered}

-- ---- nothing was added yet
-- no arrows have no arrow
pub none_pushed : (front : List (ℕ × ℕ)) (arrow : ℕ × ℕ) (back : List (ℕ × ℕ)) → [] ≡ front ++ arrow ∷ back → ⊥
none_pushed [] arrow back e = cc
none_pushed (x ∷ front) arrow back e = cc

-- no arrows can be added
pub none_added : (order : Relation) → IsStrictOrder order → CanBeAdded order []
none_added order strict = record {
  free = λ k d h. absurd (omega (arith, h));
  no_circle = λ a h. strict.never_itself a ((no_arrows order strict a a).0 h);
}

-- and no arrows were missing
pub none_missing : (es : List Program) (order : Relation) → IsStrictOrder order → WereMissing es order []
none_missing es order strict = record {
  added = none_added order strict;
  last = λ front arrow e d. none_pushed front arrow [] e;
  right = λ h. absurd (h refl);
}

-- ---- one more
-- lists with one more that are the same are so without it
same_front : (xs ys : List (ℕ × ℕ)) (x y : ℕ × ℕ) → xs ++ x ∷ [] ≡ ys ++ y ∷ [] → xs ≡ ys
same_front [] [] x y e = refl
same_front [] (z ∷ ys) x y e = let f = ap (λ (l : List (ℕ × ℕ)). length l) e in absurd (omega (arith, f, length-append ys (y ∷ [])))
same_front (z ∷ xs) [] x y e = let f = ap (λ (l : List (ℕ × ℕ)). length l) e in absurd (omega (arith, f, length-append xs (x ∷ [])))
same_front (z ∷ xs) (w ∷ ys) x y e =
    let first : z ≡ w = cc in
    let rest : xs ++ x ∷ [] ≡ ys ++ y ∷ [] = cc in
    let more = same_front xs ys x y rest in cc

module _ (es : List Program) (order : Relation) (strict : IsStrictOrder order) (long : length es ≡ order.count) (arrows : List (ℕ × ℕ)) (made : Relation) (is : IsOrderWith order arrows made)
    (were : WereMissing es order arrows) (arrow : ℕ × ℕ) (missing : IsMissing es made arrow) where
  -- what comes before another in the order does so with the arrows
  from_order : (a b : ℕ) → Comes order a b → Comes made a b
  from_order a b h = (is.before a b).1 (step (inl h))

  -- the new arrow is between resources that are free in the order
  free : IsBetweenFree order arrow
  free = record {
    from = subst (λ n. arrow.0 < n) is.count missing.between.from;
    to = subst (λ n. arrow.1 < n) is.count missing.between.to;
    free = record {
      differ = missing.between.free.differ;
      not_before = λ h. missing.between.free.not_before (from_order arrow.0 arrow.1 h);
      not_after = λ h. missing.between.free.not_after (from_order arrow.1 arrow.0 h);
    };
  }

  -- and so are all arrows with it
  all_free : All (IsBetweenFree order) (arrows ++ arrow ∷ [])
  all_free = All-push (IsBetweenFree order) arrows arrow were.added.free free

  -- what is allowed with the arrows so far
  with_arrows : (run : List ℕ) → IsLinearExtension (length es) (Comes made) run → IsLinearExtension (length es) (ComesWith order arrows) run
  with_arrows = allowed_by_fewer (ComesWith order arrows) (Comes made) (λ a b h. (is.before a b).1 h) (length es)

  -- a run that is allowed with the arrows is allowed without them
  without : (run : List ℕ) → IsLinearExtension (length es) (Comes made) run → IsLinearExtension (length es) (Comes order) run
  without = allowed_by_fewer (Comes order) (Comes made) from_order (length es)

  -- the run of the missing arrow is allowed with the arrows so far
  run_with : IsLinearExtension order.count (ComesWith order arrows) missing.run
  run_with = subst (λ n. IsLinearExtension n (ComesWith order arrows) missing.run) long (with_arrows missing.run missing.run_allowed)

  -- and without them
  run_without : IsLinearExtension order.count (Comes order) missing.run
  run_without = allowed_without order strict arrows missing.run run_with

  -- it follows all arrows and the new one
  all_followed : All (Follows missing.run) (arrows ++ arrow ∷ [])
  all_followed = All-push (Follows missing.run) arrows arrow (followed_by order strict arrows missing.run were.added.free run_with) missing.follows

  -- the new arrow can be added to the others
  pub added_one : CanBeAdded order (arrows ++ arrow ∷ [])
  added_one = record { free = all_free; no_circle = no_circle order strict (arrows ++ arrow ∷ []) missing.run run_without all_followed }

  -- with the new arrow they point the way that succeeds
  points_right : PointRight es order (arrows ++ arrow ∷ [])
  points_right = record {
    tree = missing.tree;
    is_tree = missing.is_tree;
    run = missing.run;
    follows = subst (λ n. IsLinearExtension n (ComesWith order (arrows ++ arrow ∷ [])) missing.run) (sym long) (allowed_with order strict (arrows ++ arrow ∷ []) missing.run run_without all_followed);
    ends = missing.ends;
    other = missing.other;
    allowed = without missing.other missing.other_allowed;
    differ = missing.differ;
  }

  -- without the new arrow the graph is as it was
  pub not_without : IsDeterministic es (ComesWith order arrows) → ⊥
  not_without det = missing.differ (det missing.tree missing.is_tree missing.run missing.other (with_arrows missing.run missing.run_allowed) (with_arrows missing.other missing.other_allowed))

  -- with the new one the arrows were missing, each when it was added
  pub missing_more : WereMissing es order (arrows ++ arrow ∷ [])
  missing_more = record {
    added = added_one;
    last = λ front last e det. not_without (subst (λ xs. IsDeterministic es (ComesWith order xs)) (sym (same_front arrows front arrow last e)) det);
    right = λ h. points_right;
  }

  module _ (next : Relation) (then : IsOrderWith order (arrows ++ arrow ∷ []) next) where
    -- what comes before another with the arrows so far does so with the new one
    kept : (a b : ℕ) → IsTrue (comes made a b) → IsTrue (comes next a b)
    kept a b h = (then.before a b).1 (comes_more order arrows (arrows ++ arrow ∷ []) (λ k d l. Contains-append_left arrows (arrow ∷ []) (get_or arrows k d) (Contains-get_or arrows k d l)) a b ((is.before a b).0 h))

    -- with the new arrow fewer pairs aren't ordered
    pub pairs_fewer : pairs_left next < pairs_left made
    pairs_fewer =
        let less = fewer_unordered (comes made) (comes next) kept arrow.0 arrow.1 missing.between.free.not_before ((then.before arrow.0 arrow.1).1 (step (inr (Contains-push arrows arrow))))
        order.count order.count free.to free.from in
        subst (λ n. unordered (comes next) n n < pairs_left made) (sym then.count)
        (subst (λ n. unordered (comes next) order.count order.count < unordered (comes made) n n) (sym is.count) less)

-- ---- a graph that is judged with arrows
-- a graph that is deterministic by the order that was made is so with the arrows
pub deterministic_with : (es : List Program) (order : Relation) (arrows : List (ℕ × ℕ)) (made : Relation) → IsOrderWith order arrows made
    → IsDeterministic es (Told (comes made)) → IsDeterministic es (ComesWith order arrows)
deterministic_with es order arrows made is = deterministic_by_more (Comes made) (ComesWith order arrows) (λ a b h. (is.before a b).0 h) es

-- and where an arrow is missing of that order it isn't
pub different_with : (es : List Program) (order : Relation) (arrows : List (ℕ × ℕ)) (made : Relation) → IsOrderWith order arrows made
    → (arrow : ℕ × ℕ) → IsMissing es made arrow → IsDeterministic es (ComesWith order arrows) → ⊥
different_with es order arrows made is arrow m det =
    m.differ (deterministic_by_more (ComesWith order arrows) (Comes made) (λ a b h. (is.before a b).1 h) es det m.tree m.is_tree m.run m.other m.run_allowed m.other_allowed)
