-- Orders of kept programs, by their numbers among all and by their numbers among the kept ones.
use Rattle.std.proofs.Common.{ℕ, ◌+◌, ◌<◌, ◌≤◌, List, [], ◌∷◌, ◌++◌, map, length, get_or, sym, ap, subst, subst₂, ◌∙◌, arith}
use Rattle.std.specs.List.{AllByRecursion}
use Rattle.fs_semantics.specs.Programs.{Program}
use Rattle.fs_semantics.specs.Orders.{times, up_from, outcome, IsLinearExtension, IsDeterministic}
use Rattle.fs_semantics.specs.Changes.{IsProper}
use Rattle.fs_semantics.proofs.Counts.{all_from}
use Rattle.commute_prune.specs.Pruning.{Leads, AreSome, EndsAsKept}
use Rattle.sure_folders.specs.Pruning.{without, Move, ToFirst, ToLast, firsts, lasts, chosen, between}
use Rattle.commute_prune.proofs.MovedLaws.{ApartCommute, AllAgree, agree_from, kept_of, completed}
use Rattle.commute_prune.proofs.StepLaws.{without_keeps, without_short}
use Rattle.sure_folders.proofs.Places.{place, AtMostOnce, back_and_forth, as_places, as_numbers, replaced, order_of_all, all_in_order, length-up, once_up, fewer}
use Rattle.fs_semantics.proofs.Ground.{up_below}

module _ (before : ℕ → ℕ → Type 0) where
  -- where the chosen programs are deterministic, all orders of their numbers end alike
  agree_kept : (es : List Program) (ks : List ℕ) → AtMostOnce ks → IsDeterministic (chosen es ks) (between before ks) → AllAgree es before ks
  agree_kept es ks once deterministic t tree o p a b =
      sym (replaced before es ks o a t) ∙ deterministic t tree _ _ (as_places before es ks o once a) (as_places before es ks p once b) ∙ replaced before es ks p b t

module _ (es : List Program) (before : ℕ → ℕ → Type 0) where
  -- moves keep no number twice
  kept_once : (moves : List Move) (ks kept : List ℕ) → Leads es before moves ks kept → AtMostOnce ks → AtMostOnce kept
  kept_once [] ks kept leads once = subst AtMostOnce (sym leads) once
  kept_once (ToFirst k ∷ moves) ks kept leads once = kept_once moves (without k ks) kept leads.1 (fewer k ks once)
  kept_once (ToLast k ∷ moves) ks kept leads once = kept_once moves (without k ks) kept leads.1 (fewer k ks once)

  -- moves keep numbers of programs
  kept_below : (moves : List Move) (ks kept : List ℕ) (n : ℕ) → Leads es before moves ks kept → AllByRecursion (λ k. k < n) ks → AllByRecursion (λ k. k < n) kept
  kept_below [] ks kept n leads all = subst (AllByRecursion (λ k. k < n)) (sym leads) all
  kept_below (ToFirst k ∷ moves) ks kept n leads all = kept_below moves (without k ks) kept n leads.1 (without_keeps (λ k. k < n) k ks all)
  kept_below (ToLast k ∷ moves) ks kept n leads all = kept_below moves (without k ks) kept n leads.1 (without_keeps (λ k. k < n) k ks all)

  -- moves keep no more numbers than there were
  kept_short : (moves : List Move) (ks kept : List ℕ) → Leads es before moves ks kept → length kept ≤ length ks
  kept_short [] ks kept leads = omega (arith, ap length leads)
  kept_short (ToFirst k ∷ moves) ks kept leads = omega (arith, kept_short moves (without k ks) kept leads.1, without_short k ks)
  kept_short (ToLast k ∷ moves) ks kept leads = omega (arith, kept_short moves (without k ks) kept leads.1, without_short k ks)

  -- what moves keep are some of the programs, none of them twice
  pub some_kept : (moves : List Move) (kept : List ℕ) → Leads es before moves (up_from 0 (length es)) kept → AreSome (length es) kept
  some_kept moves kept leads = record {
    below = kept_below moves (up_from 0 (length es)) kept (length es) leads (up_below 0 (length es) (length es) (omega arith));
    once = kept_once moves (up_from 0 (length es)) kept leads (once_up (length es));
    few = omega (arith, kept_short moves (up_from 0 (length es)) kept leads, length-up 0 (length es));
  }

  module _ (apart_commute : ApartCommute) (proper : AllByRecursion IsProper es) (moves : List Move) (kept : List ℕ) (leads : Leads es before moves (up_from 0 (length es)) kept) where
    -- all programs are deterministic where the kept ones are
    pub kept_is_enough : IsDeterministic (chosen es kept) (between before kept) → IsDeterministic es before
    kept_is_enough h t tree o p a b =
        agree_from apart_commute es proper before moves (up_from 0 (length es)) kept leads (agree_kept before es kept (kept_once moves _ kept leads (once_up (length es))) h) t tree o p
        (order_of_all (length es) before o a) (order_of_all (length es) before p b)

    -- an order of the kept ones, with what goes first and what goes last around it, is one of all
    pub completed_order : (o : List ℕ) → IsLinearExtension (length (chosen es kept)) (between before kept) o
        → IsLinearExtension (length es) before (firsts moves ++ (map (λ i. get_or kept i 0) o ++ lasts moves))
    completed_order o a = all_in_order (length es) before _
        (completed apart_commute es proper before moves (up_from 0 (length es)) kept (map (λ i. get_or kept i 0) o) leads (as_numbers before es kept o (kept_once moves _ kept leads (once_up (length es))) a))

    -- an order of all ends as one of the kept ones does, with those around it
    pub ends_as_kept : (o : List ℕ) → IsLinearExtension (length es) before o → EndsAsKept es before moves kept o
    ends_as_kept o a =
        let once = kept_once moves _ kept leads (once_up (length es)) in
        let y = kept_of apart_commute es proper before moves (up_from 0 (length es)) kept o leads (order_of_all (length es) before o a) in
        let all = all_from (λ j. 0 < times j kept) y.rest (λ j h. omega (arith, h, y.order.same j)) in
        record {
          rest = map (λ k. place k kept) y.rest;
          allowed = as_places before es kept y.rest once y.order;
          alike = λ t tree. y.alike t tree ∙ ap (λ r. outcome es (firsts moves ++ (r ++ lasts moves)) t) (sym (back_and_forth kept y.rest all));
        }
