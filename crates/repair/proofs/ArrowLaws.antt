-- Arrows that are added to an order.
use Rattle.std.proofs.Common.{inl, inr, ℕ, ◌<◌, List, [], get_or, sym, subst, arith}
use Rattle.std.specs.Prelude.{◌↔◌}
use Rattle.std.specs.List.{All, Contains}
use Rattle.std.proofs.lemmas.List.Elements.{All-contains, Contains-get_or}
use Rattle.fs_semantics.specs.Programs.{Program}
use Rattle.fs_semantics.specs.Orders.{IsLinearExtension, IsDeterministic}
use Rattle.orders.specs.Relation.{Relation, Comes, IsStrictOrder}
use Rattle.orders.specs.Exchanges.{place}
use Rattle.orders.proofs.Walks.{each_once_of, at_most}
use Rattle.repair.specs.Arrows.{Leads, ComesWith, step, and_on, IsBetweenFree, CanBeAdded, Follows}
use Rattle.repair.proofs.RunLaws.{allowed_by_fewer, deterministic_by_more, ahead_of, none_ahead_by_places}

-- ---- more arrows
module _ (order : Relation) (arrows more : List (ℕ × ℕ)) (sub : All (Contains more) arrows) where
  -- one step with the arrows is one with more arrows
  leads_more : (a b : ℕ) → Leads order arrows a b → Leads order more a b
  leads_more a b (inl h) = inl h
  leads_more a b (inr h) = inr (All-contains (Contains more) arrows (a, b) sub h)

  -- and so are several
  pub comes_more : (a b : ℕ) → ComesWith order arrows a b → ComesWith order more a b
  comes_more a b (step h) = step (leads_more a b h)
  comes_more a c (and_on {b = b} h rest) = and_on (leads_more a b h) (comes_more b c rest)

  -- a run that is allowed with more arrows is allowed with fewer
  pub runs_of_fewer : (n : ℕ) (run : List ℕ) → IsLinearExtension n (ComesWith order more) run → IsLinearExtension n (ComesWith order arrows) run
  runs_of_fewer = allowed_by_fewer (ComesWith order arrows) (ComesWith order more) comes_more

  -- a graph that is deterministic with arrows is so with more
  pub deterministic_more : (es : List Program) → IsDeterministic es (ComesWith order arrows) → IsDeterministic es (ComesWith order more)
  deterministic_more = deterministic_by_more (ComesWith order arrows) (ComesWith order more) comes_more

  -- where more arrows can be added, fewer can
  pub added_fewer : CanBeAdded order more → CanBeAdded order arrows
  added_fewer c = record {
    free = λ k d h. All-contains (IsBetweenFree order) more (get_or arrows k d) c.free (sub k d h);
    no_circle = λ a h. c.no_circle a (comes_more a a h);
  }

-- ---- runs that follow arrows
module _ (order : Relation) (strict : IsStrictOrder order) (arrows : List (ℕ × ℕ)) (run : List ℕ) where
  module _ (allowed : IsLinearExtension order.count (Comes order) run) (follows : All (Follows run) arrows) where
    -- in an allowed run that follows the arrows, a step leads from what stands ahead
    leads_ahead : (a b : ℕ) → Leads order arrows a b → place a run < place b run
    leads_ahead a b (inl h) =
        let within = strict.within a b h in
        ahead_of (Comes order) order.count run allowed a b within.0 within.1 (λ e. strict.never_itself a (subst (Comes order a) (sym e) h)) h
    leads_ahead a b (inr h) = All-contains (Follows run) arrows (a, b) follows h

    -- and so do several steps
    pub comes_ahead : (a b : ℕ) → ComesWith order arrows a b → place a run < place b run
    comes_ahead a b (step h) = leads_ahead a b h
    comes_ahead a c (and_on {b = b} h rest) = let first = leads_ahead a b h in let second = comes_ahead b c rest in omega arith

    -- and so none comes before itself
    pub no_circle : (a : ℕ) → ComesWith order arrows a a → ⊥
    no_circle a h = let e = comes_ahead a a h in omega arith

    -- such a run is allowed with the arrows
    pub allowed_with : IsLinearExtension order.count (ComesWith order arrows) run
    allowed_with = record {
      below = allowed.below;
      once = allowed.once;
      kept = none_ahead_by_places (ComesWith order arrows) run (at_most order.count run (each_once_of order.count (Comes order) run allowed)) comes_ahead;
    }

  -- a run that is allowed with arrows is allowed without them
  pub allowed_without : IsLinearExtension order.count (ComesWith order arrows) run → IsLinearExtension order.count (Comes order) run
  allowed_without = allowed_by_fewer (Comes order) (ComesWith order arrows) (λ a b h. step (inl h)) order.count run

  -- and follows them
  pub followed_by : All (IsBetweenFree order) arrows → IsLinearExtension order.count (ComesWith order arrows) run → All (Follows run) arrows
  followed_by free l k d h =
      let e = get_or arrows k d in
      let f = free k d h in
      ahead_of (ComesWith order arrows) order.count run l e.0 e.1 f.from f.to f.free.differ (step (inr (Contains-get_or arrows k d h)))

  -- a run is allowed with arrows exactly where it is allowed and follows them
  pub followed : All (IsBetweenFree order) arrows
      → IsLinearExtension order.count (ComesWith order arrows) run ↔ (IsLinearExtension order.count (Comes order) run × All (Follows run) arrows)
  followed free = ((λ l. (allowed_without l, followed_by free l)), (λ h. allowed_with h.0 h.1))

-- ---- no arrows
module _ (order : Relation) (strict : IsStrictOrder order) where
  -- no arrows have no arrow
  none_there : (e : ℕ × ℕ) → Contains [] e → ⊥
  none_there e h = omega (arith, h.1)

  -- what comes before another without arrows does so in the order
  of_none : (a b : ℕ) → ComesWith order [] a b → Comes order a b
  of_none a b (step (inl h)) = h
  of_none a b (step (inr h)) = absurd (none_there (a, b) h)
  of_none a c (and_on {b = b} (inl h) rest) = strict.transitive a b c h (of_none b c rest)
  of_none a c (and_on {b = b} (inr h) rest) = absurd (none_there (a, b) h)

  -- and what does so in the order does so without arrows
  pub no_arrows : (a b : ℕ) → ComesWith order [] a b ↔ Comes order a b
  no_arrows a b = (of_none a b, (λ h. step (inl h)))
