-- The order with arrows.
use Rattle.std.proofs.Common.{◌≡◌, inl, inr, ℕ, ◌<◌, Bool, List, ◌++◌}
use Rattle.std.specs.Prelude.{◌↔◌, IsTrue}
use Rattle.std.specs.List.{All}
use Rattle.std.proofs.lemmas.List.Elements.{Contains-append_left, Contains-append_right, Contains-append_cases, All-append, Contains-get_or}
use Rattle.fs_semantics.proofs.Keys.{same_bool}
use Rattle.orders.specs.Relation.{Relation, comes, Comes, IsStrictOrder}
use Rattle.orders.specs.Paths.{HasEdge, EndsBelow, Path, edge, and_on}
use Rattle.commute_prune.specs.Pairs.{pairs_of}
use Rattle.commute_prune.proofs.PairLaws.{pairs_from, pairs_in}
use Rattle.repair.specs.Arrows.{Leads, ComesWith, step, and_on as and_further, IsBetweenFree}

-- a test of what comes before what tells it
pub told_by : (order : Relation) (a b : ℕ) (r : Bool) → IsTrue r ↔ Comes order a b → r ≡ comes order a b
told_by order a b r h = same_bool r (comes order a b) h.0 h.1

module _ (order : Relation) (strict : IsStrictOrder order) (arrows : List (ℕ × ℕ)) where
  -- the edges of the order, and the arrows
  abbrev edges : List (ℕ × ℕ)
  edges = pairs_of (comes order) order.count order.count ++ arrows

  -- both ends of each edge are resources
  pub ends_below : All (IsBetweenFree order) arrows → EndsBelow order.count edges
  ends_below free = All-append (λ e. (e.0 < order.count) × (e.1 < order.count)) (pairs_of (comes order) order.count order.count) arrows
      (λ k d h. let p = pairs_from (comes order) order.count order.count _ (Contains-get_or (pairs_of (comes order) order.count order.count) k d h) in (p.left, p.right))
      (λ k d h. let f = free k d h in (f.from, f.to))

  -- an edge is a step of the order or of an arrow
  to_leads : (a b : ℕ) → HasEdge edges a b → Leads order arrows a b
  to_leads a b h = elim (Contains-append_cases (pairs_of (comes order) order.count order.count) arrows (a, b) h) [
    | inl k ↦ inl (pairs_from (comes order) order.count order.count (a, b) k).passes
    | inr k ↦ inr k
  ]

  -- and such a step is an edge
  from_leads : (a b : ℕ) → Leads order arrows a b → HasEdge edges a b
  from_leads a b (inl h) =
      let within = strict.within a b h in
      Contains-append_left (pairs_of (comes order) order.count order.count) arrows (a, b) (pairs_in (comes order) order.count order.count a b within.0 within.1 h)
  from_leads a b (inr h) = Contains-append_right (pairs_of (comes order) order.count order.count) arrows (a, b) h

  -- a path of edges leads to what comes behind with the arrows
  pub path_to : (a b : ℕ) → Path edges a b → ComesWith order arrows a b
  path_to a b (edge h) = step (to_leads a b h)
  path_to a c (and_on {b = b} h rest) = and_further (to_leads a b h) (path_to b c rest)

  -- and to that a path of edges leads
  pub path_from : (a b : ℕ) → ComesWith order arrows a b → Path edges a b
  path_from a b (step h) = edge (from_leads a b h)
  path_from a c (and_further {b = b} h rest) = and_on (from_leads a b h) (path_from b c rest)
