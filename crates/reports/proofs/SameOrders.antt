-- Two graphs of one catalog ask for one order.
use Rattle.std.proofs.Common.{◌≡◌, ℕ, Bool, ◌<◌, List, [], ◌∷◌, ◌++◌, length, map, Option, Some, None, sym, ap, subst, subst₂, ◌∙◌}
use Rattle.std.specs.Prelude.{◌↔◌}
use Rattle.std.specs.List.{AllByRecursion}
use Rattle.fs_semantics.specs.Orders.{Told, NoneAhead, IsLinearExtension}
use Rattle.orders.specs.Relation.{Relation, Comes, comes, IsStrictOrder}
use Rattle.orders.specs.Extensions.{IsReady, TakesLeast}
use Rattle.catalog_semantics.specs.Catalogs.{Catalog}
use Rattle.graph_semantics.specs.Graphs.{IsGraphOf}
use Rattle.dep_graph.specs.declared.answer.Graph.{Graph}
use Rattle.allowed_order.specs.AllowedOrder.{shown_at}
use Rattle.reports.specs.Replays.{IsOrderFor}

-- two graphs of a catalog have the same pairs
abbrev pub OnePair : Type 0
OnePair = (c : Catalog) (plain : List ℕ) (before after : ℕ → ℕ → Bool) → IsGraphOf c plain (Told before) → IsGraphOf c plain (Told after)
    → (i j : ℕ) → i < length plain → j < length plain → Told before i j ↔ Told after i j

-- what comes before what in the one does so in the other
abbrev Within : Relation → Relation → Type 0
Within a b = (i j : ℕ) → Comes a i j → Comes b i j

-- ---- orders that relations which say the same allow

-- where none of an order must come before a resource, none must by fewer pairs
none_of : (a b : Relation) → Within b a → (k : ℕ) (order : List ℕ) → AllByRecursion (λ i. Comes a i k → ⊥) order → AllByRecursion (λ i. Comes b i k → ⊥) order
none_of a b within k [] all = tt
none_of a b within k (i ∷ order) all = (λ comes. all.0 (within i k comes), none_of a b within k order all.1)

-- an order that is kept by more pairs is kept by fewer
none_ahead : (a b : Relation) → Within b a → (order : List ℕ) → NoneAhead (Comes a) order → NoneAhead (Comes b) order
none_ahead a b within [] all = tt
none_ahead a b within (k ∷ order) all = (none_of a b within k order all.0, none_ahead a b within order all.1)

-- and so it is allowed
extension : (n : ℕ) (a b : Relation) → Within b a → (order : List ℕ) → IsLinearExtension n (Comes a) order → IsLinearExtension n (Comes b) order
extension n a b within order is = record { below = is.below; once = is.once; kept = none_ahead a b within order is.kept }

-- a resource that may come next by more pairs may by fewer
ready : (n : ℕ) (a b : Relation) → Within b a → (taken : List ℕ) (k : ℕ) → IsReady n (Comes a) taken k → IsReady n (Comes b) taken k
ready n a b within taken k is = record { below = is.below; fresh = is.fresh; free = λ i comes. is.free i (within i k comes) }

-- an order that always takes the least does so by the same pairs told otherwise
takes_least : (n : ℕ) (a b : Relation) → Within a b → Within b a → (taken order : List ℕ) → TakesLeast n (Comes a) taken order → TakesLeast n (Comes b) taken order
takes_least n a b there back taken [] is = tt
takes_least n a b there back taken (k ∷ order) is = (
  record { ready = ready n a b back taken k is.0.ready; least = λ j h. is.0.least j (ready n b a there taken j h) },
  takes_least n a b there back (taken ++ k ∷ []) order is.1,
)

-- ---- two graphs of one catalog

-- of two graphs of a catalog the one has the other's pairs
within_other : OnePair → (c : Catalog) (plain : List ℕ) (a b : Relation) → IsGraphOf c plain (Comes a) → IsGraphOf c plain (Comes b) → a.count ≡ length plain → IsStrictOrder a → Within a b
within_other pairs c plain a b g h count strict i j comes_a =
    let low = strict.within i j comes_a in
    (pairs c plain (comes a) (comes b) g h i j (subst (λ n. i < n) count low.0) (subst (λ n. j < n) count low.1)).0 comes_a

-- the order that is asked of the one is asked of the other
same_order : (text : Option (List ℕ)) (c : Catalog) (g h : Graph) (o : List ℕ) → g.plain ≡ h.plain → Within g.order h.order → Within h.order g.order → IsOrderFor text c g o → IsOrderFor text c h o
same_order None c g h o plain there back is = (
  subst (λ n. IsLinearExtension n (Comes h.order) o) (ap length plain) (extension (length g.plain) g.order h.order back o is.0),
  subst (λ n. TakesLeast n (Comes h.order) [] o) (ap length plain) (takes_least (length g.plain) g.order h.order there back [] o is.1),
)
same_order (Some bytes) c g h o plain there back is = record {
  texts = is.texts;
  text = is.text;
  named = record {
    shown = subst (λ ps. is.texts ≡ map (shown_at c ps) o) plain is.named.shown;
    allowed = subst (λ n. IsLinearExtension n (Comes h.order) o) (ap length plain) (extension (length g.plain) g.order h.order back o is.named.allowed);
  };
}

-- and so it is of graphs of equal catalogs
pub same_order_for : OnePair → (text : Option (List ℕ)) (c d : Catalog) (g h : Graph) (o : List ℕ) → c ≡ d → g.plain ≡ h.plain
    → IsGraphOf c g.plain (Comes g.order) → IsGraphOf d h.plain (Comes h.order) → g.order.count ≡ length g.plain → h.order.count ≡ length h.plain
    → IsStrictOrder g.order → IsStrictOrder h.order → IsOrderFor text c g o → IsOrderFor text d h o
same_order_for pairs text c d g h o catalog plain is was count many strict rigid ordered =
    let other = subst₂ (λ x ps. IsGraphOf x ps (Comes h.order)) (sym catalog) (sym plain) was in
    subst (λ x. IsOrderFor text x h o) catalog
    (same_order text c g h o plain
    (within_other pairs c g.plain g.order h.order is other count strict)
    (within_other pairs c g.plain h.order g.order other is (many ∙ ap length (sym plain)) rigid)
    ordered)
