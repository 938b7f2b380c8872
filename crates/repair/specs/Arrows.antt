-- Arrows that are added to an order of resources.
use Rattle.std.specs.Prelude.{◌⊎◌, ◌↔◌, ◌≡◌, ℕ, ◌<◌, List}
use Rattle.std.specs.List.{All}
use Rattle.fs_semantics.specs.Orders.{IsFree}
use Rattle.orders.specs.Relation.{Relation, Comes}
use Rattle.orders.specs.Paths.{HasEdge}
use Rattle.orders.specs.Exchanges.{place}

-- the order has a before b, or one of the arrows leads from a to b
abbrev pub Leads : Relation → List (ℕ × ℕ) → ℕ → ℕ → Type 0
Leads order arrows a b = Comes order a b ⊎ HasEdge arrows a b

-- with these arrows a comes before b: the order and the arrows lead from a to b, in one step or in several
pub data ComesWith (order : Relation) (arrows : List (ℕ × ℕ)) : ℕ → ℕ → Type 0 where
  step : {a b : ℕ} → Leads order arrows a b → ComesWith order arrows a b
  and_on : {a b c : ℕ} → Leads order arrows a b → ComesWith order arrows b c → ComesWith order arrows a c

-- the arrow is between two of the resources, neither of which comes before the other
pub record IsBetweenFree (order : Relation) (arrow : ℕ × ℕ) : Type 0 where
  pub from : arrow.0 < order.count
  pub to : arrow.1 < order.count
  pub free : IsFree (Comes order) arrow.0 arrow.1

-- The arrows can be added: each is between free resources, and with all of them none comes before itself.
pub record CanBeAdded (order : Relation) (arrows : List (ℕ × ℕ)) : Type 0 where
  pub free : All (IsBetweenFree order) arrows
  pub no_circle : (a : ℕ) → ComesWith order arrows a a → ⊥

-- this is the order with the arrows
pub record IsOrderWith (order : Relation) (arrows : List (ℕ × ℕ)) (made : Relation) : Type 0 where
  pub count : made.count ≡ order.count
  pub before : (a b : ℕ) → Comes made a b ↔ ComesWith order arrows a b

-- the run follows the arrow: the first of the two resources stands ahead of the other
abbrev pub Follows : List ℕ → (ℕ × ℕ) → Type 0
Follows run arrow = place arrow.0 run < place arrow.1 run
