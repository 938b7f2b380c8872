-- What is asked of the inputs.
use Rattle.std.specs.Prelude.{◌≡◌, ◌≢◌, ℕ, ◌-◌, ◌==◌, ◌<◌, Bool, true, ◌&&◌, ◌||◌, List, [], ◌∷◌, Some, IsSome}
use Rattle.bool_circuit.specs.declared.gate.Wire.{Wire}
use Rattle.bool_circuit.specs.declared.gate.Gate.{Gate}
use Rattle.fs_semantics.specs.FileTree.{Tree}
use Rattle.fs_semantics.specs.Programs.{Program, Outcome, and_then}
use Rattle.fs_semantics.specs.Orders.{IsFree, outcome}
use Rattle.path_domain.specs.declared.listed.Domain.{Domain}
use Rattle.fs_interpreter.specs.Meanings.{Valuation}
use Rattle.fs_interpreter.specs.States.{state_of}
use Rattle.fs_interpreter.specs.Standing.{Stands}
use Rattle.fs_interpreter.specs.declared.cells.Cells.{Cells}
use Rattle.orders.specs.Relation.{Relation, comes, Comes}
use Rattle.order_places.specs.Places.{is_in_order}
use Rattle.sym_run.specs.Wires.{circuit_meanings}
use Rattle.sym_run.specs.Trees.{IsTreeOver}

-- the inputs tell a tree over the domain of which this holds
pub record TellsTree {B : Type 0} (d : Domain) (gates : List Gate) (cells : Cells B Wire (List Wire))
    (holds : Tree → Type 0) (v : Valuation) : Type 0 where
  pub tree : Tree
  pub over : IsTreeOver d tree
  pub stands : Stands d.table (state_of (circuit_meanings gates) v cells) tree
  pub held : holds tree

-- both orders are allowed, and the place has a next one
pub record AreAllowed (order : Relation) (place : ℕ) (left right : List ℕ) : Type 0 where
  pub first : is_in_order (comes order) order.count left ≡ true
  pub second : is_in_order (comes order) order.count right ≡ true
  pub placed : place < order.count - 1

-- these are the nodes i and k, the one way or the other
abbrev pub are_these : ℕ → ℕ → ℕ → ℕ → Bool
are_these i k x y = ((i == x) && (k == y)) || ((k == x) && (i == y))

-- behind this outcome, two programs and then an order end differently the one way and the other
abbrev pub EndApartThen : List Program → Outcome → ℕ → ℕ → List ℕ → Type 0
EndApartThen programs o i k rest = and_then o (outcome programs (i ∷ k ∷ rest)) ≢ and_then o (outcome programs (k ∷ i ∷ rest))

-- the two programs alone do
abbrev pub EndApartAt : List Program → Outcome → ℕ → ℕ → Type 0
EndApartAt programs o i k = EndApartThen programs o i k []

-- two nodes of which neither comes before the other
pub record AreFreeNodes (order : Relation) (i k : ℕ) : Type 0 where
  pub first : i < order.count
  pub second : k < order.count
  pub free : IsFree (Comes order) i k

-- a node between i and n, of which neither comes before the other, and whose programs end apart
abbrev pub ApartBehind : List Program → Relation → Outcome → ℕ → ℕ → Type 0
ApartBehind programs order o i n = (k : ℕ) × (i < k) × (k < n) × IsFree (Comes order) i k × EndApartAt programs o i k

-- two such nodes, the first of them below n
abbrev pub ApartBelow : List Program → Relation → Outcome → ℕ → Type 0
ApartBelow programs order o n = (i : ℕ) × (i < n) × ApartBehind programs order o i order.count

-- both orders are allowed, and they end differently
pub record EndApart (programs : List Program) (order : Relation) (place : ℕ) (left right : List ℕ) (t : Tree) : Type 0 where
  pub allowed : AreAllowed order place left right
  pub differ : outcome programs left t ≢ outcome programs right t

-- the order ends in a tree that a second run doesn't leave as it is
abbrev pub ChangesTwice : List Program → List ℕ → Tree → Type 0
ChangesTwice programs order t = (u : Tree) × (outcome programs order t ≡ Some u) × (outcome programs order u ≢ Some u)

-- the order ends in a tree
abbrev pub Ends : List Program → List ℕ → Tree → Type 0
Ends programs order t = IsSome (outcome programs order t)
