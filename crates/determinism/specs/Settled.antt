-- What is known without a question of order.
use Rattle.std.specs.Prelude.{ℕ, List, slice_index_or}
use Rattle.std.specs.List.{AllByRecursion}
use Rattle.fs_semantics.specs.Programs.{Program, Id}
use Rattle.fs_semantics.specs.Changes.{Commutes}
use Rattle.fs_semantics.specs.Orders.{Told, IsDeterministic}
use Rattle.orders.specs.Relation.{Relation, comes}
use Rattle.proof_check.specs.Refuted.{HasNoModel}
use Rattle.tried_trees.specs.Tried.{IsDifference}
use Rattle.determinism.specs.declared.settling.Look.{Look}
use Rattle.determinism.specs.declared.settling.Look.TheVariants as look
use Rattle.determinism.specs.declared.settling.Settled.{Settled}
use Rattle.determinism.specs.declared.settling.Settled.TheVariants as settled

-- the programs of the pair commute
abbrev pub PairCommutes : List Program → (ℕ × ℕ) → Type 0
PairCommutes es pair = Commutes (slice_index_or es pair.0 Id) (slice_index_or es pair.1 Id)

-- a formula that has no model, or nothing
abbrev pub IsByProof : Settled → Type 0
IsByProof (settled.Alike v) = HasNoModel v.formula
IsByProof (settled.Differ d) = ⊥
IsByProof settled.Open = Unit {0}

-- What is known of a pair.
abbrev pub IsLook : List Program → Relation → (ℕ × ℕ) → Look → Type 0
IsLook es order pair (look.Commute v) = PairCommutes es pair
IsLook es order pair (look.Differ d) = IsDifference es order d
IsLook es order pair look.Open = Unit {0}

-- What is known of all these pairs.
abbrev pub AreSettled : List Program → Relation → List (ℕ × ℕ) → Settled → Type 0
AreSettled es order pairs (settled.Alike v) = AllByRecursion (PairCommutes es) pairs × HasNoModel v.formula
AreSettled es order pairs (settled.Differ d) = IsDifference es order d
AreSettled es order pairs settled.Open = Unit {0}

-- What each answer says.
abbrev pub IsSettled : List Program → Relation → Settled → Type 0
IsSettled es order (settled.Alike v) = IsDeterministic es (Told (comes order)) × HasNoModel v.formula
IsSettled es order (settled.Differ d) = IsDifference es order d
IsSettled es order settled.Open = Unit {0}
