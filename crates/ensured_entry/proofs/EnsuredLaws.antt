-- What the witness of a run that ends in a tree shows.
use Rattle.std.proofs.Common.{◌≡◌, List, length}
use Rattle.fs_semantics.specs.Programs.{Program}
use Rattle.fs_semantics.specs.Orders.{Told, Succeeds}
use Rattle.orders.specs.Relation.{Relation, comes}
use Rattle.order_encode.specs.declared.witness.Witness.{Witness}
use Rattle.order_encode.specs.declared.witness.Witness.TheVariants as witness
use Rattle.success.specs.Questions.{IsEnd}
use Rattle.ensured_entry.proofs.MissingLaws.{allowed}

-- the graph succeeds
pub succeeds : (es : List Program) (order : Relation) → length es ≡ order.count → (x : Witness) → IsEnd es order x → Succeeds es (Told (comes order))
succeeds es order long (witness.Orders tree left right) h = absurd h
succeeds es order long (witness.Twice tree first) h = absurd h
succeeds es order long (witness.Ends tree first) h = record { tree = tree; is_tree = h.1; order = first; allowed = allowed es order first long h.0; ends = h.2 }
