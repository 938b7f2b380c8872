-- Words within the crate.
use Rattle.std.specs.Prelude.{List}
use Rattle.fs_semantics.specs.FileTree.{Path}
use Rattle.fs_semantics.specs.Programs.{Program}
use Rattle.given_hosts.specs.Given.{SucceedsFrom}
use Rattle.orders.specs.Relation.{Relation, Comes}
use Rattle.verdict.specs.declared.verdicts.Ends.{Ends}
use Rattle.verdict.specs.declared.verdicts.Ends.TheVariants as ends

-- what is answered to the last question is so
abbrev pub EndHolds : List Path → List Program → Relation → Ends → Type 0
EndHolds given es order (ends.From w) = SucceedsFrom given es (Comes order)
EndHolds given es order (ends.Never v) = SucceedsFrom given es (Comes order) → ⊥
