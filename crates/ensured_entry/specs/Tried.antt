-- Trees from which a run tells something.
use Rattle.std.specs.Prelude.{ℕ, List}
use Rattle.fs_semantics.specs.FileTree.{Tree, IsTree}
use Rattle.fs_semantics.specs.Programs.{Program}
use Rattle.order_encode.specs.Missing.{EndsMissing}
use Rattle.orders.specs.Relation.{Relation}
use Rattle.success.specs.Questions.{IsEnd}
use Rattle.wanted_entry.specs.declared.wanted.Wanted.{Wanted}
use Rattle.ensured_entry.specs.declared.trying.Tried.{Tried}
use Rattle.ensured_entry.specs.declared.trying.Tried.TheVariants as tried
use Rattle.ensured_entry.specs.Questions.{IsMissed}

-- from the file tree the order ends in a tree without the entry
abbrev pub MissesFrom : List Program → List ℕ → Wanted → Tree → Type 0
MissesFrom es order w t = IsTree t × EndsMissing es order w t

-- What runs from a few trees show.
abbrev pub IsTried : List Program → Relation → Wanted → Tried → Type 0
IsTried es order w (tried.Missed x) = IsMissed es order w x
IsTried es order w (tried.Ended x) = IsEnd es order x
IsTried es order w tried.Nothing = Unit {0}
