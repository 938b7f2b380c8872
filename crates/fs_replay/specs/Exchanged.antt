-- Two programs between the same others, in either order, from one tree.
use Rattle.std.specs.Prelude.{◌≡◌, ◌⊎◌, ℕ, Bool, true, List, [], ◌∷◌, ◌++◌, map, length, IfSome}
use Rattle.fs_semantics.specs.FileTree.{HasParents}
use Rattle.fs_semantics.specs.Programs.{Outcome, and_then}
use Rattle.fs_semantics.specs.Orders.{outcome}
use Rattle.fs_lang.specs.Meaning.{program_of, programs_in}
use Rattle.fs_interpreter.specs.Meanings.{plain_meanings}
use Rattle.fs_interpreter.specs.Places.{CoversSteps}
use Rattle.fs_interpreter.specs.States.{AreCells}
use Rattle.fs_interpreter.specs.Standing.{Stands, StandsFor}
use Rattle.fs_interpreter.specs.declared.cells.Cells.{Cells}
use Rattle.fs_replay.specs.declared.exchange.Exchange.{Exchange}
use Rattle.fs_replay.specs.declared.ground.Ground.{Ground}
use Rattle.fs_replay.specs.Told.{plain_state}

-- the table has what the programs name, and the cells stand for the tree
pub record IsGround (g : Ground) : Type 0 where
  pub covers : CoversSteps g.table (programs_in g.programs.now)
  pub cells : AreCells plain_meanings g.cells
  pub places : length g.cells.present ≡ length g.table.paths
  pub stands : Stands g.table (plain_state g.cells) g.tree.now

-- the cells have the places of the table, and stand for this outcome
pub record StandOn {B : Type 0} (g : Ground) (o : Outcome) (held : Cells B Bool ℕ) : Type 0 where
  pub cells : AreCells plain_meanings held
  pub places : length held.present ≡ length g.table.paths
  pub stands : StandsFor g.table (plain_state held) o
  pub parents : IfSome o HasParents

-- the first of the two ahead of the second, between the others
abbrev pub one_way : Exchange → List ℕ
one_way x = x.front ++ x.first ∷ x.second ∷ x.back

-- the second ahead of the first, between the same others
abbrev pub other_way : Exchange → List ℕ
other_way x = x.front ++ x.second ∷ x.first ∷ x.back

-- what stands once the others ahead have run, and then the two, the first ahead of the second
abbrev pub left_behind_one_way : Ground → Exchange → Outcome
left_behind_one_way g x = and_then (outcome (map program_of g.programs.now) x.front g.tree.now)
    (outcome (map program_of g.programs.now) (x.first ∷ x.second ∷ []))

-- the same, the second ahead of the first
abbrev pub left_behind_other_way : Ground → Exchange → Outcome
left_behind_other_way g x = and_then (outcome (map program_of g.programs.now) x.front g.tree.now)
    (outcome (map program_of g.programs.now) (x.second ∷ x.first ∷ []))

-- each place holds the same in both
pub record HoldTheSame {B : Type 0} (a b : Cells B Bool ℕ) : Type 0 where
  pub present : a.present ≡ b.present
  pub folder : a.folder ≡ b.folder
  pub link : a.link ≡ b.link
  pub content : a.content ≡ b.content
  pub error : a.error ≡ b.error

-- both stand for Error, or each place holds the same in both
abbrev pub AreAlike : {B : Type 0} → Cells B Bool ℕ → Cells B Bool ℕ → Type 0
AreAlike a b = ((a.error ≡ true) × (b.error ≡ true)) ⊎ HoldTheSame a b
