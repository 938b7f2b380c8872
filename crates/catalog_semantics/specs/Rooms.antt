-- How deep blocks stand within one another, and how much may be open at a time.
use Rattle.std.specs.Prelude.{ℕ, ◌+◌, ◌-◌, max, Bool, ◌&&◌, nat_lt, List, [], ◌∷◌, map}
use Rattle.pp_syntax.specs.declared.tree.Stmt.{Stmt, Stmt-F, fold-Stmt}
use Rattle.pp_syntax.specs.declared.tree.Stmt.TheOpen as stmt
use Rattle.pp_syntax.specs.declared.tree.Stmt.TheOpen.{Arm-F, CaseArm-F}
use Rattle.catalog_semantics.specs.declared.room.TheConstants.{BODIES, LEVELS}
pub use Rattle.catalog_semantics.specs.declared.room.Room.{Room}

-- ---- the depth of a statement

-- the greatest of some numbers; 0 where there are none
abbrev pub most : List ℕ → ℕ
most [] = 0
most (n ∷ ns) = max n (most ns)

abbrev pub arm_depth_by : Arm-F ℕ ℕ ℕ → ℕ
arm_depth_by arm = most arm.body

abbrev pub case_arm_depth_by : CaseArm-F ℕ ℕ ℕ → ℕ
case_arm_depth_by arm = most arm.body

-- one more than in the blocks of the statement
abbrev pub depth_by : Stmt-F ℕ ℕ ℕ → ℕ
depth_by (stmt.Chain at operands arrows) = 0
depth_by (stmt.Assign at name value) = 0
depth_by (stmt.Call at func args) = 0
depth_by (stmt.If at arms other) = max (most arms) (most other) + 1
depth_by (stmt.Unless at test body other) = max (most body) (most other) + 1
depth_by (stmt.Case at value arms) = most arms + 1

-- how deep blocks stand within one another in a statement
unfoldable pub depth : Stmt → ℕ
depth s = fold-Stmt ℕ ℕ ℕ depth_by arm_depth_by case_arm_depth_by s

-- and in some statements
abbrev pub block_depth : List Stmt → ℕ
block_depth body = most (map depth body)

-- ---- what may be open

-- the greatest number of bodies of classes that run within one another, and that of such bodies and blocks that are open at a time
abbrev pub whole_room : Room
whole_room = record { bodies = BODIES; levels = LEVELS }

-- what is left within one more block
abbrev pub in_block : Room → Room
in_block room = record { bodies = room.bodies; levels = room.levels - 1 }

-- what is left within one more body
abbrev pub in_body : Room → Room
in_body room = record { bodies = room.bodies - 1; levels = room.levels - 1 }

-- One more body may run, and it may be open with its deepest block.
abbrev pub has_room_for : Room → List Stmt → Bool
has_room_for room body = nat_lt 0 room.bodies && nat_lt (block_depth body) room.levels
