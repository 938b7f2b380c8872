-- How much is left to do, at most, and what is no deeper than that.
use Rattle.std.specs.Prelude.{ℕ, ◌+◌, ◌*◌, Bool, not, nat_lt, List, map}
use Rattle.pp_syntax.specs.declared.tree.Arm.{Arm, out-Arm}
use Rattle.pp_syntax.specs.declared.tree.CaseArm.{CaseArm, out-CaseArm}
use Rattle.catalog_semantics.specs.Sites.{Site}
use Rattle.catalog_semantics.specs.Rooms.{most, block_depth}

-- more than the depth of each class's body
abbrev pub bound_of : Site → ℕ
bound_of site = most (map (λ d. block_depth d.body) site.classes) + 1

-- what is left to do, at most: so many bodies within one another, and so deep a block
abbrev pub weight : ℕ → Site → ℕ → ℕ
weight left site depth = 16 * (left * bound_of site + depth)

-- no more than the limit
abbrev pub fits : ℕ → ℕ → Bool
fits limit depth = not (nat_lt limit depth)

-- how deep blocks stand within one another in the blocks of some arms
abbrev pub arms_depth : List Arm → ℕ
arms_depth arms = most (map (λ a. block_depth (out-Arm a).body) arms)

abbrev pub options_depth : List CaseArm → ℕ
options_depth arms = most (map (λ a. block_depth (out-CaseArm a).body) arms)
