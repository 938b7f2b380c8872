use Rattle.std.proofs.Common.{◌≡◌, ◌++◌, ◌+◌, ◌*◌, take}
use Rattle.std.specs.List.{flat_map}
use Rattle.pp_print.specs.Words.{comma}
use Rattle.pp_print.specs.Statements.{type_words}
use Rattle.pp_print.proofs.types.+types.Given as goal

abbrev pub invariant-members-loop-t : goal.invariant-members-loop-t
invariant-members-loop-t l = l.words ≡ l.initial.words ++ flat_map (λ x. comma ++ type_words x) (take l.t-index l.more)

abbrev pub decreases-type_name : goal.decreases-type_name
decreases-type_name l = 8 * goal.size-type_name l + 0

abbrev pub decreases-of_member : goal.decreases-of_member
decreases-of_member l = 8 * goal.size-of_member l + 1

abbrev pub decreases-array : goal.decreases-array
decreases-array l = 8 * goal.size-array l + 2

abbrev pub decreases-members : goal.decreases-members
decreases-members l = 8 * goal.size-members l + 1

abbrev pub decreases-variant : goal.decreases-variant
decreases-variant l = 8 * goal.size-variant l + 2
