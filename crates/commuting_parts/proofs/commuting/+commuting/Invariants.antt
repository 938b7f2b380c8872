use Rattle.std.proofs.Common.{◌+◌, ◌*◌}
use Rattle.commuting_parts.proofs.commuting.+commuting.Given as goal

abbrev pub decreases-commute_with : goal.decreases-commute_with
decreases-commute_with l = 8 * l.depth

abbrev pub decreases-choice_commutes : goal.decreases-choice_commutes
decreases-choice_commutes l = 8 * l.depth + 1

abbrev pub decreases-commute_behind_folders : goal.decreases-commute_behind_folders
decreases-commute_behind_folders l = 8 * l.depth + 1

abbrev pub decreases-lists_commute : goal.decreases-lists_commute
decreases-lists_commute l = 8 * l.depth + 2

abbrev pub decreases-others_commute : goal.decreases-others_commute
decreases-others_commute l = 8 * l.depth + 3
