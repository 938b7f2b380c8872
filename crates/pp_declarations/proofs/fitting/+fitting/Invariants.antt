use Rattle.std.proofs.Common.{◌≡◌, ◌+◌, ◌*◌, drop}
use Rattle.catalog_semantics.specs.Rooms.{block_depth}
use Rattle.pp_declarations.specs.Depth.{fits, arms_depth, options_depth}
use Rattle.pp_declarations.proofs.fitting.+fitting.Given as goal

abbrev pub invariant-block_fits-loop-s : goal.invariant-block_fits-loop-s
invariant-block_fits-loop-s l = fits l.limit (block_depth (drop l.s-index l.body)) ≡ fits l.limit (block_depth l.body)

abbrev pub invariant-arms_fit-loop-a : goal.invariant-arms_fit-loop-a
invariant-arms_fit-loop-a l = fits l.limit (arms_depth (drop l.a-index l.arms)) ≡ fits l.limit (arms_depth l.arms)

abbrev pub invariant-options_fit-loop-a : goal.invariant-options_fit-loop-a
invariant-options_fit-loop-a l = fits l.limit (options_depth (drop l.a-index l.arms)) ≡ fits l.limit (options_depth l.arms)

abbrev pub decreases-statement_fits : goal.decreases-statement_fits
decreases-statement_fits l = 8 * goal.size-statement_fits l + 0

abbrev pub decreases-block_fits : goal.decreases-block_fits
decreases-block_fits l = 8 * goal.size-block_fits l + 1

abbrev pub decreases-arms_fit : goal.decreases-arms_fit
decreases-arms_fit l = 8 * goal.size-arms_fit l + 2

abbrev pub decreases-options_fit : goal.decreases-options_fit
decreases-options_fit l = 8 * goal.size-options_fit l + 2
