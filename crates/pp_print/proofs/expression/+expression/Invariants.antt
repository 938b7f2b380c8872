use Rattle.std.proofs.Common.{◌≡◌, ◌++◌, ◌+◌, ◌*◌, take}
use Rattle.std.specs.List.{flat_map}
use Rattle.pp_print.specs.Words.{comma}
use Rattle.pp_print.specs.Expressions.{printed, expr_words, pair_by, choice_by, hole_by, operation_by}
use Rattle.pp_print.proofs.expression.+expression.Given as goal

abbrev pub invariant-exprs-loop-e : goal.invariant-exprs-loop-e
invariant-exprs-loop-e l = l.words ≡ l.initial.words ++ flat_map (λ x. comma ++ expr_words x) (take l.e-index l.more)

abbrev pub invariant-all_pairs-loop-p : goal.invariant-all_pairs-loop-p
invariant-all_pairs-loop-p l = l.words ≡ l.initial.words ++ flat_map (λ x. comma ++ pair_by printed x) (take l.p-index l.more)

abbrev pub invariant-choices-loop-c : goal.invariant-choices-loop-c
invariant-choices-loop-c l = l.words ≡ l.initial.words ++ flat_map (λ x. comma ++ choice_by printed x) (take l.c-index l.more)

abbrev pub invariant-holes-loop-e : goal.invariant-holes-loop-e
invariant-holes-loop-e l = l.words ≡ l.initial.words ++ flat_map (hole_by printed) (take l.e-index l.members)

abbrev pub invariant-operations-loop-o : goal.invariant-operations-loop-o
invariant-operations-loop-o l = l.words ≡ l.initial.words ++ flat_map (operation_by printed l.level) (take l.o-index l.more)

-- Each goes down the tree; those that are given the same expressions call one another in this order.
abbrev pub decreases-expr : goal.decreases-expr
decreases-expr l = 8 * goal.size-expr l + 0

abbrev pub decreases-enclosed : goal.decreases-enclosed
decreases-enclosed l = 8 * goal.size-enclosed l + 1

abbrev pub decreases-at_level : goal.decreases-at_level
decreases-at_level l = 8 * goal.size-at_level l + 2

abbrev pub decreases-indexed : goal.decreases-indexed
decreases-indexed l = 8 * goal.size-indexed l + 2

abbrev pub decreases-hole : goal.decreases-hole
decreases-hole l = 8 * goal.size-hole l + 1

abbrev pub decreases-holes : goal.decreases-holes
decreases-holes l = 8 * goal.size-holes l + 2

abbrev pub decreases-join : goal.decreases-join
decreases-join l = 8 * goal.size-join l + 3

abbrev pub decreases-exprs : goal.decreases-exprs
decreases-exprs l = 8 * goal.size-exprs l + 1

abbrev pub decreases-list : goal.decreases-list
decreases-list l = 8 * goal.size-list l + 2

abbrev pub decreases-refer : goal.decreases-refer
decreases-refer l = 8 * goal.size-refer l + 2

abbrev pub decreases-pair : goal.decreases-pair
decreases-pair l = 8 * goal.size-pair l + 1

abbrev pub decreases-all_pairs : goal.decreases-all_pairs
decreases-all_pairs l = 8 * goal.size-all_pairs l + 2

abbrev pub decreases-map : goal.decreases-map
decreases-map l = 8 * goal.size-map l + 3

abbrev pub decreases-option : goal.decreases-option
decreases-option l = 8 * goal.size-option l + 1

abbrev pub decreases-choice : goal.decreases-choice
decreases-choice l = 8 * goal.size-choice l + 2

abbrev pub decreases-choices : goal.decreases-choices
decreases-choices l = 8 * goal.size-choices l + 3

abbrev pub decreases-selection : goal.decreases-selection
decreases-selection l = 8 * goal.size-selection l + 4

abbrev pub decreases-operation : goal.decreases-operation
decreases-operation l = 8 * goal.size-operation l + 3

abbrev pub decreases-operations : goal.decreases-operations
decreases-operations l = 8 * goal.size-operations l + 4

abbrev pub decreases-prefix : goal.decreases-prefix
decreases-prefix l = 8 * goal.size-prefix l + 3

abbrev pub decreases-index : goal.decreases-index
decreases-index l = 8 * goal.size-index l + 1
