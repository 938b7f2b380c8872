use Rattle.std.proofs.Common.{◌≡◌, [], map, ◌+◌, ◌*◌, drop}
use Rattle.pp_eval.specs.Evaluating.{◌>>=◌}
use Rattle.pp_eval.specs.Evaluation.{evaluated, pair_by, operand_by, choice_by, values_in, pairs_in, titles_in, with_references, joined_to, chain_from, first_equal, default_in, chosen, selected}
use Rattle.pp_eval.proofs.Steps.{behind, put_into}
use Rattle.std.specs.Prelude.{None}
use Rattle.pp_eval.proofs.evaluation.+evaluation.Given as goal

-- What stands so far, and what is left, are the whole.

abbrev pub invariant-eval_all-loop-member : goal.invariant-eval_all-loop-member
invariant-eval_all-loop-member l = behind l.values (values_in (map (evaluated l.scopes) (drop l.member-index l.members))) ≡ values_in (map (evaluated l.scopes) l.members)

abbrev pub invariant-pairs-loop-member : goal.invariant-pairs-loop-member
invariant-pairs-loop-member l = put_into l.pairs (pairs_in (map (pair_by (evaluated l.scopes)) (drop l.member-index l.members))) ≡ put_into [] (pairs_in (map (pair_by (evaluated l.scopes)) l.members))

abbrev pub invariant-references-loop-title : goal.invariant-references-loop-title
invariant-references-loop-title l = with_references l.kind l.references (titles_in (map (evaluated l.scopes) (drop l.title-index l.titles))) ≡ with_references l.kind [] (titles_in (map (evaluated l.scopes) l.titles))

abbrev pub invariant-join-loop-member : goal.invariant-join-loop-member
invariant-join-loop-member l = joined_to l.at l.text (map (evaluated l.scopes) (drop l.member-index l.members)) ≡ joined_to l.at [] (map (evaluated l.scopes) l.members)

abbrev pub invariant-chain-loop-o : goal.invariant-chain-loop-o
invariant-chain-loop-o l = chain_from l.at l.value (map (operand_by (evaluated l.scopes)) (drop l.o-index l.more)) ≡ chain_from l.at l.fn.first (map (operand_by (evaluated l.scopes)) l.more)

abbrev pub invariant-select-loop-choice : goal.invariant-select-loop-choice
invariant-select-loop-choice l = (first_equal l.at l.value (map (choice_by (evaluated l.scopes)) (drop l.choice-index l.choices)) >>= λ found. chosen l.at found (default_in (map (choice_by (evaluated l.scopes)) l.choices)))
    ≡ selected l.at l.value (map (choice_by (evaluated l.scopes)) l.choices)

abbrev pub invariant-default-loop-choice : goal.invariant-default-loop-choice
invariant-default-loop-choice l = chosen l.at None (default_in (map (choice_by (evaluated l.scopes)) (drop l.choice-index l.choices))) ≡ chosen l.at None (default_in (map (choice_by (evaluated l.scopes)) l.choices))

-- Each goes down the tree; those that are given the same expressions call one another in this order.
abbrev pub decreases-eval : goal.decreases-eval
decreases-eval l = 8 * goal.size-eval l + 0

abbrev pub decreases-eval_all : goal.decreases-eval_all
decreases-eval_all l = 8 * goal.size-eval_all l + 1

abbrev pub decreases-list : goal.decreases-list
decreases-list l = 8 * goal.size-list l + 2

abbrev pub decreases-pair : goal.decreases-pair
decreases-pair l = 8 * goal.size-pair l + 1

abbrev pub decreases-pairs : goal.decreases-pairs
decreases-pairs l = 8 * goal.size-pairs l + 2

abbrev pub decreases-map : goal.decreases-map
decreases-map l = 8 * goal.size-map l + 3

abbrev pub decreases-references : goal.decreases-references
decreases-references l = 8 * goal.size-references l + 1

abbrev pub decreases-refer : goal.decreases-refer
decreases-refer l = 8 * goal.size-refer l + 2

abbrev pub decreases-join : goal.decreases-join
decreases-join l = 8 * goal.size-join l + 1

abbrev pub decreases-truth : goal.decreases-truth
decreases-truth l = 8 * goal.size-truth l + 1

abbrev pub decreases-both : goal.decreases-both
decreases-both l = 8 * goal.size-both l + 2

abbrev pub decreases-either : goal.decreases-either
decreases-either l = 8 * goal.size-either l + 2

abbrev pub decreases-operated : goal.decreases-operated
decreases-operated l = 8 * goal.size-operated l + 3

abbrev pub decreases-chain : goal.decreases-chain
decreases-chain l = 8 * goal.size-chain l + 4

abbrev pub decreases-prefix : goal.decreases-prefix
decreases-prefix l = 8 * goal.size-prefix l + 1

abbrev pub decreases-lend_member : goal.decreases-lend_member
decreases-lend_member l = 8 * goal.size-lend_member l + 1

abbrev pub decreases-no_member : goal.decreases-no_member
decreases-no_member l = 8 * goal.size-no_member l + 1

abbrev pub decreases-lend : goal.decreases-lend
decreases-lend l = 8 * goal.size-lend l + 0

abbrev pub decreases-copy_member : goal.decreases-copy_member
decreases-copy_member l = 8 * goal.size-copy_member l + 1

abbrev pub decreases-is_equal : goal.decreases-is_equal
decreases-is_equal l = 8 * goal.size-is_equal l + 1

abbrev pub decreases-default : goal.decreases-default
decreases-default l = 8 * goal.size-default l + 1

abbrev pub decreases-select : goal.decreases-select
decreases-select l = 8 * goal.size-select l + 2
