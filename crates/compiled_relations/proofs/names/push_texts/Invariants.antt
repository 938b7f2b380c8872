use Rattle.std.proofs.Common.{◌≡◌, ◌++◌, drop, map}
use Rattle.std.specs.List.{flat_map}
use Rattle.std.specs.Option.{option_to_list}
use Rattle.pp_eval.specs.Evaluation.{text_of as text_in}
use Rattle.compiled_relations.specs.Finding.{ref_to}
use Rattle.compiled_relations.proofs.names.push_texts.Given as goal

-- the references so far, with those that are left
abbrev pub invariant-loop-value : goal.invariant-loop-value
invariant-loop-value l =
    l.refs ++ map (ref_to l.kind) (flat_map (λ x. option_to_list (text_in x)) (drop l.value-index l.values)) ≡ l.fn.refs ++ map (ref_to l.kind) (flat_map (λ x. option_to_list (text_in x)) l.values)
