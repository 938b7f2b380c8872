use Rattle.std.proofs.Common.{◌≡◌, drop}
use Rattle.std.specs.List.{list_any, list_all}
use Rattle.pp_value.specs.Types.{is_fit}
use Rattle.pp_value.proofs.types.+fits.Given as goal

abbrev pub invariant-all_fit-loop-item : goal.invariant-all_fit-loop-item
invariant-all_fit-loop-item l = list_all (is_fit l.kind) (drop l.item-index l.items) ≡ list_all (is_fit l.kind) l.items

abbrev pub invariant-is_fit_to_one-loop-kind : goal.invariant-is_fit_to_one-loop-kind
invariant-is_fit_to_one-loop-kind l = list_any (λ kind. is_fit kind l.v) (drop l.kind-index l.kinds) ≡ list_any (λ kind. is_fit kind l.v) l.kinds
