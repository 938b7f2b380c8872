use Rattle.std.proofs.Common.{◌≡◌, drop}
use Rattle.std.specs.List.{list_any}
use Rattle.pp_value.specs.Values.{same}
use Rattle.pp_declared_catalog.proofs.matching.any_same.Given as goal

abbrev pub invariant-loop-member : goal.invariant-loop-member
invariant-loop-member l = list_any (λ member. same member l.x) (drop l.member-index l.members) ≡ list_any (λ member. same member l.x) l.members
