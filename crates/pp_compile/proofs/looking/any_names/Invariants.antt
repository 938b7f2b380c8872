use Rattle.std.proofs.Common.{◌≡◌, drop}
use Rattle.std.specs.List.{list_any}
use Rattle.pp_value.specs.Values.{same_ref}
use Rattle.pp_compile.proofs.looking.any_names.Given as goal

abbrev pub invariant-loop-p : goal.invariant-loop-p
invariant-loop-p l = list_any (λ p. same_ref p.target l.r.id) (drop l.p-index l.pending) ≡ list_any (λ p. same_ref p.target l.r.id) l.pending
