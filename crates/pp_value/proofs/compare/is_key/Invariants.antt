use Rattle.std.proofs.Common.{◌≡◌, drop}
use Rattle.std.specs.List.{list_any}
use Rattle.pp_value.specs.Texts.{same_text}
use Rattle.pp_value.proofs.compare.is_key.Given as goal

abbrev pub invariant-loop-pair : goal.invariant-loop-pair
invariant-loop-pair l = list_any (λ p. same_text l.key p.0) (drop l.pair-index l.pairs) ≡ list_any (λ p. same_text l.key p.0) l.pairs
