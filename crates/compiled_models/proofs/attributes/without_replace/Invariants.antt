use Rattle.std.proofs.Common.{◌≡◌, [], drop}
use Rattle.pp_value.specs.Keys.{with_pairs}
use Rattle.compiled_models.specs.Files.{without_replace}
use Rattle.compiled_models.proofs.attributes.without_replace.Given as goal

-- the attributes so far, with those that are left
abbrev pub invariant-loop-pair : goal.invariant-loop-pair
invariant-loop-pair l = with_pairs l.rest (without_replace (drop l.pair-index l.attrs)) ≡ with_pairs [] (without_replace l.attrs)
