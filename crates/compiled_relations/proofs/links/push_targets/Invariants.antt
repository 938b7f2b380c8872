use Rattle.std.proofs.Common.{◌≡◌, ◌++◌, drop, option_map}
use Rattle.compiled_relations.specs.Links.{targets_among, before_one}
use Rattle.compiled_relations.proofs.links.push_targets.Given as goal

-- the pairs so far, with those that are left
abbrev pub invariant-loop-f : goal.invariant-loop-f
invariant-loop-f l =
    l.pairs ++ before_one (targets_among (option_map (λ p. p.now) l.own) l.target (drop l.f-index l.files)) l.place ≡ l.fn.pairs ++ before_one (targets_among (option_map (λ p. p.now) l.own) l.target l.files) l.place
