use Rattle.std.proofs.Common.{◌≡◌, drop}
use Rattle.std.specs.Prelude.{map}
use Rattle.rh_base.specs.Kept.{found}
use Rattle.rh_base.proofs.memory.shelves.find.Given as goal

-- what the rest of the files has under the name is what all have
abbrev pub invariant-loop-f : goal.invariant-loop-f
invariant-loop-f l = found (map (λ f. (f.0, f.1.items)) (drop l.f-index l.files)) l.name ≡ found (map (λ f. (f.0, f.1.items)) l.files) l.name
