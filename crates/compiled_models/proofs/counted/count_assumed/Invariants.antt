use Rattle.std.proofs.Common.{◌≡◌, ◌≤◌, ◌+◌, drop}
use Rattle.compiled_models.specs.Assumed.{count_assumed}
use Rattle.compiled_models.proofs.counted.count_assumed.Given as goal

-- those so far, with those that are left
abbrev pub invariant-loop-place : goal.invariant-loop-place
invariant-loop-place l = (l.count + count_assumed l.texts.resources l.assumptions (drop l.place-index l.plain) ≡ count_assumed l.texts.resources l.assumptions l.plain) × (l.count ≤ l.place-index)
