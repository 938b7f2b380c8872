use Rattle.std.proofs.Common.{◌≡◌, ◌++◌, false, map, drop}
use Rattle.reports.proofs.programs.none_is_assumed.Given as goal

-- the marks so far, with those that are left
abbrev pub invariant-loop-place : goal.invariant-loop-place
invariant-loop-place l = l.marks ++ map (λ place. false) (drop l._place-index l.plain) ≡ map (λ place. false) l.plain
