use Rattle.std.proofs.Common.{◌≡◌, ◌-◌, length, option_map}
use Rattle.pp_eval.specs.Scoping.{in_class, in_lineage}
use Rattle.pp_eval.proofs.finding.in_lineage.Given as goal

abbrev pub invariant-loop-turn : goal.invariant-loop-turn
invariant-loop-turn l = in_class (length l.scopes - l._turn) l.scopes l.name (option_map (λ c. c.now) l.scope) ≡ in_lineage l.scopes l.name (option_map (λ c. c.now) l.start)
