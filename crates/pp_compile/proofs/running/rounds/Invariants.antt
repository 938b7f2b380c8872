use Rattle.std.proofs.Common.{◌≡◌, ◌-◌}
use Rattle.catalog_semantics.specs.Catalogs.{rounds}
use Rattle.pp_compile.specs.Looking.{AreLooked}
use Rattle.pp_compile.proofs.running.rounds.Given as goal

abbrev pub invariant-loop-turn : goal.invariant-loop-turn
invariant-loop-turn l = AreLooked l.looked l.state × (rounds (l.turns - l._turn) l.site l.state ≡ rounds l.turns l.site l.initial.state)
