use Rattle.std.proofs.Common.{◌≡◌, map, sym, subst, ◌∙◌}
use Rattle.fs_semantics.specs.Programs.{and_then}
use Rattle.fs_semantics.specs.Orders.{outcome}
use Rattle.fs_lang.specs.Meaning.{program_of}
use Rattle.fs_lang.specs.Outcomes.{outcome_of}
use Rattle.fs_replay.proofs.ExchangeLaws.{both_told}
use Rattle.fs_replay.proofs.exchange.end_alike_behind.Goals as goal

pub outcome_told-requires-clause-stands : goal.outcome_told-requires-clause-stands
outcome_told-requires-clause-stands c = let s = c.in_ok-run_on.ensures c.requires.left.0 c.requires.left.1 in (_, s.stands, s.parents)

pub outcome_told-requires-2-clause-stands : goal.outcome_told-requires-2-clause-stands
outcome_told-requires-2-clause-stands c = let s = c.in_ok-run_on-2.ensures c.requires.right.0 c.requires.right.1 in (_, s.stands, s.parents)

pub returns : goal.returns
returns c = λ o u left right.
    both_told c.states.ensures.outcome c.args.ground.now _ _ _ _ _ _ c.same_outcome.result c.in_ok-one.ensures c.in_ok-other.ensures (c.in_ok-run_on.ensures o left) (c.in_ok-run_on-2.ensures u right) c.same_outcome.ensures
