use Rattle.std.proofs.Common.{sym, ◌∙◌}
use Rattle.pp_syntax.proofs.Turns.{another_segment}
use Rattle.pp_syntax.proofs.lexer.names.more_segments.Goals as goal

pub loop-turn-preserved : goal.loop-turn-preserved
loop-turn-preserved c =
    sym (another_segment c.args.style c.args.turns c.loop-turn._turn c.loop-turn.rest.now c.in-Some.next.now c.loop-turn-test.true (sym c.in-Some.ensures)) ∙ c.loop-turn.invariant
