use Rattle.std.proofs.Common.{◌≡◌, suc, ◌-◌, ◌+◌, length, ap, arith, option_map}
use Rattle.pp_eval.proofs.LineageLaws.{further}
use Rattle.pp_eval.proofs.finding.in_lineage.Goals as goal

pub loop-turn-preserved : goal.loop-turn-preserved
loop-turn-preserved c =
    let scopes = c.args.scopes.now in
    let turns : length scopes - c.loop-turn._turn ≡ suc (length scopes - (c.loop-turn._turn + 1)) = omega arith in
    further _ _ scopes c.args.name.now _ c.in-Some.here.now _ _ turns (ap (option_map (λ x. x.now)) c.in-Some.is) c.in_default-find.ensures c.scope_at-scope.ensures c.loop-turn.invariant
