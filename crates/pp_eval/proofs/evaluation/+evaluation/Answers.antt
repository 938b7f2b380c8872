use Rattle.std.proofs.Common.{sym, subst}
use Rattle.pp_eval.specs.Evaluating.{Evaluation, Answers}
use Rattle.pp_eval.proofs.Forms.{map_in}
use Rattle.pp_eval.proofs.evaluation.+evaluation.Goals as goal

pub eval-returns-in-Map : goal.eval-returns-in-Map
eval-returns-in-Map t c =
    subst (λ (r : Evaluation). Answers r c.map.result) (sym (map_in c.args.scopes.now c.args.e.now c.in-Map.members c.as_slice-in-Map.result.now c.in-Map.is c.as_slice-in-Map.ensures)) c.map.ensures
