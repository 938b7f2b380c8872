use Rattle.pp_eval.proofs.ScopeLaws.{bound_at}
use Rattle.pp_eval.proofs.scopes.bind_at.Goals as goal

pub returns : goal.returns
returns c = bound_at c.args.scopes.now.items c.args.place _ c.index_mut-scope.result.now c.args.name.now c.args.value _ c.bind_in.result c.index_mut-scope.ensures.value c.requires c.bind_in.ensures
