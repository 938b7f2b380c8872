use Rattle.dep_graph.proofs.FrontLaws.{told}
use Rattle.dep_graph.proofs.files.is_above.Goals as goal

pub returns : goal.returns
returns c = told c.args.p.now c.args.q.now c.is_ancestor.result c.is_ancestor.ensures
