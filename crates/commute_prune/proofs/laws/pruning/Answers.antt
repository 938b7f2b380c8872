use Rattle.fs_semantics.specs.Orders.{Told}
use Rattle.commute_prune.proofs.Exact.{prunes_leads, one_pruning}
use Rattle.commute_prune.proofs.Kept.{some_kept, kept_is_enough, completed_order, ends_as_kept}
use Rattle.commute_prune.proofs.laws.pruning.Goals as goal

pub returns : goal.returns
returns c = record {
  leads = λ es before. prunes_leads es (Told before);
  one = λ es before. one_pruning es (Told before);
  some = λ es before moves kept leads. some_kept es (Told before) moves kept leads;
  enough = λ es proper before moves kept leads. kept_is_enough es (Told before) c.apart_programs.ensures proper moves kept leads;
  completed = λ es proper before moves kept leads. completed_order es (Told before) c.apart_programs.ensures proper moves kept leads;
  rearranged = λ es proper before moves kept leads. ends_as_kept es (Told before) c.apart_programs.ensures proper moves kept leads;
}
