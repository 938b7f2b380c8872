use Rattle.std.proofs.Common.{map}
use Rattle.std.proofs.lemmas.Result.{IfOk-weaker}
use Rattle.fs_semantics.specs.Orders.{Told}
use Rattle.fs_lang.specs.Meaning.{program_of}
use Rattle.orders.specs.Relation.{comes}
use Rattle.determinism.proofs.CommuteLaws.{commuting}
use Rattle.determinism.proofs.pairs.question_over.Goals as goal

pub returns : goal.returns
returns c = record {
  states = IfOk-weaker c.ask_pairs.result _ _ (λ r exact.
      commuting c.domains.ensures.laid_out c.shadows.ensures.exist c.shadows.ensures.tell (map program_of c.args.plan.now.programs.now) (Told (comes c.args.plan.now.order.now)) c.args.d.now c.requires.layout r.0 exact) c.ask_pairs.ensures;
}
