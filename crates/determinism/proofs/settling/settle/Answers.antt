use Rattle.std.proofs.Common.{map, sym, subst}
use Rattle.std.proofs.lemmas.Result.{IfOk-weaker}
use Rattle.fs_lang.specs.Meaning.{program_of}
use Rattle.orders.specs.Relation.{comes}
use Rattle.commute_prune.specs.Doubtful.{AreDoubtful}
use Rattle.determinism.specs.Settled.{PairCommutes}
use Rattle.determinism.proofs.EachPairLaws.{of_member, settled_from}
use Rattle.determinism.proofs.settling.settle.Goals as goal

pub returns : goal.returns
returns c = IfOk-weaker c.look_at_all.result _ _ (λ settled is.
    let es = map program_of c.args.plan.now.programs.now in
    let order = c.args.plan.now.order.now in
    let pairs = c.as_slice-pairs.result.now in
    let doubtful = subst (AreDoubtful es (comes order)) (sym c.as_slice-pairs.ensures) c.in_ok-doubtful.ensures in
    settled_from es order pairs settled
    (λ all. c.sure_pairs.ensures.enough es (comes order) c.are_proper.ensures pairs doubtful (λ a b h. of_member (PairCommutes es) pairs (a, b) h all))
    is) c.look_at_all.ensures
