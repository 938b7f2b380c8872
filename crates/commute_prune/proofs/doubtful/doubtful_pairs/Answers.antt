use Rattle.std.proofs.Common.{◌≡◌, map, sym, subst, subst₂, ◌∙◌}
use Rattle.std.proofs.lemmas.List.{length-map}
use Rattle.std.proofs.lemmas.Result.{IfOk-weaker}
use Rattle.fs_lang.specs.Meaning.{program_of}
use Rattle.orders.specs.Relation.{comes}
use Rattle.commute_prune.specs.Matrix.{IsMatrixOf}
use Rattle.commute_prune.specs.Sure.{footprint_at}
use Rattle.commute_prune.specs.Pairs.{pairs_of}
use Rattle.commute_prune.specs.Doubtful.{AreDoubtful, is_doubtful}
use Rattle.commute_prune.proofs.DoubtfulLaws.{are_doubtful}
use Rattle.commute_prune.proofs.doubtful.doubtful_pairs.Goals as goal

pub returns : goal.returns
returns c =
    let es = map program_of c.args.programs.now in
    let order = c.args.order.now in
    let long = length-map c.args.programs.now program_of in
    let rows = c.as_slice.result.now in
    let matrix = subst₂ (λ n r. IsMatrixOf n (footprint_at es (comes order)) r) (sym long) (sym c.as_slice.ensures) c.in_ok-clear.ensures in
    IfOk-weaker c.pairs_of.result (λ pairs. pairs ≡ pairs_of (is_doubtful order rows) order.count order.count) (AreDoubtful es (comes order))
    (λ pairs is. subst (AreDoubtful es (comes order)) (sym is) (are_doubtful es order rows matrix (long ∙ c.requires))) c.pairs_of.ensures
