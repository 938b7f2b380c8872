use Rattle.std.proofs.Common.{◌≡◌, map, sym, subst, subst₂, ◌∙◌}
use Rattle.std.proofs.lemmas.List.{length-map}
use Rattle.std.proofs.lemmas.Result.{IfOk-weaker}
use Rattle.fs_lang.specs.Meaning.{program_of}
use Rattle.orders.specs.Relation.{comes}
use Rattle.commute_prune.specs.Matrix.{IsMatrixOf}
use Rattle.commute_prune.specs.Sure.{footprint_at}
use Rattle.commute_prune.specs.Pairs.{pairs_of}
use Rattle.commute_prune.specs.Doubtful.{AreTouching, is_doubtful}
use Rattle.commute_prune.proofs.DoubtfulLaws.{are_touching}
use Rattle.commute_prune.proofs.doubtful.touching_pairs.Goals as goal

pub returns : goal.returns
returns c =
    let es = map program_of c.args.programs.now in
    let before = comes c.args.order.now in
    let free = c.in_ok-free.free in
    let long = length-map c.args.programs.now program_of in
    let rows = c.as_slice.result.now in
    let matrix = subst₂ (λ n r. IsMatrixOf n (footprint_at es before) r) (sym long) (sym c.as_slice.ensures) c.in_ok-clear.ensures in
    let count = long ∙ c.requires ∙ sym (c.in_ok-free.ensures.count ∙ c.count.ensures.count) in
    IfOk-weaker c.pairs_of.result (λ pairs. pairs ≡ pairs_of (is_doubtful free rows) free.count free.count) (AreTouching es before)
    (λ pairs is. subst (AreTouching es before) (sym is) (are_touching es before free rows matrix count c.in_ok-free.ensures.free)) c.pairs_of.ensures
