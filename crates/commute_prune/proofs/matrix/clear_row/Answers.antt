use Rattle.std.proofs.Common.{◌++◌, map, sym, ap, ◌∙◌, append-nil}
use Rattle.std.proofs.lemmas.List.{drop_all}
use Rattle.commute_prune.specs.Numbers.{has}
use Rattle.commute_prune.specs.Numbered.{clear_by_marks}
use Rattle.commute_prune.proofs.MatrixLaws.{marks_clear}
use Rattle.commute_prune.proofs.matrix.clear_row.Goals as goal

pub returns : goal.returns
returns c =
    let told = clear_by_marks c.in_ok-writes.writes.items c.in_ok-folders.folders.items c.in_ok-parents.parents.items in
    let row = c.loop-g.row in
    sym (append-nil row)
    ∙ ap (λ gs. row ++ map told gs) (sym (drop_all c.loop-g.g-index c.args.all.now c.loop-g-test.false))
    ∙ c.loop-g.invariant
    ∙ ap (λ h. map h c.args.all.now) (marks_clear c.in_ok-writes.writes.items c.in_ok-folders.folders.items c.in_ok-parents.parents.items c.args.f.now
    (λ n. c.in_ok-writes.ensures n ∙ ap (has n) c.deref.ensures.value)
    (λ n. c.in_ok-folders.ensures n ∙ ap (has n) c.deref-2.ensures.value)
    (λ n. c.in_ok-parents.ensures n ∙ ap (has n) c.deref-3.ensures.value))
