use Rattle.std.proofs.Common.{◌≡◌, length, map, sym, ap, subst, subst₂, ◌∙◌}
use Rattle.std.specs.List.{AllByRecursion}
use Rattle.std.proofs.lemmas.List.{length-map}
use Rattle.std.proofs.lemmas.Result.{IfOk-weaker}
use Rattle.fs_lang.specs.Meaning.{program_of}
use Rattle.orders.specs.Relation.{comes}
use Rattle.commute_prune.specs.Numbered.{is_clear, IsBelow}
use Rattle.commute_prune.specs.Matrix.{IsMatrixOf}
use Rattle.commute_prune.specs.Sure.{footprint_at}
use Rattle.commute_prune.specs.Reduced.{AreReduced}
use Rattle.commute_prune.proofs.ClearLaws.{AreFootprints, of_programs, all_below, rows_of, matrix_is}
use Rattle.commute_prune.proofs.SureLaws.{footprints_at}
use Rattle.commute_prune.proofs.sure.clear_where_sure.Goals as goal

pub all_reduced-requires-clause-below : goal.all_reduced-requires-clause-below
all_reduced-requires-clause-below c =
    subst₂ (λ n xs. AllByRecursion (IsBelow n) xs) (sym c.len-count.ensures.len) (sym c.deref.ensures.value)
    (all_below c.number_programs.new.numbers _ c.in_ok-all.all.items c.in_ok-all.ensures.numbering (of_programs c.number_programs.new.numbers (map program_of c.args.programs.now) c.in_ok-all.all.items c.in_ok-all.ensures.stand))

pub clear_rows-requires : goal.clear_rows-requires
clear_rows-requires c =
    let es = map program_of c.args.programs.now in
    let m = c.number_programs.new.numbers in
    let xs = c.in_ok-all.all.items in
    let before = comes c.args.order.now in
    let reduced = subst (λ fs. AreReduced before fs c.in_ok-made.made.items) c.deref.ensures.value c.in_ok-made.ensures.reduced in
    let prints : AreFootprints m (footprint_at es before) c.in_ok-made.made.items = footprints_at before m es xs c.in_ok-made.made.items c.in_ok-all.ensures.numbering (c.in_ok-all.ensures.long ∙ sym (length-map c.args.programs.now program_of)) c.in_ok-all.ensures.stand reduced in
    subst₂ (λ n ys. AllByRecursion (IsBelow n) ys) (sym c.len-count.ensures.len) (sym c.deref-2.ensures.value)
    (all_below m (footprint_at es before) c.in_ok-made.made.items c.in_ok-all.ensures.numbering prints)

pub returns : goal.returns
returns c =
    let es = map program_of c.args.programs.now in
    let m = c.number_programs.new.numbers in
    let xs = c.in_ok-all.all.items in
    let ys = c.in_ok-made.made.items in
    let before = comes c.args.order.now in
    let long = c.in_ok-all.ensures.long in
    let reduced = subst (λ fs. AreReduced before fs ys) c.deref.ensures.value c.in_ok-made.ensures.reduced in
    let prints : AreFootprints m (footprint_at es before) ys = footprints_at before m es xs ys c.in_ok-all.ensures.numbering (long ∙ sym (length-map c.args.programs.now program_of)) c.in_ok-all.ensures.stand reduced in
    let law = matrix_is m (footprint_at es before) (length c.args.programs.now) ys c.in_ok-all.ensures.numbering (c.in_ok-made.ensures.long ∙ ap length c.deref.ensures.value ∙ long) prints (length-map ys (λ f. map (is_clear f) ys)) in
    IfOk-weaker c.clear_rows.result (λ rows. rows ≡ rows_of c.deref-2.result.now) (IsMatrixOf (length c.args.programs.now) (footprint_at es before))
    (λ rows is. subst (IsMatrixOf (length c.args.programs.now) (footprint_at es before)) (sym (is ∙ ap rows_of c.deref-2.ensures.value)) law) c.clear_rows.ensures
