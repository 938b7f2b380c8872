use Rattle.std.proofs.Common.{◌≡◌, length, map, sym, ap, subst, subst₂, ◌∙◌}
use Rattle.std.specs.List.{AllByRecursion}
use Rattle.std.proofs.lemmas.List.{length-map}
use Rattle.std.proofs.lemmas.Result.{IfOk-weaker}
use Rattle.fs_lang.specs.Meaning.{program_of}
use Rattle.commute_prune.specs.Numbered.{is_clear, IsBelow}
use Rattle.commute_prune.specs.Matrix.{IsMatrix}
use Rattle.commute_prune.proofs.ClearLaws.{of_programs, all_below, rows_of, matrix_is}
use Rattle.commute_prune.proofs.matrix.clear_pairs.Goals as goal

pub clear_rows-requires : goal.clear_rows-requires
clear_rows-requires c =
    subst₂ (λ n xs. AllByRecursion (IsBelow n) xs) (sym c.len.ensures.len) (sym c.deref.ensures.value)
    (all_below c.number_programs.new.numbers _ c.in_ok-all.all.items c.in_ok-all.ensures.numbering (of_programs c.number_programs.new.numbers (map program_of c.args.programs.now) c.in_ok-all.all.items c.in_ok-all.ensures.stand))

pub returns : goal.returns
returns c =
    let xs = c.in_ok-all.all.items in
    let es = map program_of c.args.programs.now in
    let m = c.number_programs.new.numbers in
    let law = matrix_is m _ (length es) xs c.in_ok-all.ensures.numbering (c.in_ok-all.ensures.long ∙ sym (length-map c.args.programs.now program_of)) (of_programs m es xs c.in_ok-all.ensures.stand) (length-map xs (λ f. map (is_clear f) xs)) in
    IfOk-weaker c.clear_rows.result (λ rows. rows ≡ rows_of c.deref.result.now) (IsMatrix es) (λ rows is. subst (IsMatrix es) (sym (is ∙ ap rows_of c.deref.ensures.value)) law) c.clear_rows.ensures
