use Rattle.std.proofs.Common.{◌++◌, sym, ap, ◌∙◌, append_assoc}
use Rattle.fs_lang.specs.Meaning.{program_of, program_of_if}
use Rattle.fs_interpreter.specs.Steps.{written}
use Rattle.fs_interpreter.proofs.BranchLaws.{on_ok}
use Rattle.fs_interpreter.proofs.written.+written.Goals as goal

pub add_written-returns-in_ok-add_written-in-If : goal.add_written-returns-in_ok-add_written-in-If
add_written-returns-in_ok-add_written-in-If t c =
    let paths = c.args.table.now.paths in
    on_ok c.add_written-in-If.result
    (λ h. h
    ∙ ap (λ xs. xs ++ written c.args.table.now.paths (program_of c.get-in-If.result.now)) c.in_ok-add_written-in-If.ensures
    ∙ append_assoc c.args.into.now.items (written c.args.table.now.paths (program_of c.get.result.now)) (written c.args.table.now.paths (program_of c.get-in-If.result.now))
    ∙ (λ i. c.args.into.now.items ++ (written c.args.table.now.paths (program_of (c.get.ensures i)) ++ written c.args.table.now.paths (program_of (c.get-in-If.ensures i))))
    ∙ ap (λ x. c.args.into.now.items ++ written c.args.table.now.paths x) (sym (ap program_of c.in-If.is ∙ program_of_if c.in-If.field-0 c.in-If.e c.in-If.f)))
    c.add_written-in-If.ensures
