use Rattle.std.proofs.Common.{◌++◌, length, map, codes, sym, ap, append_assoc, ◌∙◌}
use Rattle.std.proofs.lemmas.List.{length-map}
use Rattle.fs_lang.specs.Meaning.{program_of}
use Rattle.verdict_report.specs.Lines.{head_lines, runs_lines}
use Rattle.verdict_report.proofs.runs.text_apart.Goals as goal

pub returns : goal.returns
returns c =
    let n = c.args.named.now in
    let es = map program_of n.plan.now.programs.now in
    let runs = runs_lines n.names.now es c.args.tree.now c.args.left.now c.args.right.now in
    let said = codes "not deterministic\n" in
    c.from_vec.ensures ∙ c.in_ok-push_runs.ensures ∙ ap (λ front. front ++ runs) c.in_ok-bytes.ensures
    ∙ append_assoc (head_lines (length n.plan.now.programs.now) n.notes.now c.args.pruned) said runs
    ∙ ap (λ k. head_lines k n.notes.now c.args.pruned ++ (said ++ runs)) (sym (length-map n.plan.now.programs.now program_of))
