use Rattle.std.proofs.Common.{◌++◌, List, ℕ, length, map, codes, sym, ap, append_assoc, ◌∙◌}
use Rattle.std.proofs.lemmas.List.{length-map}
use Rattle.fs_lang.specs.Meaning.{program_of}
use Rattle.verdict_text.specs.Lines.{tree_line}
use Rattle.verdict_report.specs.Lines.{head_lines, run_lines}
use Rattle.entry_report.specs.Lines.{missed_text, missed_of}
use Rattle.entry_report.proofs.lines.missed_text.Goals as goal

pub returns : goal.returns
returns c =
    let n = c.args.named.now in
    let es = map program_of n.plan.now.programs.now in
    let tree = c.in-Ends.tree in
    let line = tree_line tree in
    let run = run_lines n.names.now es tree c.as_slice-turns.result.now in
    let said = codes "deterministic\nnot ensured\n" in
    let head = head_lines (length n.plan.now.programs.now) n.notes.now c.args.pruned in
    c.from_vec.ensures ∙ c.in_ok-push_run.ensures
    ∙ ap (λ (front : List ℕ). front ++ run) (c.in_ok-push_tree.ensures ∙ ap (λ (front : List ℕ). front ++ line) c.in_ok-bytes.ensures ∙ append_assoc head said line)
    ∙ append_assoc head (said ++ line) run ∙ ap (λ (rest : List ℕ). head ++ rest) (append_assoc said line run)
    ∙ ap (λ k. head_lines k n.notes.now c.args.pruned ++ (said ++ (line ++ run))) (sym (length-map n.plan.now.programs.now program_of))
    ∙ ap (λ (order : List ℕ). missed_text n.names.now es n.notes.now c.args.pruned tree order) c.as_slice-turns.ensures
    ∙ sym (ap (missed_of n.names.now es n.notes.now c.args.pruned) c.in-Ends.is)
