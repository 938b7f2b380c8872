use Rattle.std.proofs.Common.{◌++◌, List, ℕ, length, map, codes, sym, ap, append_assoc, ◌∙◌}
use Rattle.std.proofs.lemmas.List.{length-map}
use Rattle.fs_lang.specs.Meaning.{program_of}
use Rattle.verdict_report.specs.Lines.{head_lines, again_lines, succeeds_line, change_text, change_of}
use Rattle.verdict_report.proofs.runs.change_text.Goals as goal

pub returns : goal.returns
returns c =
    let n = c.args.named.now in
    let es = map program_of n.plan.now.programs.now in
    let tree = c.in-Twice.tree in
    let again = again_lines n.names.now es tree c.as_slice-turns.result.now in
    let said = codes "deterministic\nnot idempotent\n" in
    let head = head_lines (length n.plan.now.programs.now) n.notes.now c.args.pruned in
    c.from_vec.ensures ∙ c.in_ok-push_bytes.ensures
    ∙ ap (λ (front : List ℕ). front ++ succeeds_line) (c.in_ok-push_again.ensures ∙ ap (λ (front : List ℕ). front ++ again) c.in_ok-bytes.ensures ∙ append_assoc head said again)
    ∙ append_assoc head (said ++ again) succeeds_line ∙ ap (λ (rest : List ℕ). head ++ rest) (append_assoc said again succeeds_line)
    ∙ ap (λ k. head_lines k n.notes.now c.args.pruned ++ (said ++ (again ++ succeeds_line))) (sym (length-map n.plan.now.programs.now program_of))
    ∙ ap (λ (order : List ℕ). change_text n.names.now es n.notes.now c.args.pruned tree order) c.as_slice-turns.ensures
    ∙ sym (ap (change_of n.names.now es n.notes.now c.args.pruned) c.in-Twice.is)
