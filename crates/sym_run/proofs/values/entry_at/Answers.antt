use Rattle.std.proofs.Common.{◌≡◌, ◌<◌, true, false, List, length, sym, ap, subst, ◌∙◌}
use Rattle.std.specs.List.{AllByRecursion}
use Rattle.bool_circuit.specs.declared.gate.Wire.{Wire}
use Rattle.bool_circuit.specs.Gates.{truth_at}
use Rattle.fs_interpreter.specs.States.{truth, number as number_at}
use Rattle.sym_run.specs.Wires.{number, told_state}
use Rattle.sym_run.proofs.TreeLaws.{known_is}
use Rattle.sym_run.proofs.values.entry_at.Goals as goal

pub text_of-requires-clause-wires : goal.text_of-requires-clause-wires
text_of-requires-clause-wires c =
    let n = length c.args.values.now in
    subst (λ (ws : List Wire). AllByRecursion (λ w. w.0 < n) ws) (sym c.as_slice.ensures) (c.requires.cells.content c.args.i c.at-3.result.now c.at-3.ensures)

pub text_of-requires-clause-known : goal.text_of-requires-clause-known
text_of-requires-clause-known c =
    let bit = λ (w : Wire). truth_at c.args.values.now w.0 in
    let contents = c.args.table.now.contents in
    let cell = (told_state c.args.values.now c.args.cells.now).cell c.args.i in
    let present : cell.present ≡ true = ap (truth bit) c.at.ensures ∙ c.if-not-values-at.false in
    let folder : cell.folder ≡ false = ap (truth bit) c.at-2.ensures ∙ c.if-values-at.false in
    let content : cell.content ≡ number (truth_at c.args.values.now) c.as_slice.result.now = ap (number_at (number (truth_at c.args.values.now))) c.at-3.ensures ∙ ap (number (truth_at c.args.values.now)) (sym c.as_slice.ensures) in
    subst (λ n. n < length contents) content (known_is contents cell c.requires.tells.0 c.requires.tells.1 present folder)
