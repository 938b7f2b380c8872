use Rattle.std.proofs.Common.{sym, ap, ◌∙◌}
use Rattle.fs_interpreter.specs.States.{state_of}
use Rattle.sym_run.specs.Alike.{same_state}
use Rattle.sym_run.specs.Wires.{circuit_meanings}
use Rattle.sym_run.proofs.AlikeLaws.{alike_exactly}
use Rattle.sym_run.proofs.comparison.alike.Goals as goal
use Rattle.fs_interpreter.proofs.HasLaws.{if_ok}

pub returns-clause-exact : goal.returns-clause-exact
returns-clause-exact c = if_ok _ _ c.same_state.result (λ w is v o u so su.
    let m0 = circuit_meanings c.args.sym.now in
    let table = c.args.domain.now.table in
    let told = is.means v ∙ ap (same_state (state_of m0 v c.args.a.now) (state_of m0 v c.args.b.now)) c.requires.a_places in
    let exact = alike_exactly c.file_trees.ensures.same c.states.ensures.entry table (state_of m0 v c.args.a.now) (state_of m0 v c.args.b.now) o u c.is_table.ensures so su in
    ((λ h. exact.0 (sym told ∙ h)), (λ h. told ∙ exact.1 h))) c.same_state.ensures.gives
