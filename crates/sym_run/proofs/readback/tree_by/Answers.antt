use Rattle.std.proofs.Common.{◌≡◌, [], length, get_or, sym, subst, arith}
use Rattle.std.proofs.lemmas.Option.{slice_get-get_or}
use Rattle.std.specs.FinMap as map
use Rattle.fs_lang.specs.Meaning.{entry_of}
use Rattle.fs_interpreter.specs.Standing.{Stands}
use Rattle.fs_replay.proofs.StandLaws.{UpTo, nothing_yet, is_free, above_entry, added, all_there}
use Rattle.sym_run.specs.Wires.{told_state}
use Rattle.sym_run.proofs.readback.tree_by.Goals as goal

pub loop-i-init : goal.loop-i-init
loop-i-init c = λ t h. subst (λ u. UpTo c.args.table.now.paths 0 u t) (sym c.in_ok-tree.ensures) (nothing_yet c.args.table.now.paths t)

pub entry_at-requires-clause-tells : goal.entry_at-requires-clause-tells
entry_at-requires-clause-tells c =
    let t = c.requires.stands.0 in
    let paths = c.args.table.now.paths in
    let at = slice_get-get_or paths c.loop-i.i [] (omega (arith, c.loop-i-test.true, c.path_count-i-end.ensures)) in
    (map.get t (get_or paths c.loop-i.i []), c.requires.stands.1.tells c.loop-i.i (get_or paths c.loop-i.i []) at)

pub add_entry-requires-clause-free : goal.add_entry-requires-clause-free
add_entry-requires-clause-free c = is_free c.args.table.now c.loop-i.i c.loop-i.tree c.requires.stands.0 c.path.result.now c.is_table.ensures (c.loop-i.invariant c.requires.stands.0 c.requires.stands.1) c.path.ensures

pub add_entry-requires-clause-above : goal.add_entry-requires-clause-above
add_entry-requires-clause-above c =
    let t = c.requires.stands.0 in
    above_entry c.states.ensures.entry c.args.table.now c.loop-i.i c.loop-i.tree t c.path.result.now ((told_state c.args.values.now c.args.cells.now).cell c.loop-i.i) entry_of c.in_ok-entry.entry c.is_table.ensures c.requires.stands.2 (c.loop-i.invariant t c.requires.stands.1) c.path.ensures
    (c.requires.stands.1.tells c.loop-i.i c.path.result.now c.path.ensures)
    c.in_ok-entry.ensures

pub loop-i-preserved : goal.loop-i-preserved
loop-i-preserved c = λ t stands.
    added c.states.ensures.entry c.args.table.now c.loop-i.i c.loop-i.tree c.add_entry.new.tree t c.path.result.now ((told_state c.args.values.now c.args.cells.now).cell c.loop-i.i) _ c.file_trees.ensures.put c.is_table.ensures (c.loop-i.invariant t stands) c.path.ensures
    (stands.tells c.loop-i.i c.path.result.now c.path.ensures)
    c.in_ok-entry.ensures c.in_ok-add_entry.ensures

pub returns : goal.returns
returns c =
    let t = c.requires.stands.0 in
    let done : c.loop-i.i ≡ length c.args.table.now.paths = omega (arith, c.loop-i-test.false, c.path_count-i-end.ensures, c.loop-i.auto.i-end) in
    let same = c.file_trees.ensures.same c.loop-i.tree t
    (all_there c.searches.ensures.path c.searches.ensures.no_path c.args.table.now (told_state c.args.values.now c.args.cells.now) c.loop-i.tree t c.requires.stands.1 (subst (λ n. UpTo c.args.table.now.paths n c.loop-i.tree t) done (c.loop-i.invariant t c.requires.stands.1))) in
    subst (Stands c.args.table.now (told_state c.args.values.now c.args.cells.now)) (sym same) c.requires.stands.1
