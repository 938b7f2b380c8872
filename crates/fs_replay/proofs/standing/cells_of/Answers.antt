use Rattle.std.proofs.Common.{◌++◌, ◌+◌, ◌∷◌, [], sym, subst, ◌∙◌, arith}
use Rattle.std.proofs.lemmas.Option.{slice_get_within}
use Rattle.fs_replay.specs.Told.{cell_of}
use Rattle.fs_replay.proofs.StandLaws.{AreTold, told_more, none_else}
use Rattle.fs_replay.proofs.standing.cells_of.Goals as goal

pub loop-i-preserved : goal.loop-i-preserved
loop-i-preserved c =
    let cells = c.loop-i.cells in
    let told = cell_of c.told_of-told.result in
    let more = told_more c.args.table.now c.args.tree.now c.loop-i.i cells.present cells.folder cells.link cells.content told c.path.result.now c.loop-i.invariant.told c.path.ensures c.told_of-told.ensures in
    record {
      told = subst (λ cs. AreTold c.args.table.now c.args.tree.now (c.loop-i.i + 1) c.push_told.new.cells.present c.push_told.new.cells.folder c.push_told.new.cells.link cs) (sym c.in_ok-push_told.ensures.content)
          (subst (λ ls. AreTold c.args.table.now c.args.tree.now (c.loop-i.i + 1) c.push_told.new.cells.present c.push_told.new.cells.folder ls (cells.content ++ told.content ∷ [])) (sym c.in_ok-push_told.ensures.link)
          (subst (λ fs. AreTold c.args.table.now c.args.tree.now (c.loop-i.i + 1) c.push_told.new.cells.present fs (cells.link ++ told.link ∷ []) (cells.content ++ told.content ∷ [])) (sym c.in_ok-push_told.ensures.folder)
          (subst (λ ps. AreTold c.args.table.now c.args.tree.now (c.loop-i.i + 1) ps (cells.folder ++ told.folder ∷ []) (cells.link ++ told.link ∷ []) (cells.content ++ told.content ∷ [])) (sym c.in_ok-push_told.ensures.present) more)));
      error = c.in_ok-push_told.ensures.error ∙ c.loop-i.invariant.error;
    }

pub returns-clause-stands : goal.returns-clause-stands
returns-clause-stands c = record {
  no_error = c.loop-i.invariant.error;
  tells = λ i p h. c.loop-i.invariant.told.tells i p (let below = slice_get_within c.args.table.now.paths i p h in omega (arith, below, c.path_count-i-end.ensures, c.loop-i-test.false)) h;
  nothing_else = none_else c.args.table.now c.args.tree.now c.is_tree.ensures.no_root c.requires;
}
