use Rattle.std.proofs.Common.{◌+◌, [], ◌∷◌, ◌++◌, drop, ap, sym, ◌∙◌}
use Rattle.std.specs.List.{flat_map}
use Rattle.model_semantics.specs.Words.{ancestors, kept}
use Rattle.model_packages.proofs.KeptLaws.{kept_first, files_from}
use Rattle.model_packages.proofs.folders.keep_folders.Goals as goal

pub loop-d-preserved : goal.loop-d-preserved
loop-d-preserved c =
    let folders = c.args.folders.now in
    let i = c.loop-d.d-index in
    kept_first c.args.set.now c.loop-d.set c.keep_folder.new.set (ancestors c.d-item.result ++ c.d-item.result ∷ []) (flat_map (λ d. ancestors d ++ d ∷ []) (drop (i + 1) folders)) (kept c.args.set.now (flat_map (λ d. ancestors d ++ d ∷ []) folders))
    (ap (kept c.loop-d.set) (sym (files_from (λ d. ancestors d ++ d ∷ []) folders i c.d-item.result c.loop-d-test.true c.d-item.is)) ∙ c.loop-d.invariant) c.in_ok-keep_folder.ensures
