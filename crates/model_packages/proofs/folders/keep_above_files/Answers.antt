use Rattle.std.proofs.Common.{◌+◌, drop, ap, sym, ◌∙◌}
use Rattle.std.specs.List.{flat_map}
use Rattle.model_semantics.specs.Words.{ancestors, kept}
use Rattle.model_packages.proofs.KeptLaws.{kept_first, files_from}
use Rattle.model_packages.proofs.folders.keep_above_files.Goals as goal

pub loop-file-preserved : goal.loop-file-preserved
loop-file-preserved c =
    let files = c.args.files.now in
    let i = c.loop-file.file-index in
    kept_first c.args.set.now c.loop-file.set c.keep_above.new.set (ancestors c.file-item.result.path) (flat_map (λ f. ancestors f.path) (drop (i + 1) files)) (kept c.args.set.now (flat_map (λ f. ancestors f.path) files))
    (ap (kept c.loop-file.set) (sym (files_from (λ f. ancestors f.path) files i c.file-item.result c.loop-file-test.true c.file-item.is)) ∙ c.loop-file.invariant) c.in_ok-keep_above.ensures
