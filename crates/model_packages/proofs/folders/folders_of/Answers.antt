use Rattle.std.proofs.Common.{[], ◌∷◌, ◌++◌, ap, ◌∙◌}
use Rattle.std.specs.List.{flat_map}
use Rattle.model_semantics.specs.Words.{ancestors, kept}
use Rattle.model_packages.proofs.KeptLaws.{kept_three}
use Rattle.model_packages.proofs.folders.folders_of.Goals as goal

pub returns : goal.returns
returns c =
    kept_three (flat_map (λ f. ancestors f.path) c.args.p.now.files) (flat_map (λ d. ancestors d ++ d ∷ []) c.args.p.now.folders) (ancestors c.args.m.now)
    c.keep_above_files.new.set c.keep_folders.new.set c.keep_above.new.set
    (c.in_ok-keep_above_files.ensures ∙ (λ i. kept (c.new-set.ensures i) (flat_map (λ f. ancestors f.path) (c.as_slice.ensures i))))
    (c.in_ok-keep_folders.ensures ∙ ap (λ l. kept c.keep_above_files.new.set (flat_map (λ d. ancestors d ++ d ∷ []) l)) c.as_slice-2.ensures) c.in_ok-keep_above.ensures
