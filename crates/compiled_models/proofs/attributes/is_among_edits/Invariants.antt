use Rattle.std.proofs.Common.{◌≡◌, drop}
use Rattle.std.specs.List.{list_any}
use Rattle.fs_semantics.specs.FileTree.{path_eq}
use Rattle.assumed_models.specs.Edits.{edits_beside}
use Rattle.compiled_models.proofs.attributes.is_among_edits.Given as goal

-- it stands among those that are left as it does among all
abbrev pub invariant-loop-edit : goal.invariant-loop-edit
invariant-loop-edit l = list_any (λ e. path_eq e.path l.p) (edits_beside l.place (drop l.edit-index l.edits)) ≡ list_any (λ e. path_eq e.path l.p) (edits_beside l.place l.edits)
