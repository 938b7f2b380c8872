use Rattle.std.proofs.Common.{not, sym, ◌∙◌}
use Rattle.std.proofs.lemmas.Bool.{and_parts, not-true}
use Rattle.fs_semantics.specs.FileTree.{path_eq}
use Rattle.effect_sets.specs.Members.{members, sets_of}
use Rattle.effect_sets.proofs.ClearLaws.{clear_of_children}
use Rattle.commuting_parts.proofs.PrintLaws.{clear_of_folder}
use Rattle.commuting_parts.proofs.SetLaws.{none_at}
use Rattle.commuting_parts.proofs.left.is_clear_of_folder.Goals as goal

pub returns : goal.returns
returns c h =
    let two = and_parts c.is_clear_of_path-at.result (not c.contains-below.result) (sym c.both.ensures ∙ h) in
    let law = clear_of_children (members c.parents.result.now) (λ q. path_eq q c.args.p.now) c.args.f.now.writes c.args.f.now.folders c.parents.ensures in
    clear_of_folder (sets_of c.args.f.now) c.args.p.now (c.is_clear_of_path-at.ensures two.0)
    (law.0 (none_at (members c.parents.result.now) c.args.p.now (sym c.contains-below.ensures ∙ not-true _ two.1)))
