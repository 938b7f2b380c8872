use Rattle.std.proofs.Common.{not, ap, sym, ◌∙◌}
use Rattle.std.proofs.lemmas.Bool.{and_parts, not-true}
use Rattle.fs_semantics.specs.FileTree.{is_among}
use Rattle.effect_sets.specs.Members.{sets_of}
use Rattle.commuting_parts.proofs.PrintLaws.{clear_of_path}
use Rattle.commuting_parts.proofs.left.is_clear_of_path.Goals as goal

pub returns : goal.returns
returns c h =
    let two = and_parts (not c.contains-written.result) (not c.contains-made.result) (sym c.both.ensures ∙ h) in
    clear_of_path (sets_of c.args.f.now) c.args.p.now
    (ap (is_among c.args.p.now) (sym c.writes.ensures) ∙ sym c.contains-written.ensures ∙ not-true _ two.0)
    (ap (is_among c.args.p.now) (sym c.folders.ensures) ∙ sym c.contains-made.ensures ∙ not-true _ two.1)
