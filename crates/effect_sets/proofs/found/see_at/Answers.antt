use Rattle.std.proofs.Common.{sym, ◌∙◌}
use Rattle.std.proofs.lemmas.Bool.{or_left, or_right, or_from}
use Rattle.fs_semantics.specs.FileTree.{is_root}
use Rattle.effect_sets.specs.Members.{members}
use Rattle.effect_sets.proofs.FoundLaws.{on_ok, seen, unseen}
use Rattle.effect_sets.proofs.found.see_at.Goals as goal
use Rattle.effect_sets.proofs.found.see_at.Goals.{then-at_root-via-then-at_root, then-at_root-via-else-at_root+then-is_sure}

pub returns-then-at_root : goal.returns-then-at_root
returns-then-at_root c =
    let sure = members c.args.sure.now in
    let p = c.args.p.now in
    unseen (members c.args.reads.now) sure p (elim c.then-at_root.branch [
      | then-at_root-via-then-at_root w ↦ or_left (is_root p) (sure p) (sym c.is_root-at_root.ensures ∙ w.if-at_root.true)
      | then-at_root-via-else-at_root+then-is_sure w ↦ or_right (is_root p) (sure p) (sym c.contains-is_sure.ensures ∙ w.if-is_sure.true)
    ])

pub returns : goal.returns
returns c =
    let sure = members c.args.sure.now in
    let p = c.args.p.now in
    on_ok c.add.result (λ h. h ∙ seen (members c.args.reads.now) sure p (or_from (is_root p) (sure p) (sym c.is_root-at_root.ensures ∙ c.if-at_root.false) (sym c.contains-is_sure.ensures ∙ c.if-is_sure.false))) c.add.ensures
