use Rattle.std.proofs.Common.{ap, sym, subst, subst₂, ◌∙◌}
use Rattle.fs_lang.specs.Meaning.{programs_in}
use Rattle.effect_sets.specs.Members.{members}
use Rattle.commuting_parts.specs.Prints.{AreApartIn, IsPrintOf}
use Rattle.commuting_parts.specs.Parts.{part}
use Rattle.commuting_parts.proofs.PartLaws.{each_apart}
use Rattle.commuting_parts.proofs.parts.parts_are_apart.Goals as goal

pub returns : goal.returns
returns c h =
    let folders = c.args.folders.now in
    let own = subst (IsPrintOf (part c.args.left.own)) (sym c.get-left.ensures) c.in_ok-of_own.ensures in
    let other = subst (IsPrintOf (part c.args.right.own)) (sym c.get-right.ensures) c.in_ok-of_other.ensures in
    let shared = subst (IsPrintOf (part c.args.left.shared)) (sym c.get-print.ensures) c.in_ok-of_shared.ensures in
    record {
      same = sym (ap programs_in c.as_slice.ensures) ∙ c.same_steps.ensures c.if-not-same_steps.false ∙ ap programs_in c.as_slice-2.ensures;
      proper = shared.proper;
      owns = (own.proper, subst₂ (AreApartIn (members folders)) own.sets other.sets (c.all_apart.ensures.first h));
      left = (own.proper, subst₂ (AreApartIn (members folders)) own.sets shared.sets (c.all_apart.ensures.second h));
      right = (other.proper, subst₂ (AreApartIn (members folders)) other.sets shared.sets (c.all_apart.ensures.third h));
      each_left = each_apart folders _ _ _ _ shared.sets c.as_slice-3.ensures (c.in_ok-steps_are_apart.ensures c.if-not-branch.false);
      each_right = each_apart folders _ _ _ _ shared.sets c.as_slice-4.ensures (c.in_ok-steps_are_apart-2.ensures c.if-not-branch-2.false);
    }
