use Rattle.std.proofs.Common.{◌++◌, sym, subst, ◌∙◌}
use Rattle.std.specs.Prelude.{IsTrue}
use Rattle.std.proofs.lemmas.Bool.{and_parts}
use Rattle.std.proofs.lemmas.Result.{IfOk-weaker}
use Rattle.effect_sets.specs.Footprints.{no_footprint}
use Rattle.effect_sets.specs.Members.{members, sets_of}
use Rattle.commuting_parts.specs.Prints.{IsClearIn, IsPrintOf}
use Rattle.commuting_parts.specs.Parts.{part}
use Rattle.commuting_parts.specs.Sweeps.{AreSwept}
use Rattle.commuting_parts.specs.Splits.{AreApartFrom, IsOrdered}
use Rattle.commuting_parts.proofs.PartLaws.{each_apart}
use Rattle.commuting_parts.proofs.sweeping.goes_ahead.Goals as goal

pub returns : goal.returns
returns c =
    let folders = c.args.folders.now in
    let s = c.args.s.now in
    let shared = subst (λ xs. IsPrintOf (part xs) c.in_ok-shared.shared) c.as_slice.ensures c.in_ok-shared.ensures in
    let sweeps = subst (λ xs. IsPrintOf (part xs) c.in_ok-sweeps.sweeps) c.as_slice-2.ensures c.in_ok-sweeps.ensures in
    let two = and_parts c.leaves_all.result c.leaves_all-2.result (sym c.both.ensures ∙ c.if-not-both.false) in
    IfOk-weaker c.steps_are_apart-2.result (λ told. IsTrue told → AreApartFrom folders (sets_of c.in_ok-shared.shared) c.as_slice-4.result.now)
    (λ told. IsTrue told → AreSwept ((s.first.own ++ s.behind.own) ++ s.first.shared) s.behind.shared → IsOrdered folders s)
    (λ told apart h swept. record {
      keeps = subst (λ f. IsClearIn (members folders) f no_footprint) shared.sets (c.leaves_all.ensures two.0);
      keeps_too = subst (λ f. IsClearIn (members folders) f no_footprint) sweeps.sets (c.leaves_all-2.ensures two.1);
      proper = shared.proper;
      proper_sweeps = sweeps.proper;
      first = each_apart folders _ _ _ _ shared.sets c.as_slice-3.ensures (c.in_ok-steps_are_apart.ensures c.if-not-branch.false);
      behind = each_apart folders _ _ _ _ shared.sets c.as_slice-4.ensures (apart h);
      swept = swept;
    }) c.steps_are_apart-2.ensures
