use Rattle.std.proofs.Common.{◌≡◌, drop}
use Rattle.std.specs.List.{list_any, list_all}
use Rattle.catalog_semantics.specs.Collecting.{meets}
use Rattle.pp_declared_catalog.proofs.matching.+wish.Given as goal

abbrev pub invariant-meets_one-loop-w : goal.invariant-meets_one-loop-w
invariant-meets_one-loop-w l = list_any (meets l.r) (drop l.w-index l.wishes) ≡ list_any (meets l.r) l.wishes

abbrev pub invariant-meets_all-loop-w : goal.invariant-meets_all-loop-w
invariant-meets_all-loop-w l = list_all (meets l.r) (drop l.w-index l.wishes) ≡ list_all (meets l.r) l.wishes
