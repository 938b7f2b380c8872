use Rattle.commuting_parts.proofs.PrintLaws.{apart_commute, keeps, makes, test_left}
use Rattle.commuting_parts.proofs.laws.prints.Goals as goal

pub returns : goal.returns
returns c = record {
  commute = apart_commute c.apart_where_sure.ensures.by_footprints c.apart_where_sure.ensures.commute;
  keeps = keeps c.apart_where_sure.ensures.by_footprints c.constructs.ensures.tree c.folders.ensures.kept;
  makes = makes c.apart_where_sure.ensures.by_footprints c.constructs.ensures.tree c.folders.ensures.kept c.apart_where_sure.ensures.fewer c.folders.ensures.sure;
  test = test_left c.apart_programs.ensures;
}
