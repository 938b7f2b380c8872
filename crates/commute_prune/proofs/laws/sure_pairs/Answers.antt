use Rattle.sure_folders.specs.Folders.{nowhere, either}
use Rattle.commute_prune.specs.Sure.{surely_stands}
use Rattle.commute_prune.proofs.DoubtfulLaws.{apart_with_both, sure_either, all_free_commute}
use Rattle.commute_prune.proofs.laws.sure_pairs.Goals as goal

pub returns-clause-commute : goal.returns-clause-commute
returns-clause-commute c = λ es before proper a b apart.
    c.apart_where_sure.ensures.sure nowhere es before proper (either (surely_stands es before a) (surely_stands es before b)) a b
    (sure_either es before (c.apart_where_sure.ensures.by_footprints nowhere es before) a b) (apart_with_both es before a b apart)

pub returns-clause-enough : goal.returns-clause-enough
returns-clause-enough c = λ es before proper pairs are listed.
    c.sure_before.ensures.enough es before proper (all_free_commute es before (λ a b apart.
    c.apart_where_sure.ensures.sure nowhere es before proper (either (surely_stands es before a) (surely_stands es before b)) a b
    (sure_either es before (c.apart_where_sure.ensures.by_footprints nowhere es before) a b) (apart_with_both es before a b apart)) pairs are listed)
