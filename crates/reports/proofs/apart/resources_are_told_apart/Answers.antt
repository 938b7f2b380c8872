use Rattle.reports.proofs.ApartLaws.{resources_apart}
use Rattle.reports.proofs.apart.resources_are_told_apart.Goals as goal

pub returns : goal.returns
returns c =
    resources_apart c.plain_resources_are_told_apart.ensures c.catalogs_are_sound.ensures c.references_stand_once.ensures c.references_have_one_place.ensures c.compiled_texts.ensures.sound
    c.compiled_references_stand_once.ensures
