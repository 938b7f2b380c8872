use Rattle.model_laws.proofs.PlaceLaws.{one_name, one_entry}
use Rattle.model_laws.proofs.places_tell_names.Goals as goal

pub returns-clause-named : goal.returns-clause-named
returns-clause-named c = one_name c.segments_of_names.ensures

pub returns-clause-of_users : goal.returns-clause-of_users
returns-clause-of_users c = one_entry c.segments_of_names.ensures
