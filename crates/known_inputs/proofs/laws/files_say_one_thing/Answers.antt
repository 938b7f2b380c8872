use Rattle.known_inputs.proofs.OneReading.{one_known, none_refused}
use Rattle.known_inputs.proofs.laws.files_say_one_thing.Goals as goal

pub returns-clause-one : goal.returns-clause-one
returns-clause-one c = one_known c.listing_texts.ensures c.text_has_one_data.ensures c.tree_texts.ensures.one c.assumption_texts.ensures.one c.given_texts.ensures.one c.given_texts.ensures.trees

pub returns-clause-refusals : goal.returns-clause-refusals
returns-clause-refusals c = none_refused c.tree_texts.ensures.one c.compiled_texts.ensures.one c.assumption_texts.ensures.one c.given_texts.ensures.one
