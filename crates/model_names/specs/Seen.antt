-- Models as the definitions see them.
use Rattle.std.specs.Prelude.{map}
use Rattle.fs_lang.specs.Meaning.{program_of}
use Rattle.model_semantics.specs.Models as models
use Rattle.model_names.specs.declared.model.Model.{Model}

-- the model of the definitions
abbrev pub seen : Model → models.Model
seen m = models.model m.place (map program_of m.steps)
