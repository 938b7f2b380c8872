use Rattle.std.proofs.Common.{◌++◌, ◌∷◌, [], ap, map, ◌∙◌}
use Rattle.fs_lang.specs.Meaning.{program_of}
use Rattle.model_words.proofs.StepLaws.{one_more}
use Rattle.model_semantics.specs.Models.{or_refused}
use Rattle.model_names.specs.Seen.{seen}
use Rattle.res_models.proofs.programs.push_program.Goals as goal

pub returns-in-Ok-push : goal.returns-in-Ok-push
returns-in-Ok-push c = (
  seen c.in-Ok.m,
  ap (or_refused c.args.r.now) c.in-Ok.ensures.model,
  c.in-Ok.ensures.places,
  ap (map program_of) c.in-Ok-push.ensures.items ∙ one_more c.args.into.now.items c.sequence.result ∙ ap (λ e. map program_of c.args.into.now.items ++ e ∷ []) c.sequence.ensures,
)
