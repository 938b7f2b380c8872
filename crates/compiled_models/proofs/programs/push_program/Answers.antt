use Rattle.std.proofs.Common.{map, ◌++◌, ◌∷◌, [], ap, ◌∙◌}
use Rattle.fs_lang.specs.Meaning.{program_of}
use Rattle.compiled_models.specs.Programs.{or_refused}
use Rattle.compiled_models.specs.Hosts.{native_of}
use Rattle.compiled_models.proofs.programs.push_program.Goals as goal

pub returns-in_ok-push-in-Ok : goal.returns-in_ok-push-in-Ok
returns-in_ok-push-in-Ok c = (
  (program_of c.in-Ok.program, c.in-Ok.ensures.0),
  ap (or_refused (native_of c.args.n.now)) c.in-Ok.ensures.1,
  c.in-Ok.ensures.2,
  c.in_ok-push-in-Ok.ensures ∙ ap (λ e. map program_of c.args.into.now ++ e ∷ []) c.in_ok-among-in-Ok.ensures,
)
