use Rattle.std.proofs.Common.{subst}
use Rattle.rh_base.specs.Refused.{IfRefused}
use Rattle.pp_compile.specs.Sources.{IsSourceRefusal}
use Rattle.known_inputs.specs.Inputs.{input_of}
use Rattle.reports.proofs.explanations.node_line_of.Goals as goal

-- a manifest that has a catalog is read without a refusal
pub unreachable-requires : goal.unreachable-requires
unreachable-requires c =
    let of = c.requires.compiled.catalog in
    let refused = subst (λ e. IfRefused e (IsSourceRefusal c.input.result.now)) c.in-Err-Refused.field-0-is c.in-Err-Refused.ensures.refused in
    c.one_reading.ensures.refusals (input_of c.args.inputs.now) of.manifest c.in-Err-Refused.field-0-0 of.parsed
    (subst (λ text. IsSourceRefusal text c.in-Err-Refused.field-0-0) c.input.ensures refused)
