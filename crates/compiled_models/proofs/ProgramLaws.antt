-- Programs, one resource after another.
use Rattle.std.proofs.Common.{◌≡◌, List, [], ◌∷◌, ◌++◌, append_assoc, refl, sym, ap, ◌∙◌}
use Rattle.std.specs.Prelude.{Result, Ok, Err}
use Rattle.rh_base.specs.declared.fault.Refusal.{Refusal}
use Rattle.rh_base.specs.declared.fault.Fault.{Fault}
use Rattle.rh_base.specs.declared.fault.Fault.TheVariants as faults
use Rattle.fs_semantics.specs.FileTree.{Path}
use Rattle.fs_semantics.specs.Programs.{Program}
use Rattle.pp_eval.specs.Evaluating.{Refuses}
use Rattle.model_semantics.specs.Models.{first_and}
use Rattle.assumed_models.specs.declared.edits.Edit.{Edit}
use Rattle.compiled_models.specs.Programs.{Setting, Native, program_among, programs_with, programs_behind}
use Rattle.compiled_models.specs.Hosts.{AddsProgram}

-- programs behind others
abbrev pub behind : List Program → Result (List Program) Refusal → Result (List Program) Refusal
behind made (Ok es) = Ok (made ++ es)
behind made (Err r) = Err r

-- these programs were made, with these places, and these resources are left of what gives the whole
abbrev pub AreMade : Setting → List Edit → List Path → List Program → List Native → Result (List Program) Refusal → Type 0
AreMade s edits seen made rest whole = whole ≡ behind made (programs_behind s edits seen rest)

-- one more in front is one less to make
one_first : (made : List Program) (e : Program) (r : Result (List Program) Refusal) → behind made (first_and e r) ≡ behind (made ++ e ∷ []) r
one_first made e (Ok es) = ap (λ (l : List Program). Ok l) (sym (append_assoc made (e ∷ []) es))
one_first made e (Err r) = refl

-- with one more resource its program and place are behind those before
pub more_made : (s : Setting) (edits : List Edit) (seen now : List Path) (old new : List Program) (n : Native) (rest : List Native) (whole : Result (List Program) Refusal)
    → AreMade s edits seen old (n ∷ rest) whole → AddsProgram s edits n (Ok tt) seen now old new → AreMade s edits now new rest whole
more_made s edits seen now old new n rest whole h (d, is, places, made) =
    h ∙ ap (λ v. behind old (programs_with (program_among s edits n) v (λ places. programs_behind s edits (seen ++ places) rest))) is
    ∙ one_first old (program_among s edits n d.0) (programs_behind s edits (seen ++ d.1) rest)
    ∙ (λ i. behind (sym made i) (programs_behind s edits (sym places i) rest))

-- a refusal of one resource is that of all
pub none_more : (s : Setting) (edits : List Edit) (seen now : List Path) (old new : List Program) (n : Native) (rest : List Native) (whole : Result (List Program) Refusal) (e : Fault)
    → AreMade s edits seen old (n ∷ rest) whole → AddsProgram s edits n (Err e) seen now old new → Refuses whole e
none_more s edits seen now old new n rest whole (faults.Refused x) h a = h ∙ ap (λ v. behind old (programs_with (program_among s edits n) v (λ places. programs_behind s edits (seen ++ places) rest))) a
none_more s edits seen now old new n rest whole (faults.Memory m) h a = tt
