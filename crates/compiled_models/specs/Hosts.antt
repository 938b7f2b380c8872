-- What is kept beside native resources.
use Rattle.std.specs.Prelude.{◌≡◌, ℕ, if◌then◌else◌, List, [], ◌∷◌, ◌++◌, Option, Some, None, Result, Ok, Err}
use Rattle.rh_base.specs.Refused.{IfRefused}
use Rattle.rh_base.specs.declared.fault.Fault.{Fault}
use Rattle.rh_base.specs.declared.fault.Fault.TheVariants as faults
use Rattle.fs_semantics.specs.FileTree.{Path}
use Rattle.fs_semantics.specs.Programs.{Program}
use Rattle.fs_lang.specs.declared.program.Program.{Program as Stored}
use Rattle.fs_lang.specs.Meaning.{program_of}
use Rattle.pp_eval.specs.Evaluating.{Refuses}
use Rattle.pkg_listing.specs.Packages.{Packages}
use Rattle.given_links.specs.declared.links.GivenLink.{GivenLink}
use Rattle.model_semantics.specs.declared.kinds.Cause.{Cause}
use Rattle.model_semantics.specs.declared.kinds.ModelFault.{ModelFault}
use Rattle.model_semantics.specs.declared.kinds.ModelFault.TheVariants as fault
use Rattle.compiled_text.specs.declared.catalog.CompiledResource.{CompiledResource}
use Rattle.assumed_models.specs.declared.edits.Edit.{Edit}
use Rattle.assumed_text.specs.declared.assumed.Assumed.{Assumed}
use Rattle.assumed_text.specs.declared.assumed.Assumption.{Assumption}
use Rattle.compiled_attributes.specs.Places.{HoldsFragments}
use Rattle.compiled_models.specs.declared.host.Host.{Host}
use Rattle.compiled_models.specs.declared.premises.Premises.{Premises}
use Rattle.compiled_models.specs.Assumed.{places_of, is_at}
use Rattle.compiled_models.specs.declared.natives.Native.{Native as Lent}
use Rattle.compiled_models.specs.Programs.{Setting, Native, Done, done_of, or_refused, refusal_of, program_among}

-- the place of each assumption's resource stands beside it
abbrev pub ArePlaced : Premises → Type 0
ArePlaced p = p.places ≡ places_of p.resources.now p.assumptions.now

-- It is known where the fragments of the compiled catalog stand, and of which of its resources assumptions speak.
pub record IsSound (h : Host) : Type 0 where
  pub fragments : HoldsFragments h.catalog.now.resources h.fragments
  pub resources : h.premises.resources.now ≡ h.catalog.now.resources
  pub placed : ArePlaced h.premises

abbrev pub setting_with : List CompiledResource → List Assumption → Packages → List GivenLink → Setting
setting_with resources assumptions listing links = record { resources = resources; assumptions = assumptions; listing = listing; links = links }

-- what it says of the resources of its compiled catalog
abbrev pub setting_of : Host → Setting
setting_of h = setting_with h.catalog.now.resources h.premises.assumptions.now h.listing.now h.links.now

-- the native resource that is lent
abbrev pub native_of : Lent → Native
native_of n = record { place = n.place; text = n.text.now; resource = n.resource.now }

-- ---- what the parts of the code do

-- a program that is told, if one is, or why there is none
abbrev pub IsTold : Option (Result Program Cause) → Result (Option Stored) ModelFault → Type 0
IsTold told (Ok None) = told ≡ None
IsTold told (Ok (Some e)) = told ≡ Some (Ok (program_of e))
IsTold told (Err (fault.Because c)) = told ≡ Some (Err c)
IsTold told (Err (fault.Memory m)) = Unit {0}

-- A program is what is done, and the place that nothing else may have then is taken; or there is none.
abbrev pub AddsDone : Result Done Cause → Result Stored ModelFault → List Path → List Path → Type 0
AddsDone done (Ok e) old new = (more : List Path) × (done ≡ Ok (program_of e, more)) × (new ≡ old ++ more)
AddsDone done (Err (fault.Because c)) old new = done ≡ Err c
AddsDone done (Err (fault.Memory m)) old new = Unit {0}

-- the fault that a cause gives a resource
abbrev pub IsFaultOf : Native → ModelFault → Fault → Type 0
IsFaultOf n (fault.Because c) f = IfRefused f (λ x. x ≡ refusal_of n c)
IsFaultOf n (fault.Memory m) (faults.Memory k) = Unit {0}
IsFaultOf n (fault.Memory m) (faults.Refused x) = ⊥

-- The program of one resource more is added, and its place is taken; or it is refused.
abbrev pub AddsProgram : Setting → List Edit → Native → Result (Unit {0}) Fault → List Path → List Path → List Program
    → List Program → Type 0
AddsProgram s edits n (Ok done) seen new_seen old new =
    (d : Done) × (or_refused n (done_of s edits seen n) ≡ Ok d) × (new_seen ≡ seen ++ d.1) × (new ≡ old ++ program_among s edits n d.0 ∷ [])
AddsProgram s edits n (Err e) seen new_seen old new = Refuses (or_refused n (done_of s edits seen n)) e

-- what the first of these says that has this place beside it
abbrev pub first_of : ℕ → List (Option ℕ) → List Assumption → Option Assumed
first_of place [] rows = None
first_of place (p ∷ places) [] = None
first_of place (p ∷ places) (a ∷ rows) = if is_at place p then Some a.assumed else first_of place places rows
