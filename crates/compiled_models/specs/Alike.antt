-- What a native resource has in common with the same resource of a manifest.
use Rattle.std.specs.Prelude.{◌≡◌, ◌∷◌, Bool, true, false, List, [], map, None, is_some, Result, Ok, Err}
use Rattle.rh_base.specs.declared.fault.Refusal.{Refusal}
use Rattle.fs_semantics.specs.FileTree.{Path}
use Rattle.fs_semantics.specs.Programs.{Program}
use Rattle.given_links.specs.declared.links.GivenLink.{GivenLink}
use Rattle.given_links.specs.Reading.{program_read_as}
use Rattle.model_semantics.specs.declared.kinds.Cause.{Cause}
use Rattle.model_semantics.specs.declared.states.FileState.{FileState}
use Rattle.model_semantics.specs.declared.states.FileState.TheVariants as file
use Rattle.model_semantics.specs.Words.{sequence}
use Rattle.model_semantics.specs.Attributes.{kind_of}
use Rattle.model_semantics.specs.Models.{Model}
use Rattle.compiled_attributes.specs.Attributes.{is_noop}
use Rattle.compiled_attributes.specs.Fragments.{why_unfilled}
use Rattle.compiled_models.specs.Assumed.{gives_program}
use Rattle.compiled_models.specs.Files.{is_spared}
use Rattle.compiled_models.specs.Programs.{Setting, Native, Done, assumed_of}

-- No program is assumed of it, it is to be changed, its type has a model, it doesn't say `replace` false, and it can be told what it
-- is put together of, if it is.
pub record IsOrdinary (s : Setting) (n : Native) : Type 0 where
  pub unassumed : gives_program (assumed_of s n) ≡ false
  pub changed : is_noop n.text ≡ false
  pub modelled : is_some (kind_of n.resource.id.kind) ≡ true
  pub replaced : is_spared n.resource ≡ false
  pub told : why_unfilled s.resources n.text ≡ None

-- what a model does, and the place that is taken then
abbrev pub done_as : Result Model Cause → Result Done Cause
done_as (Ok m) = Ok (sequence m.steps, m.place ∷ [])
done_as (Err c) = Err c

-- programs, each read through links
abbrev pub read_through : List GivenLink → Result (List Program) Refusal → Result (List Program) Refusal
read_through links (Ok es) = Ok (map (program_read_as links) es)
read_through links (Err r) = Err r

-- both have the same programs, or both are refused
abbrev pub AreAlike : Result (List Program) Refusal → Result (List Program) Refusal → Type 0
AreAlike (Ok es) (Ok fs) = es ≡ fs
AreAlike (Ok es) (Err r) = ⊥
AreAlike (Err r) (Ok es) = ⊥
AreAlike (Err r) (Err q) = Unit {0}

-- the paths at which the links stand
abbrev pub paths_of : List GivenLink → List Path
paths_of links = map (λ l. l.path) links

-- there is something to put: a content, a copy, or what is at an address
abbrev pub has_filling : FileState → Bool
has_filling (file.Content content) = true
has_filling (file.Copied from) = true
has_filling (file.Fetched address) = true
has_filling _ = false
