-- Ordinary resources do what those of a manifest do.
use Rattle.std.proofs.Common.{◌≡◌, ℕ, Bool, true, false, not, cond, ◌&&◌, ◌||◌, List, [], ◌∷◌, ◌++◌, map, Option, Some, None, Result, Ok, Err, bytes_eq, codes, refl, sym, ap, ap₂, subst, ◌∙◌}
use Rattle.std.specs.Prelude.{is_some}
use Rattle.std.specs.List.{AllByRecursion}
use Rattle.std.specs.Option.{option_or}
use Rattle.std.proofs.lemmas.Slice.Eq.{bytes_eq-Decides}
use Rattle.rh_base.specs.declared.fault.Refusal.{Refusal}
use Rattle.fs_semantics.specs.FileTree.{Path}
use Rattle.fs_semantics.specs.Programs.{Program, Id}
use Rattle.given_links.specs.declared.links.GivenLink.{GivenLink}
use Rattle.given_links.specs.Reading.{program_read_as}
use Rattle.catalog_semantics.specs.declared.catalog.Resource.{Resource}
use Rattle.catalog_semantics.specs.Attributes.{is_one_of}
use Rattle.model_semantics.specs.declared.kinds.Kind.{Kind}
use Rattle.model_semantics.specs.declared.kinds.Kind.TheVariants as kind
use Rattle.model_semantics.specs.declared.kinds.Cause.{Cause}
use Rattle.model_semantics.specs.declared.states.Ensure.{Ensure}
use Rattle.model_semantics.specs.declared.states.States.{States}
use Rattle.model_semantics.specs.Words.{sequence}
use Rattle.model_semantics.specs.Attributes.{kind_of, states_of, attributes_fit, unless_refused, is_link}
use Rattle.model_semantics.specs.Names.{◌>>=◌, text_or, spelled, is_reserved, unless_reserved}
use Rattle.model_semantics.specs.Models.{Model, model, file_state, copies_reserved, if_modelled, first_and}
use Rattle.model_semantics.specs.Models as manifest
use Rattle.assumed_text.specs.declared.assumed.Assumed.{Assumed}
use Rattle.assumed_text.specs.declared.assumed.Assumed.TheVariants.{Nothing, Refused, Does}
use Rattle.assumed_models.specs.Edits.{marks_of}
use Rattle.assumed_models.specs.LostEdits.{Writes, with_lost_edits}
use Rattle.compiled_attributes.specs.Attributes.{is_noop}
use Rattle.compiled_attributes.specs.Fragments.{why_unfilled}
use Rattle.compiled_models.specs.Assumed.{gives_program}
use Rattle.compiled_models.specs.Files.{is_spared, without_replace, attributes_asked, row_of}
use Rattle.compiled_models.specs.Programs.{Setting, Native, idle_types, assumed_of, program_assumed, is_idle, program_told, edits_by, edits_of, is_edited, attributes_with, asked_of, native_model, model_of_kind, model_of, done_by, done_with, done_of, program_among, or_refused, programs_with, programs_behind, programs}
use Rattle.compiled_models.specs.Alike.{IsOrdinary, done_as, read_through, AreAlike, paths_of}

-- ---- what is assumed

-- an assumption that gives a program tells it
pub assumed_wins : (r : Resource) (a : Option Assumed) (other : Option (Result Program Cause)) → gives_program a ≡ true → option_or (program_assumed r a) other ≡ program_assumed r a
assumed_wins r None other h = cc
assumed_wins r (Some Nothing) other h = refl
assumed_wins r (Some Refused) other h = cc
assumed_wins r (Some (Does b)) other h = refl

-- one that gives none tells none
none_assumed : (r : Resource) (a : Option Assumed) → gives_program a ≡ false → program_assumed r a ≡ None
none_assumed r None h = refl
none_assumed r (Some Nothing) h = cc
none_assumed r (Some Refused) h = refl
none_assumed r (Some (Does b)) h = cc

-- where none is assumed, only what isn't to be changed or is idle is told
pub unassumed_told : (s : Setting) (n : Native) → gives_program (assumed_of s n) ≡ false → program_told s n ≡ cond (is_noop n.text || is_idle n.resource) (Some (Ok Id)) None
unassumed_told s n h = ap (λ told. option_or told (cond (is_noop n.text || is_idle n.resource) (Some (Ok Id)) None)) (none_assumed n.resource (assumed_of s n) h)

-- where no program is assumed, no file is edited
none_edited : (links : List GivenLink) (n : Native) (a : Option Assumed) → gives_program a ≡ false → edits_by links n a ≡ []
none_edited links n None h = refl
none_edited links n (Some Nothing) h = cc
none_edited links n (Some Refused) h = refl
none_edited links n (Some (Does b)) h = cc

-- ordinary resources edit no files
no_edits : (s : Setting) (ns : List Native) → AllByRecursion (IsOrdinary s) ns → edits_of s ns ≡ []
no_edits s [] h = refl
no_edits s (n ∷ ns) (is, more) = ap₂ (λ l m. l ++ m) (none_edited s.links n (assumed_of s n) is.unassumed) (no_edits s ns more)

-- ---- types that have models aren't idle

-- resources of this type aren't idle
abbrev IsBusy : List ℕ → Type 0
IsBusy name = (is_one_of idle_types name ≡ false) × (bytes_eq name (codes "resources") ≡ false)

-- so it is where the type is one of those that have a model, here or further on
busy_or : (name word : List ℕ) (k : Kind) (rest : Option Kind) → IsBusy word → (is_some rest ≡ true → IsBusy name) → is_some (cond (bytes_eq name word) (Some k) rest) ≡ true → IsBusy name
busy_or name word k rest busy more h = at (bytes_eq name word) refl h
  where
    at : (b : Bool) → bytes_eq name word ≡ b → is_some (cond b (Some k) rest) ≡ true → IsBusy name
    at true e h = subst IsBusy (sym ((bytes_eq-Decides name word).0 e)) busy
    at false e h = more h

-- a type that has a model isn't idle
busy : (name : List ℕ) → is_some (kind_of name) ≡ true → IsBusy name
busy name h =
    busy_or name (codes "file") kind.File _ (refl, refl) (λ h. busy_or name (codes "package") kind.Package _ (refl, refl) (λ h. busy_or name (codes "user") kind.User _ (refl, refl) (
    λ h. busy_or name (codes "group") kind.Group _ (refl, refl) (λ h. busy_or name (codes "service") kind.Service _ (refl, refl) (λ h. busy_or name (codes "cron") kind.Cron _ (refl, refl) (
    λ h. busy_or name (codes "ssh_authorized_key") kind.Key None (refl, refl) (λ (h : ◌≡◌ {A = Bool} false true). absurd (differ h)) h) h) h) h) h) h) h
  where
    differ : ◌≡◌ {A = Bool} false true → ⊥
    differ e = cc

-- of an ordinary resource nothing is told
nothing_told : (s : Setting) (n : Native) → IsOrdinary s n → program_told s n ≡ None
nothing_told s n is =
    unassumed_told s n is.unassumed
    ∙ at (is_noop n.text) (is_one_of idle_types n.resource.id.kind) (bytes_eq n.resource.id.kind (codes "resources")) _ is.changed (busy n.resource.id.kind is.modelled).0 (busy n.resource.id.kind is.modelled).1
  where
    at : (u v w x : Bool) → u ≡ false → v ≡ false → w ≡ false → cond {A = Option (Result Program Cause)} (u || (v || (w && x))) (Some (Ok Id)) None ≡ None
    at u v w x e f g = ap (λ u. cond (u || (v || (w && x))) (Some (Ok Id)) None) e ∙ (ap (λ v. cond (v || (w && x)) (Some (Ok Id)) None) f ∙ ap (λ w. cond (w && x) (Some (Ok Id)) None) g)

-- ---- the model

-- what goes on alike from a result is the same
bind_alike : {A B : Type 0} (x : Result A Cause) (f g : A → Result B Cause) → ((a : A) → f a ≡ g a) → (x >>= f) ≡ (x >>= g)
bind_alike (Ok a) f g h = h a
bind_alike (Err c) f g h = refl

-- where there are no edits, nothing is edited
unedited : (links : List GivenLink) (source : Option Path) → is_edited links [] source ≡ false
unedited links None = refl
unedited links (Some p) = refl

-- an ordinary resource is asked for its attributes as they stand
as_they_stand : (links : List GivenLink) (k : Kind) (e : Ensure) (r : Resource) → is_spared r ≡ false → asked_of links [] k e r ≡ r.attrs
as_they_stand links kind.File e r h = ap (λ b. attributes_with b (attributes_asked e r)) (unedited links _) ∙ ap (λ b. cond (b && not (is_link e)) (without_replace r.attrs) r.attrs) h
as_they_stand links kind.Package e r h = refl
as_they_stand links kind.User e r h = refl
as_they_stand links kind.Group e r h = refl
as_they_stand links kind.Service e r h = refl
as_they_stand links kind.Cron e r h = refl
as_they_stand links kind.Key e r h = refl

-- the model of a file whose row is chosen so
abbrev file_with : Bool → Ensure → Resource → Result Model Cause
file_with b e r = do
  p ← spelled (text_or (codes "path") r.id.title r.attrs)
  state ← file_state e r.attrs
  _ ← unless_reserved (is_reserved p || copies_reserved state)
  Ok (model p (row_of b p state ∷ []))

-- an ordinary resource has the model of a manifest's
same_model : (k : Kind) (states : States) (s : Setting) (r : Resource) → is_spared r ≡ false → native_model k states s.listing r ≡ manifest.model_at k states s.listing r
same_model kind.File states s r h = ap (λ b. file_with b states.ensure r) h
same_model kind.Package states s r h = refl
same_model kind.User states s r h = refl
same_model kind.Group states s r h = refl
same_model kind.Service states s r h = refl
same_model kind.Cron states s r h = refl
same_model kind.Key states s r h = refl

-- so it is with its states and attributes
same_of_kind : (s : Setting) (n : Native) → IsOrdinary s n → (k : Kind) → model_of_kind s [] n k ≡ manifest.model_of_kind s.listing n.resource k
same_of_kind s n is k = bind_alike (states_of k n.resource.attrs) _ _ (λ states.
    ap (λ asked. attributes_fit k states.ensure asked >>= (λ _. unless_refused (why_unfilled s.resources n.text) >>= (λ _. native_model k states s.listing n.resource))) (as_they_stand s.links k states.ensure n.resource is.replaced)
    ∙ bind_alike (attributes_fit k states.ensure n.resource.attrs) _ _ (λ _. ap (λ why. unless_refused why >>= (λ _. native_model k states s.listing n.resource)) is.told ∙ same_model k states s n.resource is.replaced))

-- and by its type
same_model_of : (s : Setting) (n : Native) → IsOrdinary s n → model_of s [] n ≡ manifest.model_of s.listing n.resource
same_model_of s n is = bind_alike (if_modelled (kind_of n.resource.id.kind)) _ _ (same_of_kind s n is)

-- ---- what is done

-- a model that is found is done with its place
done_is : (v : Result Model Cause) → (v >>= (λ m. Ok (sequence m.steps, m.place ∷ []))) ≡ done_as v
done_is (Ok m) = refl
done_is (Err c) = refl

-- an ordinary resource does what one of a manifest does
pub one_alike : (s : Setting) (seen : List Path) (n : Native) → IsOrdinary s n → done_of s [] seen n ≡ done_as (manifest.new_model (paths_of s.links) seen s.listing n.resource)
one_alike s seen n is =
    ap (λ told. done_with told (done_by s.links seen (model_of s [] n))) (nothing_told s n is)
    ∙ (ap (done_by s.links seen) (same_model_of s n is) ∙ done_is (manifest.new_model (paths_of s.links) seen s.listing n.resource))

-- a program before others is alike, read through links, where they are
first_alike : (links : List GivenLink) (e d : Program) (x y : Result (List Program) Refusal) → d ≡ program_read_as links e → AreAlike x (read_through links y) → AreAlike (first_and d x) (read_through links (first_and e y))
first_alike links e d (Ok es) (Ok fs) h more = ap₂ (λ (p : Program) (ps : List Program). p ∷ ps) h more
first_alike links e d (Ok es) (Err r) h more = more
first_alike links e d (Err q) (Ok fs) h more = more
first_alike links e d (Err q) (Err r) h more = tt

module _ (kept : (marks : Path → List Path) (e : Program) → ((p : Path) → Writes e p → marks p ≡ []) → with_lost_edits marks e ≡ e) where
  -- behind those whose places are taken, ordinary resources have the programs of a manifest's, read through links
  alike_behind : (s : Setting) (seen : List Path) (ns : List Native) → AllByRecursion (IsOrdinary s) ns
      → AreAlike (programs_behind s [] seen ns) (read_through s.links (manifest.programs_behind (paths_of s.links) seen s.listing (map (λ n. n.resource) ns)))
  alike_behind s seen [] h = refl
  alike_behind s seen (n ∷ ns) (is, more) =
      subst (λ done. AreAlike (programs_with (program_among s [] n) (or_refused n done) (λ places. programs_behind s [] (seen ++ places) ns)) (read_through s.links (manifest.programs_behind (paths_of s.links) seen s.listing (n.resource ∷ map (λ n. n.resource) ns))))
      (sym (one_alike s seen n is)) (at (manifest.new_model (paths_of s.links) seen s.listing n.resource) (λ now. alike_behind s now ns more))
    where
      at : (v : Result Model Cause)
          → ((now : List Path) → AreAlike (programs_behind s [] now ns) (read_through s.links (manifest.programs_behind (paths_of s.links) now s.listing (map (λ n. n.resource) ns))))
          → AreAlike (programs_with (program_among s [] n) (or_refused n (done_as v)) (λ places. programs_behind s [] (seen ++ places) ns))
          (read_through s.links (manifest.programs_with (manifest.or_refused n.resource v) (λ place. manifest.programs_behind (paths_of s.links) (seen ++ place ∷ []) s.listing (map (λ n. n.resource) ns))))
      at (Ok m) later =
          first_alike s.links (sequence m.steps) (program_among s [] n (sequence m.steps)) (programs_behind s [] (seen ++ m.place ∷ []) ns) (manifest.programs_behind (paths_of s.links) (seen ++ m.place ∷ []) s.listing (map (λ n. n.resource) ns))
          (kept (marks_of []) (program_read_as s.links (sequence m.steps)) (λ p w. refl)) (later (seen ++ m.place ∷ []))
      at (Err c) later = tt

  -- ordinary resources have the programs of those of a manifest, read through links
  pub all_alike : (s : Setting) (ns : List Native) → AllByRecursion (IsOrdinary s) ns
      → AreAlike (programs s ns) (read_through s.links (manifest.programs (paths_of s.links) s.listing (map (λ n. n.resource) ns)))
  all_alike s ns h =
      subst (λ edits. AreAlike (programs_behind s edits [] ns) (read_through s.links (manifest.programs (paths_of s.links) s.listing (map (λ n. n.resource) ns)))) (sym (no_edits s ns h)) (alike_behind s [] ns h)
