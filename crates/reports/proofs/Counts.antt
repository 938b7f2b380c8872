-- There are as many programs as resources of a manifest in the graph.
use Rattle.std.proofs.Common.{◌≡◌, ◌<◌, ℕ, zero, suc, List, [], ◌∷◌, ◌++◌, length, map, Option, Some, None, Result, Ok, Err, refl, sym, ap, ◌∙◌, arith}
use Rattle.std.specs.Prelude.{slice_get}
use Rattle.std.proofs.lemmas.List.{length-map}
use Rattle.std.specs.List.{AllByRecursion}
use Rattle.rh_base.specs.declared.fault.Refusal.{Refusal}
use Rattle.catalog_semantics.specs.declared.catalog.Resource.{Resource}
use Rattle.fs_semantics.specs.FileTree.{Path}
use Rattle.fs_semantics.specs.Programs.{Program}
use Rattle.pkg_listing.specs.Packages.{Packages}
use Rattle.model_semantics.specs.Models.{Model, new_model, or_refused, first_and, programs_with, programs_behind, programs}
use Rattle.given_links.specs.declared.links.GivenLink.{GivenLink}
use Rattle.given_links.specs.Reading.{program_read_as}
use Rattle.model_semantics.specs.Words.{sequence}
use Rattle.res_models.specs.Seen.{resource_at, resources_at}
use Rattle.catalog_semantics.specs.Catalogs.{Catalog}
use Rattle.graph_semantics.specs.Graphs.{plain_places}
use Rattle.dep_graph.specs.declared.answer.Graph.{Graph}
use Rattle.known_inputs.specs.declared.inputs.Known.{Known}
use Rattle.reports.specs.Stages.{barred_in, read_through, programs_in}
use Rattle.reports.proofs.Places.{places_within}

-- one program and others are one more than those
pub one_more : (n : ℕ) (e : Program) (v : Result (List Program) Refusal) (es : List Program) → first_and e v ≡ Ok es
    → ((fs : List Program) → v ≡ Ok fs → length fs ≡ n) → length es ≡ suc n
one_more n e (Err r) es h so_far = cc
one_more n e (Ok fs) es h so_far = let same : e ∷ fs ≡ es = cc in ap length (sym same) ∙ ap suc (so_far fs refl)

-- one program and as many as there are resources left are one more
with_first : (n : ℕ) (v : Result Model Refusal) (more : Path → Result (List Program) Refusal) (es : List Program) → programs_with v more ≡ Ok es
    → ((place : Path) (fs : List Program) → more place ≡ Ok fs → length fs ≡ n) → length es ≡ suc n
with_first n (Err r) more es h so_far = cc
with_first n (Ok m) more es h so_far = one_more n (sequence m.steps) (more m.place) es h (so_far m.place)

-- each resource has one program
one_each : (barred seen : List Path) (listing : Packages) (rs : List Resource) (es : List Program) → programs_behind barred seen listing rs ≡ Ok es → length es ≡ length rs
one_each barred seen listing [] es h = let same : [] ≡ es = cc in ap length (sym same)
one_each barred seen listing (r ∷ rs) es h =
    with_first (length rs) (or_refused r (new_model barred seen listing r)) (λ place. programs_behind barred (seen ++ place ∷ []) listing rs) es h
    (λ place fs k. one_each barred (seen ++ place ∷ []) listing rs fs k)

-- a place within a list has something
pub there : {X : Type 0} (xs : List X) (i : ℕ) → i < length xs → (x : X) × (slice_get xs i ≡ Some x)
there [] i h = absurd (omega arith)
there (x ∷ xs) zero h = (x, refl)
there (x ∷ xs) (suc i) h = there xs i (omega arith)

-- there is a resource at each place within the list
all_there : (resources : List Resource) (places : List ℕ) → AllByRecursion (λ i. i < length resources) places → length (resources_at resources places) ≡ length places
all_there resources [] h = refl
all_there resources (i ∷ places) h =
    let at = there resources i h.0 in
    ap (λ (o : Option Resource). length (resource_at o ++ resources_at resources places)) at.1 ∙ ap suc (all_there resources places h.1)

-- programs that are read through links are as many as before
as_many_read : (links : List GivenLink) (n : ℕ) (said : Result (List Program) Refusal) (es : List Program) → read_through links said ≡ Ok es
    → ((made : List Program) → said ≡ Ok made → length made ≡ n) → length es ≡ n
as_many_read links n (Ok made) es h many =
    let same : map (program_read_as links) made ≡ es = cc in ap length (sym same) ∙ length-map made (program_read_as links) ∙ many made refl
as_many_read links n (Err r) es h many = cc

-- of the resources of a manifest
pub as_many_made : (k : Known) (c : Catalog) (g : Graph) (es : List Program) → g.plain ≡ plain_places c → programs_in k None c g.plain ≡ Ok es → length es ≡ length g.plain
as_many_made k c g es are made =
    as_many_read k.given.links (length g.plain) (programs (barred_in k) k.listing (resources_at c.resources g.plain)) es made (λ fs is.
    one_each (barred_in k) [] k.listing (resources_at c.resources g.plain) fs is ∙ all_there c.resources g.plain (places_within c g.plain are))
