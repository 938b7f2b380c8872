-- There are as many programs as resources in the graph.
use Rattle.std.proofs.Common.{◌≡◌, ◌<◌, ℕ, suc, List, [], ◌∷◌, ◌++◌, length, Option, Some, None, Result, Ok, Err, refl, sym, ap, ◌∙◌}
use Rattle.std.specs.Prelude.{slice_get}
use Rattle.std.specs.List.{AllByRecursion}
use Rattle.rh_base.specs.declared.fault.Refusal.{Refusal}
use Rattle.fs_semantics.specs.FileTree.{Path}
use Rattle.fs_semantics.specs.Programs.{Program}
use Rattle.catalog_semantics.specs.declared.catalog.Resource.{Resource}
use Rattle.assumed_models.specs.declared.edits.Edit.{Edit}
use Rattle.compiled_text.specs.declared.catalog.CompiledResource.{CompiledResource}
use Rattle.compiled_models.specs.Programs.{Setting, Native, Done, done_of, or_refused, program_among, programs_with, programs_behind, programs, native_at, natives_at, edits_of}
use Rattle.catalog_semantics.specs.Catalogs.{Catalog}
use Rattle.graph_semantics.specs.Graphs.{plain_places}
use Rattle.dep_graph.specs.declared.answer.Graph.{Graph}
use Rattle.known_inputs.specs.declared.inputs.Known.{Known}
use Rattle.compiled_text.specs.Compiled.{Compiled}
use Rattle.reports.specs.Stages.{AreTold, setting_of, programs_in}
use Rattle.reports.proofs.Places.{places_within}
use Rattle.reports.proofs.Counts.{one_more, there, as_many_made}

-- one program and as many as there are resources left are one more
with_first : (n : ℕ) (among : Program → Program) (v : Result Done Refusal) (more : List Path → Result (List Program) Refusal) (es : List Program) → programs_with among v more ≡ Ok es
    → ((places : List Path) (fs : List Program) → more places ≡ Ok fs → length fs ≡ n) → length es ≡ suc n
with_first n among (Err r) more es h so_far = cc
with_first n among (Ok d) more es h so_far = one_more n (among d.0) (more d.1) es h (so_far d.1)

-- each native resource has one program
one_each : (s : Setting) (edits : List Edit) (seen : List Path) (ns : List Native) (es : List Program) → programs_behind s edits seen ns ≡ Ok es → length es ≡ length ns
one_each s edits seen [] es h = let same : [] ≡ es = cc in ap length (sym same)
one_each s edits seen (n ∷ ns) es h =
    with_first (length ns) (program_among s edits n) (or_refused n (done_of s edits seen n)) (λ places. programs_behind s edits (seen ++ places) ns) es h
    (λ places fs k. one_each s edits (seen ++ places) ns fs k)

-- where both have a resource at each of these places, each is a native resource
all_native : (texts : List CompiledResource) (resources : List Resource) (places : List ℕ) → AllByRecursion (λ i. i < length texts) places → AllByRecursion (λ i. i < length resources) places
    → length (natives_at texts resources places) ≡ length places
all_native texts resources [] told made = refl
all_native texts resources (i ∷ places) told made =
    let text = there texts i told.0 in
    let resource = there resources i made.0 in
    ap (λ (o : Option CompiledResource). length (native_at i o (slice_get resources i) ++ natives_at texts resources places)) text.1
    ∙ ap (λ (o : Option Resource). length (native_at i (Some text.0) o ++ natives_at texts resources places)) resource.1
    ∙ ap suc (all_native texts resources places told.1 made.1)

-- there are as many programs as places of native resources
as_many_natives : (s : Setting) (resources : List Resource) (places : List ℕ) (es : List Program) → AllByRecursion (λ i. i < length s.resources) places
    → AllByRecursion (λ i. i < length resources) places → programs s (natives_at s.resources resources places) ≡ Ok es → length es ≡ length places
as_many_natives s resources places es told made is =
    one_each s (edits_of s (natives_at s.resources resources places)) [] (natives_at s.resources resources places) es is ∙ all_native s.resources resources places told made

-- of the resources of a manifest or of a compiled catalog
pub as_many : (k : Known) (m : Option Compiled) (c : Catalog) (g : Graph) (es : List Program) → g.plain ≡ plain_places c → AreTold m g.plain → programs_in k m c g.plain ≡ Ok es
    → length es ≡ length g.plain
as_many k None c g es are told made = as_many_made k c g es are made
as_many k (Some m) c g es are told made = as_many_natives (setting_of k m) c.resources g.plain es told (places_within c g.plain are) made
