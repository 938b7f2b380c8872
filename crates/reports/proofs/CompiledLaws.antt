-- The catalog of a compiled catalog has its resources, one after another.
use Rattle.std.proofs.Common.{◌≡◌, ◌<◌, ℕ, Bool, true, false, cond, List, [], ◌∷◌, ◌++◌, length, map, Option, Some, None, Result, Ok, Err, sym, ap, subst, ◌∙◌, append_assoc, append-nil}
use Rattle.std.specs.List.{AllByRecursion}
use Rattle.std.proofs.lemmas.List.{length-map}
use Rattle.rh_base.specs.declared.fault.Refusal.{Refusal}
use Rattle.host_limits.specs.declared.limits.Limits.{Limits}
use Rattle.pp_eval.specs.Evaluating.{◌>>=◌}
use Rattle.catalog_semantics.specs.declared.catalog.Resource.{Resource}
use Rattle.catalog_semantics.specs.Catalogs.{Catalog}
use Rattle.catalog_semantics.specs.States.{references_of, within_size}
use Rattle.compiled_text.specs.declared.catalog.CompiledResource.{CompiledResource}
use Rattle.compiled_text.specs.Compiled.{Compiled, counts_as}
use Rattle.compiled_catalog.specs.Attributes.{settled_attributes}
use Rattle.compiled_catalog.specs.Catalogs.{few_declared, few_native, resource_at, with_one, with_all, catalog_of}
use Rattle.known_inputs.specs.declared.inputs.Known.{Known}
use Rattle.reports.specs.Stages.{HasCatalog, AreTold}
use Rattle.catalog_semantics.proofs.Once.{refs_more}
use Rattle.node_label.proofs.LabelLaws.{bound}

-- what is made twice is one
same_ok : {X : Type 0} (x y : X) → ◌≡◌ {A = Result X Refusal} (Ok x) (Ok y) → x ≡ y
same_ok x y h = cc

-- what was made where a test would refuse it is what was given
unless_refused : {X : Type 0} (t : Bool) (e : Refusal) (x y : X) → cond t (Err e) (Ok x) ≡ Ok y → x ≡ y
unless_refused true e x y h = cc
unless_refused false e x y h = same_ok x y h

-- ---- references

-- a resource of a compiled catalog adds the reference as which it counts
one_named : (m : Compiled) (before more : List Resource) (r : CompiledResource) → with_one m before r ≡ Ok more → references_of more ≡ references_of before ++ counts_as r ∷ []
one_named m before more r h =
    let x = bound (settled_attributes m.resources r) (λ ps. within_size 0 (before ++ resource_at m (length before) r ps ∷ [])) more h in
    ap references_of (sym (unless_refused _ _ (before ++ resource_at m (length before) r x.0 ∷ []) more x.2)) ∙ refs_more before (resource_at m (length before) r x.0)

-- and so do all, in their order
all_named : (m : Compiled) (rs : List CompiledResource) (before all : List Resource) → with_all m before rs ≡ Ok all → references_of all ≡ references_of before ++ map counts_as rs
all_named m [] before all h = ap references_of (sym (same_ok before all h)) ∙ sym (append-nil (references_of before))
all_named m (r ∷ rs) before all h =
    let x = bound (with_one m before r) (λ so_far. with_all m so_far rs) all h in
    all_named m rs x.0 all x.2 ∙ ap (λ refs. refs ++ map counts_as rs) (one_named m before x.0 r x.1) ∙ append_assoc (references_of before) (counts_as r ∷ []) (map counts_as rs)

-- each resource counts in the catalog as in the compiled catalog
pub references_are : (m : Compiled) (l : Limits) (c : Catalog) → catalog_of m l ≡ Ok c → references_of c.resources ≡ map counts_as m.resources
references_are m l c h =
    let few = bound (few_declared l m) _ c h in
    let native = bound (few_native l m) _ c few.2 in
    let made = bound (with_all m [] m.resources) _ c native.2 in
    ap (λ (d : Catalog). references_of d.resources) (sym (same_ok _ c made.2)) ∙ all_named m m.resources [] made.0 made.1

-- a compiled catalog's catalog has as many resources
as_long : (m : Compiled) (l : Limits) (c : Catalog) → catalog_of m l ≡ Ok c → length c.resources ≡ length m.resources
as_long m l c h = sym (length-map c.resources (λ (r : Resource). r.id)) ∙ ap length (references_are m l c h) ∙ length-map m.resources counts_as

-- a compiled catalog tells of each place of its catalog
pub are_told : (text node : List ℕ) (l : Limits) (k : Known) (m : Option Compiled) (c : Catalog) (plain : List ℕ) → HasCatalog text node l k m c
    → AllByRecursion (λ i. i < length c.resources) plain → AreTold m plain
are_told text node l k None c plain has all = tt
are_told text node l k (Some m) c plain has all = subst (λ n. AllByRecursion (λ i. i < n) plain) (as_long m l c has) all
