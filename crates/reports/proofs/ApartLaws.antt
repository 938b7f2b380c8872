-- No two plain resources are shown alike.
use Rattle.std.proofs.Common.{◌≡◌, ◌+◌, ◌<◌, ℕ, zero, suc, Bool, true, false, cond, ◌&&◌, not, List, [], ◌∷◌, length, map, Option, Some, None, Ok, option_map, refl, sym, ap, subst, ◌∙◌, arith}
use Rattle.std.specs.Prelude.{slice_get, slice_index, codes}
use Rattle.std.specs.List.{AllByRecursion}
use Rattle.std.specs.Char.{to_ascii_lowercase, is_ascii_alphabetic}
use Rattle.std.proofs.lemmas.Option.{slice_get-map}
use Rattle.std.proofs.lemmas.List.Elements.{Contains-get_or}
use Rattle.serde_json.specs.Data.{Items, no_items, item}
use Rattle.host_limits.specs.declared.limits.Limits.{Limits}
use Rattle.pp_syntax.specs.declared.tree.Manifest.{Manifest}
use Rattle.pp_value.specs.declared.value.Value.{Value}
use Rattle.pp_data.specs.declared.data.Level.{Level}
use Rattle.pp_value.specs.declared.value.Ref.{Ref}
use Rattle.pp_value.specs.Shown.{shown_ref}
use Rattle.pp_value.specs.Values.{value_at}
use Rattle.catalog_semantics.specs.declared.catalog.Resource.{Resource}
use Rattle.catalog_semantics.specs.Catalogs as manifest
use Rattle.catalog_semantics.specs.Catalogs.{Catalog, is_plain_sort}
use Rattle.catalog_semantics.specs.Frames.{StandOnce, AreSound}
use Rattle.catalog_semantics.specs.States.{references_of}
use Rattle.graph_semantics.specs.Automatic.{IsPlainAt}
use Rattle.graph_semantics.specs.Graphs.{plain_from, plain_places, reference_of}
use Rattle.graph_semantics.proofs.RealPlaces.{plain_at, stands}
use Rattle.allowed_order.specs.AllowedOrder.{AreToldApart}
use Rattle.compiled_text.specs.declared.catalog.CompiledResource.{CompiledResource}
use Rattle.compiled_text.specs.Compiled.{Compiled, is_concat_file, counts_as, text_or, IsSound}
use Rattle.compiled_text.specs.Form.{AreResources, IsCompiledText}
use Rattle.compiled_catalog.specs.Catalogs.{catalog_of}
use Rattle.command_line.specs.declared.table.Role.TheVariants as role
use Rattle.known_inputs.specs.declared.inputs.Inputs.{Inputs}
use Rattle.known_inputs.specs.declared.inputs.Known.{Known}
use Rattle.known_inputs.specs.Inputs.{Bytes, bytes_of, input_of, IsCompiledOf}
use Rattle.reports.specs.Stages.{node_name, HasCatalog, IsCompiled}
use Rattle.reports.proofs.CompiledLaws.{references_are}
use Rattle.reports.proofs.KindLaws.{IsLowByte, of_letter, IsLow, low_type, same_reference}

-- ---- types of resources

-- the types of a compiled catalog's resources are in lower case
low_ids : (rs : List CompiledResource) (items : Items) → AreResources rs items → AllByRecursion (λ r. IsLow r.id.kind) rs
low_ids [] no_items h = tt
low_ids [] (item d items) h = tt
low_ids (r ∷ rs) no_items h = absurd h
low_ids (r ∷ rs) (item d items) h = (subst IsLow (sym (ap (λ (q : Ref). q.kind) h.0.names)) (low_type h.0.type_text h.0.is_type), low_ids rs items h.1)

-- and so is that of files
low_file : IsLow (codes "file")
low_file = (letter 102 refl refl, (letter 105 refl refl, (letter 108 refl refl, (letter 101 refl refl, tt))))
  where
    letter : (c : ℕ) → is_ascii_alphabetic c ≡ true → to_ascii_lowercase c ≡ c → IsLowByte c
    letter c h k = record { of = of_letter c h; low = k }

-- a resource whose type is in lower case counts as one whose type is
low_count : (r : CompiledResource) → IsLow r.id.kind → IsLow (counts_as r).kind
low_count r h = at (is_concat_file r)
  where
    at : (t : Bool) → IsLow (cond t (record { kind = codes "file"; title = text_or r.id.title (value_at (codes "path") r.parameters) }) r.id).kind
    at true = low_file
    at false = h

-- and so do all of them
low_counts : (rs : List CompiledResource) → AllByRecursion (λ r. IsLow r.id.kind) rs → AllByRecursion (λ q. IsLow q.kind) (map counts_as rs)
low_counts [] h = tt
low_counts (r ∷ rs) h = (low_count r h.0, low_counts rs h.1)

-- ---- plain resources stand at ascending places

-- each place is greater than those ahead of it
abbrev Ascend : List ℕ → Type 0
Ascend [] = Unit {0}
Ascend (k ∷ places) = AllByRecursion (λ p. k < p) places × Ascend places

-- places that are counted from a number on are above each lesser number
above : (k n : ℕ) (resources : List Resource) → k < n → AllByRecursion (λ p. k < p) (plain_from n resources)
above k n [] h = tt
above k n (r ∷ resources) h = at (is_plain_sort r.sort && not r.is_virtual) (above k (n + 1) resources (omega arith))
  where
    at : (t : Bool) → AllByRecursion (λ p. k < p) (plain_from (n + 1) resources) → AllByRecursion (λ p. k < p) (cond t (n ∷ plain_from (n + 1) resources) (plain_from (n + 1) resources))
    at true more = (h, more)
    at false more = more

-- the places of plain resources ascend
ascend : (n : ℕ) (resources : List Resource) → Ascend (plain_from n resources)
ascend n [] = tt
ascend n (r ∷ resources) = at (is_plain_sort r.sort && not r.is_virtual) (ascend (n + 1) resources)
  where
    at : (t : Bool) → Ascend (plain_from (n + 1) resources) → Ascend (cond t (n ∷ plain_from (n + 1) resources) (plain_from (n + 1) resources))
    at true more = (above n (n + 1) resources (omega arith), more)
    at false more = more

-- a place below all others isn't one of them
greater : (k : ℕ) (places : List ℕ) (i : ℕ) → AllByRecursion (λ p. k < p) places → i < length places → k ≡ slice_index places i → ⊥
greater k [] i all h same = omega arith
greater k (p ∷ places) zero all h same = omega (arith, all.0, same)
greater k (p ∷ places) (suc i) all h same = greater k places i all.1 (omega arith) same

-- a place that is there stands at one index
one_index : (places : List ℕ) (i j : ℕ) → Ascend places → i < length places → j < length places → slice_index places i ≡ slice_index places j → i ≡ j
one_index [] i j up h k same = absurd (omega arith)
one_index (p ∷ places) zero zero up h k same = refl
one_index (p ∷ places) zero (suc j) up h k same = absurd (greater p places j up.0 (omega arith) same)
one_index (p ∷ places) (suc i) zero up h k same = absurd (greater p places i up.0 (omega arith) (sym same))
one_index (p ∷ places) (suc i) (suc j) up h k same = ap suc (one_index places i j up.1 (omega arith) (omega arith) same)

-- ---- plain resources

-- a reference that stands once has one place
abbrev pub OnePlace : Type 0
OnePlace = (refs : List Ref) (i j : ℕ) (r : Ref) → StandOnce refs → slice_get refs i ≡ Some r → slice_get refs j ≡ Some r → i ≡ j

-- where all types are in lower case, the one at a place is
low_at : (refs : List Ref) (i : ℕ) (r : Ref) → AllByRecursion (λ q. IsLow q.kind) refs → slice_get refs i ≡ Some r → IsLow r.kind
low_at [] i r all h = cc
low_at (q ∷ refs) zero r all h = let same : q ≡ r = cc in subst (λ (x : Ref). IsLow x.kind) same all.0
low_at (q ∷ refs) (suc i) r all h = low_at refs i r all.1 h

module _ (one : OnePlace) (c : Catalog) (low : AllByRecursion (λ q. IsLow q.kind) (references_of c.resources)) (once : StandOnce (references_of c.resources)) where
  -- the reference at a plain resource's place is its own
  named_at : (place : ℕ) (r : Resource) → IsPlainAt c place r → slice_get (references_of c.resources) place ≡ Some r.id
  named_at place r is = slice_get-map (λ (q : Resource). q.id) c.resources place ∙ ap (option_map (λ (q : Resource). q.id)) (stands c place r is.real)

  -- and it is shown as that
  shown_as : (place : ℕ) (r : Resource) → IsPlainAt c place r → reference_of (slice_get c.resources place) ≡ shown_ref r.id
  shown_as place r is = ap reference_of (stands c place r is.real)

  -- plain resources that are shown alike are at one place
  same_place : (p q : ℕ) (r s : Resource) → IsPlainAt c p r → IsPlainAt c q s → reference_of (slice_get c.resources p) ≡ reference_of (slice_get c.resources q) → p ≡ q
  same_place p q r s a b same =
      let alike = sym (shown_as p r a) ∙ same ∙ shown_as q s b in
      let ids = same_reference r.id s.id (low_at _ p r.id low (named_at p r a)) (low_at _ q s.id low (named_at q s b)) alike in
      one (references_of c.resources) p q s.id once (named_at p r a ∙ ap (λ (x : Ref). Some x) ids) (named_at q s b)

  -- no two plain resources of such a catalog are shown alike
  apart : AreToldApart c (plain_places c)
  apart i j h k same =
      let p = plain_at c (slice_index (plain_places c) i) (Contains-get_or (plain_places c) i 0 h) in
      let q = plain_at c (slice_index (plain_places c) j) (Contains-get_or (plain_places c) j 0 k) in
      one_index (plain_places c) i j (ascend 0 c.resources) h k (same_place _ _ p.0 q.0 p.1 q.1 same)

-- in a catalog with the references of a compiled catalog
pub compiled_apart : OnePlace → (bytes : List ℕ) (m : Compiled) (c : Catalog) → IsCompiledText bytes m → references_of c.resources ≡ map counts_as m.resources → StandOnce (references_of c.resources)
    → AreToldApart c (plain_places c)
compiled_apart one bytes m c is same once =
    apart one c (subst (AllByRecursion (λ (q : Ref). IsLow q.kind)) (sym same) (low_counts m.resources (low_ids m.resources is.says.resources is.says.are_resources))) once

-- ---- the resources of what is asked about

-- no two plain resources of a sound catalog are shown alike
abbrev pub ManifestApart : Type 0
ManifestApart = (c : Catalog) → AreSound c.resources → StandOnce (references_of c.resources) → AreToldApart c (plain_places c)

-- the catalog of a manifest is sound
abbrev pub ManifestSound : Type 0
ManifestSound = (m : Manifest) (facts : Value) (node : List ℕ) (levels : List Level) (l : Limits) (c : Catalog) → manifest.catalog_of m facts node levels l ≡ Ok c → AreSound c.resources

-- and its references stand once
abbrev pub ManifestOnce : Type 0
ManifestOnce = (m : Manifest) (facts : Value) (node : List ℕ) (levels : List Level) (l : Limits) (c : Catalog) → manifest.catalog_of m facts node levels l ≡ Ok c
    → StandOnce (references_of c.resources)

-- what the text of a compiled catalog says is sound
abbrev pub CompiledSound : Type 0
CompiledSound = (bytes : List ℕ) (m : Compiled) → IsCompiledText bytes m → IsSound m

-- and the references of its catalog stand once
abbrev pub CompiledOnce : Type 0
CompiledOnce = (m : Compiled) (l : Limits) (c : Catalog) → IsSound m → catalog_of m l ≡ Ok c → StandOnce (references_of c.resources)

module _ (apart : ManifestApart) (sound : ManifestSound) (once : ManifestOnce) (one : OnePlace) (text_sound : CompiledSound) (compiled_once : CompiledOnce) where
  -- no two plain resources of a catalog that is asked about are shown alike
  catalog_apart : (b : Bytes) (text node : List ℕ) (l : Limits) (k : Known) (m : Option Compiled) (c : Catalog) → IsCompiledOf b m → HasCatalog text node l k m c → AreToldApart c (plain_places c)
  catalog_apart b text node l k None c source has =
      apart c (sound has.manifest k.facts node k.class_data l c (sym has.is)) (once has.manifest k.facts node k.class_data l c (sym has.is))
  catalog_apart None text node l k (Some m) c source has = absurd source
  catalog_apart (Some bytes) text node l k (Some m) c source has = compiled_apart one bytes m c source (references_are m l c has) (compiled_once m l c (text_sound bytes m source) has)

  -- and so it is of the catalog that the files of a request give
  pub resources_apart : (i : Inputs) (k : Known) (m : Option Compiled) (c : Catalog) → IsCompiled i k m c → AreToldApart c (plain_places c)
  resources_apart i k m c is = catalog_apart (bytes_of role.Compiled i) (input_of i) (node_name i.node) i.limits k m c is.source is.catalog
