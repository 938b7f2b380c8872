-- Attributes that stay, and those that are left out since they can't be told.
use Rattle.std.proofs.Common.{◌≡◌, ℕ, Bool, true, false, true≢false, cond, ◌||◌, ◌&&◌, not, List, codes, Option, Some, None, refl, ap, ap₂, sym, ◌∙◌}
use Rattle.std.specs.Prelude.{option_and_then, option_map}
use Rattle.std.specs.Option.{option_or}
use Rattle.std.specs.Str.{bytes_eq}
use Rattle.pp_value.specs.declared.value.Value.{Value}
use Rattle.pp_value.specs.Values.{Pair, value_at, HasDistinctKeys, has_opaque}
use Rattle.catalog_semantics.specs.Attributes.{is_one_of, is_metaparameter}
use Rattle.model_semantics.specs.declared.kinds.Kind.{Kind}
use Rattle.model_semantics.specs.declared.kinds.Kind.TheVariants as kind
use Rattle.model_semantics.specs.Attributes.{kind_of}
use Rattle.compiled_text.specs.declared.catalog.CompiledResource.{CompiledResource}
use Rattle.compiled_text.specs.Compiled.{is_concat_file}
use Rattle.compiled_attributes.specs.declared.reading.Reading.{Reading}
use Rattle.compiled_attributes.specs.declared.reading.Reading.TheVariants as reading
use Rattle.compiled_attributes.specs.Rows.{left_out_of_all, has_to_be_known, left_out_of_file, file_rows, is_idle_recursion, is_idle_purge, is_idle_force, is_short_link, file_value, typed_value, native_value}
use Rattle.compiled_attributes.specs.Given.{is_true, gives, are_addresses}
use Rattle.compiled_attributes.specs.Attributes.{reading_of, value_read, added_to, added_value, attributes_of, IsItself, IsPlain}
use Rattle.compiled_attributes.proofs.AttributeLaws.{each}
use Rattle.std.proofs.lemmas.Bool.{or_parts}
use Rattle.pp_value.proofs.Distinct.{other_way}
use Rattle.std.proofs.lemmas.Option.{none-some}

-- ---- tests

-- a choice of which the test fails is its second side
skip : {X : Type 0} (t : Bool) (x y : X) → t ≡ false → cond t x y ≡ y
skip true x y h = absurd (true≢false h)
skip false x y h = refl

-- so is one of which the first of two tests fails
skip_both : {X : Type 0} (s t : Bool) (x y : X) → s ≡ false → cond (s && t) x y ≡ y
skip_both true t x y h = absurd (true≢false h)
skip_both false t x y h = refl

-- ---- a file's attribute of which no row tells

-- the name is none of those of the rows
record IsUnlisted (name : List ℕ) : Type 0 where
  recurse : bytes_eq name (codes "recurse") ≡ false
  purge : bytes_eq name (codes "purge") ≡ false
  force : bytes_eq name (codes "force") ≡ false
  replace : bytes_eq name (codes "replace") ≡ false
  ignore : bytes_eq name (codes "ignore") ≡ false
  checksum : bytes_eq name (codes "checksum_value") ≡ false
  selinux : bytes_eq name (codes "selinux_ignore_defaults") ≡ false
  ensure : bytes_eq name (codes "ensure") ≡ false
  source : bytes_eq name (codes "source") ≡ false
  target : bytes_eq name (codes "target") ≡ false

-- a name that is none of the rows differs from each
unlisted : (name : List ℕ) → is_one_of file_rows name ≡ false → IsUnlisted name
unlisted name h =
    let a = or_parts _ _ h in
    let b = or_parts _ _ a.1 in
    let c = or_parts _ _ b.1 in
    let d = or_parts _ _ c.1 in
    let e = or_parts _ _ d.1 in
    let f = or_parts _ _ e.1 in
    let g = or_parts _ _ f.1 in
    let i = or_parts _ _ g.1 in
    let j = or_parts _ _ i.1 in
    let k = or_parts _ _ j.1 in
    record { recurse = a.0; purge = b.0; force = c.0; replace = d.0; ignore = e.0; checksum = f.0; selinux = g.0; ensure = i.0; source = j.0; target = k.0 }

-- it isn't left out of a file
not_left_out : (f : List Pair) (name : List ℕ) → IsUnlisted name → left_out_of_file f name ≡ false
not_left_out f name u =
    skip (bytes_eq name (codes "recurse")) (is_idle_recursion f) _ u.recurse
    ∙ (skip (bytes_eq name (codes "purge")) (is_idle_purge f) _ u.purge
    ∙ (skip (bytes_eq name (codes "force")) (is_idle_force f) _ u.force
    ∙ (skip (bytes_eq name (codes "replace")) (is_true (codes "replace") f) _ u.replace
    ∙ (skip (bytes_eq name (codes "ignore")) (not (gives (codes "recurse") f)) _ u.ignore
    ∙ ap₂ (λ a b. a || (b || false)) u.checksum u.selinux))))

-- and its value stays
same_value : (f : List Pair) (name : List ℕ) (x : Value) → IsUnlisted name → file_value f name x ≡ x
same_value f name x u =
    skip_both (bytes_eq name (codes "ensure")) (is_short_link f) _ _ u.ensure
    ∙ skip_both (bytes_eq name (codes "source")) (are_addresses x) _ x u.source

-- so a file has it as it is
file_stays : (f : List Pair) (name : List ℕ) (x : Value) → IsUnlisted name → typed_value (Some kind.File) f name x ≡ Some x
file_stays f name x u = skip (left_out_of_file f name) None (Some (file_value f name x)) (not_left_out f name u) ∙ ap (λ y. Some y) (same_value f name x u)

-- so has a resource of each type
stays_typed : (k : Option Kind) (f : List Pair) (name : List ℕ) (x : Value) → IsUnlisted name → typed_value k f name x ≡ Some x
stays_typed None f name x u = refl
stays_typed (Some kind.File) f name x u = file_stays f name x u
stays_typed (Some kind.Package) f name x u = refl
stays_typed (Some kind.User) f name x u = refl
stays_typed (Some kind.Group) f name x u = refl
stays_typed (Some kind.Service) f name x u = refl
stays_typed (Some kind.Cron) f name x u = refl
stays_typed (Some kind.Key) f name x u = refl

-- and a native one, where it is told and not left out of all types
stays_native : (k : Option Kind) (f : List Pair) (name : List ℕ) (x : Value) → IsUnlisted name → left_out_of_all name x ≡ false → has_opaque x ≡ false → native_value k f name x ≡ Some x
stays_native k f name x u kept told =
    skip (left_out_of_all name x) None _ kept ∙ (skip_both (has_opaque x) (not (has_to_be_known k name)) None _ told ∙ stays_typed k f name x u)

-- what is added to a file has another name
target_only : (t : Bool) (name : List ℕ) (o : Option Value) → bytes_eq (codes "target") name ≡ false → added_value name (cond t (option_map (λ x. (codes "target", x)) o) None) ≡ None
target_only true name None h = refl
target_only true name (Some x) h = ap (λ t. cond t (Some x) None) h
target_only false name o h = refl

-- nothing is added under such a name
nothing_added : (resources : List CompiledResource) (r : CompiledResource) (k : Option Kind) (name : List ℕ) → IsUnlisted name → added_value name (added_to resources r (reading.Native k)) ≡ None
nothing_added resources r None name u = refl
nothing_added resources r (Some kind.File) name u = target_only (is_short_link r.parameters) name (value_at (codes "ensure") r.parameters) (other_way name (codes "target") u.target)
nothing_added resources r (Some kind.Package) name u = refl
nothing_added resources r (Some kind.User) name u = refl
nothing_added resources r (Some kind.Group) name u = refl
nothing_added resources r (Some kind.Service) name u = refl
nothing_added resources r (Some kind.Cron) name u = refl
nothing_added resources r (Some kind.Key) name u = refl

-- ---- as what it is read

-- a resource that is itself is read as a native one
read_natively : (r : CompiledResource) → IsItself r → reading_of r ≡ reading.Native (kind_of r.id.kind)
read_natively r h =
    skip r.is_container reading.Container (cond (is_concat_file r) reading.Concat (reading.Native (kind_of r.id.kind))) h.native
    ∙ skip (is_concat_file r) reading.Concat (reading.Native (kind_of r.id.kind)) h.whole

-- the attribute of a name, where the resource is read so
abbrev ReadSo : List CompiledResource → CompiledResource → List ℕ → Reading → Option Value
ReadSo resources r name how = option_or (added_value name (added_to resources r how)) (option_and_then (value_read how r.parameters name) (value_at name r.parameters))

-- an attribute of which no row tells stays as it is
pub stays : (resources : List CompiledResource) (r : CompiledResource) → IsItself r → HasDistinctKeys r.parameters → (name : List ℕ) (x : Value) → IsPlain r name x → value_at name (attributes_of resources r) ≡ Some x
stays resources r itself distinct name x plain =
    let k = kind_of r.id.kind in
    let u = unlisted name plain.unlisted in
    each resources r distinct name
    ∙ (ap (λ how. ReadSo resources r name how) (read_natively r itself)
    ∙ (ap₂ (λ o y. option_or o (option_and_then (native_value k r.parameters name) y)) (nothing_added resources r k name u) plain.stands
    ∙ stays_native k r.parameters name x u plain.kept plain.told))

-- ---- what can't be told

-- an opaque value that is kept has to be known
told_at : (left o m : Bool) (y x : Value) → (y ≡ x → o ≡ true) → cond left None (cond (o && not (m || false)) None (Some y)) ≡ Some x → m ≡ true
told_at true o m y x h is = absurd (none-some x is)
told_at false true true y x h is = refl
told_at false true false y x h is = absurd (none-some x is)
told_at false false m y x h is = let same : y ≡ x = cc in absurd (true≢false (sym (h same)))

-- of a type without a model it is that of a relation
told_in : (v : Option Value) (ps : List Pair) (name : List ℕ) (x : Value) → has_opaque x ≡ true → option_and_then (native_value None ps name) v ≡ Some x → is_metaparameter name ≡ true
told_in None ps name x h is = absurd (none-some x is)
told_in (Some y) ps name x h is = told_at (left_out_of_all name y) (has_opaque y) (is_metaparameter name) y x (λ same. ap has_opaque same ∙ h) is

-- a resource without a model has opaque values in its relations alone
pub only_relations : (resources : List CompiledResource) (r : CompiledResource) → IsItself r → kind_of r.id.kind ≡ None → HasDistinctKeys r.parameters → (name : List ℕ) (x : Value)
    → value_at name (attributes_of resources r) ≡ Some x → has_opaque x ≡ true → is_metaparameter name ≡ true
only_relations resources r itself unmodelled distinct name x is h =
    let read : ReadSo resources r name (reading.Native None) ≡ Some x =
    sym (ap (λ how. ReadSo resources r name how) (read_natively r itself ∙ ap (λ k. reading.Native k) unmodelled)) ∙ (sym (each resources r distinct name) ∙ is) in
    told_in (value_at name r.parameters) r.parameters name x h read
