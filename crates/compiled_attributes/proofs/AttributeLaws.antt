-- Each attribute by its name.
use Rattle.std.proofs.Common.{◌≡◌, ℕ, Bool, true, false, true≢false, cond, List, [], ◌∷◌, Option, Some, None, refl, ap, sym, ◌∙◌, subst}
use Rattle.std.specs.Prelude.{option_and_then}
use Rattle.std.specs.declared.cmp.Ordering.{Ordering}
use Rattle.std.specs.declared.cmp.Ordering.TheVariants.{Less, Equal, Greater}
use Rattle.std.specs.Ordering.{match_ordering, is_eq}
use Rattle.std.specs.BTreeMap.{insert_entry}
use Rattle.std.specs.Option.{option_or}
use Rattle.std.specs.Str.{bytes_eq}
use Rattle.std.proofs.lemmas.Map.Text.{is_eq-slice_cmp}
use Rattle.std.proofs.lemmas.Slice.Eq.{bytes_eq-Decides}
use Rattle.pp_value.specs.declared.value.Value.{Value}
use Rattle.pp_value.specs.Values.{Pair, value_at, HasDistinctKeys}
use Rattle.compiled_text.specs.declared.catalog.CompiledResource.{CompiledResource}
use Rattle.compiled_attributes.specs.Attributes.{byte_cmp, reading_of, value_read, added_to, with_attribute, with_all, with_added, attributes_of, added_value, attribute_of}
use Rattle.pp_value.proofs.Distinct.{same_key}

-- and equal names are told to be
pub is_same : (a b : List ℕ) → a ≡ b → bytes_eq a b ≡ true
is_same a b h = (bytes_eq-Decides a b).1 h

-- ---- one more attribute

-- of two values of one name the first counts
twice : (s : Bool) (x y : Value) (rest : Option Value) → cond s (Some x) rest ≡ cond s (Some x) (cond s (Some y) rest)
twice true x y rest = refl
twice false x y rest = refl

-- values of two names are found alike in either order
apart : (s u : Bool) (x y : Value) (rest : Option Value) → (s ≡ true → u ≡ true → ⊥) → cond s (Some y) (cond u (Some x) rest) ≡ cond u (Some x) (cond s (Some y) rest)
apart true true x y rest h = absurd (h refl refl)
apart true false x y rest h = refl
apart false true x y rest h = refl
apart false false x y rest h = refl

-- an attribute that is put in order is found, and others as before, where it is so further on
got_at : (o : Ordering) (k : List ℕ) (v : Value) (e : Pair) (es : List Pair) (name : List ℕ) → byte_cmp k e.0 ≡ o
    → value_at name (insert_entry byte_cmp es k v) ≡ cond (bytes_eq k name) (Some v) (value_at name es)
    → value_at name (match_ordering o ((k, v) ∷ e ∷ es) ((e.0, v) ∷ es) (e ∷ insert_entry byte_cmp es k v)) ≡ cond (bytes_eq k name) (Some v) (value_at name (e ∷ es))
got_at Less k v e es name h later = refl
got_at Equal k v e es name h later =
    let key : k ≡ e.0 = same_key k e.0 (sym (is_eq-slice_cmp k e.0) ∙ ap is_eq h) in
    twice (bytes_eq e.0 name) v e.1 (value_at name es) ∙ ap (λ y. cond (bytes_eq y name) (Some v) (value_at name (e ∷ es))) (sym key)
got_at Greater k v e es name h later =
    ap (λ r. cond (bytes_eq e.0 name) (Some e.1) r) later
    ∙ apart (bytes_eq e.0 name) (bytes_eq k name) v e.1 (value_at name es)
    (λ first second. true≢false (sym (is_same k e.0 (same_key k name second ∙ sym (same_key e.0 name first))) ∙ (sym (is_eq-slice_cmp k e.0) ∙ ap is_eq h)))

-- an attribute that is put in order is found, and others as before
got : (k : List ℕ) (v : Value) (es : List Pair) (name : List ℕ) → value_at name (insert_entry byte_cmp es k v) ≡ cond (bytes_eq k name) (Some v) (value_at name es)
got k v [] name = refl
got k v (e ∷ es) name = got_at (byte_cmp k e.0) k v e es name refl (got k v es name)

-- ---- all of the text

-- nothing behind something changes it
or_none : (o : Option Value) → option_or o None ≡ o
or_none None = refl
or_none (Some x) = refl

-- the attribute of the name itself, which none behind it has
named : (o : Option Value) (k : List ℕ) (es : List Pair) → value_at k (with_attribute es k o) ≡ option_or o (value_at k es)
named None k es = refl
named (Some x) k es = got k x es k ∙ ap (λ t. cond t (Some x) (value_at k es)) (is_same k k refl)

-- an attribute of another name
unnamed : (o : Option Value) (k : List ℕ) (es : List Pair) (name : List ℕ) → bytes_eq k name ≡ false → value_at name (with_attribute es k o) ≡ value_at name es
unnamed None k es name h = refl
unnamed (Some x) k es name h = got k x es name ∙ ap (λ t. cond t (Some x) (value_at name es)) h

-- what becomes of an attribute
abbrev Becomes : Type 0
Becomes = List ℕ → Value → Option Value

-- what becomes of the first attribute is found under its name, and others as before
read_at : (t : Bool) (becomes : Becomes) (p : Pair) (ps es : List Pair) (name : List ℕ) → bytes_eq p.0 name ≡ t → value_at p.0 ps ≡ None
    → option_or (option_and_then (becomes name) (value_at name ps)) (value_at name (with_attribute es p.0 (becomes p.0 p.1)))
    ≡ option_or (option_and_then (becomes name) (cond t (Some p.1) (value_at name ps))) (value_at name es)
read_at true becomes p ps es name h free =
    let key : p.0 ≡ name = same_key p.0 name h in
    subst (λ k. option_or (option_and_then (becomes k) (value_at k ps)) (value_at k (with_attribute es p.0 (becomes p.0 p.1))) ≡ option_or (becomes k p.1) (value_at k es)) key
    (ap (λ r. option_or (option_and_then (becomes p.0) r) (value_at p.0 (with_attribute es p.0 (becomes p.0 p.1)))) free ∙ named (becomes p.0 p.1) p.0 es)
read_at false becomes p ps es name h free =
    ap (λ r. option_or (option_and_then (becomes name) (value_at name ps)) r) (unnamed (becomes p.0 p.1) p.0 es name h)

-- what becomes of each attribute is found under its name
all_read : (becomes : Becomes) (ps es : List Pair) (name : List ℕ) → HasDistinctKeys ps
    → value_at name (with_all becomes es ps) ≡ option_or (option_and_then (becomes name) (value_at name ps)) (value_at name es)
all_read becomes [] es name h = refl
all_read becomes (p ∷ ps) es name h =
    all_read becomes ps (with_attribute es p.0 (becomes p.0 p.1)) name h.1 ∙ read_at (bytes_eq p.0 name) becomes p ps es name refl h.0

-- ---- and what is added

-- an attribute that is added is found under its name
one_added : (o : Option Pair) (es : List Pair) (name : List ℕ) → value_at name (with_added es o) ≡ option_or (added_value name o) (value_at name es)
one_added None es name = refl
one_added (Some p) es name = got p.0 p.1 es name ∙ at (bytes_eq p.0 name)
  where
    at : (t : Bool) → cond t (Some p.1) (value_at name es) ≡ option_or (cond t (Some p.1) None) (value_at name es)
    at true = refl
    at false = refl

-- each attribute of a resource is what it is by its name
pub each : (resources : List CompiledResource) (r : CompiledResource) → HasDistinctKeys r.parameters → (name : List ℕ) → value_at name (attributes_of resources r) ≡ attribute_of resources r name
each resources r h name =
    let becomes = value_read (reading_of r) r.parameters in
    one_added (added_to resources r (reading_of r)) (with_all becomes [] r.parameters) name
    ∙ ap (λ o. option_or (added_value name (added_to resources r (reading_of r))) o) (all_read becomes r.parameters [] name h ∙ or_none (option_and_then (becomes name) (value_at name r.parameters)))
