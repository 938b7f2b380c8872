-- Automatic edges to what is named, and their bounds.
use Rattle.std.proofs.Common.{◌≡◌, ◌≢◌, ℕ, List, [], ◌∷◌, ◌++◌, length, Bool, true, false, cond, ◌&&◌, ◌||◌, Option, Some, None, refl, sym, ap, ◌∙◌, eqb-true, eq-eqb, leb-true, le-leb, option_and_then, option_map, slice_index_or}
use Rattle.std.specs.Prelude.{slice_get, is_some, not, ◌==◌, nat_le}
use Rattle.std.proofs.Math.Dec.{eqb-suc-zero}
use Rattle.std.specs.Option.{option_to_list}
use Rattle.std.specs.List.{Contains, All, AllByRecursion, flat_map, list_any}
use Rattle.std.proofs.lemmas.List.Elements.{All-contains, Contains-get_or}
use Rattle.rh_base.specs.declared.limits.TheConstants.{NAME_BYTES}
use Rattle.fs_lang.specs.Names.{IsName}
use Rattle.pp_value.specs.declared.value.Value.{Value}
use Rattle.pp_eval.specs.Evaluation.{text_of, texts_of}
use Rattle.catalog_semantics.specs.declared.catalog.Resource.{Resource}
use Rattle.catalog_semantics.specs.Catalogs.{Catalog}
use Rattle.graph_semantics.specs.Automatic.{list_or_none, named_by}
use Rattle.dep_graph.specs.Named.{is_proper, has_name, named_among, named_targets, member_text, targets_by_names}
use Rattle.graph_semantics.proofs.Elements.{none_in, in_flat_map, in_filter}
use Rattle.graph_semantics.proofs.Basics.{no_way}
use Rattle.std.proofs.lemmas.Bool.{and_parts, not-true, and_from}

-- ---- proper names

-- a name in which no zero is found has none
no_zeros : (name : List ℕ) → list_any (λ b. b == 0) name ≡ false → AllByRecursion (λ b. b ≢ 0) name
no_zeros [] h = tt
no_zeros (b ∷ name) h = step (b == 0) refl h (no_zeros name) where
  step : (t : Bool) → b == 0 ≡ t → (t || list_any (λ b. b == 0) name) ≡ false → (list_any (λ b. b == 0) name ≡ false → AllByRecursion (λ b. b ≢ 0) name) → (b ≢ 0) × AllByRecursion (λ b. b ≢ 0) name
  step true is h f = absurd (no_way (sym h))
  step false is h f = (λ e. no_way (sym is ∙ eq-eqb b 0 e), f h)

-- and in one that has none, none is found
zeros_no : (name : List ℕ) → AllByRecursion (λ b. b ≢ 0) name → list_any (λ b. b == 0) name ≡ false
zeros_no [] h = refl
zeros_no (b ∷ name) h = step (b == 0) refl (zeros_no name h.1) where
  step : (t : Bool) → b == 0 ≡ t → list_any (λ b. b == 0) name ≡ false → (t || list_any (λ b. b == 0) name) ≡ false
  step true is k = absurd (h.0 (eqb-true b 0 is))
  step false is k = k

-- a name that isn't empty hasn't length 0
length_zero : (name : List ℕ) → name ≢ [] → length name == 0 ≡ false
length_zero [] h = absurd (h refl)
length_zero (b ∷ name) h = eqb-suc-zero (length name)

-- a text that is told to be a proper name is
pub proper_name : (name : List ℕ) → is_proper name ≡ true → IsName name
proper_name name h =
    let outer = and_parts (not (length name == 0) && nat_le (length name) NAME_BYTES) (not (list_any (λ b. b == 0) name)) h in
    let inner = and_parts (not (length name == 0)) (nat_le (length name) NAME_BYTES) outer.0 in
    record {
      nonempty = λ e. no_way (sym (not-true (length name == 0) inner.0) ∙ ap (λ (n : List ℕ). length n == 0) e);
      bytes = leb-true (length name) NAME_BYTES inner.1;
      no_zero = no_zeros name (not-true (list_any (λ b. b == 0) name) outer.1);
    }

-- and a proper name is told to be
pub name_proper : (name : List ℕ) → IsName name → is_proper name ≡ true
name_proper name h =
    and_from (not (length name == 0) && nat_le (length name) NAME_BYTES) (not (list_any (λ b. b == 0) name))
    (and_from (not (length name == 0)) (nat_le (length name) NAME_BYTES) (ap not (length_zero name h.nonempty)) (le-leb (length name) NAME_BYTES h.bytes))
    (ap not (zeros_no name h.no_zero))

-- a test of a proper name is true
pub named_told : (name : List ℕ) → IsName name → true ≡ is_proper name
named_told name h = sym (name_proper name h)

-- and of another is false
pub unnamed_told : (name : List ℕ) → (IsName name → ⊥) → false ≡ is_proper name
unnamed_told name h = decided (is_proper name) refl where
  decided : (b : Bool) → is_proper name ≡ b → false ≡ is_proper name
  decided true is = absurd (h (proper_name name is))
  decided false is = sym is

-- ---- members of a list of texts

-- where all members are texts, the first and the others are those that are found
texts_step : (x : Value) (t : Option (List ℕ)) (more : Option (List (List ℕ))) (rest : List (List ℕ)) → text_of x ≡ t → is_some (option_and_then (λ text. option_map (λ texts. text ∷ texts) more) t) ≡ true
    → (is_some more ≡ true → rest ≡ list_or_none more) → option_to_list t ++ rest ≡ list_or_none (option_and_then (λ text. option_map (λ texts. text ∷ texts) more) t)
texts_step x None more rest is h f = absurd (no_way h)
texts_step x (Some text) None rest is h f = absurd (no_way h)
texts_step x (Some text) (Some texts) rest is h f = ap (λ r. text ∷ r) (f refl)

-- where all are texts, they are the texts of the members
pub all_texts : (items : List Value) → is_some (texts_of items) ≡ true → flat_map member_text items ≡ list_or_none (texts_of items)
all_texts [] h = refl
all_texts (x ∷ items) h = texts_step x (text_of x) (texts_of items) (flat_map member_text items) refl h (all_texts items)

-- where one isn't a text, none are found
pub no_texts : (items : List Value) → is_some (texts_of items) ≡ false → list_or_none (texts_of items) ≡ []
no_texts items h = step (texts_of items) h where
  step : (o : Option (List (List ℕ))) → is_some o ≡ false → list_or_none o ≡ []
  step None e = refl
  step (Some texts) e = absurd (no_way (sym e))

-- ---- bounds

-- what holds of each that stands in a list holds of all
pub all_from : {X : Type 0} (P : X → Type 0) (xs : List X) → ((x : X) → Contains xs x → P x) → All P xs
all_from P xs f k d h = f (slice_index_or xs k d) (Contains-get_or xs k d h)

-- a target that is named is a plain resource
pub named_within : (c : Catalog) (plain : List ℕ) (who : List ℕ × List ℕ) (k : ℕ) → Contains (named_targets c plain who) k → Contains plain k
named_within c plain who k h = step (is_proper who.1) h where
  step : (t : Bool) → Contains (cond t (named_among c who.0 who.1 plain) []) k → Contains plain k
  step true h = (in_filter (λ place. has_name who.0 who.1 (slice_get c.resources place)) plain k h).0
  step false h = absurd (none_in k h)

-- so is each target that a resource names
pub targets_within : (c : Catalog) (plain : List ℕ) (r : Resource) (k : ℕ) → Contains (targets_by_names c plain r) k → Contains plain k
targets_within c plain r k h = let at = in_flat_map (named_targets c plain) (named_by r) k h in named_within c plain at.0 k at.2

-- what holds of all plain resources holds of the targets
pub targets_bounded : (P : ℕ → Type 0) (c : Catalog) (plain : List ℕ) (r : Resource) → All P plain → All P (targets_by_names c plain r)
targets_bounded P c plain r h = all_from P (targets_by_names c plain r) (λ k m. All-contains P plain k h (targets_within c plain r k m))
