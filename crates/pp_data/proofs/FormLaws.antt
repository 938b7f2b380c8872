-- The levels that are read are those of the form, both ways.
use Rattle.std.proofs.Common.{◌≡◌, ◌⊎◌, inl, inr, ℕ, Bool, true, false, cond, ◌||◌, ◌&&◌, ◌+◌, ◌<◌, List, [], ◌∷◌, ◌++◌, length, drop, get_or, append_assoc, add-one, Option, Some, None, option_map, IsUtf8, codes, bytes_eq, refl, ap, sym, ◌∙◌, subst}
use Rattle.std.specs.Option.{option_and_then}
use Rattle.std.proofs.lemmas.Slice.Eq.{bytes_eq-Decides}
use Rattle.serde_json.specs.Data.{Data, null, boolean, number, string, array, object, Items, no_items, item, Members, no_members, member}
use Rattle.serde_json.specs.View.{view, items_view}
use Rattle.serde_json.specs.declared.value.Value as json
use Rattle.std.proofs.Math.Seq.{drop-cons}
use Rattle.serde_json.specs.Find.{get, get_member, as_object, as_array}
use Rattle.serde_json.specs.Read.{read}
use Rattle.rh_base.specs.Refused.{IfRefused, IsRefusal}
use Rattle.rh_base.specs.declared.fault.Fault.{Fault}
use Rattle.rh_base.specs.declared.fault.Fault.TheVariants.{Refused, Memory}
use Rattle.pp_value.specs.Values.{Pair}
use Rattle.pp_eval.specs.Facts.{pairs_of}
use Rattle.pp_data.specs.declared.data.Level.{Level}
use Rattle.pp_data.specs.Form.{HasOnly, ArePairs, IsWhen, IsKeyOfLevel, IsLevel, AreLevels, IsData, AreData}
use Rattle.pp_data.specs.Reading.{has_only, pairs_in, when_in, level_of, level_with, level_among, level_in, level_before, levels_in, levels_among, data_in}
use Rattle.std.proofs.lemmas.Bool.{and_parts}
use Rattle.rh_base.proofs.Options.{if_some}
use Rattle.std.proofs.lemmas.Option.{none-some}

-- ---- steps of reading

-- the first found something, and the second made this of it
abbrev Step : {X Y : Type 0} → (X → Option Y) → Option X → Y → Type 0
Step {X} f o y = (x : X) × (o ≡ Some x) × (f x ≡ Some y)

-- two steps that find something are such
step : {X Y : Type 0} (f : X → Option Y) (o : Option X) (y : Y) → option_and_then f o ≡ Some y → Step f o y
step f None y h = absurd (none-some y h)
step f (Some x) y h = (x, refl, h)

-- something is there, and this is its image
abbrev Mapped : {X Y : Type 0} → (X → Y) → Option X → Y → Type 0
Mapped {X} f o y = (x : X) × (o ≡ Some x) × (f x ≡ y)

-- an image that is there is one of something
mapped : {X Y : Type 0} (f : X → Y) (o : Option X) (y : Y) → option_map f o ≡ Some y → Mapped f o y
mapped f None y h = absurd (none-some y h)
mapped f (Some x) y h = let same : f x ≡ y = cc in (x, refl, same)

-- ---- objects and arrays

-- what is read as an object is one
object_is : (d : Data) (members : Members) → as_object d ≡ Some members → d ≡ object members
object_is null members h = absurd (none-some members h)
object_is (boolean b) members h = absurd (none-some members h)
object_is (number n) members h = absurd (none-some members h)
object_is (string s) members h = absurd (none-some members h)
object_is (array items) members h = absurd (none-some members h)
object_is (object found) members h = let same : found ≡ members = cc in ap object same

-- what is read as an array is one
array_is : (d : Data) (items : Items) → as_array d ≡ Some items → d ≡ array items
array_is null items h = absurd (none-some items h)
array_is (boolean b) items h = absurd (none-some items h)
array_is (number n) items h = absurd (none-some items h)
array_is (string s) items h = absurd (none-some items h)
array_is (array found) items h = let same : found ≡ items = cc in ap array same
array_is (object found) items h = absurd (none-some items h)

-- a member of an object, as it is got from the value
pub got : (key : List ℕ) (d : Data) (members : Members) → as_object d ≡ Some members → get key d ≡ get_member key members
got key d members h = ap (get key) (object_is d members h)

-- ---- keys

-- a key that is told to be one of two is
one_of : (key a b : List ℕ) → (bytes_eq key a || bytes_eq key b) ≡ true → (key ≡ a) ⊎ (key ≡ b)
one_of key a b h = at (bytes_eq key a) refl h
  where
    at : (t : Bool) → bytes_eq key a ≡ t → (t || bytes_eq key b) ≡ true → (key ≡ a) ⊎ (key ≡ b)
    at true e h = inl ((bytes_eq-Decides key a).0 e)
    at false e h = inr ((bytes_eq-Decides key b).0 h)

-- and one that is one of two is told to be
is_one : (key a b : List ℕ) → (key ≡ a) ⊎ (key ≡ b) → (bytes_eq key a || bytes_eq key b) ≡ true
is_one key a b (inl e) = ap (λ t. t || bytes_eq key b) ((bytes_eq-Decides key a).1 e)
is_one key a b (inr e) = at (bytes_eq key a) ((bytes_eq-Decides key b).1 e)
  where
    at : (t : Bool) → bytes_eq key b ≡ true → (t || bytes_eq key b) ≡ true
    at true h = refl
    at false h = h

-- an object that is told to have no other keys has none
only : (a b : List ℕ) (IsKey : List ℕ → Type 0) → ((key : List ℕ) → (key ≡ a) ⊎ (key ≡ b) → IsKey key) → (members : Members) → has_only a b members ≡ true → HasOnly IsKey members
only a b IsKey is no_members h = tt
only a b IsKey is (member key d members) h =
    let parts = and_parts (bytes_eq key a || bytes_eq key b) (has_only a b members) h in
    (is key (one_of key a b parts.0), only a b IsKey is members parts.1)

-- and one that has none is told so
only_back : (a b : List ℕ) (IsKey : List ℕ → Type 0) → ((key : List ℕ) → IsKey key → (key ≡ a) ⊎ (key ≡ b)) → (members : Members) → HasOnly IsKey members → has_only a b members ≡ true
only_back a b IsKey is no_members h = refl
only_back a b IsKey is (member key d members) h =
    ap (λ t. t && has_only a b members) (is_one key a b (is key h.0)) ∙ only_back a b IsKey is members h.1

-- ---- pairs

-- what is read as pairs is the pairs of an object
pairs_are : (d : Data) (pairs : List Pair) → pairs_in d ≡ Some pairs → ArePairs pairs d
pairs_are d pairs h = let m = mapped pairs_of (as_object d) pairs h in record { members = m.0; is_object = object_is d m.0 m.1; are = sym m.2 }

-- and the pairs of an object are read
pairs_back : (d : Data) (pairs : List Pair) → ArePairs pairs d → pairs_in d ≡ Some pairs
pairs_back d pairs a = ap pairs_in a.is_object ∙ ap Some (sym a.are)

-- what is read as `when`, or its lack, is what a level asks for
when_is : (o : Option Data) (pairs : List Pair) → when_in o ≡ Some pairs → IsWhen pairs o
when_is None pairs h = cc
when_is (Some d) pairs h = pairs_are d pairs h

-- and what a level asks for is read
when_back : (o : Option Data) (pairs : List Pair) → IsWhen pairs o → when_in o ≡ Some pairs
when_back None pairs h = ap Some (sym h)
when_back (Some d) pairs h = pairs_back d pairs h

-- ---- levels

-- what is read as a level has its form
level_is : (d : Data) (level : Level) → level_in d ≡ Some level → IsLevel level d
level_is d level h =
    let object_step = step level_among (as_object d) level h in
    let members = object_step.0 in
    let keys = if_some (has_only (codes "when") (codes "values") members) _ level object_step.2 in
    let values_step = step (level_with (when_in (get_member (codes "when") members))) (option_and_then pairs_in (get_member (codes "values") members)) level keys.1 in
    let given_step = step pairs_in (get_member (codes "values") members) values_step.0 values_step.1 in
    let when_step = mapped (λ w. level_of w values_step.0) (when_in (get_member (codes "when") members)) level values_step.2 in
    record {
      members = members;
      is_object = object_is d members object_step.1;
      only = only (codes "when") (codes "values") IsKeyOfLevel (λ key k. k) members keys.0;
      when = when_is (get_member (codes "when") members) level.when (when_step.1 ∙ ap (λ l. Some l.when) when_step.2);
      given = given_step.0;
      stands = given_step.1;
      values = pairs_are given_step.0 level.values (given_step.2 ∙ ap (λ l. Some l.values) when_step.2);
    }

-- and what has the form is read
level_back : (d : Data) (level : Level) → IsLevel level d → level_in d ≡ Some level
level_back d level l =
    let keys = only_back (codes "when") (codes "values") IsKeyOfLevel (λ key k. k) l.members l.only in
    let when = when_back (get_member (codes "when") l.members) level.when l.when in
    let values : option_and_then pairs_in (get_member (codes "values") l.members) ≡ Some level.values = ap (option_and_then pairs_in) l.stands ∙ pairs_back l.given level.values l.values in
    ap level_in l.is_object
    ∙ (ap (λ t. cond t (option_and_then (level_with (when_in (get_member (codes "when") l.members))) (option_and_then pairs_in (get_member (codes "values") l.members))) None) keys
    ∙ (ap (option_and_then (level_with (when_in (get_member (codes "when") l.members)))) values
    ∙ ap (λ w. level_with w level.values) when))

-- what is read as levels is an array of them
levels_are : (items : Items) (levels : List Level) → levels_in items ≡ Some levels → AreLevels levels items
levels_are no_items levels h = let same : [] ≡ levels = cc in subst (λ ls. AreLevels ls no_items) same tt
levels_are (item d items) levels h =
    let first = step (level_before (levels_in items)) (level_in d) levels h in
    let rest = mapped (λ more. first.0 ∷ more) (levels_in items) levels first.2 in
    subst (λ ls. AreLevels ls (item d items)) rest.2 (level_is d first.0 first.1, levels_are items rest.0 rest.1)

-- and an array of them is read
levels_back : (items : Items) (levels : List Level) → AreLevels levels items → levels_in items ≡ Some levels
levels_back no_items [] h = refl
levels_back no_items (level ∷ levels) h = absurd h
levels_back (item d items) [] h = absurd h
levels_back (item d items) (level ∷ levels) h =
    ap (option_and_then (level_before (levels_in items))) (level_back d level h.0) ∙ ap (λ o. level_before o level) (levels_back items levels h.1)

-- ---- data

-- what is read as class data has its form
data_is : (d : Data) (levels : List Level) → data_in d ≡ Some levels → IsData levels d
data_is d levels h =
    let object_step = step levels_among (as_object d) levels h in
    let members = object_step.0 in
    let keys = if_some (has_only (codes "levels") (codes "levels") members) _ levels object_step.2 in
    let items_step = step levels_in (option_and_then as_array (get_member (codes "levels") members)) levels keys.1 in
    let array_step = step as_array (get_member (codes "levels") members) items_step.0 items_step.1 in
    record {
      members = members;
      is_object = object_is d members object_step.1;
      only = only (codes "levels") (codes "levels") (λ key. key ≡ codes "levels") (λ key k. same key k) members keys.0;
      items = items_step.0;
      stands = array_step.1 ∙ ap Some (array_is array_step.0 items_step.0 array_step.2);
      are = levels_are items_step.0 levels items_step.2;
    }
  where
    same : (key : List ℕ) → (key ≡ codes "levels") ⊎ (key ≡ codes "levels") → key ≡ codes "levels"
    same key (inl e) = e
    same key (inr e) = e

-- and what has the form is read
data_back : (d : Data) (levels : List Level) → IsData levels d → data_in d ≡ Some levels
data_back d levels s =
    let keys = only_back (codes "levels") (codes "levels") (λ key. key ≡ codes "levels") (λ key k. inl k) s.members s.only in
    ap data_in s.is_object
    ∙ (ap (λ t. cond t (option_and_then levels_in (option_and_then as_array (get_member (codes "levels") s.members))) None) keys
    ∙ (ap (λ o. option_and_then levels_in (option_and_then as_array o)) s.stands ∙ levels_back s.items levels s.are))

-- JSON that is read as class data is such
pub read_data : (bytes : List ℕ) (json : Data) (levels : List Level) → IsUtf8 bytes → read bytes ≡ Some json → data_in json ≡ Some levels → AreData bytes levels
read_data bytes json levels text is h = record { text = text; json = json; is_read = is; is_data = data_is json levels h }

-- class data is what its JSON is read as
same_json : (bytes : List ℕ) (json : Data) (levels : List Level) → read bytes ≡ Some json → AreData bytes levels → data_in json ≡ Some levels
same_json bytes json levels is a = let same : json ≡ a.json = at json a.json (sym is ∙ a.is_read) in ap data_in same ∙ data_back a.json levels a.is_data
  where
    at : (x y : Data) → Some x ≡ Some y → x ≡ y
    at x y h = cc

-- JSON that isn't read as class data is none
pub not_data : (bytes : List ℕ) (json : Data) → read bytes ≡ Some json → data_in json ≡ None → (levels : List Level) → AreData bytes levels → ⊥
not_data bytes json is none levels a = none-some levels (sym none ∙ same_json bytes json levels is a)

-- the refusal of code 64 comes where the bytes are no class data
pub refused_with : (bytes : List ℕ) (json : Data) (f : Fault) → read bytes ≡ Some json → data_in json ≡ None → IfRefused f (IsRefusal 64 0 (codes "data"))
    → IfRefused f (λ r. IsRefusal 64 0 (codes "data") r × ((levels : List Level) → AreData bytes levels → ⊥))
refused_with bytes json (Refused r) is none h = (h, not_data bytes json is none)
refused_with bytes json (Memory m) is none h = tt

-- bytes are class data in one way at most
pub one_data : (bytes : List ℕ) (a b : List Level) → AreData bytes a → AreData bytes b → a ≡ b
one_data bytes a b x y = at a b (sym (data_back x.json a x.is_data) ∙ same_json bytes x.json b x.is_read y)
  where
    at : (x y : List Level) → Some x ≡ Some y → x ≡ y
    at x y h = cc

-- one more level that is read
pub next_level : (levels new : List Level) (d : Data) (rest : Items) (level : Level) (whole : Option (List Level)) → new ≡ levels ++ level ∷ [] → level_in d ≡ Some level
    → option_map (λ more. levels ++ more) (levels_in (item d rest)) ≡ whole → option_map (λ more. new ++ more) (levels_in rest) ≡ whole
next_level levels new d rest level whole pushed is before =
    by_rest (levels_in rest) ∙ (ap (λ o. option_map (λ more. levels ++ more) (option_and_then (level_before (levels_in rest)) o)) (sym is) ∙ before)
  where
    by_rest : (o : Option (List Level)) → option_map (λ more. new ++ more) o ≡ option_map (λ more. levels ++ more) (level_before o level)
    by_rest None = refl
    by_rest (Some more) = ap (λ (ls : List Level). Some (ls ++ more)) pushed ∙ ap (λ (ls : List Level). Some ls) (append_assoc levels (level ∷ []) more)

-- the items from a place on
pub items_from : (xs : List json.Value) (i : ℕ) (x : json.Value) → i < length xs → x ≡ get_or xs i x → items_view (drop i xs) ≡ item (view x) (items_view (drop (i + 1) xs))
items_from xs i x inside is = ap items_view (drop-cons xs i x inside ∙ (λ k. sym is k ∷ drop (sym (add-one i) k) xs))
