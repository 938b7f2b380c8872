-- No two real plain resources are shown alike: what is shown tells the type and the title.
use Rattle.std.proofs.Common.{◌≡◌, inl, inr, ℕ, zero, suc, ◌+◌, ◌<◌, ◌≤◌, Bool, true, false, cond, ◌&&◌, List, [], ◌∷◌, ◌++◌, length, Some, option_map, refl, sym, ap, subst, ◌∙◌, arith, if◌then◌else◌}
use Rattle.std.specs.Prelude.{codes, slice_get, slice_index, not, nat_lt, ◌==◌, IsAscii, encode_utf8_all}
use Rattle.std.specs.List.{AllByRecursion, list_any}
use Rattle.std.specs.Str.{bytes_eq}
use Rattle.std.specs.Char.{to_ascii_lowercase}
use Rattle.std.proofs.lemmas.Bool.{or_cases, ltb-true, and_parts}
use Rattle.std.proofs.lemmas.Str.{chars-IsAscii, encodes-IsAscii}
use Rattle.std.proofs.lemmas.Str.Ascii.{IsAscii-cons}
use Rattle.std.proofs.lemmas.Option.{slice_get-map, same_Some}
use Rattle.std.proofs.lemmas.List.Elements.{Contains-get_or}
use Rattle.std.proofs.lemmas.Slice.Eq.{bytes_eq-Decides}
use Rattle.pp_value.specs.declared.value.Ref.{Ref}
use Rattle.pp_value.specs.Texts.{with_capitals, capitalized}
use Rattle.pp_value.specs.Shown.{shown_ref}
use Rattle.catalog_semantics.specs.declared.catalog.Resource.{Resource}
use Rattle.catalog_semantics.specs.Sites.{built_in_types, is_built_in}
use Rattle.catalog_semantics.specs.Catalogs.{Catalog, is_plain_sort}
use Rattle.catalog_semantics.specs.Frames.{StandOnce, AreSound, IsSound}
use Rattle.catalog_semantics.specs.States.{references_of}
use Rattle.graph_semantics.specs.Automatic.{IsPlainAt}
use Rattle.graph_semantics.specs.Graphs.{plain_from, plain_places, reference_of}
use Rattle.graph_semantics.proofs.RealPlaces.{plain_at, stands}
use Rattle.allowed_order.specs.AllowedOrder.{AreToldApart}

-- ---- what a reference tells

-- what stands up to the bracket, in lower case
abbrev kind_in : List ℕ → List ℕ
kind_in [] = []
kind_in (b ∷ text) = if b == 91 then [] else to_ascii_lowercase b ∷ kind_in text

-- what stands behind it
abbrev behind : List ℕ → List ℕ
behind [] = []
behind (b ∷ text) = if b == 91 then text else behind text

-- all but the last
abbrev front : List ℕ → List ℕ
front [] = []
front (b ∷ []) = []
front (b ∷ d ∷ text) = b ∷ front (d ∷ text)

-- all but the last are what stands before it
front_is : (text : List ℕ) (b : ℕ) → front (text ++ b ∷ []) ≡ text
front_is [] b = refl
front_is (x ∷ []) b = refl
front_is (x ∷ y ∷ text) b = ap (λ t. x ∷ t) (front_is (y ∷ text) b)

-- of each reference that is shown, the type and what stands behind the bracket are told
abbrev IsTold : List ℕ → Type 0
IsTold kind = (text : List ℕ) → (kind_in (capitalized kind ++ (codes "[" ++ text)) ≡ kind) × (behind (capitalized kind ++ (codes "[" ++ text)) ≡ text)

-- each byte is ASCII
abbrev all_low : List ℕ → Bool
all_low [] = true
all_low (b ∷ bytes) = nat_lt b 128 && all_low bytes

-- a text that is told to be ASCII is
is_ascii : (bytes : List ℕ) → all_low bytes ≡ true → IsAscii bytes
is_ascii [] h = λ k. omega arith
is_ascii (b ∷ bytes) h = let parts = and_parts (nat_lt b 128) (all_low bytes) h in IsAscii-cons b bytes (ltb-true b 128 parts.0) (is_ascii bytes parts.1)

-- a type of ASCII letters is shown with its capital
told : (kind : List ℕ) → all_low kind ≡ true → all_low (with_capitals true kind) ≡ true
    → ((text : List ℕ) → (kind_in (with_capitals true kind ++ (codes "[" ++ text)) ≡ kind) × (behind (with_capitals true kind ++ (codes "[" ++ text)) ≡ text)) → IsTold kind
told kind h k each text =
    let shown : capitalized kind ≡ with_capitals true kind =
    ap (λ (letters : List ℕ). encode_utf8_all (with_capitals true letters)) (chars-IsAscii kind (is_ascii kind h)) ∙ encodes-IsAscii (with_capitals true kind) (is_ascii (with_capitals true kind) k) in
    subst (λ (letters : List ℕ). (kind_in (letters ++ (codes "[" ++ text)) ≡ kind) × (behind (letters ++ (codes "[" ++ text)) ≡ text)) (sym shown) (each text)

-- of a reference that is shown each built-in type is told
each_is_told : AllByRecursion IsTold built_in_types
each_is_told = (told (codes "exec") refl refl (λ text. (refl, refl)), (told (codes "file") refl refl (λ text. (refl, refl)), (told (codes "package") refl refl (λ text. (refl, refl)), (told (codes "user") refl refl (λ text. (refl, refl)), (told (codes "group") refl refl (λ text. (refl, refl)), (told (codes "service") refl refl (λ text. (refl, refl)), (told (codes "cron") refl refl (λ text. (refl, refl)), (told (codes "ssh_authorized_key") refl refl (λ text. (refl, refl)), tt))))))))

-- what holds of each of some types holds of what is among them
one_of : (P : List ℕ → Type 0) (kinds : List (List ℕ)) (kind : List ℕ) → AllByRecursion P kinds → list_any (bytes_eq kind) kinds ≡ true → P kind
one_of P [] kind h is = cc
one_of P (k ∷ kinds) kind h is = elim (or_cases (bytes_eq kind k) (list_any (bytes_eq kind) kinds) is) [
  | inl here ↦ subst P (sym ((bytes_eq-Decides kind k).0 here)) h.0
  | inr more ↦ one_of P kinds kind h.1 more
]

-- so it is of a type that is told to be built-in
is_told : (kind : List ℕ) → is_built_in kind ≡ true → IsTold kind
is_told kind h = one_of IsTold built_in_types kind each_is_told h

-- references to built-in types that are shown alike are one
same_reference : (r q : Ref) → is_built_in r.kind ≡ true → is_built_in q.kind ≡ true → shown_ref r ≡ shown_ref q → r ≡ q
same_reference r q h k same =
    let a = is_told r.kind h (r.title ++ codes "]") in
    let b = is_told q.kind k (q.title ++ codes "]") in
    let kinds : r.kind ≡ q.kind = sym a.0 ∙ (ap kind_in same ∙ b.0) in
    let ends : r.title ++ codes "]" ≡ q.title ++ codes "]" = sym a.1 ∙ (ap behind same ∙ b.1) in
    let titles : r.title ≡ q.title = sym (front_is r.title 93) ∙ (ap front ends ∙ front_is q.title 93) in
    λ i. record { kind = kinds i; title = titles i }

-- ---- the places of plain resources ascend

-- from n on
abbrev Ascends : ℕ → List ℕ → Type 0
Ascends n [] = Unit {0}
Ascends n (k ∷ places) = (n ≤ k) × Ascends (k + 1) places

-- what ascends from a number on does so from a lesser one
from_less : (n m : ℕ) (places : List ℕ) → n ≤ m → Ascends m places → Ascends n places
from_less n m [] h up = tt
from_less n m (k ∷ places) h up = (omega (arith, up.0), up.1)

-- the places of the plain resources ascend
ascending : (n : ℕ) (resources : List Resource) → Ascends n (plain_from n resources)
ascending n [] = tt
ascending n (r ∷ resources) = by (is_plain_sort r.sort && not r.is_virtual) (ascending (n + 1) resources)
  where
    by : (t : Bool) → Ascends (n + 1) (plain_from (n + 1) resources) → Ascends n (cond t (n ∷ plain_from (n + 1) resources) (plain_from (n + 1) resources))
    by true up = (omega arith, up)
    by false up = from_less n (n + 1) (plain_from (n + 1) resources) (omega arith) up

-- none of them is below the first
no_less : (n : ℕ) (places : List ℕ) (i : ℕ) → Ascends n places → i < length places → n ≤ slice_index places i
no_less n [] i up h = absurd (omega arith)
no_less n (k ∷ places) zero up h = up.0
no_less n (k ∷ places) (suc i) up h = let low = up.0 in let more = no_less (k + 1) places i up.1 (omega arith) in omega arith

-- a place stands among them once
one_position : (n : ℕ) (places : List ℕ) (i j : ℕ) → Ascends n places → i < length places → j < length places → slice_index places i ≡ slice_index places j → i ≡ j
one_position n [] i j up h k same = absurd (omega arith)
one_position n (p ∷ places) zero zero up h k same = refl
one_position n (p ∷ places) zero (suc j) up h k same = let more = no_less (p + 1) places j up.1 (omega arith) in absurd (omega (arith, same))
one_position n (p ∷ places) (suc i) zero up h k same = let more = no_less (p + 1) places i up.1 (omega arith) in absurd (omega (arith, same))
one_position n (p ∷ places) (suc i) (suc j) up h k same = ap suc (one_position (p + 1) places i j up.1 (omega arith) (omega arith) same)

-- ---- resources

-- a resource of sound ones is sound
sound_at : (resources : List Resource) (place : ℕ) (r : Resource) → AreSound resources → slice_get resources place ≡ Some r → IsSound r
sound_at [] place r h at = cc
sound_at (q ∷ resources) zero r h at = subst IsSound (same_Some q r at) h.0
sound_at (q ∷ resources) (suc place) r h at = sound_at resources place r h.1 at

-- where references stand once, each has one place
abbrev OnePlace : Type 0
OnePlace = (refs : List Ref) (i j : ℕ) (r : Ref) → StandOnce refs → slice_get refs i ≡ Some r → slice_get refs j ≡ Some r → i ≡ j

module _ (one : OnePlace) (c : Catalog) (sound : AreSound c.resources) (once : StandOnce (references_of c.resources)) where
  -- the reference of a resource stands at its place
  reference_there : (place : ℕ) (r : Resource) → slice_get c.resources place ≡ Some r → slice_get (references_of c.resources) place ≡ Some r.id
  reference_there place r at = slice_get-map (λ (q : Resource). q.id) c.resources place ∙ ap (option_map (λ (q : Resource). q.id)) at

  -- plain resources that are shown alike stand at one place
  same_place : (p q : ℕ) (r s : Resource) → IsPlainAt c p r → IsPlainAt c q s → reference_of (slice_get c.resources p) ≡ reference_of (slice_get c.resources q) → p ≡ q
  same_place p q r s a b same =
      let at_p = stands c p r a.real in
      let at_q = stands c q s b.real in
      let alike : shown_ref r.id ≡ shown_ref s.id = sym (ap reference_of at_p) ∙ (same ∙ ap reference_of at_q) in
      let refs : r.id ≡ s.id = same_reference r.id s.id ((sound_at c.resources p r sound at_p).1 a.plain) ((sound_at c.resources q s sound at_q).1 b.plain) alike in
      one (references_of c.resources) p q s.id once (reference_there p r at_p ∙ ap Some refs) (reference_there q s at_q)

  -- so no two are shown alike
  pub told_apart : AreToldApart c (plain_places c)
  told_apart i j h k same =
      let p = plain_at c (slice_index (plain_places c) i) (Contains-get_or (plain_places c) i 0 h) in
      let q = plain_at c (slice_index (plain_places c) j) (Contains-get_or (plain_places c) j 0 k) in
      one_position 0 (plain_places c) i j (ascending 0 c.resources) h k (same_place _ _ p.0 q.0 p.1 q.1 same)
