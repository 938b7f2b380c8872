-- What holds of the catalog of a compiled catalog: each reference stands once, and attributes are known.
use Rattle.std.proofs.Common.{◌≡◌, ◌≢◌, ℕ, Bool, true, false, true≢false, cond, ◌||◌, not, List, [], ◌∷◌, ◌++◌, length, map, Option, Some, None, is_eq, Less, codes, refl, ap, ap₂, sym, subst, ◌∙◌, append_assoc}
use Rattle.std.specs.Prelude.{Result, Ok, Err, is_none}
use Rattle.std.specs.List.{AllByRecursion}
use Rattle.std.specs.List.Sorted.{IsStrictlySortedBy}
use Rattle.std.specs.Map.{keys_of}
use Rattle.std.specs.Str.{bytes_eq}
use Rattle.std.proofs.lemmas.Map.Text.{is_eq-slice_cmp}
use Rattle.std.proofs.lemmas.Slice.Eq.{bytes_eq-Decides}
use Rattle.rh_base.specs.declared.fault.Refusal.{Refusal}
use Rattle.host_limits.specs.declared.limits.Limits.{Limits}
use Rattle.pp_value.specs.declared.value.Ref.{Ref}
use Rattle.pp_value.specs.declared.value.Value.{Value}
use Rattle.pp_value.specs.Values.{Pair, value_at, with_pair, HasDistinctKeys, same_ref, has_opaque}
use Rattle.pp_eval.specs.Evaluating.{◌>>=◌}
use Rattle.catalog_semantics.specs.declared.catalog.Resource.{Resource}
use Rattle.catalog_semantics.specs.Attributes.{is_metaparameter, is_one_of, metaparameters, IsClean, AreClean}
use Rattle.catalog_semantics.specs.Catalogs.{Catalog}
use Rattle.catalog_semantics.specs.Frames.{AreNewBehind, StandOnce, AreSoundAttributes}
use Rattle.catalog_semantics.specs.States.{references_of, stands_in, within_size}
use Rattle.compiled_text.specs.declared.catalog.CompiledResource.{CompiledResource}
use Rattle.compiled_text.specs.Compiled.{Compiled, AreDistinct, IsSound, counts_as}
use Rattle.compiled_text.proofs.RefLaws.{differs}
use Rattle.compiled_attributes.specs.Attributes.{byte_cmp, attributes_of}
use Rattle.compiled_relations.specs.Values.{are_references, related_to}
use Rattle.compiled_relations.specs.Related.{IsRelation}
use Rattle.compiled_catalog.specs.Attributes.{none_is, is_large, is_unknown, with_related, settled, settled_attributes}
use Rattle.compiled_catalog.specs.Catalogs.{few_declared, few_native, resource_at, with_one, with_all, catalog_of}
use Rattle.catalog_semantics.proofs.Once.{refs_more}

-- equal results are equal
one_ok : {X : Type 0} (x y : X) → ◌≡◌ {A = Result X Refusal} (Ok x) (Ok y) → x ≡ y
one_ok x y h = cc

-- where two steps give something, the first did and the second went on from it
first_ok : {X Y : Type 0} (m : Result X Refusal) (f : X → Result Y Refusal) (y : Y) → (m >>= f) ≡ Ok y → (x : X) × (m ≡ Ok x) × (f x ≡ Ok y)
first_ok (Ok x) f y h = (x, refl, h)
first_ok (Err e) f y h = cc

-- ---- what is added

-- what is given under a test is that
if_ok : {X : Type 0} (t : Bool) (e : Refusal) (x y : X) → ◌≡◌ {A = Result X Refusal} (cond t (Err e) (Ok x)) (Ok y) → y ≡ x
if_ok true e x y h = cc
if_ok false e x y h = sym (one_ok x y h)

-- a resource that was added, with its attributes
one_added : (c : Compiled) (before more : List Resource) (r : CompiledResource) → with_one c before r ≡ Ok more
    → (ps : List Pair) × (settled_attributes c.resources r ≡ Ok ps) × (more ≡ before ++ resource_at c (length before) r ps ∷ [])
one_added c before more r h =
    let x = first_ok (settled_attributes c.resources r) (λ ps. within_size 0 (before ++ resource_at c (length before) r ps ∷ [])) more h in
    (x.0, x.1, if_ok _ _ (before ++ resource_at c (length before) r x.0 ∷ []) more x.2)

-- a property of resources that each one has which is added
module _ (c : Compiled) (P : Resource → Type 0) (each : (place : ℕ) (r : CompiledResource) (ps : List Pair) → settled_attributes c.resources r ≡ Ok ps → P (resource_at c place r ps)) where
  -- what holds of some and of one more holds of all
  one_more : (xs : List Resource) (x : Resource) → AllByRecursion P xs → P x → AllByRecursion P (xs ++ x ∷ [])
  one_more [] x h k = (k, tt)
  one_more (y ∷ xs) x h k = (h.0, one_more xs x h.1 k)

  -- what holds of each resource with its attributes holds of all in the catalog
  pub all_have : (rs : List CompiledResource) (before all : List Resource) → AllByRecursion P before → with_all c before rs ≡ Ok all → AllByRecursion P all
  all_have [] before all h k = subst (AllByRecursion P) (one_ok before all k) h
  all_have (r ∷ rs) before all h k =
      let x = first_ok (with_one c before r) (λ so_far. with_all c so_far rs) all k in
      let y = one_added c before x.0 r x.1 in
      all_have rs x.0 all (subst (AllByRecursion P) (sym y.2) (one_more before (resource_at c (length before) r y.0) h (each (length before) r y.0 y.1))) x.2

-- ---- each reference stands once

-- the references of the catalog are those as which resources count
all_named : (c : Compiled) (rs : List CompiledResource) (before all : List Resource) → with_all c before rs ≡ Ok all → references_of all ≡ references_of before ++ map counts_as rs
all_named c [] before all h = ap references_of (sym (one_ok before all h)) ∙ sym (append_nil (references_of before))
  where
    append_nil : (qs : List Ref) → qs ++ [] ≡ qs
    append_nil [] = refl
    append_nil (q ∷ qs) = ap (λ more. q ∷ more) (append_nil qs)
all_named c (r ∷ rs) before all h =
    let x = first_ok (with_one c before r) (λ so_far. with_all c so_far rs) all h in
    let y = one_added c before x.0 r x.1 in
    all_named c rs x.0 all x.2
    ∙ (ap (λ (more : List Resource). references_of more ++ map counts_as rs) y.2
    ∙ (ap (λ qs. qs ++ map counts_as rs) (refs_more before (resource_at c (length before) r y.0)) ∙ append_assoc (references_of before) (counts_as r ∷ []) (map counts_as rs)))

-- none of the references is one of those before
abbrev AreOthers : List Ref → List Ref → Type 0
AreOthers before refs = AllByRecursion (λ r. stands_in r before ≡ false) refs

-- a reference that isn't among some and isn't one more isn't among all
stands_last : (r q : Ref) (before : List Ref) → stands_in r before ≡ false → q ≢ r → stands_in r (before ++ q ∷ []) ≡ false
stands_last r q [] h n = ap (λ t. t || false) (differs q r n)
stands_last r q (p ∷ before) h n =
    let two = neither (same_ref p r) (stands_in r before) h in
    ap₂ (λ a b. a || b) two.0 (stands_last r q before two.1 n)
  where
    neither : (a b : Bool) → (a || b) ≡ false → (a ≡ false) × (b ≡ false)
    neither true b h = absurd (true≢false h)
    neither false b h = (refl, h)

-- none of the others is, with one more that differs from each
others_last : (q : Ref) (before refs : List Ref) → AreOthers before refs → AllByRecursion (λ r. q ≢ r) refs → AreOthers (before ++ q ∷ []) refs
others_last q before [] h d = tt
others_last q before (r ∷ refs) h d = (stands_last r q before h.0 d.0, others_last q before refs h.1 d.1)

-- references that differ and aren't among those before are new behind them
new_behind : (before refs : List Ref) → AreOthers before refs → AreDistinct refs → AreNewBehind before refs
new_behind before [] h d = tt
new_behind before (r ∷ refs) h d = (h.0, new_behind (before ++ r ∷ []) refs (others_last r before refs h.1 d.0) d.1)

-- none is among none
none_before : (refs : List Ref) → AreOthers [] refs
none_before [] = tt
none_before (r ∷ refs) = (refl, none_before refs)

-- the resources of the catalog
resources_are : (c : Compiled) (limits : Limits) (k : Catalog) → catalog_of c limits ≡ Ok k → with_all c [] c.resources ≡ Ok k.resources
resources_are c limits k h =
    let a = first_ok (few_declared limits c) _ k h in
    let b = first_ok (few_native limits c) _ k a.2 in
    let x = first_ok (with_all c [] c.resources) _ k b.2 in
    x.1 ∙ ap (λ (d : Catalog). Ok d.resources) (one_ok _ k x.2)

-- each reference stands once in the catalog of a sound compiled catalog
pub stand_once : (c : Compiled) (limits : Limits) (k : Catalog) → IsSound c → catalog_of c limits ≡ Ok k → StandOnce (references_of k.resources)
stand_once c limits k sound h =
    subst (AreNewBehind []) (sym (all_named c c.resources [] k.resources (resources_are c limits k h))) (new_behind [] (map counts_as c.resources) (none_before (map counts_as c.resources)) sound.apart)

-- ---- attributes are known

-- what is left to do of a pair, where relations of these names haven't found yet
abbrev IsOnTheWay : List (List ℕ) → Pair → Type 0
IsOnTheWay names p = (is_one_of names p.0 ≡ true → are_references p.1 ≡ true) × (is_one_of names p.0 ≡ false → IsClean p)

-- where a test that refuses gave something, it failed
unless_ok : (t : Bool) (e : Refusal) (m : Result (Unit {0}) Refusal) (u : Unit {0}) → cond t (Err e) m ≡ Ok u → (t ≡ false) × (m ≡ Ok u)
unless_ok true e m u h = cc
unless_ok false e m u h = (refl, h)

-- where nothing is refused, no attribute passes the test
none_passes : (test : Pair → Bool) (number : ℕ) (r : CompiledResource) (ps : List Pair) (u : Unit {0}) → none_is test number r ps ≡ Ok u → AllByRecursion (λ p. test p ≡ false) ps
none_passes test number r [] u h = tt
none_passes test number r (p ∷ ps) u h = let two = unless_ok (test p) _ (none_is test number r ps) u h in (two.0, none_passes test number r ps u two.1)

-- what isn't unknown is references, or holds no opaque value
known_first : (metaparameter refs opaque : Bool) → cond metaparameter (not refs) opaque ≡ false → (metaparameter ≡ true → refs ≡ true) × (metaparameter ≡ false → opaque ≡ false)
known_first true true opaque h = ((λ k. refl), (λ k. absurd (true≢false k)))
known_first true false opaque h = absurd (true≢false h)
known_first false refs opaque h = ((λ k. absurd (true≢false (sym k))), (λ k. h))

-- attributes that are known are on the way
sets_out : (ps : List Pair) → AllByRecursion (λ p. is_unknown p ≡ false) ps → AllByRecursion (IsOnTheWay metaparameters) ps
sets_out [] h = tt
sets_out (p ∷ ps) h =
    let two = known_first (is_metaparameter p.0) (are_references p.1) (has_opaque p.1) h.0 in
    ((two.0, (λ other. (two.1 other, (λ k. absurd (true≢false (sym k ∙ other)))))), sets_out ps h.1)

-- ---- pairs of which one gets another value

-- what is missing here and further on is missing in both
none_head : (t : Bool) (x : Value) (o : Option Value) → cond t (Some x) o ≡ None → (t ≡ false) × (o ≡ None)
none_head true x o h = cc
none_head false x o h = (refl, h)

-- where a name is missing, each attribute has another
others_differ : (name : List ℕ) (ps : List Pair) → value_at name ps ≡ None → AllByRecursion (λ p. bytes_eq p.0 name ≡ false) ps
others_differ name [] h = tt
others_differ name (p ∷ ps) h = let two = none_head (bytes_eq p.0 name) p.1 (value_at name ps) h in (two.0, others_differ name ps two.1)

-- what follows for each of another name holds of all
mapped : (P Q : Pair → Type 0) (name : List ℕ) → ((p : Pair) → bytes_eq p.0 name ≡ false → P p → Q p) → (ps : List Pair) → AllByRecursion (λ p. bytes_eq p.0 name ≡ false) ps → AllByRecursion P ps → AllByRecursion Q ps
mapped P Q name f [] d h = tt
mapped P Q name f (p ∷ ps) d h = (f p d.0 h.0, mapped P Q name f ps d.1 h.1)

module _ (name : List ℕ) (y : Value) where
  -- what follows for the others, and for the changed one, holds of all
  changed : (P Q : Pair → Type 0) → ((p : Pair) → bytes_eq p.0 name ≡ false → P p → Q p) → ((key : List ℕ) → bytes_eq key name ≡ true → Q (key, y)) → (ps : List Pair) → HasDistinctKeys ps → AllByRecursion P ps
      → is_none (value_at name ps) ≡ false → AllByRecursion Q (with_pair name y ps)
  changed P Q f g [] d h there = absurd (true≢false there)
  changed P Q f g (p ∷ ps) d h there = at (changed P Q f g ps d.1 h.1) (bytes_eq p.0 name) refl there
    where
      same_key : bytes_eq p.0 name ≡ true → value_at name ps ≡ None
      same_key e = subst (λ key. value_at key ps ≡ None) ((bytes_eq-Decides p.0 name).0 e) d.0

      at : (is_none (value_at name ps) ≡ false → AllByRecursion Q (with_pair name y ps)) → (t : Bool) → bytes_eq p.0 name ≡ t → is_none (cond t (Some p.1) (value_at name ps)) ≡ false
          → AllByRecursion Q (cond t ((p.0, y) ∷ ps) (p ∷ with_pair name y ps))
      at again true e k = (g p.0 e, mapped P Q name f ps (others_differ name ps (same_key e)) h.1)
      at again false e k = (f p e h.0, again k)

  -- a name that is missing stays so when another changes its value
  none_stays : (key : List ℕ) (ps : List Pair) → value_at key ps ≡ None → is_none (value_at name ps) ≡ false → value_at key (with_pair name y ps) ≡ None
  none_stays key [] h there = absurd (true≢false there)
  none_stays key (p ∷ ps) h there = let two = none_head (bytes_eq p.0 key) p.1 (value_at key ps) h in at two (none_stays key ps two.1) (bytes_eq p.0 name) there
    where
      at : (bytes_eq p.0 key ≡ false) × (value_at key ps ≡ None) → (is_none (value_at name ps) ≡ false → value_at key (with_pair name y ps) ≡ None) → (t : Bool)
          → is_none (cond t (Some p.1) (value_at name ps)) ≡ false → value_at key (cond t ((p.0, y) ∷ ps) (p ∷ with_pair name y ps)) ≡ None
      at two again true k = ap (λ t. cond t (Some y) (value_at key ps)) two.0 ∙ two.1
      at two again false k = ap (λ t. cond t (Some p.1) (value_at key (with_pair name y ps))) two.0 ∙ again k

  -- distinct names stay so
  distinct_stays : (ps : List Pair) → HasDistinctKeys ps → is_none (value_at name ps) ≡ false → HasDistinctKeys (with_pair name y ps)
  distinct_stays [] h there = absurd (true≢false there)
  distinct_stays (p ∷ ps) h there = at (distinct_stays ps h.1) (bytes_eq p.0 name) there
    where
      at : (is_none (value_at name ps) ≡ false → HasDistinctKeys (with_pair name y ps)) → (t : Bool) → is_none (cond t (Some p.1) (value_at name ps)) ≡ false
          → HasDistinctKeys (cond t ((p.0, y) ∷ ps) (p ∷ with_pair name y ps))
      at again true k = h
      at again false k = (none_stays p.0 ps h.0 k, again k)

-- the pair of a name
pair_at : (P : Pair → Type 0) (name : List ℕ) (ps : List Pair) (x : Value) → AllByRecursion P ps → value_at name ps ≡ Some x → (p : Pair) × (bytes_eq p.0 name ≡ true) × (p.1 ≡ x) × P p
pair_at P name [] x h e = cc
pair_at P name (p ∷ ps) x h e = at (pair_at P name ps x h.1) (bytes_eq p.0 name) refl e
  where
    at : (value_at name ps ≡ Some x → (p : Pair) × (bytes_eq p.0 name ≡ true) × (p.1 ≡ x) × P p) → (t : Bool) → bytes_eq p.0 name ≡ t → cond t (Some p.1) (value_at name ps) ≡ Some x
        → (p : Pair) × (bytes_eq p.0 name ≡ true) × (p.1 ≡ x) × P p
    at later true same k = let value : p.1 ≡ x = cc in (p, same, value, h.0)
    at later false same k = later k

-- ---- one relation after another

module _ (all : List CompiledResource) (r : CompiledResource) (becomes : (x y : Value) → related_to all r x ≡ Ok y → are_references x ≡ true → IsRelation all y) where
  -- each is on the way, and no name stands twice
  abbrev AreOnTheWay : List (List ℕ) → List Pair → Type 0
  AreOnTheWay names ps = AllByRecursion (IsOnTheWay names) ps × HasDistinctKeys ps

  -- an attribute of another name is on the way without that one
  further : (name : List ℕ) (rest : List (List ℕ)) (p : Pair) → bytes_eq p.0 name ≡ false → IsOnTheWay (name ∷ rest) p → IsOnTheWay rest p
  further name rest p e h = ((λ k. h.0 (ap (λ t. t || is_one_of rest p.0) e ∙ k)), (λ k. h.1 (ap (λ t. t || is_one_of rest p.0) e ∙ k)))

  -- with one relation found, the attributes are on the way with one name less
  one_related : (name : List ℕ) (rest : List (List ℕ)) (ps qs : List Pair) → is_one_of rest name ≡ false → AreOnTheWay (name ∷ rest) ps → with_related all r name ps (value_at name ps) ≡ Ok qs → AreOnTheWay rest qs
  one_related name rest ps qs once h k = at (value_at name ps) refl k
    where
      at : (o : Option Value) → value_at name ps ≡ o → with_related all r name ps o ≡ Ok qs → AreOnTheWay rest qs
      at None e k =
          subst (AreOnTheWay rest) (one_ok ps qs k) (mapped (IsOnTheWay (name ∷ rest)) (IsOnTheWay rest) name (further name rest) ps (others_differ name ps e) h.0, h.1)
      at (Some x) e k =
          let found = first_ok (related_to all r x) (λ y. Ok (with_pair name y ps)) qs k in
          let there : is_none (value_at name ps) ≡ false = ap is_none e in
          let p = pair_at (IsOnTheWay (name ∷ rest)) name ps x h.0 e in
          let refs = subst (λ v. are_references v ≡ true) p.2 (p.3.0 (ap (λ t. t || is_one_of rest p.0.0) p.1)) in
          let relation = becomes x found.0 found.1 refs in
          subst (AreOnTheWay rest) (one_ok (with_pair name found.0 ps) qs found.2) (
            changed name found.0 (IsOnTheWay (name ∷ rest)) (IsOnTheWay rest) (further name rest)
                (λ key same. ((λ one. absurd (true≢false (sym one ∙ (ap (is_one_of rest) ((bytes_eq-Decides key name).0 same) ∙ once)))), (λ other. (relation.known, (λ m. relation.references)))))
                ps h.1 h.0 there,
            distinct_stays name found.0 ps h.1 there,
          )

  -- with no name left they are clean
  clean_at_end : (ps : List Pair) → AllByRecursion (IsOnTheWay []) ps → AreClean ps
  clean_at_end [] h = tt
  clean_at_end (p ∷ ps) h = (h.0.1 refl, clean_at_end ps h.1)

  -- attributes that are settled are sound
  pub settled_clean : (ps qs : List Pair) → HasDistinctKeys ps → settled all r ps ≡ Ok qs → AreSoundAttributes qs
  settled_clean ps qs distinct h =
      let large = first_ok (none_is is_large 32 r ps) _ qs h in
      let unknown = first_ok (none_is is_unknown 29 r ps) _ qs large.2 in
      let before = first_ok (with_related all r (codes "before") ps (value_at (codes "before") ps)) _ qs unknown.2 in
      let notify = first_ok (with_related all r (codes "notify") before.0 (value_at (codes "notify") before.0)) _ qs before.2 in
      let require = first_ok (with_related all r (codes "require") notify.0 (value_at (codes "require") notify.0)) _ qs notify.2 in
      let subscribe = first_ok (with_related all r (codes "subscribe") require.0 (value_at (codes "subscribe") require.0)) _ qs require.2 in
      let a = one_related (codes "before") (codes "notify" ∷ codes "require" ∷ codes "subscribe" ∷ []) ps before.0 refl (sets_out ps (none_passes is_unknown 29 r ps unknown.0 unknown.1), distinct) before.1 in
      let b = one_related (codes "notify") (codes "require" ∷ codes "subscribe" ∷ []) before.0 notify.0 refl a notify.1 in
      let c = one_related (codes "require") (codes "subscribe" ∷ []) notify.0 require.0 refl b require.1 in
      let d = one_related (codes "subscribe") [] require.0 subscribe.0 refl c subscribe.1 in
      subst AreSoundAttributes (one_ok subscribe.0 qs subscribe.2) (clean_at_end subscribe.0 d.0, d.1)

-- ---- names in order stand once

-- attributes in the byte order of their names have distinct ones
sorted_distinct : (ps : List Pair) → IsStrictlySortedBy byte_cmp (keys_of ps) → HasDistinctKeys ps
unfolding IsStrictlySortedBy
sorted_distinct [] h = tt
sorted_distinct (p ∷ ps) h = (later ps h.0, sorted_distinct ps h.1)
  where
    later : (qs : List Pair) → AllByRecursion (λ key. byte_cmp p.0 key ≡ Less) (keys_of qs) → value_at p.0 qs ≡ None
    later [] k = refl
    later (q ∷ qs) k = ap (λ t. cond t (Some q.1) (value_at p.0 qs)) (at (bytes_eq q.0 p.0) refl) ∙ later qs k.1
      where
        less : bytes_eq p.0 q.0 ≡ false
        less = sym (is_eq-slice_cmp p.0 q.0) ∙ ap is_eq k.0

        at : (t : Bool) → bytes_eq q.0 p.0 ≡ t → t ≡ false
        at true same = sym ((bytes_eq-Decides p.0 q.0).1 (sym ((bytes_eq-Decides q.0 p.0).0 same))) ∙ less
        at false same = refl

-- the attributes of each resource of the catalog are sound
pub are_sound : ((all : List CompiledResource) (r : CompiledResource) → IsStrictlySortedBy byte_cmp (keys_of (attributes_of all r)))
    → ((all : List CompiledResource) (r : CompiledResource) (x y : Value) → related_to all r x ≡ Ok y → are_references x ≡ true → IsRelation all y) → (c : Compiled) (limits : Limits) (k : Catalog)
    → catalog_of c limits ≡ Ok k → AllByRecursion (λ r. AreSoundAttributes r.attrs) k.resources
are_sound in_order becomes c limits k h =
    all_have c (λ r. AreSoundAttributes r.attrs) (λ place r ps e. settled_clean c.resources r (becomes c.resources r) (attributes_of c.resources r) ps (sorted_distinct (attributes_of c.resources r) (in_order c.resources r)) e)
    c.resources [] k.resources tt (resources_are c limits k h)
