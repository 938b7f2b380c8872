-- The attributes that are evaluated, those of defaults and those of resources have distinct names.
use Rattle.std.proofs.Common.{◌≡◌, ◌⊎◌, inl, inr, ℕ, Bool, true, false, cond, ◌||◌, List, [], ◌∷◌, ◌++◌, Option, Some, None, Result, Ok, Err, refl, ap, sym, ◌∙◌, subst}
use Rattle.std.specs.Prelude.{filter, is_none}
use Rattle.std.specs.List.{AllByRecursion}
use Rattle.std.specs.Str.{bytes_eq}
use Rattle.rh_base.specs.declared.fault.Refusal.{Refusal}
use Rattle.pp_syntax.specs.declared.tree.Attr.{Attr}
use Rattle.pp_value.specs.declared.value.Ref.{Ref}
use Rattle.pp_value.specs.declared.value.Value.{Value}
use Rattle.pp_value.specs.Values.{Pair, value_at, has_opaque, is_undef, HasDistinctKeys}
use Rattle.pp_eval.specs.Evaluating.{◌>>=◌, refusal, no_result}
use Rattle.pp_eval.specs.Scoping.{Scoped}
use Rattle.pp_eval.specs.Evaluation.{value_of}
use Rattle.catalog_semantics.specs.States.{lacks}
use Rattle.catalog_semantics.specs.Attributes.{is_one_of, is_metaparameter, references_in, first_time, if_references, given_attribute}
use Rattle.catalog_semantics.specs.Attributes.{as_attribute, attribute_of, attributes_behind, names_of, AreClean, AreDistinct, AreFit}
use Rattle.catalog_semantics.specs.Frames.{Each, AreSoundAttributes}
use Rattle.catalog_semantics.proofs.Clean.{all_clean}
use Rattle.std.proofs.lemmas.Bool.{or_parts, or_right, or_left, or_from}
use Rattle.pp_value.proofs.Distinct.{by_test, same_key, key_itself}

-- ---- names

-- a value isn't both there and missing
pub some_none : (x : Value) (o : Option Value) → o ≡ Some x → o ≡ None → ⊥
some_none x o h k = let clash : ◌≡◌ {A = Option Value} (Some x) None = sym h ∙ k in cc

-- the value of the first name is that of the first pair
at_first : (key : List ℕ) (p : Pair) (pairs : List Pair) → bytes_eq p.0 key ≡ true → value_at key (p ∷ pairs) ≡ Some p.1
at_first key p pairs h = ap (λ t. cond t (Some p.1) (value_at key pairs)) h

-- the value of another name is that among the others
at_later : (key : List ℕ) (p : Pair) (pairs : List Pair) → bytes_eq p.0 key ≡ false → value_at key (p ∷ pairs) ≡ value_at key pairs
at_later key p pairs h = ap (λ t. cond t (Some p.1) (value_at key pairs)) h

-- fewer names before are no less distinct
fewer : (big small : List (List ℕ)) (xs : List Pair) → ((name : List ℕ) → is_one_of big name ≡ false → is_one_of small name ≡ false) → AreDistinct big xs → AreDistinct small xs
fewer big small [] f h = tt
fewer big small (p ∷ xs) f h =
    (f p.0 h.0, fewer (p.0 ∷ big) (p.0 ∷ small) xs (λ name k. let parts = or_parts (bytes_eq name p.0) (is_one_of big name) k in or_from (bytes_eq name p.0) (is_one_of small name) parts.0 (f name parts.1)) h.1)

-- a name that stands before has no value
absent : (before : List (List ℕ)) (xs : List Pair) (name : List ℕ) → AreDistinct before xs → is_one_of before name ≡ true → value_at name xs ≡ None
absent before [] name h k = refl
absent before (p ∷ xs) name h k =
    by_test (bytes_eq p.0 name) (value_at name (p ∷ xs) ≡ None)
    (λ e. let clash : true ≡ false = sym k ∙ (ap (is_one_of before) (sym (same_key p.0 name e)) ∙ h.0) in cc)
    (λ e. at_later name p xs e ∙ absent (p.0 ∷ before) xs name h.1 (or_right (bytes_eq name p.0) (is_one_of before name) k))

-- attributes that are distinct behind some names have distinct keys
pub distinct_keys : (before : List (List ℕ)) (xs : List Pair) → AreDistinct before xs → HasDistinctKeys xs
distinct_keys before [] h = tt
distinct_keys before (p ∷ xs) h = (absent (p.0 ∷ before) xs p.0 h.1 (or_left (bytes_eq p.0 p.0) (is_one_of before p.0) (key_itself p.0)), distinct_keys (p.0 ∷ before) xs h.1)

-- ---- what is evaluated

-- a step behind what is so gives what is so
then_each : {A B : Type 0} (P : A → Type 0) (Q : B → Type 0) (r : Result A Refusal) (f : A → Result B Refusal) → Each P r → ((x : A) → P x → Each Q (f x)) → Each Q (r >>= f)
then_each P Q (Ok x) f h k = k x h
then_each P Q (Err e) f h k = tt

-- a last step that gives what is so makes a whole that does
step_each : {A B : Type 0} (Q : B → Type 0) (r : Result A Refusal) (f : A → Result B Refusal) → ((x : A) → Each Q (f x)) → Each Q (r >>= f)
step_each Q (Ok x) f h = h x
step_each Q (Err e) f h = tt

-- what is given is both, where it is each
pub both_each : {A : Type 0} (P Q : A → Type 0) (r : Result A Refusal) → Each P r → Each Q r → Each (λ x. P x × Q x) r
both_each P Q (Ok x) h k = (h, k)
both_each P Q (Err e) h k = tt

-- nothing, or the one attribute
abbrev IsThis : Attr → List Pair → Type 0
IsThis a given = (given ≡ []) ⊎ ((x : Value) × (given ≡ (a.name, x) ∷ []))

-- a metaparameter gives nothing, or itself
refs_this : (a : Attr) (x : Value) (o : Option (List Ref)) → Each (IsThis a) (if_references a x o)
refs_this a x None = tt
refs_this a x (Some refs) = inr (x, refl)

-- so does an attribute that is given
given_this : (a : Attr) (x : Value) (b : Bool) → Each (IsThis a) (cond b (if_references a x (references_in x)) (Ok ((a.name, x) ∷ [])))
given_this a x true = refs_this a x (references_in x)
given_this a x false = inr (x, refl)

-- so does one that may be undef
undef_this : (a : Attr) (x : Value) (b : Bool) → Each (IsThis a) (cond b (Ok []) (given_attribute a x))
undef_this a x true = inl refl
undef_this a x false = given_this a x (is_metaparameter a.name)

-- so does one that may be opaque
opaque_this : (a : Attr) (x : Value) (b : Bool) → Each (IsThis a) (cond b (Err (no_result a.value.at)) (as_attribute a x))
opaque_this a x true = tt
opaque_this a x false = undef_this a x (is_undef x)

-- the name is new, and stands before the others
abbrev IsNext : List (List ℕ) → Attr → List (List ℕ) → Type 0
IsNext before a names = (is_one_of before a.name ≡ false) × (names ≡ a.name ∷ before)

-- a name that isn't refused is new
first_next : (before : List (List ℕ)) (a : Attr) (b : Bool) → is_one_of before a.name ≡ b → Each (IsNext before a) (cond b (Err (refusal 24 a.at a.name)) (Ok (a.name ∷ before)))
first_next before a true e = tt
first_next before a false e = (e, refl)

-- an attribute of a new name goes before distinct ones
behind_this : (before : List (List ℕ)) (a : Attr) (given more : List Pair) → is_one_of before a.name ≡ false → IsThis a given → AreDistinct (a.name ∷ before) more → AreDistinct before (given ++ more)
behind_this before a given more new (inl none) h =
    subst (λ (g : List Pair). AreDistinct before (g ++ more)) (sym none) (fewer (a.name ∷ before) before more (λ name k. (or_parts (bytes_eq name a.name) (is_one_of before name) k).1) h)
behind_this before a given more new (inr one) h = subst (λ (g : List Pair). AreDistinct before (g ++ more)) (sym one.1) (new, h)

-- attributes that are evaluated behind some names are distinct
all_distinct : (s : Scoped) (before : List (List ℕ)) (attrs : List Attr) → Each (AreDistinct before) (attributes_behind s before attrs)
all_distinct s before [] = tt
all_distinct s before (a ∷ attrs) =
    step_each (AreDistinct before) (value_of s a.value) _ (λ x.
    then_each (IsNext before a) (AreDistinct before) (first_time before a) _ (first_next before a (is_one_of before a.name) refl) (λ names next.
    then_each (IsThis a) (AreDistinct before) (attribute_of a x) _ (opaque_this a x (has_opaque x)) (λ given this.
    then_each (AreDistinct names) (AreDistinct before) (attributes_behind s names attrs) _ (all_distinct s names attrs) (λ more rest.
    behind_this before a given more next.0 this (subst (λ (ns : List (List ℕ)). AreDistinct ns more) next.1 rest)))))

-- and clean
pub all_fit : (s : Scoped) (before : List (List ℕ)) (attrs : List Attr) → Each (AreFit before) (attributes_behind s before attrs)
all_fit s before attrs = both_each AreClean (AreDistinct before) (attributes_behind s before attrs) (all_clean s before attrs) (all_distinct s before attrs)

-- attributes that fit are sound
sound_each : (before : List (List ℕ)) (r : Result (List Pair) Refusal) → Each (AreFit before) r → Each AreSoundAttributes r
sound_each before (Ok xs) h = (h.0, distinct_keys before xs h.1)
sound_each before (Err e) h = tt

-- so are those that are evaluated
pub all_sound : (s : Scoped) (before : List (List ℕ)) (attrs : List Attr) → Each AreSoundAttributes (attributes_behind s before attrs)
all_sound s before attrs = sound_each before (attributes_behind s before attrs) (all_fit s before attrs)

-- ---- one list behind another

-- a name that stands in neither list stands in none of both
none_append : (key : List ℕ) (xs ys : List Pair) → value_at key xs ≡ None → value_at key ys ≡ None → value_at key (xs ++ ys) ≡ None
none_append key [] ys h k = k
none_append key (p ∷ xs) ys h k =
    by_test (bytes_eq p.0 key) (value_at key (p ∷ (xs ++ ys)) ≡ None)
    (λ e. absurd (some_none p.1 _ (at_first key p xs e) h))
    (λ e. at_later key p (xs ++ ys) e ∙ none_append key xs ys (sym (at_later key p xs e) ∙ h) k)

-- two lists of distinct names, of which none stands in the other, make one
distinct_append : (xs ys : List Pair) → HasDistinctKeys xs → HasDistinctKeys ys → AllByRecursion (λ p. value_at p.0 ys ≡ None) xs → HasDistinctKeys (xs ++ ys)
distinct_append [] ys h k apart = k
distinct_append (p ∷ xs) ys h k apart = (none_append p.0 xs ys h.0 apart.0, distinct_append xs ys h.1 k apart.1)

-- the names of the ones don't stand among the others
apart_names : (names : List (List ℕ)) (xs ys : List Pair) → AreDistinct names ys → AllByRecursion (λ p. is_one_of names p.0 ≡ true) xs → AllByRecursion (λ p. value_at p.0 ys ≡ None) xs
apart_names names [] ys h all = tt
apart_names names (p ∷ xs) ys h all = (absent names ys p.0 h all.0, apart_names names xs ys h all.1)

-- what stands among some names stands among more
more_names : (name : List ℕ) (names : List (List ℕ)) (xs : List Pair) → AllByRecursion (λ p. is_one_of names p.0 ≡ true) xs → AllByRecursion (λ p. is_one_of (name ∷ names) p.0 ≡ true) xs
more_names name names [] h = tt
more_names name names (p ∷ xs) h = (or_right (bytes_eq p.0 name) (is_one_of names p.0) h.0, more_names name names xs h.1)

-- each attribute's name stands among the names
own_names : (xs : List Pair) → AllByRecursion (λ p. is_one_of (names_of xs) p.0 ≡ true) xs
own_names [] = tt
own_names (p ∷ xs) = (or_left (bytes_eq p.0 p.0) (is_one_of (names_of xs) p.0) (key_itself p.0), more_names p.0 (names_of xs) xs (own_names xs))

-- attributes that are distinct behind others go behind them
pub distinct_behind : (xs ys : List Pair) → HasDistinctKeys xs → AreDistinct (names_of xs) ys → HasDistinctKeys (xs ++ ys)
distinct_behind xs ys h k = distinct_append xs ys h (distinct_keys (names_of xs) ys k) (apart_names (names_of xs) xs ys k (own_names xs))

-- ---- the defaults that a resource lacks

-- what holds whether a default is kept or left out holds
kept_or_not : (left : List Pair) (p : Pair) (right : List Pair) (P : List Pair → Type 0) → (lacks left p ≡ true → P (p ∷ filter (lacks left) right)) → P (filter (lacks left) right) → P (filter (lacks left) (p ∷ right))
kept_or_not left p right P f g =
    by_test (lacks left p) (P (filter (lacks left) (p ∷ right)))
    (λ e. subst P (sym (ap (λ t. cond t (p ∷ filter (lacks left) right) (filter (lacks left) right)) e)) (f e))
    (λ e. subst P (sym (ap (λ t. cond t (p ∷ filter (lacks left) right) (filter (lacks left) right)) e)) g)

-- a name that isn't among defaults isn't among those that are kept
none_filtered : (key : List ℕ) (left right : List Pair) → value_at key right ≡ None → value_at key (filter (lacks left) right) ≡ None
none_filtered key left [] h = refl
none_filtered key left (p ∷ right) h =
    by_test (bytes_eq p.0 key) (value_at key (filter (lacks left) (p ∷ right)) ≡ None)
    (λ e. absurd (some_none p.1 _ (at_first key p right e) h))
    (λ e.
    let rest = none_filtered key left right (sym (at_later key p right e) ∙ h) in
    kept_or_not left p right (λ xs. value_at key xs ≡ None) (λ _. at_later key p (filter (lacks left) right) e ∙ rest) rest)

-- the defaults that are kept have distinct names
distinct_filtered : (left right : List Pair) → HasDistinctKeys right → HasDistinctKeys (filter (lacks left) right)
distinct_filtered left [] h = tt
distinct_filtered left (p ∷ right) h =
    let rest = distinct_filtered left right h.1 in
    kept_or_not left p right HasDistinctKeys (λ _. (none_filtered p.0 left right h.0, rest)) rest

-- a name that the attributes have isn't among the defaults that are kept
none_lacked : (key : List ℕ) (left right : List Pair) → is_none (value_at key left) ≡ false → value_at key (filter (lacks left) right) ≡ None
none_lacked key left [] h = refl
none_lacked key left (p ∷ right) h =
    let rest = none_lacked key left right h in
    kept_or_not left p right (λ xs. value_at key xs ≡ None)
    (λ new. by_test (bytes_eq p.0 key) (value_at key (p ∷ filter (lacks left) right) ≡ None)
    (λ e. let clash : true ≡ false = sym new ∙ (ap (λ k. is_none (value_at k left)) (same_key p.0 key e) ∙ h) in cc)
    (λ e. at_later key p (filter (lacks left) right) e ∙ rest))
    rest

-- a name that has a value has one behind one more pair
some_first : (key : List ℕ) (p : Pair) (pairs : List Pair) → is_none (value_at key pairs) ≡ false → is_none (value_at key (p ∷ pairs)) ≡ false
some_first key p pairs h =
    by_test (bytes_eq p.0 key) (is_none (value_at key (p ∷ pairs)) ≡ false) (λ e. ap is_none (at_first key p pairs e)) (λ e. ap is_none (at_later key p pairs e) ∙ h)

-- so have all of some names
some_all : (p : Pair) (pairs xs : List Pair) → AllByRecursion (λ q. is_none (value_at q.0 pairs) ≡ false) xs → AllByRecursion (λ q. is_none (value_at q.0 (p ∷ pairs)) ≡ false) xs
some_all p pairs [] h = tt
some_all p pairs (q ∷ xs) h = (some_first q.0 p pairs h.0, some_all p pairs xs h.1)

-- each name of a list has a value in it
all_stand : (pairs : List Pair) → AllByRecursion (λ p. is_none (value_at p.0 pairs) ≡ false) pairs
all_stand [] = tt
all_stand (p ∷ pairs) = (ap is_none (at_first p.0 p pairs (key_itself p.0)), some_all p pairs pairs (all_stand pairs))

-- no name of the attributes is among the defaults that are kept
apart_lacked : (left right xs : List Pair) → AllByRecursion (λ p. is_none (value_at p.0 left) ≡ false) xs → AllByRecursion (λ p. value_at p.0 (filter (lacks left) right) ≡ None) xs
apart_lacked left right [] h = tt
apart_lacked left right (p ∷ xs) h = (none_lacked p.0 left right h.0, apart_lacked left right xs h.1)

-- attributes with the defaults that they lack have distinct names
pub distinct_filled : (left right : List Pair) → HasDistinctKeys left → HasDistinctKeys right → HasDistinctKeys (left ++ filter (lacks left) right)
distinct_filled left right h k = distinct_append left (filter (lacks left) right) h (distinct_filtered left right k) (apart_lacked left right left (all_stand left))
