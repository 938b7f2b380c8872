-- Names that stand, and attributes behind them.
use Rattle.std.proofs.Common.{◌≡◌, ℕ, ◌+◌, ◌<◌, Bool, true, false, cond, ◌||◌, List, [], ◌∷◌, ◌++◌, refl, sym, ap, ◌∙◌, subst, append_assoc}
use Rattle.std.specs.Prelude.{is_some, Option, Some, None, Result, Ok, Err, OnOk}
use Rattle.std.specs.Str.{bytes_eq}
use Rattle.std.specs.Cmp.Lexicographic.{nat_list_eq_equiv}
use Rattle.std.proofs.lemmas.List.Folds.{list_any-append}
use Rattle.rh_base.specs.declared.fault.Fault.{Fault}
use Rattle.rh_base.specs.declared.fault.Fault.TheVariants as faults
use Rattle.rh_base.specs.declared.fault.Refusal.{Refusal}
use Rattle.pp_syntax.specs.declared.tree.Attr.{Attr}
use Rattle.pp_value.specs.declared.value.Value.{Value}
use Rattle.pp_value.specs.declared.value.Ref.{Ref}
use Rattle.pp_value.specs.Values.{Pair, value_at, has_opaque, is_undef}
use Rattle.pp_eval.specs.Evaluating.{◌>>=◌, Evaluation, refusal, no_result, AnswersBy, Refuses}
use Rattle.pp_eval.specs.Scoping.{Scoped}
use Rattle.pp_eval.specs.Evaluation.{value_of}
use Rattle.catalog_semantics.specs.Attributes.{is_one_of, is_metaparameter, references_in, if_references, first_time, attribute_of, attributes_behind}
use Rattle.pp_declared_values.specs.Named.{keys_of, given_behind, AllStand, GoesOn}

-- something is there, here or further on, where one of the two is
some_head : {X : Type 0} (t : Bool) (x : X) (o : Option X) → is_some (cond t (Some x) o) ≡ (t || is_some o)
some_head true x o = refl
some_head false x o = refl

-- a name stands among the keys exactly where it has an item
pub stands_is : {X : Type 0} (name : List ℕ) (pairs : List (List ℕ × X)) → is_one_of (keys_of pairs) name ≡ is_some (value_at name pairs)
stands_is name [] = refl
stands_is name (p ∷ pairs) = (λ i. nat_list_eq_equiv.symm name p.0 i || stands_is name pairs i) ∙ sym (some_head (bytes_eq p.0 name) p.1 (value_at name pairs))

-- a name that stands already is refused with code 24
pub stands_already : (names : List (List ℕ × Bool)) (a : Attr) → is_some (value_at a.name names) ≡ true → first_time (keys_of names) a ≡ Err (refusal 24 a.at a.name)
stands_already names a h = ap (λ t. cond t (Err (refusal 24 a.at a.name)) (Ok (a.name ∷ keys_of names))) (stands_is a.name names ∙ h)

-- one that doesn't stand is noted first
pub stands_not : (names : List (List ℕ × Bool)) (a : Attr) → value_at a.name names ≡ None → first_time (keys_of names) a ≡ Ok (a.name ∷ keys_of names)
stands_not names a h = ap (λ t. cond t (Err (refusal 24 a.at a.name)) (Ok (a.name ∷ keys_of names))) (stands_is a.name names ∙ ap is_some h)

-- ---- only which names stand counts

-- an attribute whose value is known, and those behind it
abbrev with_value : Scoped → Attr → List Attr → Value → List (List ℕ) → Result (List Pair) Refusal
with_value s a attrs x names = attribute_of a x >>= λ given. attributes_behind s names attrs >>= λ more. Ok (given ++ more)

-- a name goes on alike before lists that go on alike
named : (a : Attr) (before other : List (List ℕ)) (f : List (List ℕ) → Result (List Pair) Refusal) (t : Bool) → f (a.name ∷ before) ≡ f (a.name ∷ other)
    → (cond t (Err (refusal 24 a.at a.name)) (Ok (a.name ∷ before)) >>= f) ≡ (cond t (Err (refusal 24 a.at a.name)) (Ok (a.name ∷ other)) >>= f)
named a before other f true h = refl
named a before other f false h = h

-- so does an attribute by its value
by_value : (s : Scoped) (before other : List (List ℕ)) (a : Attr) (attrs : List Attr) → is_one_of before a.name ≡ is_one_of other a.name
    → attributes_behind s (a.name ∷ before) attrs ≡ attributes_behind s (a.name ∷ other) attrs → (r : Evaluation)
    → (r >>= λ x. first_time before a >>= with_value s a attrs x) ≡ (r >>= λ x. first_time other a >>= with_value s a attrs x)
by_value s before other a attrs same rest (Err e) = refl
by_value s before other a attrs same rest (Ok x) =
    ap (λ t. cond t (Err (refusal 24 a.at a.name)) (Ok (a.name ∷ before)) >>= with_value s a attrs x) same
    ∙ named a before other (with_value s a attrs x) (is_one_of other a.name) (ap (λ r. attribute_of a x >>= λ given. r >>= λ more. Ok (given ++ more)) rest)

-- attributes behind lists with the same names are the same
pub behind_same : (s : Scoped) (before other : List (List ℕ)) (attrs : List Attr) → ((name : List ℕ) → is_one_of before name ≡ is_one_of other name)
    → attributes_behind s before attrs ≡ attributes_behind s other attrs
behind_same s before other [] same = refl
behind_same s before other (a ∷ attrs) same =
    by_value s before other a attrs (same a.name) (behind_same s (a.name ∷ before) (a.name ∷ other) attrs (λ name. ap (λ b. bytes_eq name a.name || b) (same name))) (value_of s a.value)

-- a disjunction is the same the other way round
turned_around : (a b : Bool) → (a || b) ≡ (b || (a || false))
turned_around true true = refl
turned_around true false = refl
turned_around false true = refl
turned_around false false = refl

-- one more pair is one more key
keys_last : {X : Type 0} (pairs : List (List ℕ × X)) (p : List ℕ × X) → keys_of (pairs ++ p ∷ []) ≡ keys_of pairs ++ p.0 ∷ []
keys_last [] p = refl
keys_last (q ∷ pairs) p = ap (λ more. q.0 ∷ more) (keys_last pairs p)

-- whether a name goes first or last
pub name_last : (s : Scoped) (names : List (List ℕ × Bool)) (p : List ℕ × Bool) (attrs : List Attr) → attributes_behind s (p.0 ∷ keys_of names) attrs ≡ attributes_behind s (keys_of (names ++ p ∷ [])) attrs
name_last s names p attrs =
    behind_same s (p.0 ∷ keys_of names) (keys_of (names ++ p ∷ [])) attrs
    (λ name. turned_around (bytes_eq name p.0) (is_one_of (keys_of names) name) ∙ (sym (list_any-append (bytes_eq name) (keys_of names) (p.0 ∷ [])) ∙ ap (λ ns. is_one_of ns name) (sym (keys_last names p))))

-- ---- one attribute

-- equal results have equal attributes
pub given_same : (x y : List Pair) → ◌≡◌ {A = Result (List Pair) Refusal} (Ok x) (Ok y) → x ≡ y
given_same x y h = cc

-- attributes that are given behind others are those before the rest
next_given : (before new : List Pair) (t r : Result (List Pair) Refusal) → given_behind before t ≡ Ok new
    → given_behind before (t >>= λ here. r >>= λ more. Ok (here ++ more)) ≡ given_behind new r
next_given before new (Ok here) (Ok more) h = ap (λ (xs : List Pair). Ok xs) (sym (append_assoc before here more) ∙ ap (λ (xs : List Pair). xs ++ more) (given_same (before ++ here) new h))
next_given before new (Ok here) (Err e) h = refl
next_given before new (Err e) r h = cc

module _ (s : Scoped) (names : List (List ℕ × Bool)) (given : List Pair) (a : Attr) (attrs : List Attr) where
  -- the value is refused
  pub value_refused : (e : Refusal) → value_of s a.value ≡ Err e → given_behind given (attributes_behind s (keys_of names) (a ∷ attrs)) ≡ Err e
  value_refused e h = ap (λ (r : Evaluation). given_behind given (r >>= λ x. first_time (keys_of names) a >>= with_value s a attrs x)) h

  -- the name stands already
  pub name_refused : (x : Value) (e : Refusal) → value_of s a.value ≡ Ok x → first_time (keys_of names) a ≡ Err e → given_behind given (attributes_behind s (keys_of names) (a ∷ attrs)) ≡ Err e
  name_refused x e h k =
      ap (λ (r : Evaluation). given_behind given (r >>= λ y. first_time (keys_of names) a >>= with_value s a attrs y)) h
      ∙ ap (λ (r : Result (List (List ℕ)) Refusal). given_behind given (r >>= with_value s a attrs x)) k

  -- an attribute whose name is new goes on by its value
  of_named : (x : Value) → value_of s a.value ≡ Ok x → value_at a.name names ≡ None
      → given_behind given (attributes_behind s (keys_of names) (a ∷ attrs)) ≡ given_behind given (with_value s a attrs x (a.name ∷ keys_of names))
  of_named x h n =
      ap (λ (r : Evaluation). given_behind given (r >>= λ y. first_time (keys_of names) a >>= with_value s a attrs y)) h
      ∙ ap (λ (r : Result (List (List ℕ)) Refusal). given_behind given (r >>= with_value s a attrs x)) (stands_not names a n)

  -- a refusal of the first is one of all
  refused_behind : (t r : Result (List Pair) Refusal) (e : Refusal) → given_behind given t ≡ Err e → given_behind given (t >>= λ here. r >>= λ more. Ok (here ++ more)) ≡ Err e
  refused_behind (Ok here) r e h = cc
  refused_behind (Err d) r e h = h

  -- an attribute of which the kind of value is refused refuses all
  pub kind_refused : (x : Value) (e : Refusal) → value_of s a.value ≡ Ok x → value_at a.name names ≡ None → given_behind given (attribute_of a x) ≡ Err e
      → given_behind given (attributes_behind s (keys_of names) (a ∷ attrs)) ≡ Err e
  kind_refused x e h n k = of_named x h n ∙ refused_behind (attribute_of a x) (attributes_behind s (a.name ∷ keys_of names) attrs) e k

  -- one that isn't refused leaves those behind it
  pub next_attribute : (x : Value) (new : List Pair) (b : Bool) → value_of s a.value ≡ Ok x → value_at a.name names ≡ None → given_behind given (attribute_of a x) ≡ Ok new
      → given_behind given (attributes_behind s (keys_of names) (a ∷ attrs)) ≡ given_behind new (attributes_behind s (keys_of (names ++ (a.name, b) ∷ [])) attrs)
  next_attribute x new b h n k =
      of_named x h n ∙ (next_given given new (attribute_of a x) (attributes_behind s (a.name ∷ keys_of names) attrs) k
      ∙ ap (given_behind new) (name_last s names (a.name, b) attrs))

-- ---- each given attribute has a name that stands

-- what is missing here and further on is missing in both
joined_head : (t : Bool) (x : Value) (o r : Option Value) → (o ≡ None → r ≡ None) → cond t (Some x) o ≡ None → cond t (Some x) r ≡ None
joined_head true x o r f h = cc
joined_head false x o r f h = f h

-- a name that stands in neither list stands in none of both
none_joined : (name : List ℕ) (a b : List Pair) → value_at name a ≡ None → value_at name b ≡ None → value_at name (a ++ b) ≡ None
none_joined name [] b h k = k
none_joined name (p ∷ a) b h k = joined_head (bytes_eq p.0 name) p.1 (value_at name a) (value_at name (a ++ b)) (λ e. none_joined name a b e k) h

-- what is missing among pairs with one more is missing among them, and isn't the one
last_head : {X : Type 0} (t u : Bool) (x : X) (o r : Option X) → (o ≡ None → (r ≡ None) × (u ≡ false)) → cond t (Some x) o ≡ None → (cond t (Some x) r ≡ None) × (u ≡ false)
last_head true u x o r f h = cc
last_head false u x o r f h = f h

-- where nothing is found of one, the test failed
one_head : {X : Type 0} (t : Bool) (x : X) → ◌≡◌ {A = Option X} (cond t (Some x) None) None → t ≡ false
one_head true x h = cc
one_head false x h = refl

-- a name that is missing among pairs with one more is missing among them, and is another
none_last : {X : Type 0} (name key : List ℕ) (x : X) (pairs : List (List ℕ × X)) → value_at name (pairs ++ (key, x) ∷ []) ≡ None → (value_at name pairs ≡ None) × (bytes_eq key name ≡ false)
none_last name key x [] h = (refl, one_head (bytes_eq key name) x h)
none_last name key x (p ∷ pairs) h =
    last_head (bytes_eq p.0 name) (bytes_eq key name) p.1 (value_at name (pairs ++ (key, x) ∷ [])) (value_at name pairs) (none_last name key x pairs) h

-- what an attribute gives has its name alone
abbrev HasName : List ℕ → List Pair → Type 0
HasName key given = (name : List ℕ) → bytes_eq key name ≡ false → value_at name given ≡ None

-- one attribute has its own name alone
one_named : (key : List ℕ) (x : Value) → HasName key ((key, x) ∷ [])
one_named key x name h = ap (λ t. cond t (Some x) None) h

-- what an attribute gives has its name alone
named_given : (a : Attr) (x : Value) (t u w : Bool) (refs : Option (List Ref)) (here : List Pair)
    → cond t (Err (no_result a.value.at)) (cond u (Ok []) (cond w (if_references a x refs) (Ok ((a.name, x) ∷ [])))) ≡ Ok here → HasName a.name here
named_given a x true u w refs here h = cc
named_given a x false true w refs here h = subst (HasName a.name) (given_same [] here h) (λ name e. refl)
named_given a x false false true None here h = cc
named_given a x false false true (Some refs) here h = subst (HasName a.name) (given_same ((a.name, x) ∷ []) here h) (one_named a.name x)
named_given a x false false false refs here h = subst (HasName a.name) (given_same ((a.name, x) ∷ []) here h) (one_named a.name x)

-- given names still all stand with one more
still_given : (given new : List Pair) (names : List (List ℕ × Bool)) (key : List ℕ) (b : Bool) (t : Result (List Pair) Refusal) → ((here : List Pair) → t ≡ Ok here → HasName key here)
    → AllStand given names → given_behind given t ≡ Ok new → AllStand new (names ++ (key, b) ∷ [])
still_given given new names key b (Ok here) only all h name n =
    let parts = none_last name key b names n in
    subst (λ xs. value_at name xs ≡ None) (given_same (given ++ here) new h) (none_joined name given here (all name parts.0) (only here refl name parts.1))
still_given given new names key b (Err e) only all h name n = cc

-- so they do with an attribute that is given
pub still_stand : (given new : List Pair) (names : List (List ℕ × Bool)) (a : Attr) (x : Value) (b : Bool) → AllStand given names → given_behind given (attribute_of a x) ≡ Ok new
    → AllStand new (names ++ (a.name, b) ∷ [])
still_stand given new names a x b all h =
    still_given given new names a.name b (attribute_of a x) (named_given a x (has_opaque x) (is_undef x) (is_metaparameter a.name) (references_in x)) all h

-- ---- what a call leaves

-- given names still all stand behind a call that gives one more
pub stand_after : (given new : List Pair) (names now : List (List ℕ × Bool)) (a : Attr) (x : Value) (r : Result (Unit {0}) Fault) → AllStand given names → now ≡ names ++ (a.name, true) ∷ []
    → AnswersBy (λ done. new) (given_behind given (attribute_of a x)) r → OnOk r (AllStand new now)
stand_after given new names now a x (Ok done) all e h = subst (AllStand new) (sym e) (still_stand given new names a x true all h)
stand_after given new names now a x (Err fault) all e h = tt

-- a call that gives an attribute leaves those behind it, or refuses all
pub goes_after : (s : Scoped) (given new : List Pair) (names now : List (List ℕ × Bool)) (a : Attr) (x : Value) (r : Result (Unit {0}) Fault) → value_of s a.value ≡ Ok x → value_at a.name names ≡ None
    → now ≡ names ++ (a.name, true) ∷ [] → AnswersBy (λ done. new) (given_behind given (attribute_of a x)) r → GoesOn s a names given now new r
goes_after s given new names now a x (Ok done) v n e h = λ attrs. next_attribute s names given a attrs x new true v n h ∙ ap (λ ns. given_behind new (attributes_behind s (keys_of ns) attrs)) (sym e)
goes_after s given new names now a x (Err (faults.Refused r)) v n e h = λ attrs. kind_refused s names given a attrs x r v n h
goes_after s given new names now a x (Err (faults.Memory m)) v n e h = λ attrs. tt

-- a refusal of what is left is one of all
pub refuses_all : (s : Scoped) (names first : List (List ℕ × Bool)) (given : List Pair) (a : Attr) (left attrs all : List Attr) (e : Fault)
    → given_behind given (attributes_behind s (keys_of names) left) ≡ attributes_behind s (keys_of first) all → left ≡ a ∷ attrs
    → Refuses (given_behind given (attributes_behind s (keys_of names) (a ∷ attrs))) e → Refuses (attributes_behind s (keys_of first) all) e
refuses_all s names first given a left attrs all e h k r = subst (λ (v : Result (List Pair) Refusal). Refuses v e) (ap (λ l. given_behind given (attributes_behind s (keys_of names) l)) (sym k) ∙ h) r
