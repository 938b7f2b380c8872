-- The places that are kept of classes are those of their scopes.
use Rattle.std.proofs.Common.{◌≡◌, ℕ, zero, suc, ◌+◌, Bool, true, false, cond, List, [], ◌∷◌, ◌++◌, length, Option, Some, None, Result, Ok, Err, OnOk, OnErr, refl, sym, ap, subst, ◌∙◌, append_assoc, length-append, arith}
use Rattle.std.specs.Prelude.{slice_get, option_and_then, is_none, is_some}
use Rattle.std.specs.Str.{bytes_eq}
use Rattle.rh_base.specs.declared.text.NoMemory.{NoMemory}
use Rattle.pp_value.specs.declared.value.Value.{Value}
use Rattle.pp_value.specs.Values.{Pair}
use Rattle.pp_value.specs.Texts.{lowered}
use Rattle.pp_eval.specs.declared.scope.Scope.{Scope}
use Rattle.pp_eval.specs.declared.scope.Sort.{Sort}
use Rattle.pp_eval.specs.declared.scope.Sort.TheVariants as sort
use Rattle.pp_eval.specs.declared.scopes.BindFault.{BindFault}
use Rattle.pp_eval.specs.declared.scopes.BindFault.TheVariants as fault
use Rattle.std.specs.Option.{option_or}
use Rattle.std.proofs.lemmas.Slice.Eq.{bytes_eq-Decides}
use Rattle.pp_eval.specs.ClassNames.{Named, place_among, AreKept}
use Rattle.pp_eval.proofs.OpenLaws.{PlaceBelow, entered_are}
use Rattle.pp_eval.proofs.Inheritance.{parent_within}
use Rattle.pp_eval.specs.Scoping.{AreScopes, is_class_of, class_of, class_place, with_bindings_at, BindsAt, bindings_at}

-- ---- looking up

-- the scope behind a front stands at the front's length
got : (front : List Scope) (s : Scope) (scopes : List Scope) → slice_get (front ++ s ∷ scopes) (length front) ≡ Some s
got [] s scopes = refl
got (f ∷ front) s scopes = got front s scopes

-- what is found at a place behind a front is the first scope or one of the others
scope_from : (t : Bool) (front : List Scope) (s : Scope) (scopes : List Scope) (place : Option ℕ) (found : Option Scope) → option_and_then (slice_get (front ++ s ∷ scopes)) place ≡ found
    → option_and_then (slice_get (front ++ s ∷ scopes)) (cond t (Some (length front)) place) ≡ cond t (Some s) found
scope_from true front s scopes place found h = got front s scopes
scope_from false front s scopes place found h = h

-- the scope at the place of a class is the class's scope
scope_behind : (name : List ℕ) (front scopes : List Scope) → option_and_then (slice_get (front ++ scopes)) (class_place (length front) scopes name) ≡ class_of scopes name
scope_behind name front [] = refl
scope_behind name front (s ∷ scopes) =
    let rest : option_and_then (slice_get ((front ++ s ∷ []) ++ scopes)) (class_place (length (front ++ s ∷ [])) scopes name) ≡ class_of scopes name = scope_behind name (front ++ s ∷ []) scopes in
    let long : length (front ++ s ∷ []) ≡ length front + 1 = length-append front (s ∷ []) in
    let same : option_and_then (slice_get (front ++ s ∷ scopes)) (class_place (length front + 1) scopes name) ≡ class_of scopes name =
    (λ i. option_and_then (slice_get (sym (append_assoc front (s ∷ []) scopes) i)) (class_place (sym long i) scopes name)) ∙ rest in
    scope_from (is_class_of name s.sort) front s scopes (class_place (length front + 1) scopes name) (class_of scopes name) same

-- so is the scope at the place that is kept of it
pub found_scope : (name : List ℕ) (classes : List Named) (scopes : List Scope) → AreKept classes scopes → option_and_then (slice_get scopes) (place_among name classes) ≡ class_of scopes name
found_scope name classes scopes kept = ap (option_and_then (slice_get scopes)) (kept name) ∙ scope_behind name [] scopes

-- the place that is kept of a parent is that of its scope
pub parent_place : (classes : List Named) (scopes : List Scope) (parent : Option (List ℕ)) → AreKept classes scopes → option_and_then (λ p. place_among p classes) parent ≡ option_and_then (class_place 0 scopes) parent
parent_place classes scopes None kept = refl
parent_place classes scopes (Some name) kept = kept name

-- ---- what changes

-- one more scope is found where none before it is
head_or : (t : Bool) (n : ℕ) (o last : Option ℕ) (more : Option ℕ) → more ≡ option_or o last → cond t (Some n) more ≡ option_or (cond t (Some n) o) last
head_or true n o last more h = refl
head_or false n o last more h = h

-- one more scope has its place behind all others
place_last : (name : List ℕ) (n : ℕ) (scopes : List Scope) (s : Scope) → class_place n (scopes ++ s ∷ []) name ≡ option_or (class_place n scopes name) (cond (is_class_of name s.sort) (Some (n + length scopes)) None)
place_last name n [] s = ap (λ m. cond (is_class_of name s.sort) (Some m) None) (omega arith)
place_last name n (t ∷ scopes) s =
    let place : (n + 1) + length scopes ≡ n + suc (length scopes) = omega arith in
    head_or (is_class_of name t.sort) n (class_place (n + 1) scopes name) (cond (is_class_of name s.sort) (Some (n + suc (length scopes))) None) (class_place (n + 1) (scopes ++ s ∷ []) name)
    (place_last name (n + 1) scopes s ∙ ap (λ m. option_or (class_place (n + 1) scopes name) (cond (is_class_of name s.sort) (Some m) None)) place)

-- the same where places are counted from 0
last_here : (name : List ℕ) (scopes : List Scope) (s : Scope) → class_place 0 (scopes ++ s ∷ []) name ≡ option_or (class_place 0 scopes name) (cond (is_class_of name s.sort) (Some (length scopes)) None)
last_here name scopes s = place_last name 0 scopes s ∙ ap (λ m. option_or (class_place 0 scopes name) (cond (is_class_of name s.sort) (Some m) None)) (omega arith)

-- one more name has its place behind all others
among_last : (name key : List ℕ) (place : ℕ) (classes : List Named) → place_among name (classes ++ (key, place) ∷ []) ≡ option_or (place_among name classes) (cond (bytes_eq key (lowered name)) (Some place) None)
among_last name key place [] = refl
among_last name key place (c ∷ classes) =
    head_or (bytes_eq c.0 (lowered name)) c.1 (place_among name classes) (cond (bytes_eq key (lowered name)) (Some place) None) (place_among name (classes ++ (key, place) ∷ [])) (among_last name key place classes)

-- A scope of no class changes no place.
or_none : (o : Option ℕ) → o ≡ option_or o None
or_none None = refl
or_none (Some n) = refl

-- a scope of no class leaves the kept places right
kept_others : (classes : List Named) (scopes : List Scope) (s : Scope) → ((name : List ℕ) → is_class_of name s.sort ≡ false) → AreKept classes scopes → AreKept classes (scopes ++ s ∷ [])
kept_others classes scopes s other kept name =
    kept name ∙ (or_none (class_place 0 scopes name) ∙ (ap (λ t. option_or (class_place 0 scopes name) (cond t (Some (length scopes)) None)) (sym (other name)) ∙ sym (last_here name scopes s)))

-- Nor does one of a class whose name stands already.
or_some : (o last : Option ℕ) → is_none o ≡ false → o ≡ option_or o last
or_some None last h = cc
or_some (Some n) last h = refl

-- a place behind counts for nothing where one is there already
again_by : (o last : Option ℕ) (t : Bool) (k : ℕ) → (t ≡ true → is_none o ≡ false) → o ≡ option_or o (cond t (Some k) None)
again_by o last true k h = or_some o (Some k) (h refl)
again_by o last false k h = or_none o

-- what is told to be there isn't missing
pub stands_by : (o found : Option ℕ) (b : Bool) → found ≡ o → b ≡ is_some found → b ≡ true → is_none o ≡ false
stands_by o None b e is h = cc
stands_by o (Some n) b e is h = ap is_none (sym e)

-- names that are equal, ASCII case aside, have one place
one_place : (class name : List ℕ) (classes : List Named) → lowered class ≡ lowered name → place_among name classes ≡ place_among class classes
one_place class name [] same = refl
one_place class name (c ∷ classes) same = λ i. cond (bytes_eq c.0 (sym same i)) (Some c.1) (one_place class name classes same i)

-- a scope of a class whose name stands already leaves the kept places right
kept_again : (classes : List Named) (scopes : List Scope) (s : Scope) (class : List ℕ) → s.sort ≡ sort.Class class → is_none (place_among class classes) ≡ false → AreKept classes scopes → AreKept classes (scopes ++ s ∷ [])
kept_again classes scopes s class is stands kept name =
    kept name ∙ (again_by (class_place 0 scopes name) None (is_class_of name s.sort) (length scopes) here ∙ sym (last_here name scopes s))
  where
    here : is_class_of name s.sort ≡ true → is_none (class_place 0 scopes name) ≡ false
    here h =
        let same : lowered class ≡ lowered name = (bytes_eq-Decides (lowered class) (lowered name)).0 (ap (is_class_of name) (sym is) ∙ h) in
        ap is_none (sym (kept name)) ∙ (ap is_none (one_place class name classes same) ∙ stands)

-- One of a class of a new name stands last.
kept_more : (classes : List Named) (scopes : List Scope) (s : Scope) (class : List ℕ) → s.sort ≡ sort.Class class → AreKept classes scopes → AreKept (classes ++ (lowered class, length scopes) ∷ []) (scopes ++ s ∷ [])
kept_more classes scopes s class is kept name =
    among_last name (lowered class) (length scopes) classes
    ∙ (ap (λ (o : Option ℕ). option_or o (cond (bytes_eq (lowered class) (lowered name)) (Some (length scopes)) None)) (kept name)
    ∙ (ap (λ (k : Sort). option_or (class_place 0 scopes name) (cond (is_class_of name k) (Some (length scopes)) None)) (sym is) ∙ sym (last_here name scopes s)))

-- bindings change no class's place
same_places : (place n : ℕ) (b : List Pair) (scopes : List Scope) (name : List ℕ) → class_place n (with_bindings_at place b scopes) name ≡ class_place n scopes name
same_places place n b [] name = refl
same_places zero n b (s ∷ scopes) name = refl
same_places (suc place) n b (s ∷ scopes) name = ap (λ more. cond (is_class_of name s.sort) (Some n) more) (same_places place (n + 1) b scopes name)

-- binding a name leaves the kept places right
pub bound_kept : (place : ℕ) (old : List Scope) (name : List ℕ) (x : Value) (new : List Scope) (r : Result (Unit {0}) BindFault) (classes : List Named) → BindsAt place old name x new r → AreKept classes old → AreKept classes new
bound_kept place old name x new (Ok done) classes h kept class = kept class ∙ (sym (same_places place 0 (bindings_at place old ++ (name, x) ∷ []) old class) ∙ ap (λ (s : List Scope). class_place 0 s class) (sym h.1))
bound_kept place old name x new (Err fault.Again) classes h kept class = kept class ∙ ap (λ (s : List Scope). class_place 0 s class) (sym h.1)
bound_kept place old name x new (Err (fault.Memory m)) classes h kept class = kept class ∙ ap (λ (s : List Scope). class_place 0 s class) (sym h.1)

-- ---- entering a scope

-- what is kept of all scopes
abbrev pub Inside : List Scope → List ℕ → List Named → Type 0
Inside scopes opened classes = AreScopes scopes opened × AreKept classes scopes

-- where nothing changes, what is kept stays so
stays : (scopes new : List Scope) (opened more : List ℕ) (classes kept : List Named) → new ≡ scopes → more ≡ opened → kept ≡ classes → Inside scopes opened classes → Inside new more kept
stays scopes new opened more classes kept e f g h =
    subst (λ (c : List Named). Inside new more c) (sym g) (subst (λ (o : List ℕ). Inside new o classes) (sym f) (subst (λ (s : List Scope). Inside s opened classes) (sym e) h))

-- with one more scope and what is kept of it, what is kept of all stays so
grows : (scopes new : List Scope) (s : Scope) (opened more : List ℕ) (classes kept : List Named) → PlaceBelow (length scopes) s.parent → new ≡ scopes ++ s ∷ [] → more ≡ opened ++ length scopes ∷ [] → AreKept kept (scopes ++ s ∷ []) → Inside scopes opened classes → Inside new more kept
grows scopes new s opened more classes kept low e f g h = (
  subst (λ (o : List ℕ). AreScopes new o) (sym f) (subst (λ (t : List Scope). AreScopes t (opened ++ length scopes ∷ [])) (sym e) (entered_are scopes opened s h.0 low)),
  subst (λ (t : List Scope). AreKept kept t) (sym e) g,
)

-- no place is above anything
none_below : (n : ℕ) (o : Option ℕ) → o ≡ None → PlaceBelow n o
none_below n o none place h = let clash : ◌≡◌ {A = Option ℕ} None (Some place) = sym none ∙ h in cc

-- entering a scope of no class keeps what is kept of all
pub entered_inside : (scopes new : List Scope) (s : Scope) (opened more : List ℕ) (classes : List Named) (r : Result (Unit {0}) NoMemory) → ((name : List ℕ) → is_class_of name s.sort ≡ false) → s.parent ≡ None → Inside scopes opened classes
    → OnOk r (new ≡ scopes ++ s ∷ []) → OnOk r (more ≡ opened ++ length scopes ∷ []) → OnErr r (new ≡ scopes) → OnErr r (more ≡ opened) → Inside new more classes
entered_inside scopes new s opened more classes (Ok done) other alone h e f c d =
    grows scopes new s opened more classes classes (none_below (length scopes) s.parent alone) e f (kept_others classes scopes s other h.1) h
entered_inside scopes new s opened more classes (Err m) other alone h a b e f = stays scopes new opened more classes classes e f refl h

-- the place of a parent that is kept is that of a class
pub parent_below : (scopes : List Scope) (o : Option ℕ) (classes : List Named) (parent : Option (List ℕ)) → AreKept classes scopes → o ≡ option_and_then (λ p. place_among p classes) parent → PlaceBelow (length scopes) o
parent_below scopes o classes parent kept is place h = parent_within scopes parent place (sym (parent_place classes scopes parent kept) ∙ (sym is ∙ h))

-- a class of a name that stands already
pub again_inside : (scopes new : List Scope) (s : Scope) (name : List ℕ) (opened more : List ℕ) (classes : List Named) (r : Result (Unit {0}) NoMemory) → s.sort ≡ sort.Class name → is_none (place_among name classes) ≡ false → PlaceBelow (length scopes) s.parent → Inside scopes opened classes
    → OnOk r (new ≡ scopes ++ s ∷ []) → OnOk r (more ≡ opened ++ length scopes ∷ []) → OnErr r (new ≡ scopes) → OnErr r (more ≡ opened) → Inside new more classes
again_inside scopes new s name opened more classes (Ok done) is stands low h e f a b =
    grows scopes new s opened more classes classes low e f (kept_again classes scopes s name is stands h.1) h
again_inside scopes new s name opened more classes (Err m) is stands low h a b e f = stays scopes new opened more classes classes e f refl h

-- entering a class of a new name keeps what is kept of all
pub class_inside : (scopes new : List Scope) (s : Scope) (name : List ℕ) (opened more : List ℕ) (classes kept : List Named) (r : Result (Unit {0}) NoMemory) → s.sort ≡ sort.Class name → PlaceBelow (length scopes) s.parent → Inside scopes opened classes
    → OnOk r (new ≡ scopes ++ s ∷ []) → OnOk r (more ≡ opened ++ length scopes ∷ []) → OnOk r (kept ≡ classes ++ (lowered name, length scopes) ∷ [])
    → OnErr r (new ≡ scopes) → OnErr r (more ≡ opened) → OnErr r (kept ≡ classes) → Inside new more kept
class_inside scopes new s name opened more classes kept (Ok done) is low h e f g a b c =
    grows scopes new s opened more classes kept low e f (subst (λ (cs : List Named). AreKept cs (scopes ++ s ∷ [])) (sym g) (kept_more classes scopes s name is h.1)) h
class_inside scopes new s name opened more classes kept (Err m) is low h a b c e f g = stays scopes new opened more classes kept e f g h
