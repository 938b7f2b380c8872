-- What is read is spelled: names, functions, types and arrows, each of one token.
use Rattle.std.proofs.Common.{◌≡◌, ℕ, ◌==◌, ◌||◌, Bool, true, false, cond, List, [], ◌∷◌, Option, Some, None, refl, sym, ap, subst, ◌∙◌}
use Rattle.std.specs.Prelude.{codes}
use Rattle.std.specs.Str.{bytes_eq}
use Rattle.std.proofs.lemmas.Slice.Eq.{bytes_eq-Decides}
use Rattle.pp_syntax.specs.declared.token.Kind.{Kind}
use Rattle.pp_syntax.specs.declared.token.Kind.TheVariants as kind
use Rattle.pp_syntax.specs.declared.tree.Arrow.{Arrow}
use Rattle.pp_syntax.specs.declared.tree.Arrow.TheVariants as arrow
use Rattle.pp_syntax.specs.declared.tree.Func.{Func}
use Rattle.pp_syntax.specs.declared.tree.Func.TheVariants as func
use Rattle.pp_syntax.specs.Tokens.{Lexeme, is_among}
use Rattle.pp_syntax.specs.Phrases as phrases
use Rattle.pp_syntax.specs.Statements.{is_qualified, NameOf, word, keyword, VariableOf, word_of, functions, ArrowOf, arrow_of}
use Rattle.pp_readers.specs.Values.{behind_byte}
use Rattle.pp_readers.proofs.Finding.{Finds}
use Rattle.pp_syntax.specs.Statements.{function_of}
use Rattle.pp_readers.specs.Names.{taken, plain_name, name_by, variable_by, ref_by, function_by, unless_function, type_by, arrow_by}
use Rattle.pp_readers.proofs.Combining.{taken_found}
use Rattle.pp_readers.proofs.Digits.{behind_some}
use Rattle.rh_base.proofs.Options.{bind_some}

-- one token of this kind and text, at this place
abbrev token : Kind → List ℕ → ℕ → List Lexeme
token k s at = record { kind = k; text = s; at = at } ∷ []

-- a name that is found without `::` is the text, and has none
plain_found : (s x : List ℕ) → plain_name s ≡ Some x → (s ≡ x) × (is_qualified x ≡ false)
plain_found s x h = by_test (is_qualified s) refl h
  where
    by_test : (v : Bool) → is_qualified s ≡ v → cond v None (Some s) ≡ Some x → (s ≡ x) × (is_qualified x ≡ false)
    by_test true p k = cc
    by_test false p k = let e : s ≡ x = cc in (e, subst (λ (u : List ℕ). is_qualified u ≡ false) e p)

-- a token that is a name is spelled as it
name_is : (k : Kind) (s x : List ℕ) (at : ℕ) → name_by k s ≡ Some x → NameOf x (token k s at)
name_is kind.Word s x at h = let p = plain_found s x h in word (at, ap (λ (u : List ℕ). token kind.Word u at) p.0) p.1
name_is kind.Keyword s x at h = let e : s ≡ x = cc in keyword (at, ap (λ (u : List ℕ). token kind.Keyword u at) e)
name_is kind.Ref s x at h = cc
name_is kind.Var s x at h = cc
name_is kind.Int s x at h = cc
name_is kind.Float s x at h = cc
name_is kind.Sq s x at h = cc
name_is kind.DqOpen s x at h = cc
name_is kind.DqText s x at h = cc
name_is kind.DqVar s x at h = cc
name_is kind.Hole s x at h = cc
name_is kind.HoleEnd s x at h = cc
name_is kind.DqClose s x at h = cc
name_is kind.Tight s x at h = cc
name_is kind.Loose s x at h = cc
name_is kind.Sign s x at h = cc
name_is kind.LeftOut s x at h = cc

-- what is read as a name is spelled so
pub name_found : Finds (taken name_by) NameOf
name_found = taken_found name_by NameOf name_is

-- a token that is a variable is spelled as it
variable_is : (k : Kind) (s x : List ℕ) (at : ℕ) → variable_by k s ≡ Some x → VariableOf x (token k s at)
variable_is kind.Var s x at h =
    let a = bind_some (behind_byte 36 s) plain_name x h in
    let p = plain_found a.0 x a.2 in
    ((at, ap (λ (u : List ℕ). token kind.Var u at) (behind_some 36 s a.0 a.1 ∙ ap (λ (u : List ℕ). 36 ∷ u) p.0)), p.1)
variable_is kind.Word s x at h = cc
variable_is kind.Keyword s x at h = cc
variable_is kind.Ref s x at h = cc
variable_is kind.Int s x at h = cc
variable_is kind.Float s x at h = cc
variable_is kind.Sq s x at h = cc
variable_is kind.DqOpen s x at h = cc
variable_is kind.DqText s x at h = cc
variable_is kind.DqVar s x at h = cc
variable_is kind.Hole s x at h = cc
variable_is kind.HoleEnd s x at h = cc
variable_is kind.DqClose s x at h = cc
variable_is kind.Tight s x at h = cc
variable_is kind.Loose s x at h = cc
variable_is kind.Sign s x at h = cc
variable_is kind.LeftOut s x at h = cc

-- what is read as a variable is spelled so
pub variable_found : Finds (taken variable_by) VariableOf
variable_found = taken_found variable_by VariableOf variable_is

-- a token that is a type's name in capitals is spelled as it
ref_is : (k : Kind) (s x : List ℕ) (at : ℕ) → ref_by k s ≡ Some x → phrases.Some kind.Ref x (token k s at)
ref_is kind.Ref s x at h = let e : s ≡ x = cc in (at, ap (λ (u : List ℕ). token kind.Ref u at) e)
ref_is kind.Var s x at h = cc
ref_is kind.Word s x at h = cc
ref_is kind.Keyword s x at h = cc
ref_is kind.Int s x at h = cc
ref_is kind.Float s x at h = cc
ref_is kind.Sq s x at h = cc
ref_is kind.DqOpen s x at h = cc
ref_is kind.DqText s x at h = cc
ref_is kind.DqVar s x at h = cc
ref_is kind.Hole s x at h = cc
ref_is kind.HoleEnd s x at h = cc
ref_is kind.DqClose s x at h = cc
ref_is kind.Tight s x at h = cc
ref_is kind.Loose s x at h = cc
ref_is kind.Sign s x at h = cc
ref_is kind.LeftOut s x at h = cc

-- what is read as a type's name in capitals is spelled so
pub ref_found : Finds (taken ref_by) (phrases.Some kind.Ref)
ref_found = taken_found ref_by (phrases.Some kind.Ref) ref_is

-- ---- functions and types

-- a test of a text, and what goes on where it fails
tested : {X : Type 0} (s w : List ℕ) (o p : X) (other : Option X) (P : X → List ℕ → Type 0) → P o w → (other ≡ Some p → P p s) → cond (bytes_eq s w) (Some o) other ≡ Some p → P p s
tested {X} s w o p other P is rest h = by_test (bytes_eq s w) refl h
  where
    by_test : (v : Bool) → bytes_eq s w ≡ v → cond v (Some o) other ≡ Some p → P p s
    by_test true t e =
        let two : o ≡ p = cc in
        subst (λ (q : X). P q s) two (subst (λ (u : List ℕ). P o u) (sym ((bytes_eq-Decides s w).0 t)) is)
    by_test false t e = rest e

-- the text is the word of the function
abbrev IsWordOf : Func → List ℕ → Type 0
IsWordOf f s = s ≡ word_of f

-- a text that is told to be a function is its word
pub function_word : (s : List ℕ) (f : Func) → function_of s ≡ Some f → s ≡ word_of f
function_word s f h =
    tested s (codes "include") func.Include f _ IsWordOf refl (λ h.
    tested s (codes "require") func.Require f _ IsWordOf refl (λ h.
    tested s (codes "contain") func.Contain f _ IsWordOf refl (λ h.
    tested s (codes "realize") func.Realize f _ IsWordOf refl (λ h.
    tested s (codes "fail") func.Fail f _ IsWordOf refl (λ h.
    tested s (codes "notice") func.Notice f _ IsWordOf refl (λ h.
    tested s (codes "warning") func.Warning f None IsWordOf refl (λ h. cc) h) h) h) h) h) h) h

-- the word of this function
abbrev IsFunction : Func → List Lexeme → Type 0
IsFunction f = phrases.Some kind.Word (word_of f)

-- a token that is a function is spelled as it
function_is : (k : Kind) (s : List ℕ) (f : Func) (at : ℕ) → function_by k s ≡ Some f → IsFunction f (token k s at)
function_is kind.Word s f at h = (at, ap (λ (u : List ℕ). token kind.Word u at) (function_word s f h))
function_is kind.Ref s x at h = cc
function_is kind.Var s x at h = cc
function_is kind.Keyword s x at h = cc
function_is kind.Int s x at h = cc
function_is kind.Float s x at h = cc
function_is kind.Sq s x at h = cc
function_is kind.DqOpen s x at h = cc
function_is kind.DqText s x at h = cc
function_is kind.DqVar s x at h = cc
function_is kind.Hole s x at h = cc
function_is kind.HoleEnd s x at h = cc
function_is kind.DqClose s x at h = cc
function_is kind.Tight s x at h = cc
function_is kind.Loose s x at h = cc
function_is kind.Sign s x at h = cc
function_is kind.LeftOut s x at h = cc

-- what is read as a function is spelled so
pub function_found : Finds (taken function_by) (λ f. phrases.Some kind.Word (word_of f))
function_found = taken_found function_by (λ f. phrases.Some kind.Word (word_of f)) function_is

-- texts are compared alike in both directions
same_turned : (s w : List ℕ) → bytes_eq s w ≡ bytes_eq w s
same_turned s w = by_tests (bytes_eq s w) (bytes_eq w s) refl refl
  where
    by_tests : (a b : Bool) → bytes_eq s w ≡ a → bytes_eq w s ≡ b → a ≡ b
    by_tests true true p q = refl
    by_tests false false p q = refl
    by_tests true false p q = sym ((bytes_eq-Decides w s).1 (sym ((bytes_eq-Decides s w).0 p))) ∙ q
    by_tests false true p q = sym p ∙ (bytes_eq-Decides s w).1 (sym ((bytes_eq-Decides w s).0 q))

-- seven tests in a row: that none of them holds, and that no function is found
seven : (a b c d e f g : Bool) → Option Func
seven a b c d e f g = cond a (Some func.Include) (cond b (Some func.Require) (cond c (Some func.Contain) (cond d (Some func.Realize) (cond e (Some func.Fail) (cond f (Some func.Notice) (cond g (Some func.Warning) None))))))

-- where seven tests find none, none holds
none_of : (a b c d e f g : Bool) → seven a b c d e f g ≡ None → (a || (b || (c || (d || (e || (f || (g || false))))))) ≡ false
unfolding seven
none_of false false false false false false false h = refl
none_of true b c d e f g h = cc
none_of false true c d e f g h = cc
none_of false false true d e f g h = cc
none_of false false false true e f g h = cc
none_of false false false false true f g h = cc
none_of false false false false false true g h = cc
none_of false false false false false false true h = cc

-- where none of seven tests holds, they find none
none_back : (a b c d e f g : Bool) → (a || (b || (c || (d || (e || (f || (g || false))))))) ≡ false → seven a b c d e f g ≡ None
unfolding seven
none_back false false false false false false false h = refl
none_back true b c d e f g h = cc
none_back false true c d e f g h = cc
none_back false false true d e f g h = cc
none_back false false false true e f g h = cc
none_back false false false false true f g h = cc
none_back false false false false false true g h = cc
none_back false false false false false false true h = cc

-- a word is among the functions where one of the seven tests of it holds
tests_turned : (s : List ℕ) → is_among functions s ≡ (bytes_eq s (codes "include") || (bytes_eq s (codes "require") || (bytes_eq s (codes "contain") || (bytes_eq s (codes "realize") || (bytes_eq s (codes "fail") || (bytes_eq s (codes "notice") || (bytes_eq s (codes "warning") || false)))))))
tests_turned s =
    ap (λ v. v || is_among (codes "require" ∷ codes "contain" ∷ codes "realize" ∷ codes "fail" ∷ codes "notice" ∷ codes "warning" ∷ []) s) (same_turned (codes "include") s)
    ∙ ap (λ v. bytes_eq s (codes "include") || (v || is_among (codes "contain" ∷ codes "realize" ∷ codes "fail" ∷ codes "notice" ∷ codes "warning" ∷ []) s)) (same_turned (codes "require") s)
    ∙ ap (λ v. bytes_eq s (codes "include") || (bytes_eq s (codes "require") || (v || is_among (codes "realize" ∷ codes "fail" ∷ codes "notice" ∷ codes "warning" ∷ []) s))) (same_turned (codes "contain") s)
    ∙ ap (λ v. bytes_eq s (codes "include") || (bytes_eq s (codes "require") || (bytes_eq s (codes "contain") || (v || is_among (codes "fail" ∷ codes "notice" ∷ codes "warning" ∷ []) s)))) (same_turned (codes "realize") s)
    ∙ ap (λ v. bytes_eq s (codes "include") || (bytes_eq s (codes "require") || (bytes_eq s (codes "contain") || (bytes_eq s (codes "realize") || (v || is_among (codes "notice" ∷ codes "warning" ∷ []) s))))) (same_turned (codes "fail") s)
    ∙ ap (λ v. bytes_eq s (codes "include") || (bytes_eq s (codes "require") || (bytes_eq s (codes "contain") || (bytes_eq s (codes "realize") || (bytes_eq s (codes "fail") || (v || is_among (codes "warning" ∷ []) s)))))) (same_turned (codes "notice") s)
    ∙ ap (λ v. bytes_eq s (codes "include") || (bytes_eq s (codes "require") || (bytes_eq s (codes "contain") || (bytes_eq s (codes "realize") || (bytes_eq s (codes "fail") || (bytes_eq s (codes "notice") || (v || false))))))) (same_turned (codes "warning") s)

-- a word that is told to be no function is none of them
pub no_function : (s : List ℕ) → function_of s ≡ None → is_among functions s ≡ false
unfolding seven
no_function s h =
    tests_turned s ∙ none_of (bytes_eq s (codes "include")) (bytes_eq s (codes "require")) (bytes_eq s (codes "contain")) (bytes_eq s (codes "realize")) (bytes_eq s (codes "fail")) (bytes_eq s (codes "notice")) (bytes_eq s (codes "warning")) h

-- and one that is none of them is told to be none
pub function_none : (s : List ℕ) → is_among functions s ≡ false → function_of s ≡ None
unfolding seven
function_none s h =
    none_back (bytes_eq s (codes "include")) (bytes_eq s (codes "require")) (bytes_eq s (codes "contain")) (bytes_eq s (codes "realize")) (bytes_eq s (codes "fail")) (bytes_eq s (codes "notice")) (bytes_eq s (codes "warning")) (sym (tests_turned s) ∙ h)

-- a type's name: a word that is no function
abbrev pub TypeName : List ℕ → List Lexeme → Type 0
TypeName name us = phrases.Some kind.Word name us × (is_among functions name ≡ false)

-- what is told to be no function's word is the text, and is no function
type_word : (s x : List ℕ) (r : Option Func) → function_of s ≡ r → unless_function s r ≡ Some x → (s ≡ x) × (is_among functions x ≡ false)
type_word s x None p h = let e : s ≡ x = cc in (e, subst (λ (u : List ℕ). is_among functions u ≡ false) e (no_function s p))
type_word s x (Some f) p h = cc

-- a token that is a type's name is spelled as it
type_is : (k : Kind) (s x : List ℕ) (at : ℕ) → type_by k s ≡ Some x → TypeName x (token k s at)
type_is kind.Word s x at h = let p = type_word s x (function_of s) refl h in ((at, ap (λ (u : List ℕ). token kind.Word u at) p.0), p.1)
type_is kind.Ref s x at h = cc
type_is kind.Var s x at h = cc
type_is kind.Keyword s x at h = cc
type_is kind.Int s x at h = cc
type_is kind.Float s x at h = cc
type_is kind.Sq s x at h = cc
type_is kind.DqOpen s x at h = cc
type_is kind.DqText s x at h = cc
type_is kind.DqVar s x at h = cc
type_is kind.Hole s x at h = cc
type_is kind.HoleEnd s x at h = cc
type_is kind.DqClose s x at h = cc
type_is kind.Tight s x at h = cc
type_is kind.Loose s x at h = cc
type_is kind.Sign s x at h = cc
type_is kind.LeftOut s x at h = cc

-- what is read as a type's name is spelled so
pub type_found : Finds (taken type_by) TypeName
type_found = taken_found type_by TypeName type_is

-- ---- arrows

-- the sign of this text is this arrow, wherever it stands
abbrev IsArrow : Arrow → List ℕ → Type 0
IsArrow a s = (at : ℕ) → ArrowOf a (token kind.Sign s at)

-- a text that is told to be an arrow is spelled as it
arrow_sign : (s : List ℕ) (a : Arrow) → arrow_of s ≡ Some a → IsArrow a s
arrow_sign s a h =
    tested s (codes "->") arrow.Before a _ IsArrow (λ at. (at, refl)) (λ h.
    tested s (codes "~>") arrow.Notify a _ IsArrow (λ at. (at, refl)) (λ h.
    tested s (codes "<-") arrow.After a _ IsArrow (λ at. (at, refl)) (λ h.
    tested s (codes "<~") arrow.Follow a None IsArrow (λ at. (at, refl)) (λ h. cc) h) h) h) h

-- a token that is an arrow is spelled as it
arrow_is : (k : Kind) (s : List ℕ) (a : Arrow) (at : ℕ) → arrow_by k s ≡ Some a → ArrowOf a (token k s at)
arrow_is kind.Sign s a at h = arrow_sign s a h at
arrow_is kind.Ref s x at h = cc
arrow_is kind.Var s x at h = cc
arrow_is kind.Word s x at h = cc
arrow_is kind.Keyword s x at h = cc
arrow_is kind.Int s x at h = cc
arrow_is kind.Float s x at h = cc
arrow_is kind.Sq s x at h = cc
arrow_is kind.DqOpen s x at h = cc
arrow_is kind.DqText s x at h = cc
arrow_is kind.DqVar s x at h = cc
arrow_is kind.Hole s x at h = cc
arrow_is kind.HoleEnd s x at h = cc
arrow_is kind.DqClose s x at h = cc
arrow_is kind.Tight s x at h = cc
arrow_is kind.Loose s x at h = cc
arrow_is kind.LeftOut s x at h = cc

-- what is read as an arrow is spelled so
pub arrow_found : Finds (taken arrow_by) ArrowOf
arrow_found = taken_found arrow_by ArrowOf arrow_is
