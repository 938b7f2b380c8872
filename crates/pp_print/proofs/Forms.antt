-- The words of each form, by those of the expressions in it.
use Rattle.std.proofs.Common.{◌≡◌, ℕ, List, [], ◌∷◌, ◌++◌, map, refl, sym, ap, ◌∙◌, append_assoc}
use Rattle.std.specs.Prelude.{ℤ, Bool, Option, ◌+◌}
use Rattle.std.specs.Prelude as prelude
use Rattle.std.specs.List.{flat_map, join_by}
use Rattle.pp_syntax.specs.declared.tree.Expr.{Expr}
use Rattle.pp_syntax.specs.declared.tree.Form.{Form, Form-F, fold-roll-Form, roll-Form, map-Form}
use Rattle.pp_syntax.specs.declared.tree.Expr.{fold-Expr, fold_out-Expr}
use Rattle.pp_syntax.specs.declared.tree.Form.TheOpen as plain
use Rattle.pp_syntax.specs.declared.tree.Form.TheVariants as form
use Rattle.pp_syntax.specs.declared.tree.Form.TheVariants.{rolls-Int, rolls-Str, rolls-Var, rolls-Bool, rolls-Undef, rolls-List, rolls-Map, rolls-Refer, rolls-Join, rolls-Chain, rolls-Prefix, rolls-Index, rolls-Select}
use Rattle.pp_syntax.specs.declared.tree.Form.TheShapes.{former-Form-Select-1-at-3}
use Rattle.pp_syntax.specs.declared.tree.Op.{Op}
use Rattle.pp_print.specs.declared.words.Word.{Word}
use Rattle.pp_print.specs.Expressions.{Printed, operand, form_by, printed_form, printed, level_in, at_level, whole, pair_by, choice_by, hole_by, operation_by, indexed, expr_words}
use Rattle.pp_print.specs.Words.{word, sign, comma, listed, in_loose, in_braces, in_tight}
use Rattle.pp_syntax.specs.declared.token.Kind.TheVariants as kind
use Rattle.std.specs.Prelude.{codes, true, false, Result, Ok, Err, OnOk}
use Rattle.rh_base.specs.declared.text.NoMemory.{NoMemory}

-- ---- lists of what is mapped

-- items one behind the other have the words of what is put in place of them
pub flat_mapped : {X Y : Type 0} (f : Y → List Word) (h : X → Y) (xs : List X) → flat_map f (map h xs) ≡ flat_map (λ x. f (h x)) xs
flat_mapped f h [] = refl
flat_mapped f h (x ∷ xs) = ap (λ (r : List Word). f (h x) ++ r) (flat_mapped f h xs)

-- so have items with a separator
pub join_mapped : {X Y : Type 0} (f : Y → List Word) (sep : List Word) (h : X → Y) (xs : List X) → join_by f sep (map h xs) ≡ join_by (λ x. f (h x)) sep xs
join_mapped f sep h [] = refl
join_mapped f sep h (x ∷ xs) = ap (λ (r : List Word). f (h x) ++ r) (flat_mapped (λ y. sep ++ f y) h xs)

-- items one behind the other have the same words where each has
pub flat_same : {X : Type 0} (f g : X → List Word) → ((x : X) → f x ≡ g x) → (xs : List X) → flat_map f xs ≡ flat_map g xs
flat_same f g same [] = refl
flat_same f g same (x ∷ xs) = ap (λ (r : List Word). r ++ flat_map f xs) (same x) ∙ ap (λ (r : List Word). g x ++ r) (flat_same f g same xs)

-- so have items with a separator
pub join_same : {X : Type 0} (f g : X → List Word) (sep : List Word) → ((x : X) → f x ≡ g x) → (xs : List X) → join_by f sep xs ≡ join_by g sep xs
join_same f g sep same [] = refl
join_same f g sep same (x ∷ xs) = ap (λ (r : List Word). r ++ flat_map (λ y. sep ++ f y) xs) (same x) ∙ ap (λ (r : List Word). g x ++ r) (flat_same (λ y. sep ++ f y) (λ y. sep ++ g y) (λ y. ap (λ (r : List Word). sep ++ r) (same y)) xs)

-- ---- what a form's words are, from those of the expressions in it

-- the words of a choice follow what is put in place of its expressions
choice_mapped : {B X : Type 0} (f : X → Printed) (h : B → X) (c : Option B × B) → choice_by f (former-Form-Select-1-at-3.map B X h c) ≡ choice_by (λ x. f (h x)) c
choice_mapped f h (prelude.None, x) = refl
choice_mapped f h (prelude.Some y, x) = refl

-- the words of a form follow what is put in place of the expressions in it
pub form_natural : {A B G X : Type 0} (f : X → Printed) (g : A → G) (h : B → X) (d : Form-F A B) → form_by f (map-Form A B G X g h d) ≡ form_by (λ x. f (h x)) d
form_natural f g h (plain.Int n) = refl
form_natural f g h (plain.Str text) = refl
form_natural f g h (plain.Var name) = refl
form_natural f g h (plain.Bool b) = refl
form_natural f g h plain.Undef = refl
form_natural f g h (plain.List members) = ap (λ (r : List Word). operand (in_loose r) true) (join_mapped (whole f) comma h members)
form_natural {B = B} {X = X} f g h (plain.Map pairs) = ap (λ (r : List Word). operand (in_braces r) false) (join_mapped (pair_by f) comma (λ (p : B × B). record { 0 = h p.0; 1 = h p.1 }) pairs)
form_natural f g h (plain.Refer name titles) = ap (λ (r : List Word). operand (word kind.Ref name ++ in_tight r) true) (join_mapped (whole f) comma h titles)
form_natural f g h (plain.Join members) = ap (λ (r : List Word). operand (word kind.DqOpen (codes "\"") ++ (r ++ word kind.DqClose (codes "\""))) true) (flat_mapped (hole_by f) h members)
form_natural f g h (plain.Chain first []) = refl
form_natural {B = B} {X = X} f g h (plain.Chain first (o ∷ more)) = ap (λ (r : List Word). record { words = at_level (level_in (o ∷ more) + 1) (f (h first)) ++ (operation_by (λ x. f (h x)) (level_in (o ∷ more)) o ++ r); level = level_in (o ∷ more); indexable = false })
    (flat_mapped (operation_by f (level_in (o ∷ more))) (λ (p : Op × B). record { 0 = p.0; 1 = h p.1 }) more)
form_natural f g h (plain.Prefix ops x) = refl
form_natural f g h (plain.Index base key) = refl
form_natural {B = B} {X = X} f g h (plain.Select base choices) = ap (λ (r : List Word). operand (at_level 8 (f (h base)) ++ (sign (codes "?") ++ in_braces r)) false)
    (join_mapped (choice_by f) comma (former-Form-Select-1-at-3.map B X h) choices ∙ join_same (λ c. choice_by f (former-Form-Select-1-at-3.map B X h c)) (choice_by (λ x. f (h x))) comma (choice_mapped f h) choices)

-- what an expression is printed as, from the bottom up
folded : Expr → Printed
folded x = fold-Expr Printed Printed (form_by (λ p. p)) (λ x. x.form) x

-- that is what it is printed as
folded_is : (x : Expr) → folded x ≡ printed x
unfolding folded printed_form
folded_is x = fold_out-Expr Printed Printed (form_by (λ p. p)) (λ x. x.form) x

-- a form is printed as its first step
pub printed_rolled : (d : Form-F Form Expr) → printed_form (roll-Form d) ≡ form_by printed d
unfolding folded printed_form
printed_rolled d = fold-roll-Form Printed Printed (form_by (λ p. p)) (λ x. x.form) d ∙ form_natural (λ (p : Printed). p) printed_form folded d ∙ ap (λ (h : Expr → Printed). form_by h d) (λ i. λ x. folded_is x i)

-- ---- the same for each form

-- the words of a number
pub printed_int : (n : ℤ) → printed_form (form.Int n) ≡ form_by printed {Y = Form} (plain.Int n)
printed_int n = sym (ap printed_form (rolls-Int n)) ∙ printed_rolled (plain.Int n)

-- the words of a text
pub printed_str : (text : List ℕ) → printed_form (form.Str text) ≡ form_by printed {Y = Form} (plain.Str text)
printed_str text = sym (ap printed_form (rolls-Str text)) ∙ printed_rolled (plain.Str text)

-- the words of a variable
pub printed_var : (name : List ℕ) → printed_form (form.Var name) ≡ form_by printed {Y = Form} (plain.Var name)
printed_var name = sym (ap printed_form (rolls-Var name)) ∙ printed_rolled (plain.Var name)

-- the words of `true` and `false`
pub printed_bool : (b : Bool) → printed_form (form.Bool b) ≡ form_by printed {Y = Form} (plain.Bool b)
printed_bool b = sym (ap printed_form (rolls-Bool b)) ∙ printed_rolled (plain.Bool b)

-- the words of `undef`
pub printed_undef : printed_form form.Undef ≡ form_by printed {Y = Form} plain.Undef
printed_undef = sym (ap printed_form (rolls-Undef)) ∙ printed_rolled plain.Undef

-- the words of a list
pub printed_list : (members : List Expr) → printed_form (form.List members) ≡ form_by printed {Y = Form} (plain.List members)
printed_list members = sym (ap printed_form (rolls-List members)) ∙ printed_rolled (plain.List members)

-- the words of a map
pub printed_map : (pairs : List (Expr × Expr)) → printed_form (form.Map pairs) ≡ form_by printed {Y = Form} (plain.Map pairs)
printed_map pairs = sym (ap printed_form (rolls-Map pairs)) ∙ printed_rolled (plain.Map pairs)

-- the words of a reference
pub printed_refer : (name : List ℕ) (titles : List Expr) → printed_form (form.Refer name titles) ≡ form_by printed {Y = Form} (plain.Refer name titles)
printed_refer name titles = sym (ap printed_form (rolls-Refer name titles)) ∙ printed_rolled (plain.Refer name titles)

-- the words of a text in double quotes
pub printed_join : (members : List Expr) → printed_form (form.Join members) ≡ form_by printed {Y = Form} (plain.Join members)
printed_join members = sym (ap printed_form (rolls-Join members)) ∙ printed_rolled (plain.Join members)

-- the words of a chain of operators
pub printed_chain : (first : Expr) (more : List (Op × Expr)) → printed_form (form.Chain first more) ≡ form_by printed {Y = Form} (plain.Chain first more)
printed_chain first more = sym (ap printed_form (rolls-Chain first more)) ∙ printed_rolled (plain.Chain first more)

-- the words of prefixes
pub printed_prefix : (ops : List Op) (x : Expr) → printed_form (form.Prefix ops x) ≡ form_by printed {Y = Form} (plain.Prefix ops x)
printed_prefix ops x = sym (ap printed_form (rolls-Prefix ops x)) ∙ printed_rolled (plain.Prefix ops x)

-- the words of an index
pub printed_at : (base key : Expr) → printed_form (form.Index base key) ≡ form_by printed {Y = Form} (plain.Index base key)
printed_at base key = sym (ap printed_form (rolls-Index base key)) ∙ printed_rolled (plain.Index base key)

-- the words of a selection
pub printed_select : (base : Expr) (choices : List (Option Expr × Expr)) → printed_form (form.Select base choices) ≡ form_by printed {Y = Form} (plain.Select base choices)
printed_select base choices = sym (ap printed_form (rolls-Select base choices)) ∙ printed_rolled (plain.Select base choices)

-- the words of all forms of expressions
pub ruleset forms = (printed_int, printed_str, printed_var, printed_bool, printed_undef, printed_list, printed_map, printed_refer, printed_join, printed_chain, printed_prefix, printed_at, printed_select)

-- ---- what is written in two steps

-- words that are written in two parts are the words of both
pub in_two : (r : Result (Unit {0}) NoMemory) (old mid new a b all : List Word) → mid ≡ old ++ a → OnOk r (new ≡ mid ++ b) → all ≡ a ++ b → OnOk r (new ≡ old ++ all)
in_two (Ok x) old mid new a b all first second same = second ∙ ap (λ (w : List Word). w ++ b) first ∙ append_assoc old a b ∙ ap (λ (w : List Word). old ++ w) (sym same)
in_two (Err e) old mid new a b all first second same = tt

-- the words of a chain are those of its first operand and those of its operators
pub chain_in_two : (f : Form) (first x : Expr) (more ys zs : List (Op × Expr)) (level : ℕ) → f ≡ form.Chain first more → x ≡ first → ys ≡ more → zs ≡ more → level ≡ level_in ys
    → (printed_form f).words ≡ at_level (level + 1) (printed x) ++ flat_map (operation_by printed level) zs
chain_in_two f first x more ys zs level is x_is ys_is zs_is level_is = ap (λ (g : Form). (printed_form g).words) is ∙ ap (λ (p : Printed). p.words) (printed_chain first more)
    ∙ ap (λ (n : ℕ). at_level (n + 1) (printed first) ++ flat_map (operation_by printed n) more) (sym (level_is ∙ ap (λ (os : List (Op × Expr)). level_in os) ys_is))
    ∙ ap (λ (y : Expr). at_level (level + 1) (printed y) ++ flat_map (operation_by printed level) more) (sym x_is)
    ∙ ap (λ (os : List (Op × Expr)). at_level (level + 1) (printed x) ++ flat_map (operation_by printed level) os) (sym zs_is)

-- the words of an index are those of what is indexed and those in the brackets
pub index_in_two : (f : Form) (base key b k : Expr) → f ≡ form.Index base key → b ≡ base → k ≡ key → (printed_form f).words ≡ indexed (printed b) ++ in_tight (expr_words k)
index_in_two f base key b k is b_is k_is = ap (λ (g : Form). (printed_form g).words) is ∙ ap (λ (p : Printed). p.words) (printed_at base key)
    ∙ ap (λ (x : Expr). indexed (printed x) ++ in_tight (expr_words key)) (sym b_is) ∙ ap (λ (x : Expr). indexed (printed b) ++ in_tight (expr_words x)) (sym k_is)

-- the words of a selection are those of what is asked and those of its choices
pub select_in_two : (f : Form) (base b : Expr) (choices cs : List (Option Expr × Expr)) → f ≡ form.Select base choices → b ≡ base → cs ≡ choices
    → (printed_form f).words ≡ at_level 8 (printed b) ++ (sign (codes "?") ++ in_braces (listed (choice_by printed) cs))
select_in_two f base b choices cs is b_is cs_is = ap (λ (g : Form). (printed_form g).words) is ∙ ap (λ (p : Printed). p.words) (printed_select base choices)
    ∙ ap (λ (x : Expr). at_level 8 (printed x) ++ (sign (codes "?") ++ in_braces (listed (choice_by printed) choices))) (sym b_is)
    ∙ ap (λ (ds : List (Option Expr × Expr)). at_level 8 (printed b) ++ (sign (codes "?") ++ in_braces (listed (choice_by printed) ds))) (sym cs_is)
