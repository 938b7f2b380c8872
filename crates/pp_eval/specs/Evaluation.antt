-- The value of an expression, form by form, each by the evaluations of the expressions in it. What isn't evaluated has no say: its evaluation isn't looked at.
use Rattle.std.specs.Prelude.{ℕ, Bool, true, false, not, if◌then◌else◌, List, [], ◌∷◌, ◌++◌, map, Option, Some, None, option_map, option_and_then, is_none, Result, Ok, Err}
use Rattle.rh_base.specs.declared.fault.Refusal.{Refusal}
use Rattle.pp_syntax.specs.declared.tree.Expr.{Expr}
use Rattle.pp_syntax.specs.declared.tree.Form.{Form, Form-F, fold-Form}
use Rattle.pp_syntax.specs.declared.tree.Form.TheOpen as form
use Rattle.pp_syntax.specs.declared.tree.Op.{Op}
use Rattle.pp_syntax.specs.declared.tree.Op.TheVariants as op
use Rattle.pp_value.specs.declared.value.Value.{Value, items-the_row-Value}
use Rattle.pp_value.specs.declared.value.Value.TheVariants as v
use Rattle.pp_value.specs.declared.fault.Misfit.{Misfit}
use Rattle.pp_value.specs.Keys.{with_pairs}
use Rattle.pp_value.specs.Values.{Pair, has_opaque}
use Rattle.pp_value.specs.Table.{equal_table, negate_table, index_table}
use Rattle.pp_value.specs.Shown.{shown, shown_int}
use Rattle.pp_eval.specs.Evaluating.{Evaluation, Evaluated, ◌>>=◌, unbound, no_option, no_result, limited, evaluation_at, made, if_there}
use Rattle.pp_eval.specs.declared.blame.Blame.{Blame}
use Rattle.pp_eval.specs.declared.blame.Blame.TheVariants as blame
use Rattle.pp_eval.specs.Operations.{operation, truth_of}
use Rattle.pp_eval.specs.References.{ref_of}
use Rattle.pp_eval.specs.Scoping.{Scoped, find_in}

-- ---- variables

-- the value that is found; it isn't made here, so no limit is asked
abbrev pub bound_to : ℕ → List ℕ → Option Value → Evaluation
bound_to at name (Some x) = Ok x
bound_to at name None = Err (unbound at name)

-- ---- lists

-- the values of the members, from the left
abbrev pub values_in : List Evaluated → Result (List Value) Refusal
values_in [] = Ok []
values_in (m ∷ members) = do
  x ← m.gives
  xs ← values_in members
  Ok (x ∷ xs)

-- a list of these members
abbrev pub list_at : ℕ → List Evaluated → Evaluation
list_at at members = do
  xs ← values_in members
  limited at (v.List xs)

-- ---- maps

-- a key: a text, or a number as it is shown
abbrev pub key_of : Value → Option (List ℕ)
key_of (v.Str text) = Some text
key_of (v.Int n) = Some (shown_int n)
key_of _ = None

-- the pairs as they stand: of each the key, which is asked for its kind, and then the value
abbrev pub pair_in : Evaluated → Evaluated → Result Pair Refusal
pair_in left right = do
  k ← left.gives
  key ← if_there left.at (key_of k)
  x ← right.gives
  Ok (key, x)

abbrev pub pairs_in : List (Evaluated × Evaluated) → Result (List Pair) Refusal
pairs_in [] = Ok []
pairs_in (m ∷ members) = do
  p ← pair_in m.0 m.1
  pairs ← pairs_in members
  Ok (p ∷ pairs)

-- a key that stands again takes the last value and keeps its place
abbrev pub keyed_in : List (Evaluated × Evaluated) → Result (List Pair) Refusal
keyed_in members = do
  pairs ← pairs_in members
  Ok (with_pairs [] pairs)

-- a map of these pairs
abbrev pub map_at : ℕ → List (Evaluated × Evaluated) → Evaluation
map_at at members = do
  pairs ← keyed_in members
  limited at (v.Map pairs)

-- ---- references

abbrev pub text_of : Value → Option (List ℕ)
text_of (v.Str text) = Some text
text_of _ = None

-- all of these, where each is a text
abbrev pub texts_of : List Value → Option (List (List ℕ))
texts_of [] = Some []
texts_of (x ∷ xs) = option_and_then (λ text. option_map (λ texts. text ∷ texts) (texts_of xs)) (text_of x)

-- titles: a text, or a list of texts
abbrev pub titles_of : Value → Option (List (List ℕ))
titles_of (v.Str text) = Some (text ∷ [])
titles_of (v.List' shape row) = texts_of (items-the_row-Value _ row)
titles_of _ = None

-- the titles in one row, from the left, each asked for its kind
abbrev pub titles_in : List Evaluated → Result (List (List ℕ)) Refusal
titles_in [] = Ok []
titles_in (m ∷ members) = do
  x ← m.gives
  titles ← if_there m.at (titles_of x)
  more ← titles_in members
  Ok (titles ++ more)

abbrev pub refer_to : List ℕ → List ℕ → Value
refer_to kind title = v.Refer (ref_of kind title)

-- references, and those to some titles behind them
abbrev pub with_references : List ℕ → List Value → Result (List (List ℕ)) Refusal → Result (List Value) Refusal
with_references kind references found = do
  titles ← found
  Ok (references ++ map (refer_to kind) titles)

abbrev pub references_in : List ℕ → List Evaluated → Result (List Value) Refusal
references_in kind members = with_references kind [] (titles_in members)

-- one reference, or a list of any other number of them
abbrev pub one_or_list : List Value → Value
one_or_list [] = v.List []
one_or_list (x ∷ []) = x
one_or_list (x ∷ y ∷ more) = v.List (x ∷ y ∷ more)

-- the reference to a title, or those to several
abbrev pub refer_at : ℕ → List ℕ → List Evaluated → Evaluation
refer_at at kind members = do
  references ← references_in kind members
  limited at (one_or_list references)

-- ---- texts in double quotes

-- a value as a text, unless an opaque one stands anywhere in it
abbrev pub shown_of : Value → Option (List ℕ)
shown_of x = if has_opaque x then None else Some (shown x)

-- a text, unless it is too large
abbrev pub limited_text : ℕ → List ℕ → Result (List ℕ) Refusal
limited_text at text = do
  _ ← limited at (v.Str text)
  Ok text

-- a text with a member behind it: the member is asked for its kind, and what stands so far for its size
abbrev pub longer : ℕ → List ℕ → ℕ → Value → Result (List ℕ) Refusal
longer at text here x = do
  more ← if_there here (shown_of x)
  limited_text at (text ++ more)

-- the members behind a text, each asked before the next is evaluated
abbrev pub joined_to : ℕ → List ℕ → List Evaluated → Evaluation
joined_to at text [] = Ok (v.Str text)
joined_to at text (m ∷ members) = do
  x ← m.gives
  so_far ← longer at text m.at x
  joined_to at so_far members

-- ---- operators

-- the truth of a value; an opaque one has none
abbrev pub truth_at : ℕ → Value → Result Bool Refusal
truth_at at x = if_there at (truth_of x)

abbrev pub as_truth : ℕ → Evaluation → Evaluation
as_truth at evaluation = do
  x ← evaluation
  b ← truth_at at x
  Ok (v.Bool b)

-- `and` and `or` stop where the left operand tells the answer; any other operator goes by its table
abbrev pub operated : ℕ → Op → Value → Evaluation → Evaluation
operated at op.And x right = do
  b ← truth_at at x
  if b then as_truth at right else Ok (v.Bool false)
operated at op.Or x right = do
  b ← truth_at at x
  if b then Ok (v.Bool true) else as_truth at right
operated at o x right = do
  y ← right
  made at (operation o x y)

-- operators of one level, from the left
abbrev pub chain_from : ℕ → Value → List (Op × Evaluated) → Evaluation
chain_from at x [] = Ok x
chain_from at x (o ∷ more) = do
  y ← operated at o.0 x o.1.gives
  chain_from at y more

-- a chain of operators of one level
abbrev pub chain_at : ℕ → Evaluated → List (Op × Evaluated) → Evaluation
chain_at at first more = do
  x ← first.gives
  chain_from at x more

-- `!` and `-` before an operand
abbrev pub prefixed : ℕ → Op → Value → Evaluation
prefixed at op.Not x = do
  b ← truth_at at x
  Ok (v.Bool (not b))
prefixed at op.Minus x = made at (negate_table x)
prefixed at _ x = Err (no_result at)

-- the one next to the operand comes first
abbrev pub prefix_at : ℕ → List Op → Evaluation → Evaluation
prefix_at at [] evaluation = evaluation
prefix_at at (o ∷ ops) evaluation = do
  x ← prefix_at at ops evaluation
  prefixed at o x

-- the member of a value; it isn't made here, so no limit is asked
abbrev pub indexed : ℕ → Value → Evaluation → Evaluation
indexed at x key = do
  k ← key
  evaluation_at at (index_table x k)

-- a member of what stands before the brackets
abbrev pub index_at : ℕ → Evaluated → Evaluated → Evaluation
index_at at base key = do
  x ← base.gives
  indexed at x key.gives

-- ---- selectors

-- the answer of a test
abbrev pub asked : ℕ → Result Bool Misfit → Result Bool Refusal
asked at (Ok b) = Ok b
asked at (Err m) = Err (no_result at)

-- where a comparison with an opaque value is refused: a selector's at the selector, that of a `case` at its value if that holds the opaque one, or else at
-- the option
abbrev pub blamed : Blame → Value → ℕ → ℕ
blamed (blame.Selector at) x option = at
blamed (blame.Case at) x option = if has_opaque x then at else option

-- an option is evaluated where it is compared; `default` is passed over
abbrev pub is_equal : Blame → Value → Option Evaluated → Result Bool Refusal
is_equal b x None = Ok false
is_equal b x (Some option) = do
  y ← option.gives
  asked (blamed b x option.at) (equal_table x y)

-- one of some options is equal, from the left
abbrev pub is_among : Blame → Value → List (Option Evaluated) → Result Bool Refusal
is_among b x [] = Ok false
is_among b x (option ∷ options) = do
  same ← is_equal b x option
  if same then Ok true else is_among b x options

-- what stands behind the first option that is equal, from the left
abbrev pub first_equal : ℕ → Value → List (Option Evaluated × Evaluated) → Result (Option Evaluated) Refusal
first_equal at x [] = Ok None
first_equal at x (c ∷ choices) = do
  same ← is_equal (blame.Selector at) x c.0
  if same then Ok (Some c.1) else first_equal at x choices

-- what stands behind `default`, wherever that stands
abbrev pub default_in : List (Option Evaluated × Evaluated) → Option Evaluated
default_in [] = None
default_in (c ∷ choices) = if is_none c.0 then Some c.1 else default_in choices

-- that of an equal option, or else of `default`; it alone is evaluated
abbrev pub chosen : ℕ → Option Evaluated → Option Evaluated → Evaluation
chosen at (Some equal) default = equal.gives
chosen at None (Some default) = default.gives
chosen at None None = Err (no_option at)

abbrev pub selected : ℕ → Value → List (Option Evaluated × Evaluated) → Evaluation
selected at x choices = do
  found ← first_equal at x choices
  chosen at found (default_in choices)

-- what a selector selects
abbrev pub select_at : ℕ → Evaluated → List (Option Evaluated × Evaluated) → Evaluation
select_at at control choices = do
  x ← control.gives
  selected at x choices

-- ---- expressions

-- each form, by the evaluations of the expressions in it
abbrev pub form_at : {Y : Type 0} → Scoped → Form-F Y Evaluated → ℕ → Evaluation
form_at s (form.Int n) at = limited at (v.Int n)
form_at s (form.Str text) at = limited at (v.Str text)
form_at s (form.Var name) at = bound_to at name (find_in s name)
form_at s (form.Bool b) at = limited at (v.Bool b)
form_at s form.Undef at = limited at v.Undef
form_at s (form.List members) at = list_at at members
form_at s (form.Map members) at = map_at at members
form_at s (form.Refer kind titles) at = refer_at at kind titles
form_at s (form.Join members) at = joined_to at [] members
form_at s (form.Chain first more) at = chain_at at first more
form_at s (form.Prefix ops x) at = prefix_at at ops x.gives
form_at s (form.Index base key) at = index_at at base key
form_at s (form.Select control choices) at = select_at at control choices

-- a form at a place, in these scopes
unfoldable pub value_in : Scoped → Form → ℕ → Evaluation
value_in s f = fold-Form (ℕ → Evaluation) Evaluated (form_at s) (λ x. record { at = x.at; gives = x.form x.at }) f

-- the value of an expression, in these scopes
abbrev pub value_of : Scoped → Expr → Evaluation
value_of s e = value_in s e.form e.at

-- an expression with its place and its evaluation
abbrev pub evaluated : Scoped → Expr → Evaluated
evaluated s e = record { at = e.at; gives = value_of s e }

-- ---- the expressions beside one another in a form, each as it is evaluated

abbrev pub pair_by : {X Y : Type 0} → (X → Y) → X × X → Y × Y
pair_by f p = (f p.0, f p.1)

abbrev pub operand_by : {X Y : Type 0} → (X → Y) → Op × X → Op × Y
operand_by f o = (o.0, f o.1)

abbrev pub choice_by : {X Y : Type 0} → (X → Y) → Option X × X → Option Y × Y
choice_by f c = (option_map f c.0, f c.1)
