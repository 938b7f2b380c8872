-- What is evaluated stays within the limits on the size and the depth of a value.
use Rattle.std.proofs.Common.{◌≡◌, ℕ, Bool, true, false, cond, List, [], ◌∷◌, ◌++◌, Result, Ok, Err, Some, refl, subst}
use Rattle.rh_base.specs.declared.fault.Refusal.{Refusal}
use Rattle.pp_syntax.specs.declared.tree.Expr.{Expr}
use Rattle.pp_syntax.specs.declared.tree.Op.{Op}
use Rattle.pp_syntax.specs.declared.tree.Op.TheVariants as op
use Rattle.pp_value.specs.declared.value.Value.{Value}
use Rattle.pp_value.specs.declared.value.Value.TheVariants as v
use Rattle.pp_value.specs.declared.fault.Misfit.{Misfit}
use Rattle.pp_value.specs.declared.fault.Misfit.TheVariants.{Operand, Range}
use Rattle.pp_value.specs.Values.{exceeds_limits}
use Rattle.pp_value.specs.Table.{negate_table, index_table}
use Rattle.pp_eval.specs.Operations.{operation}
use Rattle.pp_eval.specs.Scoping.{Scoped, find_in}
use Rattle.pp_eval.specs.Evaluating.{Evaluation, Evaluated, ◌>>=◌, too_large, limited, evaluation_at, made, if_there}
use Rattle.pp_eval.specs.Evaluation.{values_in, list_at, keyed_in, map_at, references_in, one_or_list, refer_at, shown_of, limited_text, longer, joined_to, truth_at, as_truth, operated, chain_from, chain_at, prefixed, prefix_at, index_at, value_of}
use Rattle.pp_eval.proofs.EveryValue.{Each, step_each, then_each, if_each, FormsKeep, so_of_each}

-- the value doesn't exceed the limits
abbrev Fits : Value → Type 0
Fits x = exceeds_limits x ≡ false

-- if a value is given, it fits
abbrev IsWithin : Evaluation → Type 0
IsWithin r = Each Fits r

-- ---- what is made

-- what isn't refused for its size fits
by_size : (b : Bool) (at : ℕ) (x : Value) → exceeds_limits x ≡ b → IsWithin (cond b (Err (too_large at)) (Ok x))
by_size true at x h = tt
by_size false at x h = h

-- so it is of what is limited
limited_within : (at : ℕ) (x : Value) → IsWithin (limited at x)
limited_within at x = by_size (exceeds_limits x) at x refl

-- and of what is made by a table
made_within : (at : ℕ) (t : Result Value Misfit) → IsWithin (made at t)
made_within at (Ok x) = limited_within at x
made_within at (Err Operand) = tt
made_within at (Err Range) = tt

-- ---- operators

-- the truth of an operand fits
truth_within : (at : ℕ) (r : Evaluation) → IsWithin (as_truth at r)
truth_within at r = step_each Fits r _ (λ x. step_each Fits (truth_at at x) _ (λ b. refl))

-- so does what each operator makes
operated_within : (at : ℕ) (o : Op) (x : Value) (r : Evaluation) → IsWithin (operated at o x r)
operated_within at op.And x r = step_each Fits (truth_at at x) _ (λ b. if_each Fits b (as_truth at r) (Ok (v.Bool false)) (truth_within at r) refl)
operated_within at op.Or x r = step_each Fits (truth_at at x) _ (λ b. if_each Fits b (Ok (v.Bool true)) (as_truth at r) refl (truth_within at r))
operated_within at op.Less x r = step_each Fits r _ (λ y. made_within at (operation op.Less x y))
operated_within at op.Greater x r = step_each Fits r _ (λ y. made_within at (operation op.Greater x y))
operated_within at op.AtMost x r = step_each Fits r _ (λ y. made_within at (operation op.AtMost x y))
operated_within at op.AtLeast x r = step_each Fits r _ (λ y. made_within at (operation op.AtLeast x y))
operated_within at op.Same x r = step_each Fits r _ (λ y. made_within at (operation op.Same x y))
operated_within at op.NotSame x r = step_each Fits r _ (λ y. made_within at (operation op.NotSame x y))
operated_within at op.Plus x r = step_each Fits r _ (λ y. made_within at (operation op.Plus x y))
operated_within at op.Minus x r = step_each Fits r _ (λ y. made_within at (operation op.Minus x y))
operated_within at op.Times x r = step_each Fits r _ (λ y. made_within at (operation op.Times x y))
operated_within at op.In x r = step_each Fits r _ (λ y. made_within at (operation op.In x y))
operated_within at op.Not x r = step_each Fits r _ (λ y. made_within at (operation op.Not x y))

-- so does what operators from the left make
from_within : (at : ℕ) (x : Value) (more : List (Op × Evaluated)) → Fits x → IsWithin (chain_from at x more)
from_within at x [] h = h
from_within at x (o ∷ more) h = then_each Fits Fits (operated at o.0 x o.1.gives) _ (operated_within at o.0 x o.1.gives) (λ y k. from_within at y more k)

-- and a chain
chain_within : (at : ℕ) (first : Evaluated) (more : List (Op × Evaluated)) → IsWithin first.gives → IsWithin (chain_at at first more)
chain_within at first more h = then_each Fits Fits first.gives _ h (λ x k. from_within at x more k)

-- what a prefix makes fits
prefixed_within : (at : ℕ) (o : Op) (x : Value) → IsWithin (prefixed at o x)
prefixed_within at op.Not x = step_each Fits (truth_at at x) _ (λ b. refl)
prefixed_within at op.Minus x = made_within at (negate_table x)
prefixed_within at op.And x = tt
prefixed_within at op.Or x = tt
prefixed_within at op.Less x = tt
prefixed_within at op.Greater x = tt
prefixed_within at op.AtMost x = tt
prefixed_within at op.AtLeast x = tt
prefixed_within at op.Same x = tt
prefixed_within at op.NotSame x = tt
prefixed_within at op.Plus x = tt
prefixed_within at op.Times x = tt
prefixed_within at op.In x = tt

-- so does what prefixes make
prefix_within : (at : ℕ) (ops : List Op) (r : Evaluation) → IsWithin r → IsWithin (prefix_at at ops r)
prefix_within at [] r h = h
prefix_within at (o ∷ ops) r h = step_each Fits (prefix_at at ops r) _ (λ x. prefixed_within at o x)

-- a member of what fits fits
abbrev pub MembersFit : Type 0
MembersFit = (a key x : Value) → exceeds_limits a ≡ false → index_table a key ≡ Ok x → exceeds_limits x ≡ false

-- what a table tells fits, if its results do
told_within : (at : ℕ) (t : Result Value Misfit) → ((x : Value) → t ≡ Ok x → Fits x) → IsWithin (evaluation_at at t)
told_within at (Ok x) h = h x refl
told_within at (Err Operand) h = tt
told_within at (Err Range) h = tt

-- a member of what fits fits
index_within : MembersFit → (at : ℕ) (base key : Evaluated) → IsWithin base.gives → IsWithin (index_at at base key)
index_within fit at base key h = then_each Fits Fits base.gives _ h (λ x w. step_each Fits key.gives _ (λ k. told_within at (index_table x k) (λ y e. fit x k y w e)))

-- ---- lists, maps, references and texts

-- a list fits
list_within : (at : ℕ) (members : List Evaluated) → IsWithin (list_at at members)
list_within at members = step_each Fits (values_in members) _ (λ xs. limited_within at (v.List xs))

-- so does a map
map_within : (at : ℕ) (members : List (Evaluated × Evaluated)) → IsWithin (map_at at members)
map_within at members = step_each Fits (keyed_in members) _ (λ pairs. limited_within at (v.Map pairs))

-- so does what a reference gives
refer_within : (at : ℕ) (kind : List ℕ) (titles : List Evaluated) → IsWithin (refer_at at kind titles)
refer_within at kind titles = step_each Fits (references_in kind titles) _ (λ xs. limited_within at (one_or_list xs))

-- the text doesn't exceed the limits
abbrev TextFits : List ℕ → Type 0
TextFits text = Fits (v.Str text)

-- so of what is given, if it is so of each that may be
by_each : {A : Type 0} (P : A → Type 0) (r : Result A Refusal) → ((x : A) → r ≡ Ok x → P x) → Each P r
by_each P (Ok x) h = h x refl
by_each P (Err e) h = tt

-- a text that isn't refused fits
text_within : (at : ℕ) (t new : List ℕ) → limited_text at t ≡ Ok new → Fits (v.Str new)
text_within at t new h = by_limit (exceeds_limits (v.Str t)) refl h
  where
    by_limit : (b : Bool) → exceeds_limits (v.Str t) ≡ b → ◌≡◌ {A = Result (List ℕ) Refusal} (cond b (Err (too_large at)) (Ok (v.Str t)) >>= λ x. Ok t) (Ok new) → Fits (v.Str new)
    by_limit true e h = cc
    by_limit false e h = let same : t ≡ new = cc in subst (λ (u : List ℕ). Fits (v.Str u)) same e

-- so does one with a member behind it
longer_within : (at : ℕ) (text : List ℕ) (here : ℕ) (x : Value) (new : List ℕ) → longer at text here x ≡ Ok new → Fits (v.Str new)
longer_within at text here x new h = by_text (if_there here (shown_of x)) h
  where
    by_text : (r : Result (List ℕ) Refusal) → (r >>= λ more. limited_text at (text ++ more)) ≡ Ok new → Fits (v.Str new)
    by_text (Ok more) h = text_within at (text ++ more) new h
    by_text (Err e) h = cc

-- a text in double quotes fits
joined_within : (at : ℕ) (text : List ℕ) (members : List Evaluated) → Fits (v.Str text) → IsWithin (joined_to at text members)
joined_within at text [] h = h
joined_within at text (m ∷ members) h = step_each Fits m.gives _ (λ x. then_each TextFits Fits (longer at text m.at x) _ (by_each TextFits (longer at text m.at x) (longer_within at text m.at x)) (λ new k. joined_within at new members k))

-- ---- every expression

-- each form gives what fits where the expressions in it do
forms_keep : MembersFit → FormsKeep Fits
forms_keep fit = record {
  int = λ at n. limited_within at (v.Int n);
  str = λ at text. limited_within at (v.Str text);
  bool = λ at b. limited_within at (v.Bool b);
  undef = λ at. limited_within at v.Undef;
  list = λ at members h. list_within at members;
  pairs = λ at members h. map_within at members;
  refer = refer_within;
  join = λ at members. joined_within at [] members refl;
  chain = λ at first more h k. chain_within at first more h;
  prefix = prefix_within;
  index = index_within fit;
}

-- where what is bound fits, so does what is evaluated
pub stays_within : MembersFit → (s : Scoped) → ((name : List ℕ) (x : Value) → find_in s name ≡ Some x → Fits x) → (e : Expr) (x : Value) → value_of s e ≡ Ok x → Fits x
stays_within fit s bound e x h = so_of_each Fits (forms_keep fit) s bound e x h
