-- What is evaluated of values whose maps have distinct keys is such a value.
use Rattle.std.proofs.Common.{◌≡◌, ℕ, ℤ, Bool, true, false, cond, List, [], ◌∷◌, map, Result, Ok, Err, Some, refl}
use Rattle.std.specs.Prelude.{◌-ℤ◌, ◌*ℤ◌, neg_ℤ}
use Rattle.std.specs.List.{AllByRecursion}
use Rattle.pp_syntax.specs.declared.tree.Expr.{Expr}
use Rattle.pp_syntax.specs.declared.tree.Op.{Op}
use Rattle.pp_syntax.specs.declared.tree.Op.TheVariants as op
use Rattle.pp_value.specs.declared.value.Value.{Value}
use Rattle.pp_value.specs.declared.value.Value.TheVariants as v
use Rattle.pp_value.specs.declared.fault.Misfit.{Misfit}
use Rattle.pp_value.specs.declared.fault.Misfit.TheVariants.{Operand, Range}
use Rattle.pp_value.specs.Keys.{with_pairs}
use Rattle.pp_value.specs.Values.{Pair, exceeds_limits, HasDistinctKeys}
use Rattle.pp_value.specs.Proper.{IsProper}
use Rattle.pp_value.specs.Table.{equal_table, less_table, within_table, fits_word, number, add_table, subtract_table, multiply_table, negate_table, index_table}
use Rattle.pp_eval.specs.Operations.{operation, as_value, turned}
use Rattle.pp_eval.specs.Scoping.{Scoped, find_in}
use Rattle.pp_eval.specs.Evaluating.{Evaluation, Evaluated, ◌>>=◌, too_large, limited, evaluation_at, made, if_there}
use Rattle.pp_eval.specs.Evaluation.{values_in, list_at, key_of, pair_in, pairs_in, keyed_in, map_at, titles_in, refer_to, one_or_list, refer_at, longer, joined_to, truth_at, as_truth, operated, chain_from, chain_at, prefixed, prefix_at, index_at, value_of}
use Rattle.pp_eval.proofs.EveryValue.{Each, step_each, then_each, if_each, FormsKeep, so_of_each}

-- ---- values of a list and of a map

-- each value is proper
abbrev AllProper : List Value → Type 0
AllProper xs = AllByRecursion IsProper xs

-- the value of each pair is
abbrev pub PairsProper : List Pair → Type 0
PairsProper xs = AllByRecursion (λ p. IsProper p.1) xs

-- no key stands twice, and the values are proper
abbrev ProperMap : List Pair → Type 0
ProperMap xs = HasDistinctKeys xs × PairsProper xs

-- what is known of values
pub record Known : Type 0 where
  pub sums : (a b x : Value) → IsProper a → IsProper b → add_table a b ≡ Ok x → IsProper x
  pub members : (a key x : Value) → IsProper a → index_table a key ≡ Ok x → IsProper x
  pub lists : (items : List Value) → AllByRecursion IsProper items → IsProper (v.List items)
  pub maps : (pairs : List Pair) → HasDistinctKeys pairs → AllByRecursion (λ p. IsProper p.1) pairs → IsProper (v.Map pairs)
  pub distinct : (pairs more : List Pair) → HasDistinctKeys pairs → HasDistinctKeys (with_pairs pairs more)
  pub proper : (pairs more : List Pair) → AllByRecursion (λ p. IsProper p.1) pairs → AllByRecursion (λ p. IsProper p.1) more → AllByRecursion (λ p. IsProper p.1) (with_pairs pairs more)

-- ---- what is made

-- a proper value is given, or refused for its size
by_size : (b : Bool) (at : ℕ) (x : Value) → IsProper x → Each IsProper (cond b (Err (too_large at)) (Ok x))
by_size true at x h = tt
by_size false at x h = h

-- so within the limits
limited_proper : (at : ℕ) (x : Value) → IsProper x → Each IsProper (limited at x)
limited_proper at x h = by_size (exceeds_limits x) at x h

-- if a value is named, it is proper
abbrev Gives : Result Value Misfit → Type 0
Gives (Ok x) = IsProper x
Gives (Err m) = Unit {0}

-- what a table names is proper where it is given
made_proper : (at : ℕ) (t : Result Value Misfit) → Gives t → Each IsProper (made at t)
made_proper at (Ok x) h = limited_proper at x h
made_proper at (Err Operand) h = tt
made_proper at (Err Range) h = tt

-- a table whose results are proper names such
gives_by : (t : Result Value Misfit) → ((x : Value) → t ≡ Ok x → IsProper x) → Gives t
gives_by (Ok x) h = h x refl
gives_by (Err m) h = tt

-- a truth value is proper
truth_gives : (t : Result Bool Misfit) → Gives (as_value t)
truth_gives (Ok b) = tt
truth_gives (Err m) = tt

-- so is one turned round
turned_gives : (t : Result Bool Misfit) → Gives (turned t)
turned_gives (Ok b) = tt
turned_gives (Err m) = tt

-- so is a number that fits
by_word : (b : Bool) (n : ℤ) → Gives (cond b (Ok (v.Int n)) (Err Range))
by_word true n = tt
by_word false n = tt

-- so is a number
number_gives : (n : ℤ) → Gives (number n)
number_gives n = by_word (fits_word n) n

-- a difference is proper
subtract_gives : (a b : Value) → Gives (subtract_table a b)
subtract_gives (v.Int m) (v.Int n) = number_gives (m -ℤ n)
subtract_gives _ _ = tt

-- a product is
multiply_gives : (a b : Value) → Gives (multiply_table a b)
multiply_gives (v.Int m) (v.Int n) = number_gives (m *ℤ n)
multiply_gives _ _ = tt

-- so is a negated number
negate_gives : (a : Value) → Gives (negate_table a)
negate_gives (v.Int n) = number_gives (neg_ℤ n)
negate_gives _ = tt

-- what a table tells is proper
told_proper : (at : ℕ) (t : Result Value Misfit) → Gives t → Each IsProper (evaluation_at at t)
told_proper at (Ok x) h = h
told_proper at (Err Operand) h = tt
told_proper at (Err Range) h = tt

module _ (known : Known) where
  -- ---- operators

  -- what an operator makes of proper values is proper
  operation_gives : (o : Op) (a b : Value) → IsProper a → IsProper b → Gives (operation o a b)
  operation_gives op.Less a b h k = truth_gives (less_table a b)
  operation_gives op.Greater a b h k = truth_gives (less_table b a)
  operation_gives op.AtMost a b h k = turned_gives (less_table b a)
  operation_gives op.AtLeast a b h k = turned_gives (less_table a b)
  operation_gives op.Same a b h k = truth_gives (equal_table a b)
  operation_gives op.NotSame a b h k = turned_gives (equal_table a b)
  operation_gives op.Plus a b h k = gives_by (add_table a b) (λ x e. known.sums a b x h k e)
  operation_gives op.Minus a b h k = subtract_gives a b
  operation_gives op.Times a b h k = multiply_gives a b
  operation_gives op.In a b h k = truth_gives (within_table a b)
  operation_gives op.Or a b h k = tt
  operation_gives op.And a b h k = tt
  operation_gives op.Not a b h k = tt

  -- the truth of an operand is proper
  truth_proper : (at : ℕ) (r : Evaluation) → Each IsProper (as_truth at r)
  truth_proper at r = step_each IsProper r _ (λ x. step_each IsProper (truth_at at x) _ (λ b. tt))

  -- what an operator makes by its table is proper
  by_table : (at : ℕ) (o : Op) (x : Value) (r : Evaluation) → IsProper x → Each IsProper r → Each IsProper (r >>= λ y. made at (operation o x y))
  by_table at o x r h k = then_each IsProper IsProper r _ k (λ y p. made_proper at (operation o x y) (operation_gives o x y h p))

  -- so is what each operator makes
  operated_proper : (at : ℕ) (o : Op) (x : Value) (r : Evaluation) → IsProper x → Each IsProper r → Each IsProper (operated at o x r)
  operated_proper at op.And x r h k = step_each IsProper (truth_at at x) _ (λ b. if_each IsProper b (as_truth at r) (Ok (v.Bool false)) (truth_proper at r) tt)
  operated_proper at op.Or x r h k = step_each IsProper (truth_at at x) _ (λ b. if_each IsProper b (Ok (v.Bool true)) (as_truth at r) tt (truth_proper at r))
  operated_proper at op.Less x r h k = by_table at op.Less x r h k
  operated_proper at op.Greater x r h k = by_table at op.Greater x r h k
  operated_proper at op.AtMost x r h k = by_table at op.AtMost x r h k
  operated_proper at op.AtLeast x r h k = by_table at op.AtLeast x r h k
  operated_proper at op.Same x r h k = by_table at op.Same x r h k
  operated_proper at op.NotSame x r h k = by_table at op.NotSame x r h k
  operated_proper at op.Plus x r h k = by_table at op.Plus x r h k
  operated_proper at op.Minus x r h k = by_table at op.Minus x r h k
  operated_proper at op.Times x r h k = by_table at op.Times x r h k
  operated_proper at op.In x r h k = by_table at op.In x r h k
  operated_proper at op.Not x r h k = by_table at op.Not x r h k

  -- so is what operators from the left make
  from_proper : (at : ℕ) (x : Value) (more : List (Op × Evaluated)) → IsProper x → AllByRecursion (λ o. Each IsProper o.1.gives) more → Each IsProper (chain_from at x more)
  from_proper at x [] h k = h
  from_proper at x (o ∷ more) h k =
      then_each IsProper IsProper (operated at o.0 x o.1.gives) _ (operated_proper at o.0 x o.1.gives h k.0) (λ y p. from_proper at y more p k.1)

  -- and a chain
  chain_proper : (at : ℕ) (first : Evaluated) (more : List (Op × Evaluated)) → Each IsProper first.gives → AllByRecursion (λ o. Each IsProper o.1.gives) more → Each IsProper (chain_at at first more)
  chain_proper at first more h k = then_each IsProper IsProper first.gives _ h (λ x p. from_proper at x more p k)

  -- what a prefix makes is proper
  prefixed_proper : (at : ℕ) (o : Op) (x : Value) → Each IsProper (prefixed at o x)
  prefixed_proper at op.Not x = step_each IsProper (truth_at at x) _ (λ b. tt)
  prefixed_proper at op.Minus x = made_proper at (negate_table x) (negate_gives x)
  prefixed_proper at op.And x = tt
  prefixed_proper at op.Or x = tt
  prefixed_proper at op.Less x = tt
  prefixed_proper at op.Greater x = tt
  prefixed_proper at op.AtMost x = tt
  prefixed_proper at op.AtLeast x = tt
  prefixed_proper at op.Same x = tt
  prefixed_proper at op.NotSame x = tt
  prefixed_proper at op.Plus x = tt
  prefixed_proper at op.Times x = tt
  prefixed_proper at op.In x = tt

  -- so is what prefixes make
  prefix_proper : (at : ℕ) (ops : List Op) (r : Evaluation) → Each IsProper r → Each IsProper (prefix_at at ops r)
  prefix_proper at [] r h = h
  prefix_proper at (o ∷ ops) r h = step_each IsProper (prefix_at at ops r) _ (λ x. prefixed_proper at o x)

  -- a member of a proper value is proper
  at_proper : (at : ℕ) (base key : Evaluated) → Each IsProper base.gives → Each IsProper (index_at at base key)
  at_proper at base key h =
      then_each IsProper IsProper base.gives _ h (λ x p. step_each IsProper key.gives _ (λ k. told_proper at (index_table x k) (gives_by (index_table x k) (λ y e. known.members x k y p e))))

  -- ---- lists, maps, references and texts

  -- the values of members are proper where each is
  values_proper : (members : List Evaluated) → AllByRecursion (λ m. Each IsProper m.gives) members → Each AllProper (values_in members)
  values_proper [] h = tt
  values_proper (m ∷ members) h =
      then_each IsProper AllProper m.gives _ h.0 (λ x p. then_each AllProper AllProper (values_in members) _ (values_proper members h.1) (λ xs ps. (p, ps)))

  -- a list of proper members is proper
  of_list : (at : ℕ) (members : List Evaluated) → AllByRecursion (λ m. Each IsProper m.gives) members → Each IsProper (list_at at members)
  of_list at members h = then_each AllProper IsProper (values_in members) _ (values_proper members h) (λ xs ps. limited_proper at (v.List xs) (known.lists xs ps))

  -- the value of a pair is proper where what gives it is
  pair_proper : (left right : Evaluated) → Each IsProper right.gives → Each (λ (p : Pair). IsProper p.1) (pair_in left right)
  pair_proper left right h =
      step_each (λ (p : Pair). IsProper p.1) left.gives _ (λ k. step_each (λ (p : Pair). IsProper p.1) (if_there left.at (key_of k)) _ (λ key. then_each IsProper (λ (p : Pair). IsProper p.1) right.gives _ h (λ x p. p)))

  -- so are the values of pairs
  pairs_proper : (members : List (Evaluated × Evaluated)) → AllByRecursion (λ m. Each IsProper m.1.gives) members → Each PairsProper (pairs_in members)
  pairs_proper [] h = tt
  pairs_proper (m ∷ members) h =
      then_each (λ (p : Pair). IsProper p.1) PairsProper (pair_in m.0 m.1) _ (pair_proper m.0 m.1 h.0) (λ x p. then_each PairsProper PairsProper (pairs_in members) _ (pairs_proper members h.1) (λ xs ps. (p, ps)))

  -- a map of them is proper
  of_map : (at : ℕ) (members : List (Evaluated × Evaluated)) → AllByRecursion (λ m. Each IsProper m.1.gives) members → Each IsProper (map_at at members)
  of_map at members h =
      let keyed : Each ProperMap (keyed_in members) = then_each PairsProper ProperMap (pairs_in members) _ (pairs_proper members h) (λ xs ps. (known.distinct [] xs tt, known.proper [] xs tt ps)) in
      then_each ProperMap IsProper (keyed_in members) _ keyed (λ xs ps. limited_proper at (v.Map xs) (known.maps xs ps.0 ps.1))

  -- references are proper
  refers_proper : (kind : List ℕ) (titles : List (List ℕ)) → AllProper (map (refer_to kind) titles)
  refers_proper kind [] = tt
  refers_proper kind (t ∷ titles) = (tt, refers_proper kind titles)

  -- so is the one of them, or their list
  one_proper : (xs : List Value) → AllProper xs → IsProper (one_or_list xs)
  one_proper [] h = known.lists [] h
  one_proper (x ∷ []) h = h.0
  one_proper (x ∷ y ∷ more) h = known.lists (x ∷ y ∷ more) h

  -- what a reference gives is proper
  of_refer : (at : ℕ) (kind : List ℕ) (titles : List Evaluated) → Each IsProper (refer_at at kind titles)
  of_refer at kind titles =
      then_each AllProper IsProper _ _ (step_each AllProper (titles_in titles) _ (λ found. refers_proper kind found)) (λ xs ps. limited_proper at (one_or_list xs) (one_proper xs ps))

  -- a text in double quotes is proper
  joined_proper : (at : ℕ) (text : List ℕ) (members : List Evaluated) → Each IsProper (joined_to at text members)
  joined_proper at text [] = tt
  joined_proper at text (m ∷ members) = step_each IsProper m.gives _ (λ x. step_each IsProper (longer at text m.at x) _ (λ new. joined_proper at new members))

  -- ---- every expression

  -- each form gives proper values where the expressions in it do
  forms_keep : FormsKeep IsProper
  forms_keep = record {
    int = λ at n. limited_proper at (v.Int n) tt;
    str = λ at text. limited_proper at (v.Str text) tt;
    bool = λ at b. limited_proper at (v.Bool b) tt;
    undef = λ at. limited_proper at v.Undef tt;
    list = of_list;
    pairs = of_map;
    refer = of_refer;
    join = λ at members. joined_proper at [] members;
    chain = chain_proper;
    prefix = prefix_proper;
    index = at_proper;
  }

  -- where what is bound is proper, so is what is evaluated
  pub stays_proper : (s : Scoped) → ((name : List ℕ) (x : Value) → find_in s name ≡ Some x → IsProper x) → (e : Expr) (x : Value) → value_of s e ≡ Ok x → IsProper x
  stays_proper s bound e x h = so_of_each IsProper forms_keep s bound e x h
