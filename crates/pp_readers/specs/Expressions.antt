-- Reading expressions from tokens. Each function takes the reader of what stands within brackets.
use Rattle.std.specs.Prelude.{ℕ, zero, suc, ◌+◌, ◌-◌, Bool, true, false, ◌||◌, if◌then◌else◌, List, [], ◌∷◌, ◌++◌, length, Option, Some, None, codes}
use Rattle.pp_syntax.specs.declared.token.Kind.{Kind}
use Rattle.pp_syntax.specs.declared.token.Kind.TheVariants as kind
use Rattle.pp_syntax.specs.declared.tree.Expr.{Expr}
use Rattle.pp_syntax.specs.declared.tree.Form.{Form}
use Rattle.pp_syntax.specs.declared.tree.Form.TheVariants as form
use Rattle.pp_syntax.specs.declared.tree.Form.TheBlock.{Index', more_of-Expr}
use Rattle.pp_syntax.specs.declared.tree.Op.{Op}
use Rattle.pp_syntax.specs.Tokens.{Lexeme}
use Rattle.pp_readers.specs.Marks.{Found, front_of, first_at, mark, infix_at, prefix_of, begins_suffix}
use Rattle.rh_base.specs.Reading.{◌>>=◌}
pub use Rattle.rh_base.specs.Reading.{with_first, with_front}
use Rattle.pp_readers.specs.Values.{name_of, atom, dq}

-- ---- chains of operators

abbrev pub operations_or_end : (List Lexeme → Found Expr) → (List Lexeme → Found (List (Op × Expr))) → Found Op
    → List Lexeme → Found (List (Op × Expr))
operations_or_end next others None ts = Some ([], ts)
operations_or_end next others (Some o) ts = next o.1 >>= λ x. with_first (o.0, x.0) (others x.1)

-- operators of this level, each with its right operand, in at most n turns
abbrev pub operations : ℕ → (List Lexeme → Found Expr) → ℕ → List Lexeme → Found (List (Op × Expr))
operations level next zero ts = None
operations level next (suc n) ts = operations_or_end next (operations level next n) (infix_at level ts) ts

-- a chain of operators, or its one operand
abbrev pub chain_of : ℕ → Expr → List (Op × Expr) → Expr
chain_of at first [] = first
chain_of at first (o ∷ more) = record { at = at; form = form.Chain first (o ∷ more) }

-- an operand, and the operators of this level behind it
unfoldable pub chain_with : ℕ → (List Lexeme → Found Expr) → List Lexeme → Found Expr
chain_with level next ts = do
  first ← next ts
  more ← operations level next (length first.1 + 1) first.1
  Some (chain_of (first_at ts) first.0 more.0, more.1)

-- ---- prefixes

abbrev pub prefixes_or_end : Option Op → (List Op × List Lexeme) → List Lexeme → List Op × List Lexeme
prefixes_or_end None more ts = ([], ts)
prefixes_or_end (Some o) more ts = (o ∷ more.0, more.1)

-- all `!` and `-` at the front
abbrev pub prefixes : List Lexeme → List Op × List Lexeme
prefixes [] = ([], [])
prefixes (t ∷ ts) = prefixes_or_end (prefix_of t.kind t.text) (prefixes ts) (t ∷ ts)

-- an operand with these prefixes, or the operand alone
abbrev pub prefixed : ℕ → List Op → Expr → Expr
prefixed at [] x = x
prefixed at (o ∷ more) x = record { at = at; form = form.Prefix (o ∷ more) x }

-- ---- lists

-- Behind an item: the list ends here, or goes on.
abbrev pub after_comma : Found ℕ → List Lexeme → Found Bool
after_comma None ts = Some (false, ts)
after_comma (Some r) ts = Some (true, r.1)

abbrev pub behind_comma : List ℕ → Found ℕ → Found Bool
behind_comma close None = None
behind_comma close (Some c) = after_comma (mark kind.Sign close c.1) c.1

abbrev pub separator_or_end : List ℕ → Found ℕ → Found ℕ → Found Bool
separator_or_end close None comma = behind_comma close comma
separator_or_end close (Some r) comma = Some (true, r.1)

-- behind an item of a list that this sign closes: whether the list ends here
abbrev pub separator : List ℕ → List Lexeme → Found Bool
separator close ts = separator_or_end close (mark kind.Sign close ts) (mark kind.Sign (codes ",") ts)

abbrev pub more_items : {X : Type 0} → Bool → (List Lexeme → Found (List X)) → List Lexeme → Found (List X)
more_items true more ts = Some ([], ts)
more_items false more ts = more ts

-- one or more items with commas between them, to this sign, in at most n turns
abbrev pub items : {X : Type 0} → List ℕ → (List Lexeme → Found X) → ℕ → List Lexeme → Found (List X)
items close item zero ts = None
items close item (suc n) ts = item ts >>= λ x. separator close x.1 >>= λ s. with_first x.0 (more_items s.0 (items close item n) s.1)

abbrev pub items_or_end : {X : Type 0} → Found ℕ → Found (List X) → Found (List X)
items_or_end None more = more
items_or_end (Some r) more = Some ([], r.1)

-- the same, or none
abbrev pub maybe_items : {X : Type 0} → List ℕ → (List Lexeme → Found X) → ℕ → List Lexeme → Found (List X)
maybe_items close item n ts = items_or_end (mark kind.Sign close ts) (items close item n ts)

-- ---- texts in double quotes

-- a text with nothing but indexes behind it, with a variable in place of the text; any other form stays
abbrev pub form_as_variable : Form → Form
form_as_variable (form.Str name) = form.Var name
form_as_variable (Index' shape (more_of-Expr at base none) shape' key) = Index' shape
    (more_of-Expr at (form_as_variable base) none) shape' key
form_as_variable f = f

abbrev pub as_variable : Expr → Expr
as_variable x = record { at = x.at; form = form_as_variable x.form }

abbrev pub is_word : Kind → Bool
is_word kind.Word = true
is_word _ = false

abbrev pub word_in : Found Lexeme → Bool
word_in None = false
word_in (Some t) = is_word t.0.kind

abbrev pub begins_word : List Lexeme → Bool
begins_word ts = word_in (front_of ts)

abbrev pub inner_of : Bool → Expr → Expr
inner_of word x = if word then as_variable x else x

unfoldable pub inner_with : (List Lexeme → Found Expr) → List Lexeme → Found Expr
inner_with e ts = e ts >>= λ x. Some (inner_of (begins_word ts) x.0, x.1)

unfoldable pub hole_with : (List Lexeme → Found Expr) → List Lexeme → Found Expr
hole_with e ts = do
  x ← inner_with e ts
  r ← mark kind.HoleEnd (codes "}") x.1
  Some (x.0, r.1)

unfoldable pub part_with : (List Lexeme → Found Expr) → List Lexeme → Found Expr
part_with e ts = mark kind.Hole (codes "${") ts >>= λ o. hole_with e o.1

-- a member, and whether it is a variable or an expression
abbrev pub member_by : (List Lexeme → Found Expr) → Kind → Lexeme → List Lexeme → List Lexeme → Found (Expr × Bool)
member_by e kind.DqText t rest ts = dq t.text >>= λ v. Some ((record { at = t.at; form = form.Str v }, false), rest)
member_by e kind.DqVar t rest ts = name_of t.text >>= λ v. Some ((record { at = t.at; form = form.Var v }, true), rest)
member_by e kind.Hole t rest ts = part_with e ts >>= λ x. Some ((x.0, true), x.1)
member_by e _ t rest ts = None

abbrev pub member_of : (List Lexeme → Found Expr) → Found Lexeme → List Lexeme → Found (Expr × Bool)
member_of e None ts = None
member_of e (Some t) ts = member_by e t.0.kind t.0 t.1 ts

abbrev pub member_with : (List Lexeme → Found Expr) → List Lexeme → Found (Expr × Bool)
member_with e ts = member_of e (front_of ts) ts

abbrev pub with_member : Expr × Bool → Found (List Expr × Bool) → Found (List Expr × Bool)
with_member m None = None
with_member m (Some r) = Some ((m.0 ∷ r.0.0, m.1 || r.0.1), r.1)

abbrev pub with_members : List Expr → Bool → Found (List Expr × Bool) → Found (List Expr × Bool)
with_members front part None = None
with_members front part (Some r) = Some ((front ++ r.0.0, part || r.0.1), r.1)

abbrev pub end_or_member : (List Lexeme → Found Expr) → (List Lexeme → Found (List Expr × Bool)) → Found ℕ → List Lexeme
    → Found (List Expr × Bool)
end_or_member e others None ts = member_with e ts >>= λ m. with_member m.0 (others m.1)
end_or_member e others (Some r) ts = Some (([], false), r.1)

-- the members to the closing quote, in at most n turns, and whether a variable or an expression is among them
abbrev pub members : (List Lexeme → Found Expr) → ℕ → List Lexeme → Found (List Expr × Bool)
members e zero ts = None
members e (suc n) ts = end_or_member e (members e n) (mark kind.DqClose (codes "\"") ts) ts

-- text in double quotes without variables and expressions
abbrev pub plain_of : ℕ → List Expr → Option Expr
plain_of at [] = Some record { at = at; form = form.Str [] }
plain_of at (m ∷ []) = Some record { at = at; form = m.form }
plain_of at (m ∷ n ∷ more) = None

-- a text in double quotes of these members
abbrev pub joined : ℕ → List Expr → Bool → Option Expr
joined at ms true = Some record { at = at; form = form.Join ms }
joined at ms false = plain_of at ms

unfoldable pub quoted_with : (List Lexeme → Found Expr) → ℕ → List Lexeme → Found Expr
quoted_with e at ts = do
  ms ← members e (length ts + 1) ts
  x ← joined at ms.0.0 ms.0.1
  Some (x, ms.1)

unfoldable pub double_with : (List Lexeme → Found Expr) → List Lexeme → Found Expr
double_with e ts = mark kind.DqOpen (codes "\"") ts >>= λ o. quoted_with e o.0 o.1

-- ---- operands

abbrev pub atom_of : Lexeme → Option Expr
atom_of t = atom t.kind t.text >>= λ f. Some record { at = t.at; form = f }

abbrev pub atom_at : Lexeme → List Lexeme → Found Expr
atom_at t ts = atom_of t >>= λ x. Some (x, ts)

abbrev pub atom_in : Found Lexeme → Found Expr
atom_in None = None
atom_in (Some t) = atom_at t.0 t.1

abbrev pub string_by : (List Lexeme → Found Expr) → Kind → Lexeme → List Lexeme → List Lexeme → Found Expr
string_by e kind.Sq t rest ts = atom_in (front_of ts)
string_by e kind.DqOpen t rest ts = double_with e ts
string_by e _ t rest ts = None

abbrev pub string_of : (List Lexeme → Found Expr) → Found Lexeme → List Lexeme → Found Expr
string_of e None ts = None
string_of e (Some t) ts = string_by e t.0.kind t.0 t.1 ts

-- STRING
abbrev pub string_with : (List Lexeme → Found Expr) → List Lexeme → Found Expr
string_with e ts = string_of e (front_of ts) ts

-- an expression and the sign that closes it
unfoldable pub enclosed_with : (List Lexeme → Found Expr) → List ℕ → List Lexeme → Found Expr
enclosed_with e close ts = do
  x ← e ts
  r ← mark kind.Sign close x.1
  Some (x.0, r.1)

unfoldable pub pair_with : (List Lexeme → Found Expr) → List Lexeme → Found (Expr × Expr)
pair_with e ts = do
  key ← e ts
  arrow ← mark kind.Sign (codes "=>") key.1
  value ← e arrow.1
  Some ((key.0, value.0), value.1)

abbrev pub option_or : (List Lexeme → Found Expr) → Found ℕ → List Lexeme → Found (Option Expr)
option_or e None ts = e ts >>= λ x. Some (Some x.0, x.1)
option_or e (Some r) ts = Some (None, r.1)

-- an expression or `default`
abbrev pub option_with : (List Lexeme → Found Expr) → List Lexeme → Found (Option Expr)
option_with e ts = option_or e (mark kind.Keyword (codes "default") ts) ts

unfoldable pub choice_with : (List Lexeme → Found Expr) → List Lexeme → Found (Option Expr × Expr)
choice_with e ts = do
  key ← option_with e ts
  arrow ← mark kind.Sign (codes "=>") key.1
  value ← e arrow.1
  Some ((key.0, value.0), value.1)

unfoldable pub titles_with : (List Lexeme → Found Expr) → List Lexeme → Found (List Expr)
titles_with e ts = do
  o ← mark kind.Tight (codes "[") ts
  items (codes "]") e (length o.1 + 1) o.1

abbrev pub refer_by : (List Lexeme → Found Expr) → Kind → Lexeme → List Lexeme → Found Expr
refer_by e kind.Ref t ts = titles_with e ts >>= λ x. Some (record { at = t.at; form = form.Refer t.text x.0 }, x.1)
refer_by e _ t ts = None

abbrev pub reference_of : (List Lexeme → Found Expr) → Found Lexeme → Found Expr
reference_of e None = None
reference_of e (Some t) = refer_by e t.0.kind t.0 t.1

-- a reference
abbrev pub reference_with : (List Lexeme → Found Expr) → List Lexeme → Found Expr
reference_with e ts = reference_of e (front_of ts)

unfoldable pub list_with : (List Lexeme → Found Expr) → List Lexeme → Found Expr
list_with e ts = do
  o ← mark kind.Loose (codes "[") ts
  xs ← maybe_items (codes "]") e (length o.1 + 1) o.1
  Some (record { at = o.0; form = form.List xs.0 }, xs.1)

unfoldable pub map_with : (List Lexeme → Found Expr) → List Lexeme → Found Expr
map_with e ts = do
  o ← mark kind.Sign (codes "{") ts
  ps ← maybe_items (codes "}") (pair_with e) (length o.1 + 1) o.1
  Some (record { at = o.0; form = form.Map ps.0 }, ps.1)

abbrev pub opened_or : (List Lexeme → Found Expr) → Found ℕ → List Lexeme → Found Expr
opened_or e None ts = map_with e ts
opened_or e (Some o) ts = enclosed_with e (codes ")") o.1

abbrev pub primary_by : (List Lexeme → Found Expr) → Kind → Lexeme → List Lexeme → List Lexeme → Found Expr
primary_by e kind.DqOpen t rest ts = double_with e ts
primary_by e kind.Sign t rest ts = opened_or e (mark kind.Sign (codes "(") ts) ts
primary_by e kind.Loose t rest ts = list_with e ts
primary_by e kind.Ref t rest ts = reference_with e ts
primary_by e _ t rest ts = atom_in (front_of ts)

abbrev pub primary_of : (List Lexeme → Found Expr) → Found Lexeme → List Lexeme → Found Expr
primary_of e None ts = None
primary_of e (Some t) ts = primary_by e t.0.kind t.0 t.1 ts

-- an operand by itself
abbrev pub primary_with : (List Lexeme → Found Expr) → List Lexeme → Found Expr
primary_with e ts = primary_of e (front_of ts) ts

unfoldable pub index_with : (List Lexeme → Found Expr) → ℕ → Expr → List Lexeme → Found Expr
index_with e at x ts = do
  o ← mark kind.Tight (codes "[") ts
  key ← enclosed_with e (codes "]") o.1
  Some (record { at = at; form = form.Index x key.0 }, key.1)

unfoldable pub choices_with : (List Lexeme → Found Expr) → List Lexeme → Found (List (Option Expr × Expr))
choices_with e ts = do
  q ← mark kind.Sign (codes "?") ts
  o ← mark kind.Sign (codes "{") q.1
  items (codes "}") (choice_with e) (length o.1 + 1) o.1

unfoldable pub selection_with : (List Lexeme → Found Expr) → ℕ → Expr → List Lexeme → Found Expr
selection_with e at x ts = choices_with e ts >>= λ cs. Some (record { at = at; form = form.Select x cs.0 }, cs.1)

abbrev pub suffix_by : (List Lexeme → Found Expr) → ℕ → Expr → Kind → List Lexeme → Found Expr
suffix_by e at x kind.Tight ts = index_with e at x ts
suffix_by e at x kind.Sign ts = selection_with e at x ts
suffix_by e at x _ ts = None

abbrev pub suffix_of : (List Lexeme → Found Expr) → ℕ → Expr → Found Lexeme → List Lexeme → Found Expr
suffix_of e at x None ts = None
suffix_of e at x (Some t) ts = suffix_by e at x t.0.kind ts

abbrev pub suffix_with : (List Lexeme → Found Expr) → ℕ → Expr → List Lexeme → Found Expr
suffix_with e at x ts = suffix_of e at x (front_of ts) ts

-- indexes and selections behind x, in at most n turns
abbrev pub suffixes : (List Lexeme → Found Expr) → ℕ → ℕ → Expr → List Lexeme → Found Expr
suffixes e at zero x ts = None
suffixes e at (suc n) x ts = if begins_suffix ts then (suffix_with e at x ts >>= λ z. suffixes e at n z.0 z.1) else Some (x, ts)

-- an operand with the indexes and selections behind it
unfoldable pub postfix_with : (List Lexeme → Found Expr) → List Lexeme → Found Expr
postfix_with e ts = primary_with e ts >>= λ x. suffixes e (first_at ts) (length x.1 + 1) x.0 x.1

-- an operand with the prefixes before it
unfoldable pub unary_with : (List Lexeme → Found Expr) → List Lexeme → Found Expr
unary_with e ts = postfix_with e (prefixes ts).1 >>= λ x. Some (prefixed (first_at ts) (prefixes ts).0 x.0, x.1)

-- ---- expressions

-- what the nth rule from the tightest reads
abbrev pub levels_with : (List Lexeme → Found Expr) → ℕ → List Lexeme → Found Expr
levels_with e zero ts = unary_with e ts
levels_with e (suc n) ts = chain_with (6 - n) (levels_with e n) ts

-- with brackets nested less deep than this
abbrev pub expr_at : ℕ → List Lexeme → Found Expr
expr_at zero ts = None
expr_at (suc depth) ts = levels_with (expr_at depth) 7 ts
