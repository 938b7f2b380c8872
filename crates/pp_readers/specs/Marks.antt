-- The token at the front: telling tokens apart, and the operators among them.
use Rattle.std.specs.Prelude.{ℕ, ◌+◌, Bool, true, false, ◌==◌, ◌&&◌, if◌then◌else◌, List, [], ◌∷◌, Option, Some, None, codes}
use Rattle.std.specs.Option.{option_map}
use Rattle.std.specs.Str.{bytes_eq}
use Rattle.pp_syntax.specs.declared.token.Kind.{Kind}
use Rattle.pp_syntax.specs.declared.token.Kind.TheVariants as kind
use Rattle.pp_syntax.specs.declared.tree.Op.{Op}
use Rattle.pp_syntax.specs.declared.tree.Op.TheVariants as op
use Rattle.pp_syntax.specs.Tokens.{Lexeme}
use Rattle.pp_syntax.specs.Derivation.{level_of, op_among}

-- what a reader finds at the front of tokens, and the tokens behind it
abbrev pub Found : Type 0 → Type 0
Found X = Option (X × List Lexeme)

-- the first token, and those behind it
abbrev pub front_of : List Lexeme → Found Lexeme
front_of [] = None
front_of (t ∷ ts) = Some (t, ts)

-- the two are one kind
abbrev pub is_kind : Kind → Kind → Bool
is_kind kind.Word kind.Word = true
is_kind kind.Ref kind.Ref = true
is_kind kind.Var kind.Var = true
is_kind kind.Int kind.Int = true
is_kind kind.Float kind.Float = true
is_kind kind.Sq kind.Sq = true
is_kind kind.DqOpen kind.DqOpen = true
is_kind kind.DqText kind.DqText = true
is_kind kind.DqVar kind.DqVar = true
is_kind kind.Hole kind.Hole = true
is_kind kind.HoleEnd kind.HoleEnd = true
is_kind kind.DqClose kind.DqClose = true
is_kind kind.Tight kind.Tight = true
is_kind kind.Loose kind.Loose = true
is_kind kind.Keyword kind.Keyword = true
is_kind kind.Sign kind.Sign = true
is_kind kind.LeftOut kind.LeftOut = true
is_kind j k = false

-- a token of this kind and text at the front: where it stands
abbrev pub mark_of : Kind → List ℕ → Found Lexeme → Found ℕ
mark_of k text None = None
mark_of k text (Some t) = if is_kind t.0.kind k && bytes_eq t.0.text text then Some (t.0.at, t.1) else None

-- the same of a list of tokens
abbrev pub mark : Kind → List ℕ → List Lexeme → Found ℕ
mark k text ts = mark_of k text (front_of ts)

-- ---- operators

abbrev pub sign_operator : List ℕ → Option Op
sign_operator s = op_among (op.Less ∷ op.Greater ∷ op.AtMost ∷ op.AtLeast ∷ op.Same ∷ op.NotSame ∷ op.Plus ∷ op.Minus ∷ op.Times ∷ []) s

abbrev pub keyword_operator : List ℕ → Option Op
keyword_operator s = op_among (op.Or ∷ op.And ∷ op.In ∷ []) s

-- the operator between operands that such a token is
abbrev pub operator_of : Kind → List ℕ → Option Op
operator_of kind.Sign s = sign_operator s
operator_of kind.Keyword s = keyword_operator s
operator_of _ s = None

abbrev pub at_level : ℕ → Option Op → List Lexeme → Found Op
at_level level None ts = None
at_level level (Some o) ts = if level_of o == level then Some (o, ts) else None

-- an operator of this level at the front
abbrev pub infix_of : ℕ → Found Lexeme → Found Op
infix_of level None = None
infix_of level (Some t) = at_level level (operator_of t.0.kind t.0.text) t.1

-- the same of a list of tokens
abbrev pub infix_at : ℕ → List Lexeme → Found Op
infix_at level ts = infix_of level (front_of ts)

abbrev pub sign_prefix : List ℕ → Option Op
sign_prefix s = op_among (op.Not ∷ op.Minus ∷ []) s

-- the operator in front of an operand that such a token is
abbrev pub prefix_of : Kind → List ℕ → Option Op
prefix_of kind.Sign s = sign_prefix s
prefix_of _ s = None

abbrev pub prefix_in : Found Lexeme → Found Op
prefix_in None = None
prefix_in (Some t) = option_map (λ o. (o, t.1)) (prefix_of t.0.kind t.0.text)

abbrev pub prefix_at : List Lexeme → Found Op
prefix_at ts = prefix_in (front_of ts)

-- an index or a selection begins with such a token
abbrev pub is_suffix : Kind → List ℕ → Bool
is_suffix kind.Tight s = bytes_eq s (codes "[")
is_suffix kind.Sign s = bytes_eq s (codes "?")
is_suffix _ s = false

abbrev pub suffix_in : Found Lexeme → Bool
suffix_in None = false
suffix_in (Some t) = is_suffix t.0.kind t.0.text

abbrev pub begins_suffix : List Lexeme → Bool
begins_suffix ts = suffix_in (front_of ts)

abbrev pub place_in : Found Lexeme → ℕ
place_in None = 0
place_in (Some t) = t.0.at

-- where the first token stands
abbrev pub first_at : List Lexeme → ℕ
first_at ts = place_in (front_of ts)

-- ---- what may follow an expression

abbrev pub reach_of : Option Op → ℕ
reach_of None = 0
reach_of (Some o) = level_of o + 1

-- How tightly the first token takes what stands in front of it: 0 not at all, then the levels of the operators, then an index or a selection.
abbrev pub reach : List Lexeme → ℕ
reach [] = 0
reach (t ∷ ts) = if is_suffix t.kind t.text then 8 else reach_of (operator_of t.kind t.text)
