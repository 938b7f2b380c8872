-- What is spelled is read: names, attributes and bodies.
use Rattle.std.proofs.Common.{◌≡◌, ◌≢◌, ℕ, ◌+◌, ◌≤◌, true, false, not, cond, List, [], ◌∷◌, ◌++◌, length, Some, None, refl, sym, ap, subst, ◌∙◌, length-append, arith}
use Rattle.std.specs.Prelude.{codes}
use Rattle.pp_syntax.specs.declared.token.Kind.{Kind}
use Rattle.pp_syntax.specs.declared.token.Kind.TheVariants as kind
use Rattle.pp_syntax.specs.declared.tree.Expr.{Expr}
use Rattle.pp_syntax.specs.declared.tree.Attr.{Attr}
use Rattle.pp_syntax.specs.declared.tree.Body.{Body}
use Rattle.pp_syntax.specs.Tokens.{Lexeme}
use Rattle.pp_syntax.specs.Phrases as phrases
use Rattle.pp_syntax.specs.Phrases.{◌then◌, Sign, MaybeListed}
use Rattle.pp_syntax.specs.Statements.{NameOf, word, keyword, AttrOf, BodyOf, BodiesOf, InBraces}
use Rattle.pp_readers.specs.Marks.{mark, reach}
use Rattle.pp_readers.proofs.Solid.{Begun, begun_some, begun_grows, no_close_first}
use Rattle.pp_readers.specs.Combining.{Reader, both, behind, in_braces, is_found, listed}
use Rattle.pp_readers.specs.Names.{taken, name_by, begins_name}
use Rattle.pp_readers.specs.Statements.{attr_of, attr_with, attrs_with, body_of, body_with, unclosed, bodies_with}
use Rattle.pp_readers.proofs.Combining.{Spells, ListedBy, some_token}
use Rattle.pp_readers.proofs.BodiesFound.{then_some, name_some}
use Rattle.pp_readers.proofs.Building.{Phrase, Always, ReadsBefore, split, both_read, behind_read, in_braces_read, made_read, placed_read, taken_read, listed_read}

-- nothing that goes on behind an expression stands first
abbrev pub Quiet : Phrase
Quiet rest = reach rest ≤ 0

-- a bracket that closes a block stands first
abbrev pub Closing : Phrase
Closing rest = (at : ℕ) × (more : List Lexeme) × (rest ≡ record { kind = kind.Sign; text = codes "}"; at = at } ∷ more)

-- what holds before a token holds before what begins with it
pub by_token : (k : Kind) (s : List ℕ) (G : Phrase) → ((at : ℕ) (more : List Lexeme) → G (record { kind = k; text = s; at = at } ∷ more)) → (us rest : List Lexeme) → phrases.Some k s us → G (us ++ rest)
by_token k s G g us rest t = subst (λ u. G (u ++ rest)) (sym t.1) (g t.0 rest)

-- the same of a token at any place
pub by_first : (k : Kind) (s : List ℕ) (B : Phrase) (G : Phrase) → ((at : ℕ) (more : List Lexeme) → G (record { kind = k; text = s; at = at } ∷ more)) → (us rest : List Lexeme) → (phrases.Some k s then B) us → G (us ++ rest)
by_first k s B G g us rest p = subst G (sym (split p.front p.back rest us p.whole)) (by_token k s G g p.front (p.back ++ rest) p.first)

-- what begins with a token has one
pub token_solid : (k : Kind) (s : List ℕ) (B : Phrase) (us : List Lexeme) → (phrases.Some k s then B) us → us ≢ []
token_solid k s B us p n = some_token k s B (subst (λ us. (phrases.Some k s then B) us) n p)

-- where a closing brace stands, a block closes
pub closing_here : (us rest : List Lexeme) → Sign (codes "}") us → Closing (us ++ rest)
closing_here us rest t = (t.0, rest, ap (λ r. r ++ rest) t.1)

-- where a block closes, the test says so
pub closing_stops : (rest : List Lexeme) → Closing rest → unclosed rest ≡ false
closing_stops rest c = ap unclosed c.2

-- where no closing brace is found, the test says that none closes a block
pub unclosed_here : (ts : List Lexeme) → mark kind.Sign (codes "}") ts ≡ None → unclosed ts ≡ true
unclosed_here ts h = ap (λ r. not (is_found r)) h

-- ---- names

-- a name is read
pub name_read : ReadsBefore Always (taken name_by) NameOf
name_read x us rest (word t c) f q = taken_read name_by kind.Word x x us rest t (ap (λ v. cond v None (Some x)) c)
name_read x us rest (keyword t) f q = taken_read name_by kind.Keyword x x us rest t refl

-- where a name stands, the test finds one
pub name_begins : (x : List ℕ) (us rest : List Lexeme) → NameOf x us → begins_name (us ++ rest) ≡ true
name_begins x us rest (word t c) = ap is_found (taken_read name_by kind.Word x x us rest t (ap (λ v. cond v None (Some x)) c))
name_begins x us rest (keyword t) = ap is_found (taken_read name_by kind.Keyword x x us rest t refl)

-- what can't go on behind attributes
abbrev pub EndsAttrs : Phrase
EndsAttrs rest = (begins_name rest ≡ false) × (mark kind.Sign (codes ",") rest ≡ None) × Quiet rest

module _ (e : Reader Expr) (E : Spells Expr) (reads : ReadsBefore Quiet e E) (begun : (y : Expr) (us : List Lexeme) → E y us → Begun us) where
  -- NAME => expr
  abbrev Parts : List ℕ × Expr → Phrase
  Parts p = NameOf p.0 then (Sign (codes "=>") then E p.1)

  -- the parts of an attribute are read
  parts_read : ReadsBefore Quiet (both (taken name_by) (behind kind.Sign (codes "=>") e)) Parts
  parts_read =
      both_read (taken name_by) (behind kind.Sign (codes "=>") e) NameOf (λ v. Sign (codes "=>") then E v) Always Quiet name_read (behind_read e E Quiet reads kind.Sign (codes "=>")) (λ y us rest s q. tt)

  -- an attribute has a token
  attr_solid : (y : Attr) (us : List Lexeme) → AttrOf E y us → us ≢ []
  attr_solid y us a n = then_some (NameOf y.name) (Sign (codes "=>") then E y.value) (name_some y.name) (subst (λ us. (NameOf y.name then (Sign (codes "=>") then E y.value)) us) n a.1)

  -- an attribute is read
  attr_read : ReadsBefore Quiet (attr_with e) (AttrOf E)
  attr_read y us rest a f q =
      placed_read attr_of (both (taken name_by) (behind kind.Sign (codes "=>") e)) Parts Quiet parts_read (y.name, y.value) y us rest a.1 f q (attr_solid y us a)
      (ap (λ (at : ℕ). record { at = at; name = y.name; value = y.value }) (sym a.0))

  -- an attribute begins with a name
  attr_begins : (y : Attr) (us rest : List Lexeme) → AttrOf E y us → begins_name (us ++ rest) ≡ true
  attr_begins y us rest a = ap begins_name (split a.1.front a.1.back rest us a.1.whole) ∙ name_begins y.name a.1.front (a.1.back ++ rest) a.1.first

  -- attributes, or none, are items with commas between them
  listed_by : (ys : List Attr) (us : List Lexeme) → MaybeListed (AttrOf E) ys us → ListedBy (codes ",") (AttrOf E) ys us
  listed_by [] us h = h
  listed_by (y ∷ ys) us h = h

  -- attributes are read, before what can't go on behind them
  pub attrs_read : ReadsBefore EndsAttrs (attrs_with e) (MaybeListed (AttrOf E))
  attrs_read ys us rest h f q =
      listed_read (codes ",") begins_name (attr_with e) (AttrOf E) EndsAttrs Quiet attr_read attr_begins attr_solid (by_token kind.Sign (codes ",") Quiet (λ at more. omega arith))
      (λ rest q. q.0) (λ rest q. q.1) (λ rest q. q.2) ys (length (us ++ rest) + 1) us rest (listed_by ys us h) f q (omega (arith, length-append us rest))

  -- ---- bodies

  -- expr ":" [ attrs ]
  abbrev Whole : Expr × List Attr → Phrase
  Whole p = E p.0 then (Sign (codes ":") then MaybeListed (AttrOf E) p.1)

  -- the parts of a body are read
  whole_read : ReadsBefore EndsAttrs (both e (behind kind.Sign (codes ":") (attrs_with e))) Whole
  whole_read =
      both_read e (behind kind.Sign (codes ":") (attrs_with e)) E (λ ys. Sign (codes ":") then MaybeListed (AttrOf E) ys) Quiet EndsAttrs reads (behind_read (attrs_with e) (MaybeListed (AttrOf E)) EndsAttrs attrs_read kind.Sign (codes ":"))
      (λ ys us rest s q. by_first kind.Sign (codes ":") (MaybeListed (AttrOf E) ys) Quiet (λ at more. omega arith) us rest s)

  -- a body is read
  body_read : ReadsBefore EndsAttrs (body_with e) (BodyOf E)
  body_read y us rest b f q = made_read body_of (both e (behind kind.Sign (codes ":") (attrs_with e))) Whole EndsAttrs whole_read (y.title, y.attrs) y us rest b f q (λ at. refl)

  -- a body begins as an expression does
  body_begun : (y : Body) (us : List Lexeme) → BodyOf E y us → Begun us
  body_begun y us b = begun_grows b.front b.back b.whole (begun y.title b.front b.first)

  -- a body doesn't begin with a closing brace
  body_begins : (y : Body) (us rest : List Lexeme) → BodyOf E y us → unclosed (us ++ rest) ≡ true
  body_begins y us rest b = unclosed_here (us ++ rest) (no_close_first (codes "}") refl refl refl refl us rest (body_begun y us b))

  -- a body has a token
  body_solid : (y : Body) (us : List Lexeme) → BodyOf E y us → us ≢ []
  body_solid y us b = begun_some us (body_begun y us b)

  -- before a closing brace attributes end
  ends_closing : (rest : List Lexeme) → Closing rest → EndsAttrs rest
  ends_closing rest c = (ap begins_name c.2, ap (mark kind.Sign (codes ",")) c.2, omega (arith, ap reach c.2))

  -- before a `;` attributes end
  semicolon : (us rest : List Lexeme) → Sign (codes ";") us → EndsAttrs (us ++ rest)
  semicolon us rest t = by_token kind.Sign (codes ";") EndsAttrs (λ at more. (refl, refl, omega arith)) us rest t

  -- bodies don't begin with a closing brace
  bodies_begin : (ys : List Body) (us rest : List Lexeme) → BodiesOf E ys us → unclosed (us ++ rest) ≡ true
  bodies_begin [] us rest h = absurd h.first
  bodies_begin (y ∷ ys) us rest h =
      let s = h.first in
      ap unclosed (split h.front h.back rest us h.whole ∙ split s.front s.back (h.back ++ rest) h.front s.whole) ∙ body_begins y s.front (s.back ++ (h.back ++ rest)) s.first

  -- bodies are items with `;` between them
  bodies_by : (ys : List Body) (us : List Lexeme) → BodiesOf E ys us → ListedBy (codes ";") (BodyOf E) ys us
  bodies_by [] us h = absurd h.first
  bodies_by (y ∷ ys) us h = h

  -- bodies are read, before a closing brace
  pub bodies_read : ReadsBefore Closing (bodies_with e) (BodiesOf E)
  bodies_read ys us rest h f q =
      ap (λ v. cond v (listed (codes ";") unclosed (body_with e) (length (us ++ rest) + 1) (us ++ rest)) None) (bodies_begin ys us rest h)
      ∙ listed_read (codes ";") unclosed (body_with e) (BodyOf E) Closing EndsAttrs body_read body_begins body_solid semicolon
      closing_stops (λ rest c. ap (mark kind.Sign (codes ";")) c.2) ends_closing ys (length (us ++ rest) + 1) us rest (bodies_by ys us h) f q (omega (arith, length-append us rest))

  -- bodies in braces are read
  pub braced_read : ReadsBefore Always (in_braces (bodies_with e)) (λ ys. InBraces (BodiesOf E ys))
  braced_read = in_braces_read (bodies_with e) (BodiesOf E) Closing bodies_read closing_here

  -- attributes in braces are read
  pub attributes_read : ReadsBefore Always (in_braces (attrs_with e)) (λ ys. InBraces (MaybeListed (AttrOf E) ys))
  attributes_read = in_braces_read (attrs_with e) (MaybeListed (AttrOf E)) EndsAttrs attrs_read (λ us rest t. ends_closing (us ++ rest) (closing_here us rest t))
