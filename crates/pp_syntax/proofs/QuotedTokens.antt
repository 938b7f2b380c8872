-- Tokens in double quotes: what is read is spelled, and what is spelled is read, or more.
use Rattle.std.proofs.Common.{◌≡◌, ◌≢◌, inl, inr, ℕ, ◌<◌, true, false, cond, ◌==◌, nat_lt, List, [], ◌∷◌, ◌++◌, length, Some, None, refl, sym, ap, subst, ◌∙◌, arith, length-append}
use Rattle.std.proofs.lemmas.Bool.{eqb-true, eq-eqb, ne_eqb, both_ways, lt-ltb, ltb-true}
use Rattle.pp_syntax.specs.declared.token.Kind.{Kind}
use Rattle.pp_syntax.specs.declared.token.Kind.TheVariants as kind
use Rattle.pp_syntax.specs.declared.lexer.bytes.Style.TheVariants as style
use Rattle.pp_syntax.specs.Tokens.{Name, begins, Opens, DqPiece, nothing, plain, dollar, escape, backslash, InQuotes}
use Rattle.pp_syntax.specs.Scanning.{Found, of_kind, or_else, name, text_from, piece, hole, quoted_token}
use Rattle.pp_syntax.specs.Scanning as scanning
use Rattle.pp_syntax.proofs.Steps.{Takes, leaves_by, Goes, goes_by, goes_along}
use Rattle.pp_syntax.proofs.Names.{joined_first, name_takes, name_reaches}
use Rattle.pp_syntax.proofs.Quoted.{text_takes, piece_reads}
use Rattle.pp_syntax.proofs.Signs.{either_found}
use Rattle.std.proofs.lemmas.Option.{cond_some}

-- if a token is found within double quotes, what it takes from the front is a spelling of its kind there
abbrev pub InText : Found → List ℕ → Type 0
InText found text = (x : Kind × List ℕ) → found ≡ Some x → Takes (λ s. InQuotes x.0 s x.1) text x.1

-- where less is left, the front isn't empty
nonempty : (front rest text : List ℕ) → text ≡ front ++ rest → length rest < length text → front ≢ []
nonempty front rest text e h none = let f : length text ≡ length rest = ap length e ∙ ap (λ t. length (t ++ rest)) none in omega arith

-- what is found as text is spelled so
piece_code : (text : List ℕ) → InText (piece text) text
unfolding piece
piece_code text x h =
    let c = cond_some (nat_lt (length (text_from 0 text)) (length text)) (kind.DqText, text_from 0 text) x h in
    let t = text_takes 0 text in
    subst (λ (y : Kind × List ℕ). Takes (λ s. InQuotes y.0 s y.1) text y.1) c.1 (record {
      front = t.0;
      spelled = (nonempty t.0 (text_from 0 text) text t.2 (ltb-true (length (text_from 0 text)) (length text) c.0), t.1);
      whole = t.2;
    })

-- what stands before the rest behind the brace of a `${` is the brace
hole_is : (text rest : List ℕ) → hole text ≡ Some rest → text ≡ 123 ∷ rest
hole_is [] rest h = cc
hole_is (b ∷ text) rest h = elim (b == 123) as (λ v. (b == 123) ≡ v → cond v (Some text) None ≡ Some rest → b ∷ text ≡ 123 ∷ rest) [
  | true ↦ λ e k. let first = eqb-true b 123 e in cc
  | false ↦ λ e k. cc
] refl h

-- what is found as a `${` is spelled so
hole_code : (text : List ℕ) → InText (of_kind kind.Hole (hole text)) (36 ∷ text)
hole_code text x h = elim (hole text) as (λ r. hole text ≡ r → of_kind kind.Hole r ≡ Some x → Takes (λ s. InQuotes x.0 s x.1) (36 ∷ text) x.1) [
  | None ↦ λ e f. cc
  | Some rest ↦ λ e f.
      let same : ◌≡◌ {A = Kind × List ℕ} (kind.Hole, rest) x = cc in
      subst (λ (y : Kind × List ℕ). Takes (λ s. InQuotes y.0 s y.1) (36 ∷ text) y.1) same (record { front = 36 ∷ 123 ∷ []; spelled = refl; whole = ap (λ t. 36 ∷ t) (hole_is text rest e) })
] refl h

-- what is found as a variable is spelled so
var_code : (text : List ℕ) → InText (of_kind kind.DqVar (name style.Var text)) (36 ∷ text)
var_code text x h = elim (name style.Var text) as (λ r. name style.Var text ≡ r → of_kind kind.DqVar r ≡ Some x → Takes (λ s. InQuotes x.0 s x.1) (36 ∷ text) x.1) [
  | None ↦ λ e f. cc
  | Some rest ↦ λ e f.
      let same : ◌≡◌ {A = Kind × List ℕ} (kind.DqVar, rest) x = cc in
      let t = name_takes style.Var text rest e in
      subst (λ (y : Kind × List ℕ). Takes (λ s. InQuotes y.0 s y.1) (36 ∷ text) y.1) same (record { front = 36 ∷ t.front; spelled = (t.front, refl, t.spelled); whole = ap (λ u. 36 ∷ u) t.whole })
] refl h

-- what is found behind a `$` is spelled so
dollar_code : (text : List ℕ) → InText (scanning.dollar text) (36 ∷ text)
unfolding scanning.dollar
dollar_code text x h = elim (either_found (of_kind kind.Hole (hole text)) (or_else (of_kind kind.DqVar (name style.Var text)) (piece (36 ∷ text))) x h) [
  | inl e ↦ hole_code text x e
  | inr e ↦ elim (either_found (of_kind kind.DqVar (name style.Var text)) (piece (36 ∷ text)) x e.1) [
    | inl f ↦ var_code text x f
    | inr f ↦ piece_code (36 ∷ text) x f.1
  ]
]

-- what is found as a closing double quote is spelled so
close_code : (b : ℕ) (rest : List ℕ) → b ≡ 34 → InText (Some (kind.DqClose, rest)) (b ∷ rest)
close_code b rest e x h =
    let same : ◌≡◌ {A = Kind × List ℕ} (kind.DqClose, rest) x = cc in
    subst (λ (y : Kind × List ℕ). Takes (λ s. InQuotes y.0 s y.1) (b ∷ rest) y.1) same (record { front = 34 ∷ []; spelled = refl; whole = ap (λ c. c ∷ rest) e })

-- each token that is found within double quotes is spelled so
pub quoted_takes : (text : List ℕ) → InText (quoted_token text) text
unfolding quoted_token
quoted_takes [] x h = cc
quoted_takes (b ∷ rest) x h = elim (b == 34) as (λ v. (b == 34) ≡ v → cond v (Some (kind.DqClose, rest)) (cond (b == 36) (scanning.dollar rest) (piece (b ∷ rest))) ≡ Some x → Takes (λ s. InQuotes x.0 s x.1) (b ∷ rest) x.1) [
  | true ↦ λ e k. close_code b rest (eqb-true b 34 e) x k
  | false ↦ λ e k. elim (b == 36) as (λ v. (b == 36) ≡ v → cond v (scanning.dollar rest) (piece (b ∷ rest)) ≡ Some x → Takes (λ s. InQuotes x.0 s x.1) (b ∷ rest) x.1) [
    | true ↦ λ f l. subst (λ c. Takes (λ s. InQuotes x.0 s x.1) (c ∷ rest) x.1) (sym (eqb-true b 36 f)) (dollar_code rest x l)
    | false ↦ λ f l. piece_code (b ∷ rest) x l
  ] refl k
] refl h

-- ---- and again

-- the name of a variable doesn't begin with a brace
var_first : (s : List ℕ) → Name style.Var s → (b : ℕ) × (more : List ℕ) × (s ≡ b ∷ more) × (b ≢ 123)
var_first s (inl h) = let f = joined_first style.Var s h in (f.0, f.1, f.2, λ e. both_ways (begins style.Var f.0) (ap (begins style.Var) e) f.3)
var_first s (inr h) = (58, 58 ∷ h.0, h.1, λ e. both_ways (58 == 123) refl (eq-eqb 58 123 e))

-- without a brace there is no `${`
no_hole : (b : ℕ) (text : List ℕ) → b ≢ 123 → hole (b ∷ text) ≡ None
no_hole b text n = ap (λ v. cond v (Some text) None) (ne_eqb b 123 n)

-- each variable within double quotes is read, or something longer
var_goes : (s r : List ℕ) → InQuotes kind.DqVar s r → Goes kind.DqVar r (quoted_token (s ++ r))
unfolding quoted_token scanning.dollar
var_goes s r h =
    let f = var_first h.0 h.2 in
    let g = name_reaches style.Var h.0 r h.2 in
    goes_by kind.DqVar r g.0 (quoted_token (s ++ r))
    (ap (λ t. quoted_token (t ++ r)) h.1
    ∙ ap (λ u. or_else (of_kind kind.Hole u) (or_else (of_kind kind.DqVar (name style.Var (h.0 ++ r))) (piece (36 ∷ h.0 ++ r)))) (ap (λ t. hole (t ++ r)) f.2 ∙ no_hole f.0 (f.1 ++ r) f.3)
    ∙ ap (λ u. or_else (of_kind kind.DqVar u) (piece (36 ∷ h.0 ++ r))) g.1) g.2

-- each text in double quotes is read as text, or more of it is
piece_goes : (b : ℕ) (more r : List ℕ) → DqPiece (b ∷ more) r → Goes kind.DqText r (piece (b ∷ more ++ r))
unfolding piece
piece_goes b more r h =
    let same = piece_reads (b ∷ more) r h in
    let t = text_takes 0 r in
    let shorter : length (text_from 0 r) < length (b ∷ more ++ r) = omega (arith, ap length t.2, length-append t.0 (text_from 0 r), length-append more r) in
    goes_by kind.DqText r (text_from 0 r) (piece (b ∷ more ++ r))
    (ap (λ (u : List ℕ). cond (nat_lt (length u) (length (b ∷ more ++ r))) (Some (kind.DqText, u)) None) same
    ∙ ap (λ v. cond v (Some (kind.DqText, text_from 0 r)) None) (lt-ltb (length (text_from 0 r)) (length (b ∷ more ++ r)) shorter))
    (leaves_by t.0 r (text_from 0 r) t.2)

-- How a piece of text begins.
abbrev Begun : ℕ → List ℕ → Type 0
Begun b text = (b ≢ 34) × (b ≡ 36 → ¬ (Opens text))

-- equal texts have the same first byte and the same rest
pub same_first : (b c : ℕ) (s t : List ℕ) → ◌≡◌ {A = List ℕ} (b ∷ s) (c ∷ t) → (b ≡ c) × (s ≡ t)
same_first b c s t h = (cc, cc)

-- text in double quotes begins with no double quote and with no `$` that makes something
begun : (b : ℕ) (more r : List ℕ) → DqPiece (b ∷ more) r → Begun b (more ++ r)
begun b more r (nothing e) = cc
begun b more r (plain c s e p q n h) = let f = same_first b c more s e in ((λ g. p (sym f.0 ∙ g)), λ g. absurd (q (sym f.0 ∙ g)))
begun b more r (dollar s e n h) = let f = same_first b 36 more s e in ((λ g. both_ways (36 == 34) refl (eq-eqb 36 34 (sym f.0 ∙ g))), λ g. subst (λ (t : List ℕ). ¬ (Opens (t ++ r))) (sym f.1) n)
begun b more r (escape front s e is h) = let f = same_first b 92 more (front ++ s) e in ((λ g. both_ways (92 == 34) refl (eq-eqb 92 34 (sym f.0 ∙ g))), λ g. absurd (both_ways (92 == 36) refl (eq-eqb 92 36 (sym f.0 ∙ g))))
begun b more r (backslash s e n h) = let f = same_first b 92 more s e in ((λ g. both_ways (92 == 34) refl (eq-eqb 92 34 (sym f.0 ∙ g))), λ g. absurd (both_ways (92 == 36) refl (eq-eqb 92 36 (sym f.0 ∙ g))))

-- a `$` that makes nothing opens no expression
no_hole_opens : (text : List ℕ) → ¬ (Opens text) → hole text ≡ None
no_hole_opens text n = elim (hole text) as (λ r. hole text ≡ r → r ≡ None) [ None ↦ λ e. refl | Some rest ↦ λ e. absurd (n (inl (rest, hole_is text rest e))) ] refl

-- and makes no variable
no_var_opens : (text : List ℕ) → ¬ (Opens text) → name style.Var text ≡ None
no_var_opens text n = elim (name style.Var text) as (λ r. name style.Var text ≡ r → r ≡ None) [
  | None ↦ λ e. refl
  | Some rest ↦ λ e. let t = name_takes style.Var text rest e in absurd (n (inr (t.front, rest, t.spelled, t.whole)))
] refl

-- a `$` that makes nothing is read as text
dollar_text : (text : List ℕ) → ¬ (Opens text) → scanning.dollar text ≡ piece (36 ∷ text)
unfolding scanning.dollar
dollar_text text n =
    ap (λ u. or_else (of_kind kind.Hole u) (or_else (of_kind kind.DqVar (name style.Var text)) (piece (36 ∷ text)))) (no_hole_opens text n)
    ∙ ap (λ u. or_else (of_kind kind.DqVar u) (piece (36 ∷ text))) (no_var_opens text n)

-- what begins as text does is read as text
begun_token : (b : ℕ) (text : List ℕ) → Begun b text → quoted_token (b ∷ text) ≡ piece (b ∷ text)
unfolding quoted_token
begun_token b text h =
    ap (λ v. cond v (Some (kind.DqClose, text)) (cond (b == 36) (scanning.dollar text) (piece (b ∷ text)))) (ne_eqb b 34 h.0)
    ∙ elim (b == 36) as (λ v. (b == 36) ≡ v → cond v (scanning.dollar text) (piece (b ∷ text)) ≡ piece (b ∷ text)) [
      | true ↦ λ e. let same = eqb-true b 36 e in dollar_text text (h.1 same) ∙ ap (λ c. piece (c ∷ text)) (sym same)
      | false ↦ λ e. refl
    ] refl

-- each text in double quotes is read, or more of it is
text_goes : (s r : List ℕ) → s ≢ [] → DqPiece s r → Goes kind.DqText r (quoted_token (s ++ r))
text_goes [] r some h = absurd (some refl)
text_goes (b ∷ more) r some h = goes_along kind.DqText r (quoted_token (b ∷ more ++ r)) (piece (b ∷ more ++ r)) (begun_token b (more ++ r) (begun b more r h)) (piece_goes b more r h)

-- each `${` is read, or something longer
hole_goes : (s r : List ℕ) → InQuotes kind.Hole s r → Goes kind.Hole r (quoted_token (s ++ r))
unfolding quoted_token scanning.dollar
hole_goes s r h = goes_by kind.Hole r r (quoted_token (s ++ r)) (ap (λ t. quoted_token (t ++ r)) h) (inr refl)

-- each closing double quote is read
close_goes : (s r : List ℕ) → InQuotes kind.DqClose s r → Goes kind.DqClose r (quoted_token (s ++ r))
unfolding quoted_token
close_goes s r h = goes_by kind.DqClose r r (quoted_token (s ++ r)) (ap (λ t. quoted_token (t ++ r)) h) (inr refl)

-- each spelling within double quotes is read, or something longer
pub quoted_goes : (k : Kind) (s r : List ℕ) → InQuotes k s r → Goes k r (quoted_token (s ++ r))
quoted_goes kind.DqText s r h = text_goes s r h.0 h.1
quoted_goes kind.DqVar s r h = var_goes s r h
quoted_goes kind.Hole s r h = hole_goes s r h
quoted_goes kind.DqClose s r h = close_goes s r h
quoted_goes kind.Word s r h = absurd h
quoted_goes kind.Ref s r h = absurd h
quoted_goes kind.Var s r h = absurd h
quoted_goes kind.Int s r h = absurd h
quoted_goes kind.Float s r h = absurd h
quoted_goes kind.Sq s r h = absurd h
quoted_goes kind.DqOpen s r h = absurd h
quoted_goes kind.Keyword s r h = absurd h
quoted_goes kind.Sign s r h = absurd h
quoted_goes kind.LeftOut s r h = absurd h
quoted_goes kind.HoleEnd s r h = absurd h
quoted_goes kind.Tight s r h = absurd h
quoted_goes kind.Loose s r h = absurd h
