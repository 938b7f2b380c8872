-- What is counted from left to right is the depth: the brackets that stand open, and what a token adds to them.
use Rattle.std.proofs.Common.{◌≡◌, ◌⊎◌, inl, inr, ℕ, zero, suc, ◌+◌, ◌-◌, ◌<◌, ◌≤◌, Bool, true, false, cond, ◌||◌, List, [], ◌∷◌, ◌++◌, length, refl, sym, ap, subst, ◌∙◌, arith, append_assoc, append-nil, add-one}
use Rattle.std.specs.Prelude.{codes}
use Rattle.std.specs.List.{AllByRecursion}
use Rattle.std.specs.Str.{bytes_eq}
use Rattle.std.proofs.lemmas.Bool.{or_cases}
use Rattle.std.proofs.lemmas.Slice.Eq.{bytes_eq-Decides}
use Rattle.pp_syntax.specs.declared.token.Kind.{Kind}
use Rattle.pp_syntax.specs.declared.token.Kind.TheVariants as kind
use Rattle.pp_syntax.specs.Tokens.{Lexeme, is_among}
use Rattle.pp_syntax.specs.Depth.{opens_by, closes_by, opens, closes, open_from, AreClosed, nothing, other, bracket, IsSign, IsPostfix, index, selection, EndWithPostfixes, IsPrefix, EndWithPrefixes, Adds}
use Rattle.pp_parser.specs.declared.depth.Shape.{Shape}
use Rattle.pp_parser.specs.declared.depth.Shape.TheVariants.{Opens, Indexes, Braces, Closes, Asks, Prefixes, Other}
use Rattle.pp_parser.specs.declared.depth.Nesting.{Nesting}
use Rattle.pp_parser.specs.Nested.{at_start, innermost, outer_of, sign_shape, shape_of, behind_shape, depth_of}
use Rattle.pp_parser.specs.Scanning.{behind}
use Rattle.pp_parser.proofs.First.{folded}

-- ---- what each shape says of a token

-- what a token is for the depth agrees with whether it opens or closes a bracket
pub data ShapedAs (k : Kind) (s : List ℕ) : Type 0 where
  opening : shape_of k s ≡ Opens → opens_by k s ≡ true → closes_by k s ≡ false → ShapedAs k s
  indexing : shape_of k s ≡ Indexes → opens_by k s ≡ true → closes_by k s ≡ false → k ≡ kind.Tight → ShapedAs k s
  brace : shape_of k s ≡ Braces → opens_by k s ≡ true → closes_by k s ≡ false → (k ≡ kind.Sign) × (s ≡ codes "{") → ShapedAs k s
  closing : shape_of k s ≡ Closes → opens_by k s ≡ false → closes_by k s ≡ true → ShapedAs k s
  asking : shape_of k s ≡ Asks → opens_by k s ≡ false → closes_by k s ≡ false → (k ≡ kind.Sign) × (s ≡ codes "?") → ShapedAs k s
  negating : shape_of k s ≡ Prefixes → opens_by k s ≡ false → closes_by k s ≡ false → ((k ≡ kind.Sign) × (s ≡ codes "!")) ⊎ ((k ≡ kind.Sign) × (s ≡ codes "-")) → ShapedAs k s
  plain : shape_of k s ≡ Other → opens_by k s ≡ false → closes_by k s ≡ false → ShapedAs k s

-- what holds of a sign holds of an equal text
as_text : (s x : List ℕ) → bytes_eq x s ≡ true → ShapedAs kind.Sign x → ShapedAs kind.Sign s
as_text s x e h = subst (ShapedAs kind.Sign) ((bytes_eq-Decides x s).0 e) h

-- what holds of each sign of a table holds of what is among them
one_of : (xs : List (List ℕ)) (s : List ℕ) → AllByRecursion (ShapedAs kind.Sign) xs → is_among xs s ≡ true → ShapedAs kind.Sign s
one_of [] s all h = cc
one_of (x ∷ xs) s all h = elim (or_cases (bytes_eq x s) (is_among xs s) h) [ inl e ↦ as_text s x e all.0 | inr more ↦ one_of xs s all.1 more ]

-- the same of equal texts, compared the other way round
turned : (s x : List ℕ) → bytes_eq s x ≡ true → ShapedAs kind.Sign x → ShapedAs kind.Sign s
turned s x e h = subst (ShapedAs kind.Sign) (sym ((bytes_eq-Decides s x).0 e)) h

-- the tests of a sign, one behind the other
abbrev chosen : Bool → Bool → Bool → Bool → Bool → Shape
chosen a b c d f = cond a Opens (cond b Braces (cond c Closes (cond d Asks (cond f Prefixes Other))))

-- Where no test holds, the sign opens nothing.
none_opens : (s : List ℕ) → is_among (codes "(" ∷ codes "<|" ∷ []) s ≡ false → bytes_eq s (codes "{") ≡ false → is_among (codes "(" ∷ codes "{" ∷ codes "<|" ∷ []) s ≡ false
none_opens s h e = by_tests (bytes_eq (codes "(") s) (bytes_eq (codes "{") s) (bytes_eq (codes "<|") s) h (no_brace (bytes_eq (codes "{") s) refl)
  where
    no_brace : (v : Bool) → bytes_eq (codes "{") s ≡ v → v ≡ false
    no_brace false h = refl
    no_brace true h = sym ((bytes_eq-Decides s (codes "{")).1 (sym ((bytes_eq-Decides (codes "{") s).0 h))) ∙ e

    by_tests : (a b c : Bool) → (a || (c || false)) ≡ false → b ≡ false → (a || (b || (c || false))) ≡ false
    by_tests true b c h e = cc
    by_tests false true c h e = cc
    by_tests false false c h e = h

-- the shape of each sign agrees with what it opens or closes
sign_shaped : (s : List ℕ) → ShapedAs kind.Sign s
sign_shaped s = elim (is_among (codes "(" ∷ codes "<|" ∷ []) s) as (λ v. is_among (codes "(" ∷ codes "<|" ∷ []) s ≡ v → ShapedAs kind.Sign s) [
  | true ↦ λ h. one_of (codes "(" ∷ codes "<|" ∷ []) s (opening refl refl refl, (opening refl refl refl, tt)) h
  | false ↦ λ a. elim (bytes_eq s (codes "{")) as (λ v. bytes_eq s (codes "{") ≡ v → ShapedAs kind.Sign s) [
    | true ↦ λ h. turned s (codes "{") h (brace refl refl refl (refl, refl))
    | false ↦ λ b. elim (is_among (codes ")" ∷ codes "]" ∷ codes "}" ∷ codes "|>" ∷ []) s) as (λ v. is_among (codes ")" ∷ codes "]" ∷ codes "}" ∷ codes "|>" ∷ []) s ≡ v → ShapedAs kind.Sign s) [
      | true ↦ λ h. one_of (codes ")" ∷ codes "]" ∷ codes "}" ∷ codes "|>" ∷ []) s (closing refl refl refl, (closing refl refl refl, (closing refl refl refl, (closing refl refl refl, tt)))) h
      | false ↦ λ c. elim (bytes_eq s (codes "?")) as (λ v. bytes_eq s (codes "?") ≡ v → ShapedAs kind.Sign s) [
        | true ↦ λ h. turned s (codes "?") h (asking refl refl refl (refl, refl))
        | false ↦ λ d. elim (is_among (codes "!" ∷ codes "-" ∷ []) s) as (λ v. is_among (codes "!" ∷ codes "-" ∷ []) s ≡ v → ShapedAs kind.Sign s) [
          | true ↦ λ h. one_of (codes "!" ∷ codes "-" ∷ []) s (negating refl refl refl (inl (refl, refl)), (negating refl refl refl (inr (refl, refl)), tt)) h
          | false ↦ λ f. plain (is_plain a b c d f) (none_opens s a b) c
        ] refl
      ] refl
    ] refl
  ] refl
] refl
  where
    is_plain : is_among (codes "(" ∷ codes "<|" ∷ []) s ≡ false → bytes_eq s (codes "{") ≡ false → is_among (codes ")" ∷ codes "]" ∷ codes "}" ∷ codes "|>" ∷ []) s ≡ false → bytes_eq s (codes "?") ≡ false
        → is_among (codes "!" ∷ codes "-" ∷ []) s ≡ false → sign_shape s ≡ Other
    is_plain a b c d f =
        ap (λ v. chosen v (bytes_eq s (codes "{")) (is_among (codes ")" ∷ codes "]" ∷ codes "}" ∷ codes "|>" ∷ []) s) (bytes_eq s (codes "?")) (is_among (codes "!" ∷ codes "-" ∷ []) s)) a
        ∙ ap (λ v. chosen false v (is_among (codes ")" ∷ codes "]" ∷ codes "}" ∷ codes "|>" ∷ []) s) (bytes_eq s (codes "?")) (is_among (codes "!" ∷ codes "-" ∷ []) s)) b
        ∙ ap (λ v. chosen false false v (bytes_eq s (codes "?")) (is_among (codes "!" ∷ codes "-" ∷ []) s)) c
        ∙ ap (λ v. chosen false false false v (is_among (codes "!" ∷ codes "-" ∷ []) s)) d
        ∙ ap (λ v. chosen false false false false v) f

-- so does that of a token of each kind
shaped_as : (k : Kind) (s : List ℕ) → ShapedAs k s
shaped_as kind.Sign s = sign_shaped s
shaped_as kind.Tight s = indexing refl refl refl refl
shaped_as kind.Loose s = opening refl refl refl
shaped_as kind.Hole s = opening refl refl refl
shaped_as kind.HoleEnd s = closing refl refl refl
shaped_as k s = plain refl refl refl

-- so does that of each token
shaped : (t : Lexeme) → ShapedAs t.kind t.text
shaped t = shaped_as t.kind t.text

-- a test isn't both true and false
never : (b : Bool) → b ≡ true → b ≡ false → ⊥
never true h k = cc
never false h k = cc

-- ---- one token

-- a token counts as its shape does
moved : (n : Nesting) (t : Lexeme) (s : Shape) → shape_of t.kind t.text ≡ s → behind n t ≡ behind_shape n s
moved n t s h = ap (behind_shape n) h

-- what counts behind these tokens
abbrev passed : Nesting → List Lexeme → Nesting
passed n ts = folded behind n ts

-- tokens one behind the other count one after the other
passed_append : (n : Nesting) (ts us : List Lexeme) → passed n (ts ++ us) ≡ passed (passed n ts) us
passed_append n [] us = refl
passed_append n (t ∷ ts) us = passed_append (behind n t) ts us

-- without the innermost, one less is open
fewer : (rows : List ℕ) → length (outer_of rows) ≡ length rows - 1
fewer [] = refl
fewer (r ∷ rows) = omega arith

-- how many are open behind one token
abbrev open_with : Bool → Bool → ℕ → ℕ
open_with o c n = cond o (n + 1) (cond c (n - 1) n)

-- how many are open depends on nothing but what the token opens and closes
open_is : (o c : Bool) (v w : Bool) (n : ℕ) → o ≡ v → c ≡ w → open_with o c n ≡ open_with v w n
open_is o c v w n h k = ap (λ u. open_with u c n) h ∙ ap (λ u. open_with v u n) k

-- behind a token as many are counted as stand open
one_open : (n : Nesting) (t : Lexeme) → length (behind n t).opened ≡ open_with (opens t) (closes t) (length n.opened)
one_open n t = by_shape (shaped t)
  where
    count : (s : Shape) → shape_of t.kind t.text ≡ s → length (behind n t).opened ≡ length (behind_shape n s).opened
    count s h = ap (λ (m : Nesting). length m.opened) (moved n t s h)

    opened_one : opens t ≡ true → open_with (opens t) (closes t) (length n.opened) ≡ length n.opened + 1
    opened_one o = ap (λ u. open_with u (closes t) (length n.opened)) o

    same : opens t ≡ false → closes t ≡ false → open_with (opens t) (closes t) (length n.opened) ≡ length n.opened
    same o c = open_is (opens t) (closes t) false false (length n.opened) o c

    by_shape : ShapedAs t.kind t.text → length (behind n t).opened ≡ open_with (opens t) (closes t) (length n.opened)
    by_shape (opening h o c) = omega (arith, count Opens h, opened_one o)
    by_shape (indexing h o c k) = omega (arith, count Indexes h, opened_one o)
    by_shape (brace h o c k) = omega (arith, count Braces h, opened_one o)
    by_shape (closing h o c) = count Closes h ∙ fewer n.opened ∙ sym (open_is (opens t) (closes t) false true (length n.opened) o c)
    by_shape (asking h o c k) = count Asks h ∙ sym (same o c)
    by_shape (negating h o c k) = count Prefixes h ∙ sym (same o c)
    by_shape (plain h o c) = count Other h ∙ sym (same o c)

-- behind tokens as many are counted as stand open
all_open : (n : Nesting) (ts : List Lexeme) → length (passed n ts).opened ≡ open_from (length n.opened) ts
all_open n [] = refl
all_open n (t ∷ ts) = all_open (behind n t) ts ∙ ap (λ k. open_from k ts) (one_open n t)

-- ---- what is closed leaves the open brackets as they were

-- an opening bracket is put in front of those that are open
opens_one : (n : Nesting) (t : Lexeme) → opens t ≡ true → (e : ℕ) × ((behind n t).opened ≡ e ∷ n.opened)
opens_one n t o = by_shape (shaped t)
  where
    by_shape : ShapedAs t.kind t.text → (e : ℕ) × ((behind n t).opened ≡ e ∷ n.opened)
    by_shape (opening h p c) = (0, ap (λ (m : Nesting). m.opened) (moved n t Opens h))
    by_shape (indexing h p c k) = (n.row + 1, ap (λ (m : Nesting). m.opened) (moved n t Indexes h))
    by_shape (brace h p c k) = (n.asked, ap (λ (m : Nesting). m.opened) (moved n t Braces h))
    by_shape (closing h p c) = absurd (never (opens t) o p)
    by_shape (asking h p c k) = absurd (never (opens t) o p)
    by_shape (negating h p c k) = absurd (never (opens t) o p)
    by_shape (plain h p c) = absurd (never (opens t) o p)

-- a closing bracket counts as one
closes_one : (n : Nesting) (t : Lexeme) → closes t ≡ true → behind n t ≡ behind_shape n Closes
closes_one n t c = by_shape (shaped t)
  where
    by_shape : ShapedAs t.kind t.text → behind n t ≡ behind_shape n Closes
    by_shape (opening h p d) = absurd (never (closes t) c d)
    by_shape (indexing h p d k) = absurd (never (closes t) c d)
    by_shape (brace h p d k) = absurd (never (closes t) c d)
    by_shape (closing h p d) = moved n t Closes h
    by_shape (asking h p d k) = absurd (never (closes t) c d)
    by_shape (negating h p d k) = absurd (never (closes t) c d)
    by_shape (plain h p d) = absurd (never (closes t) c d)

-- a token that neither opens nor closes
keeps_one : (n : Nesting) (t : Lexeme) → opens t ≡ false → closes t ≡ false → (behind n t).opened ≡ n.opened
keeps_one n t o c = by_shape (shaped t)
  where
    by_shape : ShapedAs t.kind t.text → (behind n t).opened ≡ n.opened
    by_shape (opening h p d) = absurd (never (opens t) p o)
    by_shape (indexing h p d k) = absurd (never (opens t) p o)
    by_shape (brace h p d k) = absurd (never (opens t) p o)
    by_shape (closing h p d) = absurd (never (closes t) d c)
    by_shape (asking h p d k) = ap (λ (m : Nesting). m.opened) (moved n t Asks h)
    by_shape (negating h p d k) = ap (λ (m : Nesting). m.opened) (moved n t Prefixes h)
    by_shape (plain h p d) = ap (λ (m : Nesting). m.opened) (moved n t Other h)

-- A bracket, what is closed, and a bracket that closes: the row is what was put there for it.
closed_row : (n : Nesting) (inner : List Lexeme) (c : Lexeme) (e : ℕ) (rows : List ℕ) → ((m : Nesting) → (passed m inner).opened ≡ m.opened) → closes c ≡ true → n.opened ≡ e ∷ rows
    → ((passed n (inner ++ c ∷ [])).opened ≡ rows) × ((passed n (inner ++ c ∷ [])).row ≡ e)
closed_row n inner c e rows keeps shut is =
    let whole : passed n (inner ++ c ∷ []) ≡ behind_shape (passed n inner) Closes = passed_append n inner (c ∷ []) ∙ closes_one (passed n inner) c shut in
    let before : (passed n inner).opened ≡ e ∷ rows = keeps n ∙ is in
    (ap (λ (m : Nesting). m.opened) whole ∙ ap outer_of before, ap (λ (m : Nesting). m.row) whole ∙ ap innermost before)

-- tokens in which each bracket is closed leave the open ones as they were
keeps_closed : {ts : List Lexeme} → AreClosed ts → (n : Nesting) → (passed n ts).opened ≡ n.opened
keeps_closed (nothing e) n = ap (λ (us : List Lexeme). (passed n us).opened) e
keeps_closed (other t more e o c h) n = ap (λ (us : List Lexeme). (passed n us).opened) e ∙ keeps_closed h (behind n t) ∙ keeps_one n t o c
keeps_closed (bracket o c inner more e op h cl k) n =
    let first = opens_one n o op in
    let row = closed_row (behind n o) inner c first.0 n.opened (keeps_closed h) cl first.1 in
    ap (λ (us : List Lexeme). (passed n us).opened) (e ∙ ap (λ (us : List Lexeme). o ∷ us) (sym (append_assoc inner (c ∷ []) more)))
    ∙ ap (λ (m : Nesting). m.opened) (passed_append (behind n o) (inner ++ c ∷ []) more) ∙ keeps_closed k (passed (behind n o) (inner ++ c ∷ [])) ∙ row.0

-- ---- rows and runs

-- a tight `[` counts as an index
indexes_shape : (t : Lexeme) → t.kind ≡ kind.Tight → shape_of t.kind t.text ≡ Indexes
indexes_shape t k = ap (λ (j : Kind). shape_of j t.text) k

-- a sign counts as its text says
sign_is : (t : Lexeme) (s : List ℕ) → IsSign s t → shape_of t.kind t.text ≡ sign_shape s
sign_is t s k = ap (λ (j : Kind). shape_of j t.text) k.0 ∙ ap sign_shape k.1

-- A postfix makes the row one longer.
longer_row : (n : Nesting) (ts : List Lexeme) → IsPostfix ts → (passed n ts).row ≡ n.row + 1
longer_row n ts (index o c inner e k h cl) =
    let first : (behind n o).opened ≡ (n.row + 1) ∷ n.opened = ap (λ (m : Nesting). m.opened) (moved n o Indexes (indexes_shape o k)) in
    ap (λ (us : List Lexeme). (passed n us).row) e ∙ (closed_row (behind n o) inner c (n.row + 1) n.opened (keeps_closed h) cl first).1
longer_row n ts (selection q o c inner e a b h cl) =
    let asks : behind n q ≡ behind_shape n Asks = moved n q Asks (sign_is q (codes "?") a) in
    let braces : (behind (behind n q) o).opened ≡ (n.row + 1) ∷ n.opened = ap (λ (m : Nesting). m.opened) (moved (behind n q) o Braces (sign_is o (codes "{") b)) ∙ ap (λ (m : Nesting). m.asked ∷ m.opened) asks in
    ap (λ (us : List Lexeme). (passed n us).row) e ∙ (closed_row (behind (behind n q) o) inner c (n.row + 1) n.opened (keeps_closed h) cl braces).1

-- as many postfixes as end the tokens in one row are counted, or more
row_at_least : (r : ℕ) (n : Nesting) (ts : List Lexeme) → EndWithPostfixes r ts → r ≤ (passed n ts).row
row_at_least zero n ts h = omega arith
row_at_least (suc r) n ts h =
    let step : (passed n ts).row ≡ (passed n h.0).row + 1 = ap (λ (us : List Lexeme). (passed n us).row) h.2 ∙ ap (λ (m : Nesting). m.row) (passed_append n h.0 h.1) ∙ longer_row (passed n h.0) h.1 h.3 in
    omega (arith, step, row_at_least r n h.0 h.4)

-- `!` and `-` count as prefixes
prefix_shape : (t : Lexeme) → IsPrefix t → shape_of t.kind t.text ≡ Prefixes
prefix_shape t (inl k) = sign_is t (codes "!") k
prefix_shape t (inr k) = sign_is t (codes "-") k

-- as many prefixes as end the tokens in one run are counted, or more
run_at_least : (r : ℕ) (n : Nesting) (ts : List Lexeme) → EndWithPrefixes r ts → r ≤ (passed n ts).run
run_at_least zero n ts h = omega arith
run_at_least (suc r) n ts h =
    let step : (passed n ts).run ≡ (passed n h.0).run + 1 = ap (λ (us : List Lexeme). (passed n us).run) h.2 ∙ ap (λ (m : Nesting). m.run) (passed_append n h.0 (h.1 ∷ [])) ∙ ap (λ (m : Nesting). m.run) (moved (passed n h.0) h.1 Prefixes (prefix_shape h.1 h.3)) in
    omega (arith, step, run_at_least r n h.0 h.4)

-- ---- what is counted stands there

-- two lists in which each bracket is closed make one
closed_append : {ts : List Lexeme} (us : List Lexeme) → AreClosed ts → AreClosed us → AreClosed (ts ++ us)
closed_append us (nothing e) k = subst (λ (t : List Lexeme). AreClosed (t ++ us)) (sym e) k
closed_append us (other t more e o c h) k = other t (more ++ us) (ap (λ (l : List Lexeme). l ++ us) e) o c (closed_append us h k)
closed_append us (bracket o c inner more e op h cl g) k =
    bracket o c inner (more ++ us) (ap (λ (l : List Lexeme). l ++ us) e ∙ ap (λ (l : List Lexeme). o ∷ l) (append_assoc inner (c ∷ more) us)) op h cl (closed_append us g k)

-- where a `?` ends the tokens: so many postfixes end where the `{` behind it is closed
abbrev Asked : ℕ → List Lexeme → Type 0
Asked zero front = Unit {0}
Asked (suc r) front = (start : List Lexeme) × (q : Lexeme) × (front ≡ start ++ q ∷ []) × IsSign (codes "?") q × EndWithPostfixes r start

-- so many postfixes in one row end where this bracket behind these tokens is closed
abbrev Entry : ℕ → List Lexeme → Lexeme → Type 0
Entry zero front o = Unit {0}
Entry (suc r) front o = ((o.kind ≡ kind.Tight) × EndWithPostfixes r front) ⊎ (IsSign (codes "{") o × Asked (suc r) front)

-- these brackets are open, the innermost first
abbrev Opened : List ℕ → List Lexeme → Type 0
Opened [] front = Unit {0}
Opened (e ∷ rows) front = (start : List Lexeme) × (o : Lexeme) × (inner : List Lexeme) × (front ≡ start ++ o ∷ inner) × (opens o ≡ true) × AreClosed inner × Entry e start o × Opened rows start

-- what is counted is there: the row, the run, what a `?` asks for, and the open brackets
record Good (n : Nesting) (front : List Lexeme) : Type 0 where
  row : EndWithPostfixes n.row front
  run : EndWithPrefixes n.run front
  asked : Asked n.asked front
  opened : Opened n.opened front

-- tokens in which each bracket is closed leave open what was
still_open : (rows : List ℕ) (front us : List Lexeme) → Opened rows front → AreClosed us → Opened rows (front ++ us)
still_open [] front us h k = tt
still_open (e ∷ rows) front us h k =
    (h.0, h.1, h.2 ++ us, ap (λ (l : List Lexeme). l ++ us) h.3 ∙ append_assoc h.0 (h.1 ∷ h.2) us, h.4, closed_append us h.5 k, h.6, h.7)

-- a token that opens and closes nothing is a list in which each bracket is closed
single : (t : Lexeme) → opens t ≡ false → closes t ≡ false → AreClosed (t ∷ [])
single t o c = other t [] refl o c (nothing refl)

-- The bracket that closes the innermost one ends the postfixes that were put there for it.
row_behind : (e : ℕ) (start inner : List Lexeme) (o c : Lexeme) → Entry e start o → AreClosed inner → closes c ≡ true → EndWithPostfixes e (start ++ o ∷ (inner ++ c ∷ []))
row_behind zero start inner o c h k cl = tt
row_behind (suc r) start inner o c (inl h) k cl = (start, o ∷ (inner ++ c ∷ []), refl, index o c inner refl h.0 k cl, h.1)
row_behind (suc r) start inner o c (inr h) k cl = (
  h.1.0,
  h.1.1 ∷ o ∷ (inner ++ c ∷ []),
  ap (λ (l : List Lexeme). l ++ o ∷ (inner ++ c ∷ [])) h.1.2 ∙ append_assoc h.1.0 (h.1.1 ∷ []) (o ∷ (inner ++ c ∷ [])),
  selection h.1.1 o c inner refl h.1.3 h.0 k cl,
  h.1.4,
)

-- the `{` behind a `?` ends as many postfixes as that one asks for
asked_entry : (e : ℕ) (front : List Lexeme) (o : Lexeme) → IsSign (codes "{") o → Asked e front → Entry e front o
asked_entry zero front o k h = tt
asked_entry (suc r) front o k h = inr (k, h)

-- behind a closing bracket the row that was put there ends, and the outer ones are open
good_closed : (n : Nesting) (rows : List ℕ) (front : List Lexeme) (t : Lexeme) → Opened rows front → closes t ≡ true → EndWithPostfixes (innermost rows) (front ++ t ∷ []) × Opened (outer_of rows) (front ++ t ∷ [])
good_closed n [] front t h c = (tt, tt)
good_closed n (e ∷ rows) front t h c =
    let w : front ++ t ∷ [] ≡ h.0 ++ h.1 ∷ (h.2 ++ t ∷ []) = ap (λ (l : List Lexeme). l ++ t ∷ []) h.3 ∙ append_assoc h.0 (h.1 ∷ h.2) (t ∷ []) in (
      subst (EndWithPostfixes e) (sym w) (row_behind e h.0 h.2 h.1 t h.6 h.5 c),
      subst (Opened rows) (sym w) (still_open rows h.0 (h.1 ∷ (h.2 ++ t ∷ [])) h.7 (bracket h.1 t h.2 [] refl h.4 h.5 c (nothing refl))),
    )

-- what is counted is there behind one more token
good_step : (n : Nesting) (front : List Lexeme) (t : Lexeme) → Good n front → Good (behind n t) (front ++ t ∷ [])
good_step n front t g = by_shape (shaped t)
  where
    to : (s : Shape) → shape_of t.kind t.text ≡ s → Good (behind_shape n s) (front ++ t ∷ []) → Good (behind n t) (front ++ t ∷ [])
    to s h k = subst (λ (m : Nesting). Good m (front ++ t ∷ [])) (sym (moved n t s h)) k

    open_with_row : (e : ℕ) → opens t ≡ true → Entry e front t → Opened (e ∷ n.opened) (front ++ t ∷ [])
    open_with_row e o k = (front, t, [], refl, o, nothing refl, k, g.opened)

    by_shape : ShapedAs t.kind t.text → Good (behind n t) (front ++ t ∷ [])
    by_shape (opening h o c) = to Opens h (record { row = tt; run = tt; asked = tt; opened = open_with_row 0 o tt })
    by_shape (indexing h o c k) = to Indexes h (record { row = tt; run = tt; asked = tt; opened = open_with_row (n.row + 1) o (subst (λ e. Entry e front t) (sym (add-one n.row)) (inl (k, g.row))) })
    by_shape (brace h o c k) = to Braces h (record { row = tt; run = tt; asked = tt; opened = open_with_row n.asked o (asked_entry n.asked front t k g.asked) })
    by_shape (closing h o c) = let p = good_closed n n.opened front t g.opened c in to Closes h (record { row = p.0; run = tt; asked = tt; opened = p.1 })
    by_shape (asking h o c k) = to Asks h (record {
      row = tt;
      run = tt;
      asked = subst (λ e. Asked e (front ++ t ∷ [])) (sym (add-one n.row)) (front, t, refl, k, g.row);
      opened = still_open n.opened front (t ∷ []) g.opened (single t o c);
    })
    by_shape (negating h o c k) = to Prefixes h (record {
      row = tt;
      run = subst (λ e. EndWithPrefixes e (front ++ t ∷ [])) (sym (add-one n.run)) (front, t, refl, k, g.run);
      asked = tt;
      opened = still_open n.opened front (t ∷ []) g.opened (single t o c);
    })
    by_shape (plain h o c) = to Other h (record { row = tt; run = tt; asked = tt; opened = still_open n.opened front (t ∷ []) g.opened (single t o c) })

-- and behind any more
good_behind : (n : Nesting) (front ts : List Lexeme) → Good n front → Good (passed n ts) (front ++ ts)
good_behind n front [] g = subst (Good n) (sym (append-nil front)) g
good_behind n front (t ∷ ts) g = subst (Good (passed (behind n t) ts)) (append_assoc front (t ∷ []) ts) (good_behind (behind n t) (front ++ t ∷ []) ts (good_step n front t g))

-- what is counted from the start is there
all_good : (before : List Lexeme) → Good (passed at_start before) before
all_good before = good_behind at_start [] before (record { row = tt; run = tt; asked = tt; opened = tt })

-- ---- too deep

-- no token is less deep than brackets are open
deeper : (n : Nesting) (s : Shape) → length n.opened ≤ depth_of n s
deeper n Opens = omega arith
deeper n Indexes = omega arith
deeper n Braces = omega arith
deeper n Closes = omega arith
deeper n Asks = omega arith
deeper n Prefixes = omega arith
deeper n Other = omega arith

-- the depth at a token is that at its shape
depth_is : (n : Nesting) (t : Lexeme) (s : Shape) → shape_of t.kind t.text ≡ s → depth_of n (shape_of t.kind t.text) ≡ depth_of n s
depth_is n t s h = ap (depth_of n) h

-- the depth that is counted, above which a token is too deep
pub counted : (limit : ℕ) (before : List Lexeme) (t : Lexeme) → limit < depth_of (passed at_start before) (shape_of t.kind t.text) → (n : ℕ) × Adds before t n × (limit < open_from 0 before + n)
counted limit before t h = by_shape (shaped t)
  where
    n : Nesting
    n = passed at_start before

    g : Good n before
    g = all_good before

    size : length n.opened ≡ open_from 0 before
    size = all_open at_start before

    by_shape : ShapedAs t.kind t.text → (k : ℕ) × Adds before t k × (limit < open_from 0 before + k)
    by_shape (opening e o c) = (1, Adds.itself o refl, omega (arith, h, size, depth_is n t Opens e))
    by_shape (indexing e o c k) = (1 + n.row, Adds.index n.row k g.row refl, omega (arith, h, size, depth_is n t Indexes e))
    by_shape (brace e o c k) = (1, Adds.itself o refl, omega (arith, h, size, depth_is n t Braces e))
    by_shape (closing e o c) = (0, Adds.nothing refl, omega (arith, h, size, depth_is n t Closes e))
    by_shape (asking e o c k) = (n.row, Adds.selection n.row k g.row refl, omega (arith, h, size, depth_is n t Asks e))
    by_shape (negating e o c k) = (1 + n.run, Adds.prefix n.run k g.run refl, omega (arith, h, size, depth_is n t Prefixes e))
    by_shape (plain e o c) = (0, Adds.nothing refl, omega (arith, h, size, depth_is n t Other e))

-- and the other way
pub deep : (limit : ℕ) (before : List Lexeme) (t : Lexeme) (k : ℕ) → Adds before t k → limit < open_from 0 before + k → limit < depth_of (passed at_start before) (shape_of t.kind t.text)
deep limit before t k a h = by_what a
  where
    n : Nesting
    n = passed at_start before

    size : length n.opened ≡ open_from 0 before
    size = all_open at_start before

    by_itself : opens t ≡ true → k ≡ 1 → ShapedAs t.kind t.text → limit < depth_of n (shape_of t.kind t.text)
    by_itself o e (opening d p c) = omega (arith, h, e, size, depth_is n t Opens d)
    by_itself o e (indexing d p c f) = omega (arith, h, e, size, depth_is n t Indexes d)
    by_itself o e (brace d p c f) = omega (arith, h, e, size, depth_is n t Braces d)
    by_itself o e (closing d p c) = absurd (never (opens t) o p)
    by_itself o e (asking d p c f) = absurd (never (opens t) o p)
    by_itself o e (negating d p c f) = absurd (never (opens t) o p)
    by_itself o e (plain d p c) = absurd (never (opens t) o p)

    by_what : Adds before t k → limit < depth_of n (shape_of t.kind t.text)
    by_what (Adds.nothing e) = omega (arith, h, e, size, deeper n (shape_of t.kind t.text))
    by_what (Adds.itself o e) = by_itself o e (shaped t)
    by_what (Adds.index row d f e) = omega (arith, h, e, size, row_at_least row at_start before f, depth_is n t Indexes (indexes_shape t d))
    by_what (Adds.selection row d f e) = omega (arith, h, e, size, row_at_least row at_start before f, depth_is n t Asks (sign_is t (codes "?") d))
    by_what (Adds.prefix run d f e) = omega (arith, h, e, size, run_at_least run at_start before f, depth_is n t Prefixes (prefix_shape t d))
