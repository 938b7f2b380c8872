-- What is read is spelled: the ways in which readers are built.
use Rattle.std.proofs.Common.{◌≡◌, ◌≢◌, inl, inr, ℕ, zero, suc, Bool, true, false, cond, List, [], ◌∷◌, ◌++◌, Option, Some, None, refl, sym, ap, subst, ◌∙◌, append_assoc}
use Rattle.std.specs.Prelude.{codes}
use Rattle.pp_syntax.specs.declared.token.Kind.{Kind}
use Rattle.pp_syntax.specs.declared.token.Kind.TheVariants as kind
use Rattle.pp_syntax.specs.Tokens.{Lexeme}
use Rattle.pp_syntax.specs.Phrases as phrases
use Rattle.pp_syntax.specs.Phrases.{◌then◌, Nothing, Maybe, Sign, Separated, place_of}
use Rattle.pp_syntax.specs.Statements.{InBraces}
use Rattle.pp_readers.specs.Marks.{Found, first_at, mark}
use Rattle.rh_base.specs.Reading.{◌>>=◌}
use Rattle.pp_readers.specs.Parsed.{Begins}
use Rattle.pp_readers.specs.Expressions.{with_first}
use Rattle.pp_readers.proofs.Tokens.{joins, maps, marked}
use Rattle.pp_readers.proofs.Finding.{Finds, nothing, with_first_some, parts}
use Rattle.pp_readers.proofs.Found.{first_is}
use Rattle.pp_readers.specs.Combining.{Reader, both, made, behind, before, in_braces, many, after_item, listed}
use Rattle.pp_readers.specs.Names.{taken}
use Rattle.rh_base.proofs.Options.{bind_some}

-- what some tokens spell
abbrev pub Spells : Type 0 → Type 1
Spells X = X → List Lexeme → Type 0

module _ {X Y : Type 0} (f : Reader X) (g : Reader Y) (A : Spells X) (B : Spells Y) where
  -- what is read by one reader and then another is spelled by both
  pub both_found : Finds f A → Finds g B → Finds (both f g) (λ p. A p.0 then B p.1)
  both_found a b ts x h =
      let p = bind_some (f ts) (λ x. g x.1 >>= λ y. Some ((x.0, y.0), y.1)) x h in
      let q = bind_some (g p.0.1) (λ y. Some ((p.0.0, y.0), y.1)) x p.2 in
      let same : ◌≡◌ {A = (X × Y) × List Lexeme} ((p.0.0, q.0.0), q.0.1) x = cc in
      subst (λ (y : (X × Y) × List Lexeme). Begins (A y.0.0 then B y.0.1) ts y.1) same (joins (a ts p.0 p.1) (b p.0.1 q.0 q.1))

module _ {X : Type 0} (f : Reader X) (A : Spells X) (finds : Finds f A) where
  -- what is read behind a token is spelled so, and the token with it
  pub behind_found : (k : Kind) (s : List ℕ) → Finds (behind k s f) (λ y. phrases.Some k s then A y)
  behind_found k s ts x h =
      let p = bind_some (mark k s ts) (λ o. f o.1) x h in
      joins (marked k s ts p.0 p.1) (finds p.0.1 x p.2)

  -- what is read before a token is spelled so, and the token with it
  pub before_found : (k : Kind) (s : List ℕ) → Finds (before f k s) (λ y. A y then phrases.Some k s)
  before_found k s ts x h =
      let p = bind_some (f ts) (λ x. mark k s x.1 >>= λ r. Some (x.0, r.1)) x h in
      let q = bind_some (mark k s p.0.1) (λ r. Some (p.0.0, r.1)) x p.2 in
      let same : ◌≡◌ {A = X × List Lexeme} (p.0.0, q.0.1) x = cc in
      subst (λ (y : X × List Lexeme). Begins (A y.0 then phrases.Some k s) ts y.1) same (joins (finds ts p.0 p.1) (marked k s p.0.1 q.0 q.1))

-- what is read in braces is spelled so
pub in_braces_found : {X : Type 0} (f : Reader X) (A : Spells X) → Finds f A → Finds (in_braces f) (λ y. InBraces (A y))
in_braces_found f A finds = behind_found (before f kind.Sign (codes "}")) (λ y. A y then Sign (codes "}")) (before_found f A finds kind.Sign (codes "}")) kind.Sign (codes "{")

-- what is made of what is read
module _ {X Y : Type 0} (h : ℕ → X → Y) (f : Reader X) (A : Spells X) (B : Spells Y) (finds : Finds f A) where
  -- whatever its place
  pub made_found : ((at : ℕ) (x : X) (us : List Lexeme) → A x us → B (h at x) us) → Finds (made h f) B
  made_found makes ts x e =
      let p = bind_some (f ts) (λ x. Some (h (first_at ts) x.0, x.1)) x e in
      let b = finds ts p.0 p.1 in
      let same : ◌≡◌ {A = Y × List Lexeme} (h (first_at ts) p.0.0, p.0.1) x = cc in
      subst (λ (y : Y × List Lexeme). Begins (B y.0) ts y.1) same (maps (makes (first_at ts) p.0.0) b)

  -- at the place of its first token
  pub placed_found : ((x : X) → A x [] → ⊥) → ((x : X) (us : List Lexeme) → A x us → B (h (place_of us) x) us) → Finds (made h f) B
  placed_found never makes ts x e =
      let p = bind_some (f ts) (λ x. Some (h (first_at ts) x.0, x.1)) x e in
      let b = finds ts p.0 p.1 in
      let place : first_at ts ≡ place_of b.front = first_is b.front p.0.1 ts b.whole (λ n. never p.0.0 (subst (A p.0.0) n b.spelled)) in
      let same : ◌≡◌ {A = Y × List Lexeme} (h (first_at ts) p.0.0, p.0.1) x = cc in
      subst (λ (y : Y × List Lexeme). Begins (B y.0) ts y.1) same
      (record { front = b.front; spelled = subst (λ at. B (h at p.0.0) b.front) (sym place) (makes p.0.0 b.front b.spelled); whole = b.whole })

-- a token's place is that of the tokens that it begins
pub first_token : (k : Kind) (s : List ℕ) (B : List Lexeme → Type 0) (us : List Lexeme) → (phrases.Some k s then B) us → (phrases.Token k s (place_of us) then B) us
first_token k s B us p =
    let place : p.first.0 ≡ place_of us = sym (ap place_of (p.whole ∙ ap (λ r. r ++ p.back) p.first.1)) in
    record { front = p.front; back = p.back; first = subst (λ at. phrases.Token k s at p.front) place p.first.1; second = p.second; whole = p.whole }

-- what begins with a token isn't spelled by no tokens
pub some_token : (k : Kind) (s : List ℕ) (B : List Lexeme → Type 0) → (phrases.Some k s then B) [] → ⊥
some_token k s B p =
    let e : ◌≡◌ {A = List Lexeme} [] (record { kind = k; text = s; at = p.first.0 } ∷ p.back) = p.whole ∙ ap (λ r. r ++ p.back) p.first.1 in
    cc

module _ {X : Type 0} (h : Kind → List ℕ → Option X) (A : Spells X) where
  -- what a token is read as is spelled by it
  pub taken_found : ((k : Kind) (s : List ℕ) (x : X) (at : ℕ) → h k s ≡ Some x → A x (record { kind = k; text = s; at = at } ∷ [])) → Finds (taken h) A
  taken_found spells [] x e = cc
  taken_found spells (t ∷ ts) x e =
      let p = bind_some (h t.kind t.text) (λ x. Some (x, ts)) x e in
      let same : ◌≡◌ {A = X × List Lexeme} (p.0, ts) x = cc in
      subst (λ (y : X × List Lexeme). Begins (A y.0) (t ∷ ts) y.1) same (record { front = t ∷ []; spelled = spells t.kind t.text p.0 t.at p.1; whole = refl })

-- rows of items, by what a row is
module _ {X : Type 0} (test : List Lexeme → Bool) (item : Reader X) (A : Spells X) (finds : Finds item A) (R : Spells (List X)) (none : R [] [])
    (next : (x : X) (xs : List X) (us vs : List Lexeme) → A x us → R xs vs → R (x ∷ xs) (us ++ vs)) where
  -- what is read as items one behind the other is spelled so
  pub many_found : (n : ℕ) → Finds (many test item n) R
  many_found zero ts x h = cc
  many_found (suc n) ts x h = by_test (many_found n) (test ts) h
    where
      by_test : Finds (many test item n) R → (v : Bool) → cond v (item ts >>= λ x. with_first x.0 (many test item n x.1)) (Some ([], ts)) ≡ Some x → Begins (R x.0) ts x.1
      by_test others false k =
          let same : ◌≡◌ {A = List X × List Lexeme} ([], ts) x = cc in
          subst (λ (y : List X × List Lexeme). Begins (R y.0) ts y.1) same (record { front = []; spelled = none; whole = refl })
      by_test others true k =
          let a = bind_some (item ts) (λ x. with_first x.0 (many test item n x.1)) x k in
          let b = with_first_some a.0.0 (many test item n a.0.1) x a.2 in
          let one = finds ts a.0 a.1 in
          let more = others a.0.1 b.0 b.1 in
          subst (λ (y : List X × List Lexeme). Begins (R y.0) ts y.1) b.2
          (record {
            front = one.front ++ more.front;
            spelled = next a.0.0 b.0.0 one.front more.front one.spelled more.spelled;
            whole = one.whole ∙ ap (λ r. one.front ++ r) more.whole ∙ sym (append_assoc one.front more.front b.0.1);
          })

-- items with a sign between them, and there may be one at the end; or none
abbrev pub ListedBy : {X : Type 0} → List ℕ → Spells X → Spells (List X)
ListedBy sep A [] = Nothing
ListedBy sep A (x ∷ xs) = Separated (Sign sep) A (x ∷ xs) then Maybe (Sign sep)

module _ {X : Type 0} (sep : List ℕ) (test : List Lexeme → Bool) (item : Reader X) (A : Spells X) (finds : Finds item A) where
  -- an item with nothing behind it is a list of one
  last : (x : X) (ts mid : List Lexeme) → Begins (A x) ts mid → Begins (ListedBy sep A (x ∷ [])) ts mid
  last x ts mid a = joins (joins a (nothing mid)) (record { front = []; spelled = inl refl; whole = refl })

  -- an item, a sign and a list are a list
  goes_on : (x : X) (xs : List X) (ts mid behind rest : List Lexeme) → Begins (A x) ts mid → Begins (Sign sep) mid behind → Begins (ListedBy sep A xs) behind rest → Begins (ListedBy sep A (x ∷ xs)) ts rest
  goes_on x [] ts mid behind rest a c l =
      let e : behind ≡ rest = l.whole ∙ ap (λ r. r ++ rest) l.spelled in
      subst (λ r. Begins (ListedBy sep A (x ∷ [])) ts r) e (joins (joins a (nothing mid)) (maps (λ us s. inr s) c))
  goes_on x (y ∷ ys) ts mid behind rest a c l =
      let p = parts l in
      let q = parts p.1 in
      joins (joins a (joins c (joins q.1 q.2))) p.2

  -- what is read as items with a sign between them is spelled so
  pub listed_found : (n : ℕ) → Finds (listed sep test item n) (ListedBy sep A)
  listed_found zero ts x h = cc
  listed_found (suc n) ts x h = by_test (listed_found n) (test ts) h
    where
      by_mark : Finds (listed sep test item n) (ListedBy sep A) → (a : X × List Lexeme) → item ts ≡ Some a → (r : Found ℕ) → mark kind.Sign sep a.1 ≡ r → after_item a.0 (listed sep test item n) r a.1 ≡ Some x → Begins (ListedBy sep A x.0) ts x.1
      by_mark others a p None q k =
          let same : ◌≡◌ {A = List X × List Lexeme} (a.0 ∷ [], a.1) x = cc in
          subst (λ (y : List X × List Lexeme). Begins (ListedBy sep A y.0) ts y.1) same (last a.0 ts a.1 (finds ts a p))
      by_mark others a p (Some o) q k =
          let b = with_first_some a.0 (listed sep test item n o.1) x k in
          subst (λ (y : List X × List Lexeme). Begins (ListedBy sep A y.0) ts y.1) b.2 (goes_on a.0 b.0.0 ts a.1 o.1 b.0.1 (finds ts a p) (marked kind.Sign sep a.1 o q) (others o.1 b.0 b.1))

      by_test : Finds (listed sep test item n) (ListedBy sep A) → (v : Bool) → cond v (item ts >>= λ x. after_item x.0 (listed sep test item n) (mark kind.Sign sep x.1) x.1) (Some ([], ts)) ≡ Some x → Begins (ListedBy sep A x.0) ts x.1
      by_test others false k =
          let same : ◌≡◌ {A = List X × List Lexeme} ([], ts) x = cc in
          subst (λ (y : List X × List Lexeme). Begins (ListedBy sep A y.0) ts y.1) same (nothing ts)
      by_test others true k =
          let a = bind_some (item ts) (λ x. after_item x.0 (listed sep test item n) (mark kind.Sign sep x.1) x.1) x k in
          by_mark others a.0 a.1 (mark kind.Sign sep a.0.1) refl a.2

  -- where the test holds, there is an item
  pub listed_some : (n : ℕ) (ts : List Lexeme) (x : List X × List Lexeme) → test ts ≡ true → listed sep test item n ts ≡ Some x → x.0 ≢ []
  listed_some zero ts x t h = cc
  listed_some (suc n) ts x t h =
      let k = sym (ap (λ v. cond v (item ts >>= λ x. after_item x.0 (listed sep test item n) (mark kind.Sign sep x.1) x.1) (Some ([], ts))) t) ∙ h in
      let a = bind_some (item ts) (λ x. after_item x.0 (listed sep test item n) (mark kind.Sign sep x.1) x.1) x k in
      by_mark a.0 (mark kind.Sign sep a.0.1) a.2
    where
      by_mark : (a : X × List Lexeme) (r : Found ℕ) → after_item a.0 (listed sep test item n) r a.1 ≡ Some x → x.0 ≢ []
      by_mark a None k e =
          let same : ◌≡◌ {A = List X × List Lexeme} (a.0 ∷ [], a.1) x = cc in
          let no : a.0 ∷ [] ≡ [] = ap (λ (p : List X × List Lexeme). p.0) same ∙ e in
          cc
      by_mark a (Some o) k e =
          let b = with_first_some a.0 (listed sep test item n o.1) x k in
          let no : a.0 ∷ b.0.0 ≡ [] = ap (λ (p : List X × List Lexeme). p.0) b.2 ∙ e in
          cc
