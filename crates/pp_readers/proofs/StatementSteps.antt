-- One turn of a loop, and one level of depth, as the code takes them.
use Rattle.std.proofs.Common.{◌≡◌, ◌≢◌, ℕ, zero, suc, ◌+◌, ◌-◌, ◌<◌, Bool, true, false, cond, List, [], ◌∷◌, ◌++◌, Some, None, refl, sym, ap, ◌∙◌, arith, append_assoc}
use Rattle.std.proofs.lemmas.List.{append-nil}
use Rattle.pp_syntax.specs.declared.token.Kind.TheVariants as kind
use Rattle.pp_syntax.specs.declared.tree.Expr.{Expr}
use Rattle.pp_syntax.specs.declared.tree.Operand.{Operand}
use Rattle.pp_syntax.specs.declared.tree.Arrow.{Arrow}
use Rattle.pp_syntax.specs.Tokens.{Lexeme}
use Rattle.pp_readers.specs.Marks.{Found, mark}
use Rattle.rh_base.specs.Reading.{◌>>=◌}
use Rattle.pp_readers.specs.Expressions.{with_first, with_front}
use Rattle.pp_readers.proofs.Steps.{first_more}
use Rattle.pp_readers.specs.Combining.{Reader, many, listed, after_item}
use Rattle.pp_readers.specs.Statements.{search_with, search_at, stmt_with, stmt_at, with_links, sides_of, arrows_of}

-- one level of brackets is one less for what stands within
pub search_step : (p : Reader Expr) (depth : ℕ) (ts : List Lexeme) → depth ≢ 0 → search_with p (search_at p (depth - 1)) ts ≡ search_at p depth ts
search_step p zero ts h = absurd (h refl)
search_step p (suc depth) ts h = let e : suc depth - 1 ≡ depth = omega arith in ap (λ k. search_with p (search_at p k) ts) e

-- one level of blocks is one less for what stands within
pub stmt_step : (e : Reader Expr) (depth : ℕ) (ts : List Lexeme) → depth ≢ 0 → stmt_with e (stmt_at e (depth - 1)) ts ≡ stmt_at e depth ts
stmt_step e zero ts h = absurd (h refl)
stmt_step e (suc depth) ts h = let k : suc depth - 1 ≡ depth = omega arith in ap (λ k. stmt_with e (stmt_at e k) ts) k

module _ {X : Type 0} (test : List Lexeme → Bool) (item : Reader X) where
  -- a turn that finds an item puts it behind those in front, and leaves the others to the turns behind it
  pub many_goes_on : (front : List X) (n i : ℕ) (ts more : List Lexeme) (x : X) → i < n → test ts ≡ true → item ts ≡ Some (x, more) → with_front front (many test item (n - i) ts) ≡ with_front (front ++ x ∷ []) (many test item (n - (i + 1)) more)
  many_goes_on front n i ts more x h t p =
      let e : n - i ≡ suc (n - (i + 1)) = omega arith in
      ap (with_front front) (ap (λ k. many test item k ts) e
      ∙ ap (λ v. cond v (item ts >>= λ x. with_first x.0 (many test item (n - (i + 1)) x.1)) (Some ([], ts))) t
      ∙ ap (λ r. r >>= λ x. with_first x.0 (many test item (n - (i + 1)) x.1)) p)
      ∙ first_more front x (many test item (n - (i + 1)) more)

  -- a turn that finds no beginning ends with those in front
  pub many_ends : (front : List X) (n i : ℕ) (ts : List Lexeme) → i < n → test ts ≡ false → with_front front (many test item (n - i) ts) ≡ Some (front, ts)
  many_ends front n i ts h t =
      let e : n - i ≡ suc (n - (i + 1)) = omega arith in
      ap (with_front front) (ap (λ k. many test item k ts) e ∙ ap (λ v. cond v (item ts >>= λ x. with_first x.0 (many test item (n - (i + 1)) x.1)) (Some ([], ts))) t)
      ∙ ap (λ xs. Some (xs, ts)) (append-nil front)

  -- a turn that can't read its item finds nothing
  pub many_stops : (front : List X) (n i : ℕ) (ts : List Lexeme) → i < n → test ts ≡ true → item ts ≡ None → with_front front (many test item (n - i) ts) ≡ None
  many_stops front n i ts h t p =
      let e : n - i ≡ suc (n - (i + 1)) = omega arith in
      ap (with_front front) (ap (λ k. many test item k ts) e
      ∙ ap (λ v. cond v (item ts >>= λ x. with_first x.0 (many test item (n - (i + 1)) x.1)) (Some ([], ts))) t
      ∙ ap (λ r. r >>= λ x. with_first x.0 (many test item (n - (i + 1)) x.1)) p)

module _ {X : Type 0} (sep : List ℕ) (test : List Lexeme → Bool) (item : Reader X) where
  -- a turn that finds an item and a sign goes on behind them
  pub listed_goes_on : (front : List X) (n i at : ℕ) (ts more behind : List Lexeme) (x : X) → i < n → test ts ≡ true → item ts ≡ Some (x, more) → mark kind.Sign sep more ≡ Some (at, behind)
      → with_front front (listed sep test item (n - i) ts) ≡ with_front (front ++ x ∷ []) (listed sep test item (n - (i + 1)) behind)
  listed_goes_on front n i at ts more behind x h t p q =
      let e : n - i ≡ suc (n - (i + 1)) = omega arith in
      ap (with_front front) (ap (λ k. listed sep test item k ts) e
      ∙ ap (λ v. cond v (item ts >>= λ x. after_item x.0 (listed sep test item (n - (i + 1))) (mark kind.Sign sep x.1) x.1) (Some ([], ts))) t
      ∙ ap (λ r. r >>= λ x. after_item x.0 (listed sep test item (n - (i + 1))) (mark kind.Sign sep x.1) x.1) p
      ∙ ap (λ r. after_item x (listed sep test item (n - (i + 1))) r more) q)
      ∙ first_more front x (listed sep test item (n - (i + 1)) behind)

  -- a turn that finds an item and no sign ends with it
  pub listed_last : (front : List X) (n i : ℕ) (ts more : List Lexeme) (x : X) → i < n → test ts ≡ true → item ts ≡ Some (x, more) → mark kind.Sign sep more ≡ None → with_front front (listed sep test item (n - i) ts) ≡ Some (front ++ x ∷ [], more)
  listed_last front n i ts more x h t p q =
      let e : n - i ≡ suc (n - (i + 1)) = omega arith in
      ap (with_front front) (ap (λ k. listed sep test item k ts) e
      ∙ ap (λ v. cond v (item ts >>= λ x. after_item x.0 (listed sep test item (n - (i + 1))) (mark kind.Sign sep x.1) x.1) (Some ([], ts))) t
      ∙ ap (λ r. r >>= λ x. after_item x.0 (listed sep test item (n - (i + 1))) (mark kind.Sign sep x.1) x.1) p
      ∙ ap (λ r. after_item x (listed sep test item (n - (i + 1))) r more) q)

  -- a turn that finds no beginning ends with those in front
  pub listed_ends : (front : List X) (n i : ℕ) (ts : List Lexeme) → i < n → test ts ≡ false → with_front front (listed sep test item (n - i) ts) ≡ Some (front, ts)
  listed_ends front n i ts h t =
      let e : n - i ≡ suc (n - (i + 1)) = omega arith in
      ap (with_front front) (ap (λ k. listed sep test item k ts) e
      ∙ ap (λ v. cond v (item ts >>= λ x. after_item x.0 (listed sep test item (n - (i + 1))) (mark kind.Sign sep x.1) x.1) (Some ([], ts))) t)
      ∙ ap (λ xs. Some (xs, ts)) (append-nil front)

-- ---- sides of a chain

-- one more link is one more side and one more arrow
link_more : (sides : List Operand) (arrows : List Arrow) (l : Arrow × Operand) (r : Found (List (Arrow × Operand))) → with_links sides arrows (with_first l r) ≡ with_links (sides ++ l.1 ∷ []) (arrows ++ l.0 ∷ []) r
link_more sides arrows l None = refl
link_more sides arrows l (Some r) =
    ap (λ ys. Some ((ys, arrows ++ l.0 ∷ arrows_of r.0), r.1)) (sym (append_assoc sides (l.1 ∷ []) (sides_of r.0)))
    ∙ ap (λ qs. Some (((sides ++ l.1 ∷ []) ++ sides_of r.0, qs), r.1)) (sym (append_assoc arrows (l.0 ∷ []) (arrows_of r.0)))

-- equal sides and arrows in front make equal ones in all
pub same_links : {sides ys : List Operand} {arrows bs : List Arrow} (r : Found (List (Arrow × Operand))) → sides ≡ ys → arrows ≡ bs → with_links sides arrows r ≡ with_links ys bs r
same_links {sides} {ys} {arrows} {bs} r p q = ap (λ (zs : List Operand). with_links zs arrows r) p ∙ ap (λ (cs : List Arrow). with_links ys cs r) q

module _ (test : List Lexeme → Bool) (link : Reader (Arrow × Operand)) where
  -- a turn that finds a link puts its side and its arrow behind those in front
  pub links_go_on : (sides : List Operand) (arrows : List Arrow) (n i : ℕ) (ts more : List Lexeme) (l : Arrow × Operand) → i < n → test ts ≡ true → link ts ≡ Some (l, more)
      → with_links sides arrows (many test link (n - i) ts) ≡ with_links (sides ++ l.1 ∷ []) (arrows ++ l.0 ∷ []) (many test link (n - (i + 1)) more)
  links_go_on sides arrows n i ts more l h t p =
      let e : n - i ≡ suc (n - (i + 1)) = omega arith in
      ap (with_links sides arrows) (ap (λ k. many test link k ts) e
      ∙ ap (λ v. cond v (link ts >>= λ x. with_first x.0 (many test link (n - (i + 1)) x.1)) (Some ([], ts))) t
      ∙ ap (λ r. r >>= λ x. with_first x.0 (many test link (n - (i + 1)) x.1)) p)
      ∙ link_more sides arrows l (many test link (n - (i + 1)) more)

  -- a turn that finds no arrow ends with those in front
  pub links_end : (sides : List Operand) (arrows : List Arrow) (n i : ℕ) (ts : List Lexeme) → i < n → test ts ≡ false → with_links sides arrows (many test link (n - i) ts) ≡ Some ((sides, arrows), ts)
  links_end sides arrows n i ts h t =
      let e : n - i ≡ suc (n - (i + 1)) = omega arith in
      ap (with_links sides arrows) (ap (λ k. many test link k ts) e ∙ ap (λ v. cond v (link ts >>= λ x. with_first x.0 (many test link (n - (i + 1)) x.1)) (Some ([], ts))) t)
      ∙ ap (λ ys. Some ((ys, arrows ++ []), ts)) (append-nil sides) ∙ ap (λ qs. Some ((sides, qs), ts)) (append-nil arrows)
