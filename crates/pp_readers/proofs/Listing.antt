-- What is spelled is read: lists with commas between their items, to the sign that closes them.
use Rattle.std.proofs.Common.{◌≡◌, inl, inr, ℕ, zero, suc, ◌<◌, ◌≤◌, true, false, List, [], ◌∷◌, ◌++◌, length, Some, None, refl, sym, ap, subst, ◌∙◌, append_assoc, length-append, arith}
use Rattle.std.specs.Prelude.{codes}
use Rattle.std.proofs.lemmas.List.{append-nil}
use Rattle.pp_syntax.specs.declared.token.Kind.TheVariants as kind
use Rattle.pp_syntax.specs.Tokens.{Lexeme}
use Rattle.pp_syntax.specs.Phrases.{◌then◌, Maybe, Sign, Comma, Each, Listed, MaybeListed}
use Rattle.pp_readers.specs.Marks.{Found, mark, reach}
use Rattle.rh_base.specs.Reading.{◌>>=◌}
use Rattle.pp_readers.specs.Expressions.{with_first, separator, separator_or_end, after_comma, more_items, items, items_or_end, maybe_items}
use Rattle.pp_readers.proofs.Reading.{Fit, fits_first, fits_second, Reads}

-- a sign of this text, here
abbrev pub sign : List ℕ → ℕ → Lexeme
sign s at = record { kind = kind.Sign; text = s; at = at }

-- A sign that closes a list: it is found where it stands, is no comma, and takes nothing that stands in front.
pub record Closes (close : List ℕ) : Type 0 where
  pub here : (at : ℕ) (rest : List Lexeme) → mark kind.Sign close (sign close at ∷ rest) ≡ Some (at, rest)
  pub no_comma : (at : ℕ) (rest : List Lexeme) → mark kind.Sign close (sign (codes ",") at ∷ rest) ≡ None
  pub quiet : (at : ℕ) (rest : List Lexeme) → reach (sign close at ∷ rest) ≡ 0

-- `]` closes a list
pub bracket_closes : Closes (codes "]")
bracket_closes = record { here = λ at rest. refl; no_comma = λ at rest. refl; quiet = λ at rest. refl }

-- `}` closes a list
pub brace_closes : Closes (codes "}")
brace_closes = record { here = λ at rest. refl; no_comma = λ at rest. refl; quiet = λ at rest. refl }

-- ---- before what may follow an item

module _ {X : Type 0} (close : List ℕ) (closes : Closes close) (item : List Lexeme → Found X) (A : X → List Lexeme → Type 0) (F : List Lexeme → Type 0)
    (reads : (y : X) (us rest : List Lexeme) → A y us → Fit us → F rest → item (us ++ rest) ≡ Some (y, rest)) (comma : (at : ℕ) (rest : List Lexeme) → F (sign (codes ",") at ∷ rest)) (shut : (at : ℕ) (rest : List Lexeme) → F (sign close at ∷ rest))
    (solid : (x : X) (us : List Lexeme) → A x us → 0 < length us) (apart : (x : X) (us rest : List Lexeme) → A x us → mark kind.Sign close (us ++ rest) ≡ None) where
  -- a closing sign is found
  closed : (ws rest : List Lexeme) (c : Sign close ws) → mark kind.Sign close (ws ++ rest) ≡ Some (c.0, rest)
  closed ws rest c = ap (λ r. mark kind.Sign close (r ++ rest)) c.1 ∙ closes.here c.0 rest

  -- before the end of a list each item can be read
  ends_follow : (vs ws rest : List Lexeme) → Maybe Comma vs → Sign close ws → F (vs ++ (ws ++ rest))
  ends_follow vs ws rest (inl e) c = subst F (sym (ap (λ r. r ++ (ws ++ rest)) e ∙ ap (λ r. r ++ rest) c.1)) (shut c.0 rest)
  ends_follow vs ws rest (inr m) c = subst F (sym (ap (λ r. r ++ (ws ++ rest)) m.1)) (comma m.0 (ws ++ rest))

  -- behind the last item the list ends, with a comma or without
  ends : (vs ws rest : List Lexeme) → Maybe Comma vs → Sign close ws → separator close (vs ++ (ws ++ rest)) ≡ Some (true, rest)
  ends vs ws rest (inl e) c =
      ap (λ r. separator close (r ++ (ws ++ rest))) e ∙ ap (λ r. separator_or_end close r (mark kind.Sign (codes ",") (ws ++ rest))) (closed ws rest c)
  ends vs ws rest (inr m) c =
      ap (λ r. separator close (r ++ (ws ++ rest))) m.1
      ∙ ap (λ r. separator_or_end close r (Some (m.0, ws ++ rest))) (closes.no_comma m.0 (ws ++ rest))
      ∙ ap (λ r. after_comma r (ws ++ rest)) (closed ws rest c)

  -- behind a comma, where no closing sign stands, the list goes on
  goes_on : (cs ts : List Lexeme) → Comma cs → mark kind.Sign close ts ≡ None → separator close (cs ++ ts) ≡ Some (false, ts)
  goes_on cs ts m n =
      ap (λ r. separator close (r ++ ts)) m.1 ∙ ap (λ r. separator_or_end close r (Some (m.0, ts))) (closes.no_comma m.0 ts) ∙ ap (λ r. after_comma r ts) n

  -- one item or more to the closing sign are read
  items_tail : (x : X) (xs : List X) (n : ℕ) (us vs ws rest : List Lexeme) → (A x then Each Comma A xs) us → Maybe Comma vs → Sign close ws → Fit us → length us < n → items close item n (us ++ (vs ++ (ws ++ rest))) ≡ Some (x ∷ xs, rest)
  items_tail x xs zero us vs ws rest h m c f l = absurd (omega arith)
  items_tail x [] (suc n) us vs ws rest h m c f l =
      let t = vs ++ (ws ++ rest) in
      let e : us ++ t ≡ h.front ++ t = ap (λ r. r ++ t) (h.whole ∙ ap (λ r. h.front ++ r) h.second ∙ append-nil h.front) in
      ap (items close item (suc n)) e
      ∙ ap (λ r. r >>= λ x. separator close x.1 >>= λ s. with_first x.0 (more_items s.0 (items close item n) s.1)) (reads x h.front t h.first (fits_first h.front h.back h.whole f) (ends_follow vs ws rest m c))
      ∙ ap (λ r. r >>= λ s. with_first x (more_items s.0 (items close item n) s.1)) (ends vs ws rest m c)
  items_tail x (y ∷ ys) (suc n) us vs ws rest h m c f l =
      let t = vs ++ (ws ++ rest) in
      let s = h.second in
      let r = s.second in
      let e : us ++ t ≡ h.front ++ (s.front ++ (s.back ++ t)) =
      ap (λ r. r ++ t) (h.whole ∙ ap (λ r. h.front ++ r) s.whole) ∙ append_assoc h.front (s.front ++ s.back) t ∙ ap (λ r. h.front ++ r) (append_assoc s.front s.back t) in
      let q : F (s.front ++ (s.back ++ t)) = subst F (sym (ap (λ r. r ++ (s.back ++ t)) s.first.1)) (comma s.first.0 (s.back ++ t)) in
      let n_first : mark kind.Sign close (s.back ++ t) ≡ None = ap (λ u. mark kind.Sign close (u ++ t)) r.whole ∙ ap (mark kind.Sign close) (append_assoc r.front r.back t) ∙ apart y r.front (r.back ++ t) r.first in
      let fs = fits_second h.front h.back h.whole f in
      let shorter : length s.back < n = omega (arith, solid x h.front h.first, ap length h.whole, length-append h.front h.back, ap length s.whole, length-append s.front s.back) in
      ap (items close item (suc n)) e
      ∙ ap (λ r. r >>= λ x. separator close x.1 >>= λ s. with_first x.0 (more_items s.0 (items close item n) s.1)) (reads x h.front (s.front ++ (s.back ++ t)) h.first (fits_first h.front h.back h.whole f) q)
      ∙ ap (λ r. r >>= λ s. with_first x (more_items s.0 (items close item n) s.1)) (goes_on s.front (s.back ++ t) s.first n_first)
      ∙ ap (with_first x) (items_tail y ys n s.back vs ws rest r m c (fits_second s.front s.back s.whole fs) shorter)

  -- a list to its closing sign is read, in more turns than it has tokens
  pub row_read : (xs : List X) (n : ℕ) (us rest : List Lexeme) → (Listed A xs then Sign close) us → Fit us → length us < n → items close item n (us ++ rest) ≡ Some (xs, rest)
  row_read [] n us rest h f l = absurd h.first.first
  row_read (x ∷ xs) n us rest h f l =
      let p = h.first in
      let e : us ++ rest ≡ p.front ++ (p.back ++ (h.back ++ rest)) =
      ap (λ r. r ++ rest) (h.whole ∙ ap (λ r. r ++ h.back) p.whole ∙ append_assoc p.front p.back h.back) ∙ append_assoc p.front (p.back ++ h.back) rest ∙ ap (λ r. p.front ++ r) (append_assoc p.back h.back rest) in
      let ff = fits_first h.front h.back h.whole f in
      ap (items close item n) e ∙ items_tail x xs n p.front p.back h.back rest p.first p.second h.second (fits_first p.front p.back p.whole ff)
      (omega (arith, ap length h.whole, length-append h.front h.back, ap length p.whole, length-append p.front p.back))

  -- so is a list that may be empty
  pub maybe_row_read : (xs : List X) (n : ℕ) (us rest : List Lexeme) → (MaybeListed A xs then Sign close) us → Fit us → length us < n → maybe_items close item n (us ++ rest) ≡ Some (xs, rest)
  maybe_row_read [] n us rest h f l =
      let e : us ++ rest ≡ h.back ++ rest = ap (λ r. r ++ rest) (h.whole ∙ ap (λ r. r ++ h.back) h.first) in
      ap (maybe_items close item n) e ∙ ap (λ r. items_or_end r (items close item n (h.back ++ rest))) (closed h.back rest h.second)
  maybe_row_read (x ∷ xs) n us rest h f l =
      let p = h.first in
      let s = p.first in
      let e : us ++ rest ≡ s.front ++ ((s.back ++ (p.back ++ h.back)) ++ rest) =
      ap (λ r. r ++ rest) (h.whole ∙ ap (λ r. r ++ h.back) (p.whole ∙ ap (λ r. r ++ p.back) s.whole) ∙ append_assoc (s.front ++ s.back) p.back h.back ∙ append_assoc s.front s.back (p.back ++ h.back))
      ∙ append_assoc s.front (s.back ++ (p.back ++ h.back)) rest in
      ap (λ r. items_or_end r (items close item n (us ++ rest))) (ap (mark kind.Sign close) e ∙ apart x s.front ((s.back ++ (p.back ++ h.back)) ++ rest) s.first)
      ∙ row_read (x ∷ xs) n us rest h f l

-- ---- where no operator, index or selection may follow

module _ {X : Type 0} (close : List ℕ) (closes : Closes close) (item : List Lexeme → Found X) (A : X → List Lexeme → Type 0) (reads : Reads 0 item A)
    (solid : (x : X) (us : List Lexeme) → A x us → 0 < length us) (apart : (x : X) (us rest : List Lexeme) → A x us → mark kind.Sign close (us ++ rest) ≡ None) where
  -- a closing sign takes nothing that stands in front of it
  shut_quiet : (at : ℕ) (rest : List Lexeme) → reach (sign close at ∷ rest) ≤ 0
  shut_quiet at rest = omega (arith, closes.quiet at rest)

  -- a list of expressions, or the like, to its closing sign is read
  pub items_read : (xs : List X) (n : ℕ) (us rest : List Lexeme) → (Listed A xs then Sign close) us → Fit us → length us < n → items close item n (us ++ rest) ≡ Some (xs, rest)
  items_read = row_read close closes item A (λ rest. reach rest ≤ 0) reads (λ at rest. omega arith) shut_quiet solid apart

  -- so is one that may be empty
  pub maybe_items_read : (xs : List X) (n : ℕ) (us rest : List Lexeme) → (MaybeListed A xs then Sign close) us → Fit us → length us < n → maybe_items close item n (us ++ rest) ≡ Some (xs, rest)
  maybe_items_read = maybe_row_read close closes item A (λ rest. reach rest ≤ 0) reads (λ at rest. omega arith) shut_quiet solid apart
