-- The token that is read at a place is the one that stands there.
use Rattle.std.proofs.Common.{◌≡◌, inl, inr, ℕ, ◌^◌, ◌≤◌, Bool, true, false, cond, ◌&&◌, ◌==◌, nat_lt, List, [], ◌∷◌, ◌++◌, length, Some, None, refl, sym, ap, subst, ◌∙◌, arith, length-append}
use Rattle.std.proofs.lemmas.Bool.{and_parts, and_from, eqb-true, both_ways, not-true, not_from_false, ltb-true, lt-ltb}
use Rattle.pp_syntax.specs.declared.token.Kind.{Kind}
use Rattle.pp_syntax.specs.declared.token.Kind.TheVariants as kind
use Rattle.pp_syntax.specs.declared.lexer.place.Place.{Place}
use Rattle.pp_syntax.specs.Opened.{in_quotes}
use Rattle.pp_syntax.specs.Tokens.{int_value}
use Rattle.pp_syntax.specs.Bytes.{is_name}
use Rattle.pp_syntax.specs.Spelling.{NoComment, Fits, IsLongest, NoNameFirst, NumberStands, kind_at, TokenAt, GapAt}
use Rattle.pp_syntax.specs.Scanning.{Found, front_of, code_token, opens_comment, found_at, no_name_first, number_stands, checked, token_at, gap_of, gap_at}
use Rattle.pp_syntax.proofs.Steps.{Takes, takes_short, front_is, Goes}
use Rattle.pp_syntax.proofs.CodeTokens.{code_takes}
use Rattle.pp_syntax.proofs.CodeGoes.{code_goes}
use Rattle.pp_syntax.proofs.QuotedTokens.{quoted_takes, quoted_goes}
use Rattle.pp_syntax.proofs.Gaps.{gap_takes, gap_reads, gap_no_token}
use Rattle.std.proofs.lemmas.Option.{cond_some}

-- ---- comments

-- where the test finds no comment, none begins
opens_not : (text : List ℕ) → opens_comment text ≡ false → NoComment text
opens_not text h rest e = both_ways (opens_comment text) h (ap opens_comment e)

-- and where none begins, the test finds none
no_comment : (text : List ℕ) → NoComment text → opens_comment text ≡ false
no_comment [] n = refl
no_comment (b ∷ []) n = refl
no_comment (b ∷ c ∷ rest) n = elim ((b == 47) && (c == 42)) as (λ v. ((b == 47) && (c == 42)) ≡ v → v ≡ false) [
  | true ↦ λ e.
      let p = and_parts (b == 47) (c == 42) e in
      let first = eqb-true b 47 p.0 in
      let second = eqb-true c 42 p.1 in
      absurd (n rest cc)
  | false ↦ λ e. refl
] refl

-- ---- one token, longest

-- what is found, within quotes or outside, fits there
found_takes : (q : Bool) (text : List ℕ) (x : Kind × List ℕ) → found_at q text ≡ Some x → Takes (λ s. Fits q x.0 s x.1) text x.1
found_takes true text x h = quoted_takes text x h
found_takes false text x h = elim (opens_comment text) as (λ v. opens_comment text ≡ v → cond v None (code_token text) ≡ Some x → Takes (λ s. Fits false x.0 s x.1) text x.1) [
  | true ↦ λ e k. cc
  | false ↦ λ e k.
      let t = code_takes text x k in
      record { front = t.front; spelled = (t.spelled, subst (λ (u : List ℕ). NoComment u) t.whole (opens_not text e)); whole = t.whole }
] refl h

-- what fits there is found, or something longer
found_goes : (q : Bool) (k : Kind) (s r : List ℕ) → Fits q k s r → Goes k r (found_at q (s ++ r))
found_goes true k s r h = quoted_goes k s r h
found_goes false k s r h = let g = code_goes k s r h.0 in (g.0, ap (λ v. cond v None (code_token (s ++ r))) (no_comment (s ++ r) h.1) ∙ g.1, g.2)

-- what is found leaves no more than a fitting spelling does
goes_below : (q : Bool) (j k : Kind) (b rest : List ℕ) (found : Found) → Goes j b found → found ≡ Some (k, rest) → length rest ≤ length b
goes_below q j k b rest found (x, e, far) f =
    let same : ◌≡◌ {A = Kind × List ℕ} x (k, rest) = cc in
    elim far [
      | inl h ↦ omega (arith, ap (λ (y : Kind × List ℕ). length y.1) same)
      | inr h ↦ omega (arith, ap (λ (y : Kind × List ℕ). length y.1) same, ap (λ (y : Kind × List ℕ). length y.1) h)
    ]

-- what is found is the longest that fits
pub found_longest : (q : Bool) (text : List ℕ) (k : Kind) (rest : List ℕ) → found_at q text ≡ Some (k, rest) → Takes (λ s. IsLongest q k s rest) text rest
found_longest q text k rest h =
    let t = found_takes q text (k, rest) h in
    record {
      front = t.front;
      spelled = record {
        fits = t.spelled;
        longest = λ j f b fits e.
            let same : f ++ b ≡ text = e ∙ sym t.whole in
            let below = goes_below q j k b rest (found_at q (f ++ b)) (found_goes q j f b fits) (ap (found_at q) same ∙ h) in
            omega (arith, below, ap length e, length-append f b, length-append t.front rest);
      };
      whole = t.whole;
    }

-- and the longest that fits is found
pub longest_found : (q : Bool) (k : Kind) (s r : List ℕ) → IsLongest q k s r → found_at q (s ++ r) ≡ Some (k, r)
longest_found q k s r h =
    let g = found_goes q k s r h.fits in
    elim g.2 [
      | inl far ↦
          let t = found_takes q (s ++ r) g.0 g.1 in
          let short = h.longest g.0.0 t.front g.0.1 t.spelled (sym t.whole) in
          absurd (omega (arith, short, far, ap length t.whole, length-append s r, length-append t.front g.0.1))
      | inr same ↦ g.1 ∙ ap Some same
    ]

-- ---- numbers

-- where the test passes, no letter, digit or `_` stands first
no_name_is : (rest : List ℕ) → no_name_first rest ≡ true → NoNameFirst rest
no_name_is [] h = tt
no_name_is (b ∷ rest) h = not-true (is_name b) h

-- and where none does, the test passes
no_name_test : (rest : List ℕ) → NoNameFirst rest → no_name_first rest ≡ true
no_name_test [] h = refl
no_name_test (b ∷ rest) h = not_from_false (is_name b) h

-- where the test passes, a number may stand there
stands_is : (k : Kind) (s rest : List ℕ) → number_stands k s rest ≡ true → NumberStands k s rest
stands_is kind.Int s rest h = let p = and_parts (nat_lt (int_value s) (2 ^ 63)) (no_name_first rest) h in (ltb-true (int_value s) (2 ^ 63) p.0, no_name_is rest p.1)
stands_is kind.Float s rest h = no_name_is rest h
stands_is kind.Word s rest h = tt
stands_is kind.Ref s rest h = tt
stands_is kind.Var s rest h = tt
stands_is kind.Sq s rest h = tt
stands_is kind.DqOpen s rest h = tt
stands_is kind.DqText s rest h = tt
stands_is kind.DqVar s rest h = tt
stands_is kind.Hole s rest h = tt
stands_is kind.HoleEnd s rest h = tt
stands_is kind.DqClose s rest h = tt
stands_is kind.Tight s rest h = tt
stands_is kind.Loose s rest h = tt
stands_is kind.Keyword s rest h = tt
stands_is kind.Sign s rest h = tt
stands_is kind.LeftOut s rest h = tt

-- and where it may, the test passes
stands_test : (k : Kind) (s rest : List ℕ) → NumberStands k s rest → number_stands k s rest ≡ true
stands_test kind.Int s rest h = and_from (nat_lt (int_value s) (2 ^ 63)) (no_name_first rest) (lt-ltb (int_value s) (2 ^ 63) h.0) (no_name_test rest h.1)
stands_test kind.Float s rest h = no_name_test rest h
stands_test kind.Word s rest h = refl
stands_test kind.Ref s rest h = refl
stands_test kind.Var s rest h = refl
stands_test kind.Sq s rest h = refl
stands_test kind.DqOpen s rest h = refl
stands_test kind.DqText s rest h = refl
stands_test kind.DqVar s rest h = refl
stands_test kind.Hole s rest h = refl
stands_test kind.HoleEnd s rest h = refl
stands_test kind.DqClose s rest h = refl
stands_test kind.Tight s rest h = refl
stands_test kind.Loose s rest h = refl
stands_test kind.Keyword s rest h = refl
stands_test kind.Sign s rest h = refl
stands_test kind.LeftOut s rest h = refl

-- ---- at a place

-- what is found and passes the test of numbers is the token at that place
checked_takes : (p : Place) (text : List ℕ) (k : Kind) (rest : List ℕ) (j : Kind) (r : List ℕ) → found_at (in_quotes p.opened) text ≡ Some (j, r) → checked p text (Some (j, r)) ≡ Some (k, rest) → Takes (λ s. TokenAt p k s rest) text rest
checked_takes p text k rest j r h e =
    let t = found_longest (in_quotes p.opened) text j r h in
    let c = cond_some (number_stands j (front_of text r) r) (kind_at p j (front_of text r), r) (k, rest) e in
    let front = front_is text t.front r t.whole in
    let same_rest : r ≡ rest = ap (λ (y : Kind × List ℕ). y.1) c.1 in
    let same_kind : kind_at p j (front_of text r) ≡ k = ap (λ (y : Kind × List ℕ). y.0) c.1 in
    subst (λ (u : List ℕ). Takes (λ s. TokenAt p k s u) text u) same_rest (record {
      front = t.front;
      spelled = record {
        spelled = j;
        longest = t.spelled;
        number = subst (λ (f : List ℕ). NumberStands j f r) front (stands_is j (front_of text r) r c.0);
        kind_is = sym same_kind ∙ ap (kind_at p j) front;
      };
      whole = t.whole;
    })

-- what is read at a place is the token there
pub token_takes : (p : Place) (text : List ℕ) (k : Kind) (rest : List ℕ) → token_at p text ≡ Some (k, rest) → Takes (λ s. TokenAt p k s rest) text rest
unfolding token_at
token_takes p text k rest h = elim (found_at (in_quotes p.opened) text) as (λ f. found_at (in_quotes p.opened) text ≡ f → checked p text f ≡ Some (k, rest) → Takes (λ s. TokenAt p k s rest) text rest) [
  | None ↦ λ e g. cc
  | Some x ↦ λ e g. checked_takes p text k rest x.0 x.1 e g
] refl h

-- and the token there is read
pub token_reads : (p : Place) (k : Kind) (s rest : List ℕ) → TokenAt p k s rest → token_at p (s ++ rest) ≡ Some (k, rest)
unfolding token_at
token_reads p k s rest h =
    let front : front_of (s ++ rest) rest ≡ s = front_is (s ++ rest) s rest refl in
    ap (checked p (s ++ rest)) (longest_found (in_quotes p.opened) h.spelled s rest h.longest)
    ∙ ap (λ f. cond (number_stands h.spelled f rest) (Some (kind_at p h.spelled f, rest)) None) front
    ∙ ap (λ v. cond v (Some (kind_at p h.spelled s, rest)) None) (stands_test h.spelled s rest h.number)
    ∙ ap (λ (j : Kind). Some (j, rest)) (sym h.kind_is)

-- what is passed at a place is a gap there
pub gap_at_takes : (p : Place) (text rest : List ℕ) → gap_at p text ≡ Some rest → Takes (λ s. GapAt p s rest) text rest
gap_at_takes p text rest h = elim (in_quotes p.opened) as (λ v. in_quotes p.opened ≡ v → cond v None (gap_of text) ≡ Some rest → Takes (λ s. GapAt p s rest) text rest) [
  | true ↦ λ e k. cc
  | false ↦ λ e k. let t = gap_takes text rest k in record { front = t.front; spelled = (e, t.spelled); whole = t.whole }
] refl h

-- and a gap there is passed
pub gap_at_reads : (p : Place) (s rest : List ℕ) → GapAt p s rest → gap_at p (s ++ rest) ≡ Some rest
gap_at_reads p s rest h = ap (λ v. cond v None (gap_of (s ++ rest))) h.0 ∙ gap_reads s rest h.1

-- Where a gap stands, no token does.
pub gap_at_no_token : (p : Place) (s rest : List ℕ) → GapAt p s rest → token_at p (s ++ rest) ≡ None
unfolding token_at
gap_at_no_token p s rest h = ap (λ q. checked p (s ++ rest) (found_at q (s ++ rest))) h.0 ∙ ap (checked p (s ++ rest)) (gap_no_token s rest h.1)

-- Reading leaves no more than there was.
pub found_short : (q : Bool) (text : List ℕ) (k : Kind) (rest : List ℕ) → Some (k, rest) ≡ found_at q text → length rest ≤ length text
found_short q text k rest h = takes_short (λ s. Fits q k s rest) text rest (found_takes q text (k, rest) (sym h))
