-- What is taken from the front of a text.
use Rattle.std.proofs.Common.{◌≡◌, ◌⊎◌, inl, inr, ℕ, ◌-◌, ◌<◌, ◌≤◌, Bool, true, false, cond, List, [], ◌∷◌, ◌++◌, length, take, Some, refl, sym, ap, ◌∙◌, arith, length-append}
use Rattle.std.proofs.Math.Seq.{take-append_seam}
use Rattle.pp_syntax.specs.Tokens.{Of}
use Rattle.pp_syntax.specs.declared.token.Kind.{Kind}
use Rattle.rh_base.specs.Reading.{◌>>=◌}
use Rattle.pp_syntax.specs.Scanning.{Found, front_of, after_all}

-- a text of the set was taken from the front
pub record Takes (A : List ℕ → Type 0) (text rest : List ℕ) : Type 0 where
  pub front : List ℕ
  pub spelled : A front
  pub whole : text ≡ front ++ rest

-- what a text has before its rest is its front
pub front_is : (text front rest : List ℕ) → text ≡ front ++ rest → front_of text rest ≡ front
front_is text front rest whole =
    let size : length (front ++ rest) - length rest ≡ length front = omega (arith, length-append front rest) in
    ap (λ t. front_of t rest) whole ∙ ap (λ n. take n (front ++ rest)) size ∙ take-append_seam front rest

-- one step of taking all bytes of a set takes bytes of it
all_step : (test : ℕ → Bool) (b : ℕ) (text : List ℕ) (v : Bool) → test b ≡ v → Takes (Of test) text (after_all test text) → Takes (Of test) (b ∷ text) (cond v (after_all test text) (b ∷ text))
all_step test b text true e more = record { front = b ∷ more.front; spelled = (e, more.spelled); whole = ap (λ t. b ∷ t) more.whole }
all_step test b text false e more = record { front = []; spelled = tt; whole = refl }

-- what is taken as all bytes of a set are bytes of it
pub all_takes : (test : ℕ → Bool) (text : List ℕ) → Takes (Of test) text (after_all test text)
all_takes test [] = record { front = []; spelled = tt; whole = refl }
all_takes test (b ∷ text) = all_step test b text (test b) refl (all_takes test text)

-- what is taken leaves no more than there was
pub takes_short : (A : List ℕ → Type 0) (text rest : List ℕ) → Takes A text rest → length rest ≤ length text
takes_short A text rest t = omega (arith, ap length t.whole, length-append t.front rest)

-- ---- reading at least so far

-- less is left than this, or just this
abbrev pub Leaves : List ℕ → List ℕ → Type 0
Leaves r rest = (length rest < length r) ⊎ (rest ≡ r)

-- a rest behind any front leaves no more
pub leaves_by : (front r rest : List ℕ) → r ≡ front ++ rest → Leaves r rest
leaves_by [] r rest e = inr (sym e)
leaves_by (b ∷ front) r rest e = inl (omega (arith, ap length e, length-append front rest))

-- so does a rest behind what was taken
pub takes_leaves : (A : List ℕ → Type 0) (r rest : List ℕ) → Takes A r rest → Leaves r rest
takes_leaves A r rest t = leaves_by t.front r rest t.whole

-- A token is found that goes further than this rest, or the token of this kind before it.
abbrev pub Goes : Kind → List ℕ → Found → Type 0
Goes k r found = (x : Kind × List ℕ) × (found ≡ Some x) × ((length x.1 < length r) ⊎ (x ≡ (k, r)))

-- where a token of a kind leaves less than this or just this, it goes further or is the one before it
leaves_goes : (k : Kind) (r rest : List ℕ) → Leaves r rest → (length rest < length r) ⊎ (◌≡◌ {A = Kind × List ℕ} (k, rest) (k, r))
leaves_goes k r rest (inl h) = inl h
leaves_goes k r rest (inr e) = inr (ap (λ (t : List ℕ). (k, t)) e)

-- a token of the kind that leaves no more than this rest goes so far
pub goes_by : (k : Kind) (r rest : List ℕ) (found : Found) → found ≡ Some (k, rest) → Leaves r rest → Goes k r found
goes_by k r rest found e h = ((k, rest), e, leaves_goes k r rest h)

-- a token of any kind that leaves less goes further
pub goes_far : (j k : Kind) (r rest : List ℕ) (found : Found) → found ≡ Some (j, rest) → length rest < length r → Goes k r found
goes_far j k r rest found e h = ((j, rest), e, inl h)

-- what is found alike goes as far
pub goes_along : (k : Kind) (r : List ℕ) (found other : Found) → found ≡ other → Goes k r other → Goes k r found
goes_along k r found other e g = (g.0, e ∙ g.1, g.2)

-- reading all bytes of a set goes past a text over it
pub all_append : (test : ℕ → Bool) (xs r : List ℕ) → Of test xs → after_all test (xs ++ r) ≡ after_all test r
all_append test [] r h = refl
all_append test (x ∷ xs) r h = ap (λ v. cond v (after_all test (xs ++ r)) (x ∷ xs ++ r)) h.0 ∙ all_append test xs r h.1

-- what leaves no more than what leaves no more than this leaves no more than this
pub leaves_along : (r mid rest : List ℕ) → Leaves r mid → Leaves mid rest → Leaves r rest
leaves_along r mid rest (inl a) (inl b) = inl (omega arith)
leaves_along r mid rest (inl a) (inr e) = inl (omega (arith, ap length e))
leaves_along r mid rest (inr e) (inl b) = inl (omega (arith, ap length e))
leaves_along r mid rest (inr d) (inr e) = inr (e ∙ d)
