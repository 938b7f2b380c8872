-- Laws of the marked steps with their new numbers: they are an accepted log of the same formula, and each is used.
use Rattle.std.proofs.Common.{◌≡◌, ◌⊎◌, inl, inr, ℕ, zero, suc, ◌+◌, ◌-◌, ◌<◌, ◌≤◌, Bool, true, false, true≢false, ◌||◌, if◌then◌else◌, List, [], ◌∷◌, ◌++◌, length, map, get_or, drop, slice_get, Some, refl, sym, ap, ◌∙◌, subst, arith}
use Rattle.std.specs.Prelude.{◌==◌, nat_le}
use Rattle.std.specs.List.{list_any}
use Rattle.std.proofs.lemmas.Bool.{cases_lt, eq-eqb, eqb-true, le-leb, lt-leb, or_cases}
use Rattle.std.proofs.lemmas.List.{length_push, append_assoc, drop_more}
use Rattle.std.proofs.lemmas.Option.{slice_get_within}
use Rattle.cnf.specs.declared.lit.Lit.{Lit}
use Rattle.cnf.specs.declared.log.Link.{Link}
use Rattle.cnf.specs.declared.log.Step.{Step}
use Rattle.cnf.specs.Clauses.{resolvent}
use Rattle.cnf.specs.Formulas.{Formula}
use Rattle.cnf.specs.Proofs.{numbered, Leads, IsRight, AreRight, EndsEmpty, IsAccepted}
use Rattle.trimmed_proofs.specs.Trimmed.{names, EachIsUsed, AreOf, step_clauses, IsTrimmedOf}
use Rattle.trimmed_proofs.specs.Marks.{is_marked, NameEarlier, IsNamedBehind, AreMarkedFrom, numbers_from, new_number, renamed_link, renamed_step, kept}
use Rattle.trimmed_proofs.proofs.MarkLaws.{or_true}
use Rattle.rh_base.proofs.Lists.{get_last}

-- ---- places in lists
-- what stands in a list stands there with more behind it
at_front : {X : Type 0} (xs ys : List X) (k : ℕ) (x : X) → slice_get xs k ≡ Some x → slice_get (xs ++ ys) k ≡ Some x
at_front [] ys k x h = absurd cc
at_front (y ∷ xs) ys zero x h = h
at_front (y ∷ xs) ys (suc k) x h = at_front xs ys k x h

-- what stands in a list with one more stood there, or is that one
front_or_end : {X : Type 0} (xs : List X) (y : X) (k : ℕ) (x : X) → slice_get (xs ++ y ∷ []) k ≡ Some x → (slice_get xs k ≡ Some x) ⊎ ((k ≡ length xs) × (y ≡ x))
front_or_end [] y zero x h = inr (refl, cc)
front_or_end [] y (suc k) x h = absurd cc
front_or_end (z ∷ xs) y zero x h = inl h
front_or_end (z ∷ xs) y (suc k) x h = elim (front_or_end xs y k x h) [ inl old ↦ inl old | inr new ↦ inr (omega (arith, new.0), new.1) ]

-- a number names a clause that stands one place earlier
numbered_within : (cs : List (List Lit)) (k : ℕ) (c : List Lit) → numbered cs k ≡ Some c → k ≤ length cs
numbered_within cs zero c h = omega arith
numbered_within cs (suc k) c h = let w = slice_get_within cs k c h in omega arith

-- ---- what steps name
-- a link that names a clause is one that does
named_here : (k : ℕ) (link : Link) (chain : List Link) → list_any (λ l. l.number == k) (link ∷ chain) ≡ true → (link.number ≡ k) ⊎ (list_any (λ l. l.number == k) chain ≡ true)
named_here k link chain h = elim (or_cases (link.number == k) (list_any (λ l. l.number == k) chain) h) [ inl e ↦ inl (eqb-true link.number k e) | inr r ↦ inr r ]

-- what a chain names stands among the clauses ahead
leads_within : (cs : List (List Lit)) (c d : List Lit) (chain : List Link) (k : ℕ) → Leads cs c chain d → list_any (λ l. l.number == k) chain ≡ true → k ≤ length cs
leads_within cs c d [] k h named = absurd (true≢false (sym named))
leads_within cs c d (link ∷ chain) k h named = elim (named_here k link chain named) [
  | inl e ↦ subst (λ n. n ≤ length cs) e (numbered_within cs link.number h.0 h.1)
  | inr rest ↦ leads_within cs (resolvent link.pivot c h.0) d chain k h.4 rest
]

-- what a right step names stands among the clauses ahead
right_within : (cs : List (List Lit)) (s : Step) (k : ℕ) → IsRight cs s → names k s ≡ true → k ≤ length cs
right_within cs s k h named = elim (or_cases (s.start == k) (list_any (λ l. l.number == k) s.chain) named) [
  | inl e ↦ subst (λ n. n ≤ length cs) (eqb-true s.start k e) (numbered_within cs s.start h.0 h.1)
  | inr rest ↦ leads_within cs h.0 s.clause s.chain k h.2 rest
]

-- right steps name clauses ahead of them
pub right_earlier : (cs : List (List Lit)) (steps : List Step) → AreRight cs steps → NameEarlier (length cs) steps
right_earlier cs [] h j k s at named = absurd cc
right_earlier cs (t ∷ steps) h zero k s at named = let same : t ≡ s = cc in let w = right_within cs t k h.0 (ap (names k) same ∙ named) in omega arith
right_earlier cs (t ∷ steps) h (suc j) k s at named =
    let r = right_earlier (cs ++ t.clause ∷ []) steps h.1 j k s at named in
    omega (arith, length_push cs t.clause)

-- ---- the last step
-- what ends in the empty clause does so with a step more ahead
ends_behind : (s : Step) (steps : List Step) → EndsEmpty steps → EndsEmpty (s ∷ steps)
ends_behind s [] h = absurd h
ends_behind s (t ∷ steps) h = h

-- where the last step is marked the empty clause stays
kept_ends_at : (ren : ℕ → ℕ) (steps : List Step) (marks : List Bool) (n : ℕ) → n + 1 ≡ length steps → is_marked marks n ≡ true → EndsEmpty steps → EndsEmpty (kept ren steps marks)
kept_ends_at ren [] marks n last on h = absurd h
kept_ends_at ren (s ∷ steps) [] n last on h = absurd (true≢false (sym on))
kept_ends_at ren (s ∷ []) (true ∷ marks) n last on h = h
kept_ends_at ren (s ∷ []) (false ∷ marks) zero last on h = absurd (true≢false (sym on))
kept_ends_at ren (s ∷ []) (false ∷ marks) (suc n) last on h = absurd (omega arith)
kept_ends_at ren (s ∷ t ∷ steps) (b ∷ marks) zero last on h = absurd (omega arith)
kept_ends_at ren (s ∷ t ∷ steps) (true ∷ marks) (suc n) last on h =
    ends_behind (renamed_step ren s) (kept ren (t ∷ steps) marks) (kept_ends_at ren (t ∷ steps) marks n (omega arith) on h)
kept_ends_at ren (s ∷ t ∷ steps) (false ∷ marks) (suc n) last on h = kept_ends_at ren (t ∷ steps) marks n (omega arith) on h

-- the same, where the last place is that of the last step
kept_ends : (ren : ℕ → ℕ) (steps : List Step) (marks : List Bool) → is_marked marks (length steps - 1) ≡ true → EndsEmpty steps → EndsEmpty (kept ren steps marks)
kept_ends ren [] marks on h = absurd h
kept_ends ren (s ∷ steps) marks on h = kept_ends_at ren (s ∷ steps) marks (length (s ∷ steps) - 1) (omega arith) on h

-- ---- fewer steps, in the same order
-- there are no more of them
pub kept_fewer : (ren : ℕ → ℕ) (steps : List Step) (marks : List Bool) → length (kept ren steps marks) ≤ length steps
kept_fewer ren [] marks = omega arith
kept_fewer ren (s ∷ steps) [] = omega arith
kept_fewer ren (s ∷ steps) (true ∷ marks) = let r = kept_fewer ren steps marks in omega arith
kept_fewer ren (s ∷ steps) (false ∷ marks) = let r = kept_fewer ren steps marks in omega arith

-- of some clauses none may be left
none_of : (cs : List (List Lit)) → AreOf cs []
none_of [] = refl
none_of (c ∷ cs) = inr (none_of cs)

-- their clauses are of those of the steps
pub kept_of : (ren : ℕ → ℕ) (steps : List Step) (marks : List Bool) → AreOf (step_clauses steps) (step_clauses (kept ren steps marks))
kept_of ren [] marks = refl
kept_of ren (s ∷ steps) [] = none_of (step_clauses (s ∷ steps))
kept_of ren (s ∷ steps) (true ∷ marks) = inl (step_clauses (kept ren steps marks), refl, kept_of ren steps marks)
kept_of ren (s ∷ steps) (false ∷ marks) = inr (kept_of ren steps marks)

-- ---- new numbers
-- behind so many clauses, and so many that are left of them, the marked steps have these new numbers
abbrev pub Fits : (ℕ → ℕ) → ℕ → ℕ → List Bool → Type 0
Fits ren e d [] = Unit {0}
Fits ren e d (true ∷ marks) = (ren (e + 1) ≡ d + 1) × Fits ren (e + 1) (d + 1) marks
Fits ren e d (false ∷ marks) = Fits ren (e + 1) d marks

-- numbers that are looked up in a list of them fit
fits_list : (ren : ℕ → ℕ) (marks : List Bool) (e d : ℕ) → ((j : ℕ) → ren (e + j + 1) ≡ get_or (numbers_from d marks) j 0) → Fits ren e d marks
fits_list ren [] e d h = tt
fits_list ren (true ∷ marks) e d h = (
  ap ren (let a : e + 1 ≡ e + 0 + 1 = omega arith in a) ∙ h 0,
  fits_list ren marks (e + 1) (d + 1) (λ j. ap ren (let a : e + 1 + j + 1 ≡ e + suc j + 1 = omega arith in a) ∙ h (suc j)),
)
fits_list ren (false ∷ marks) e d h = fits_list ren marks (e + 1) d (λ j. ap ren (let a : e + 1 + j + 1 ≡ e + suc j + 1 = omega arith in a) ∙ h (suc j))

-- a number of the formula stays
pub number_stays : (count : ℕ) (numbers : List ℕ) (k : ℕ) → k ≤ count → new_number count numbers k ≡ k
number_stays count numbers k h = ap (λ b. if b then k else get_or numbers (k - count - 1) 0) (le-leb k count h)

-- a step's is looked up
pub number_read : (count : ℕ) (numbers : List ℕ) (k j : ℕ) → k ≡ count + j + 1 → new_number count numbers k ≡ get_or numbers j 0
number_read count numbers k j is =
    ap (λ b. if b then k else get_or numbers (k - count - 1) 0) (lt-leb k count (omega arith))
    ∙ ap (λ i. get_or numbers i 0) (let a : k - count - 1 ≡ j = omega arith in a)

-- the new numbers fit
pub numbers_fit : (count : ℕ) (marks : List Bool) → Fits (new_number count (numbers_from count marks)) count count marks
numbers_fit count marks = fits_list (new_number count (numbers_from count marks)) marks count count (λ j. number_read count (numbers_from count marks) (count + j + 1) j refl)

module _ (ren : ℕ → ℕ) (left : ℕ → Bool) where
  -- each clause that is left stands among others by its new number
  abbrev pub Follows : List (List Lit) → List (List Lit) → Type 0
  Follows cs ds = (k : ℕ) (c : List Lit) → left k ≡ true → numbered cs k ≡ Some c → numbered ds (ren k) ≡ Some c

  -- what the marked ones of some steps name is left
  abbrev pub NameLeft : List Step → List Bool → Type 0
  NameLeft steps marks = (j k : ℕ) (s : Step) → slice_get steps j ≡ Some s → is_marked marks j ≡ true → names k s ≡ true → left k ≡ true

  -- a chain leads to the same clause by new numbers
  leads : (cs ds : List (List Lit)) → Follows cs ds → (c d : List Lit) (chain : List Link) → ((k : ℕ) → list_any (λ l. l.number == k) chain ≡ true → left k ≡ true)
      → Leads cs c chain d → Leads ds c (map (renamed_link ren) chain) d
  leads cs ds follows c d [] named h = h
  leads cs ds follows c d (link ∷ chain) named h = (
    h.0,
    follows link.number h.0 (named link.number (ap (λ b. b || list_any (λ l. l.number == link.number) chain) (eq-eqb link.number link.number refl))) h.1,
    h.2,
    h.3,
    leads cs ds follows (resolvent link.pivot c h.0) d chain
        (λ k n. named k (sym (or_true (link.number == k) (list_any (λ l. l.number == k) chain) n))) h.4,
  )

  -- a step is right by new numbers
  step_right : (cs ds : List (List Lit)) → Follows cs ds → (s : Step) → ((k : ℕ) → names k s ≡ true → left k ≡ true) → IsRight cs s → IsRight ds (renamed_step ren s)
  step_right cs ds follows s named h = (
    h.0,
    follows s.start h.0 (named s.start (ap (λ b. b || list_any (λ l. l.number == s.start) s.chain) (eq-eqb s.start s.start refl))) h.1,
    leads cs ds follows h.0 s.clause s.chain (λ k n. named k (sym (or_true (s.start == k) (list_any (λ l. l.number == k) s.chain) n))) h.2,
  )

  -- a clause that is left is pushed on both
  follows_both : (cs ds : List (List Lit)) (c : List Lit) → Follows cs ds → ren (length cs + 1) ≡ length ds + 1 → Follows (cs ++ c ∷ []) (ds ++ c ∷ [])
  follows_both cs ds c follows new zero d on h = absurd cc
  follows_both cs ds c follows new (suc k) d on h = elim (front_or_end cs c k d h) [
    | inl old ↦ numbered_front ds (c ∷ []) (ren (suc k)) d (follows (suc k) d on old)
    | inr last ↦
        ap (λ n. numbered (ds ++ c ∷ []) (ren n)) (let a : suc k ≡ length cs + 1 = omega (arith, last.0) in a)
        ∙ ap (numbered (ds ++ c ∷ [])) (new ∙ (let a : length ds + 1 ≡ suc (length ds) = omega arith in a))
        ∙ get_last ds c
        ∙ ap Some last.1
  ]
    where
      numbered_front : (xs ys : List (List Lit)) (n : ℕ) (x : List Lit) → numbered xs n ≡ Some x → numbered (xs ++ ys) n ≡ Some x
      numbered_front xs ys zero x h = absurd cc
      numbered_front xs ys (suc n) x h = at_front xs ys n x h

  -- a clause that isn't left is pushed on one
  follows_one : (cs ds : List (List Lit)) (c : List Lit) → Follows cs ds → left (length cs + 1) ≡ false → Follows (cs ++ c ∷ []) ds
  follows_one cs ds c follows off zero d on h = absurd cc
  follows_one cs ds c follows off (suc k) d on h = elim (front_or_end cs c k d h) [
    | inl old ↦ follows (suc k) d on old
    | inr last ↦ absurd (true≢false (sym on ∙ ap left (let a : suc k ≡ length cs + 1 = omega (arith, last.0) in a) ∙ off))
  ]

  -- the marked ones of right steps are right by new numbers
  pub kept_right : (cs ds : List (List Lit)) (steps : List Step) (marks : List Bool) → Follows cs ds → Fits ren (length cs) (length ds) marks
      → ((j : ℕ) → left (length cs + j + 1) ≡ is_marked marks j) → NameLeft steps marks → AreRight cs steps → AreRight ds (kept ren steps marks)
  kept_right cs ds [] marks follows fits same named h = tt
  kept_right cs ds (s ∷ steps) [] follows fits same named h = tt
  kept_right cs ds (s ∷ steps) (true ∷ marks) follows fits same named h = (
    step_right cs ds follows s (λ k n. named 0 k s refl refl n) h.0,
    kept_right (cs ++ s.clause ∷ []) (ds ++ s.clause ∷ []) steps marks (follows_both cs ds s.clause follows fits.0)
        (subst (λ e. Fits ren e (length (ds ++ s.clause ∷ [])) marks) (sym (length_push cs s.clause)) (subst (λ d. Fits ren (length cs + 1) d marks) (sym (length_push ds s.clause)) fits.1))
        (λ j. ap left (let a : length (cs ++ s.clause ∷ []) + j + 1 ≡ length cs + suc j + 1 = omega (arith, length_push cs s.clause) in a) ∙ same (suc j))
        (λ j k t at on n. named (suc j) k t at on n) h.1,
  )
  kept_right cs ds (s ∷ steps) (false ∷ marks) follows fits same named h =
      kept_right (cs ++ s.clause ∷ []) ds steps marks
      (follows_one cs ds s.clause follows (ap left (let a : length cs + 1 ≡ length cs + 0 + 1 = omega arith in a) ∙ same 0))
      (subst (λ e. Fits ren e (length ds) marks) (sym (length_push cs s.clause)) fits)
      (λ j. ap left (let a : length (cs ++ s.clause ∷ []) + j + 1 ≡ length cs + suc j + 1 = omega (arith, length_push cs s.clause) in a) ∙ same (suc j))
      (λ j k t at on n. named (suc j) k t at on n) h.1

-- ---- each is used
-- links that name a clause name it by its new number
links_name : (ren : ℕ → ℕ) (k : ℕ) (chain : List Link) → list_any (λ l. l.number == k) chain ≡ true → list_any (λ l. l.number == ren k) (map (renamed_link ren) chain) ≡ true
links_name ren k [] h = h
links_name ren k (link ∷ chain) h = elim (named_here k link chain h) [
  | inl e ↦ ap (λ b. b || list_any (λ l. l.number == ren k) (map (renamed_link ren) chain)) (eq-eqb (ren link.number) (ren k) (ap ren e))
  | inr rest ↦ sym (or_true (ren link.number == ren k) (list_any (λ l. l.number == ren k) (map (renamed_link ren) chain)) (links_name ren k chain rest))
]

-- a step that names a clause names it by its new number
step_names : (ren : ℕ → ℕ) (k : ℕ) (s : Step) → names k s ≡ true → names (ren k) (renamed_step ren s) ≡ true
step_names ren k s h = elim (or_cases (s.start == k) (list_any (λ l. l.number == k) s.chain) h) [
  | inl e ↦ ap (λ b. b || list_any (λ l. l.number == ren k) (map (renamed_link ren) s.chain)) (eq-eqb (ren s.start) (ren k) (ap ren (eqb-true s.start k e)))
  | inr rest ↦ sym (or_true (ren s.start == ren k) (list_any (λ l. l.number == ren k) (map (renamed_link ren) s.chain)) (links_name ren k s.chain rest))
]

-- a marked step that names a clause is among those that are left
named_left : (ren : ℕ → ℕ) (k n : ℕ) (steps : List Step) (marks : List Bool) (s : Step) → slice_get steps n ≡ Some s → is_marked marks n ≡ true → names k s ≡ true
    → list_any (names (ren k)) (kept ren steps marks) ≡ true
named_left ren k n [] marks s at on named = absurd cc
named_left ren k n (t ∷ steps) [] s at on named = absurd (true≢false (sym on))
named_left ren k zero (t ∷ steps) (true ∷ marks) s at on named =
    let same : t ≡ s = cc in
    ap (λ b. b || list_any (names (ren k)) (kept ren steps marks)) (step_names ren k t (ap (names k) same ∙ named))
named_left ren k zero (t ∷ steps) (false ∷ marks) s at on named = absurd (true≢false (sym on))
named_left ren k (suc n) (t ∷ steps) (true ∷ marks) s at on named =
    sym (or_true (names (ren k) (renamed_step ren t)) (list_any (names (ren k)) (kept ren steps marks)) (named_left ren k n steps marks s at on named))
named_left ren k (suc n) (t ∷ steps) (false ∷ marks) s at on named = named_left ren k n steps marks s at on named

-- each marked step behind so many clauses is the last, or is named by a marked one behind it
abbrev pub AreUsed : ℕ → List Step → List Bool → Type 0
AreUsed e steps marks = (j : ℕ) → is_marked marks j ≡ true → (j + 1 ≡ length steps) ⊎ IsNamedBehind e steps marks j

-- the same of the steps behind the first
used_behind : (e : ℕ) (s : Step) (steps : List Step) (b : Bool) (marks : List Bool) → AreUsed e (s ∷ steps) (b ∷ marks) → AreUsed (e + 1) steps marks
used_behind e s steps b marks used j on = elim (used (suc j) on) [
  | inl last ↦ inl (omega arith)
  | inr by ↦ inr (shifted by.place by.step by.behind by.at by.marked by.named)
]
  where
    shifted : (place : ℕ) (t : Step) → suc j < place → slice_get (s ∷ steps) place ≡ Some t → is_marked (b ∷ marks) place ≡ true → names (e + suc j + 1) t ≡ true
        → IsNamedBehind (e + 1) steps marks j
    shifted zero t behind at on named = absurd (omega arith)
    shifted (suc n) t behind at on named = record {
      place = n;
      step = t;
      behind = omega arith;
      at = at;
      marked = on;
      named = ap (λ k. names k t) (let a : e + 1 + j + 1 ≡ e + suc j + 1 = omega arith in a) ∙ named;
    }

-- of no steps none is left
kept_none : (ren : ℕ → ℕ) (steps : List Step) (marks : List Bool) → length steps ≡ 0 → kept ren steps marks ≡ []
kept_none ren [] marks h = refl
kept_none ren (s ∷ steps) marks h = absurd (omega arith)

-- the first of marked steps is the last, or is named among those that are left
first_used : (ren : ℕ → ℕ) (e : ℕ) (s : Step) (steps : List Step) (marks : List Bool) → AreUsed e (s ∷ steps) (true ∷ marks)
    → (kept ren steps marks ≡ []) ⊎ (list_any (names (ren (e + 1))) (kept ren steps marks) ≡ true)
first_used ren e s steps marks used = elim (used 0 refl) [
  | inl last ↦ inl (kept_none ren steps marks (omega arith))
  | inr by ↦ inr (behind by.place by.step by.behind by.at by.marked by.named)
]
  where
    behind : (place : ℕ) (t : Step) → 0 < place → slice_get (s ∷ steps) place ≡ Some t → is_marked (true ∷ marks) place ≡ true → names (e + 0 + 1) t ≡ true
        → list_any (names (ren (e + 1))) (kept ren steps marks) ≡ true
    behind zero t low at on named = absurd (omega arith)
    behind (suc n) t low at on named =
        named_left ren (e + 1) n steps marks t at on (ap (λ k. names k t) (let a : e + 1 ≡ e + 0 + 1 = omega arith in a) ∙ named)

-- each of those that are left is used
pub kept_used : (ren : ℕ → ℕ) (e d : ℕ) (steps : List Step) (marks : List Bool) → Fits ren e d marks → AreUsed e steps marks → EachIsUsed d (kept ren steps marks)
kept_used ren e d [] marks fits used = tt
kept_used ren e d (s ∷ steps) [] fits used = tt
kept_used ren e d (s ∷ steps) (true ∷ marks) fits used = (
  subst (λ n. (kept ren steps marks ≡ []) ⊎ (list_any (names n) (kept ren steps marks) ≡ true)) fits.0 (first_used ren e s steps marks used),
  kept_used ren (e + 1) (d + 1) steps marks fits.1 (used_behind e s steps true marks used),
)
kept_used ren e d (s ∷ steps) (false ∷ marks) fits used = kept_used ren (e + 1) d steps marks fits (used_behind e s steps false marks used)

-- ---- the whole log
module _ (f : Formula) (steps : List Step) (marks : List Bool) (accepted : IsAccepted f steps) (marked : AreMarkedFrom (length f.clauses) steps 0 marks) where
  -- which clauses are left: those of the formula, and those of marked steps
  abbrev pub is_left : ℕ → Bool
  is_left k = if nat_le k (length f.clauses) then true else is_marked marks (k - length f.clauses - 1)

  -- the new numbers
  abbrev pub renumbered : ℕ → ℕ
  renumbered = new_number (length f.clauses) (numbers_from (length f.clauses) marks)

  -- a clause of the formula is left
  formula_left : (k : ℕ) → k ≤ length f.clauses → is_left k ≡ true
  formula_left k h = ap (λ b. if b then true else is_marked marks (k - length f.clauses - 1)) (le-leb k (length f.clauses) h)

  -- that of a step is where the step is marked
  step_left : (k j : ℕ) → k ≡ length f.clauses + j + 1 → is_left k ≡ is_marked marks j
  step_left k j is =
      ap (λ b. if b then true else is_marked marks (k - length f.clauses - 1)) (lt-leb k (length f.clauses) (omega arith))
      ∙ ap (is_marked marks) (let a : k - length f.clauses - 1 ≡ j = omega arith in a)

  -- what marked steps name is left
  names_left : NameLeft renumbered is_left steps marks
  names_left j k s at on named = elim (cases_lt (length f.clauses) k) [
    | inl over ↦ step_left k (k - length f.clauses - 1) (omega arith) ∙ marked.closed j k s (omega arith) at on named over
    | inr low ↦ formula_left k low
  ]

  -- the marked steps with their new numbers are an accepted log
  pub kept_accepted : IsAccepted f (kept renumbered steps marks)
  kept_accepted = record {
    right = kept_right renumbered is_left f.clauses f.clauses steps marks
        (λ k c left h. ap (numbered f.clauses) (number_stays (length f.clauses) (numbers_from (length f.clauses) marks) k (numbered_within f.clauses k c h)) ∙ h)
        (numbers_fit (length f.clauses) marks) (λ j. step_left (length f.clauses + j + 1) j refl) names_left accepted.right;
    ends = kept_ends renumbered steps marks marked.last accepted.ends;
  }

  -- and each of them is used
  pub kept_trimmed : IsTrimmedOf (record { formula = f; steps = steps }) (record { formula = f; steps = kept renumbered steps marks })
  kept_trimmed = record {
    formula = refl;
    steps = kept_of renumbered steps marks;
    used = kept_used renumbered (length f.clauses) (length f.clauses) steps marks (numbers_fit (length f.clauses) marks) marked.used;
  }

-- ---- as the code has it
-- the steps of an accepted log name clauses ahead of them
pub accepted_earlier : (f : Formula) (steps slice : List Step) (n : ℕ) → IsAccepted f steps → n ≡ length f.clauses → slice ≡ steps → NameEarlier n slice
accepted_earlier f steps slice n accepted count is =
    subst (λ m. NameEarlier m slice) (sym count) (subst (NameEarlier (length f.clauses)) (sym is) (right_earlier f.clauses steps accepted.right))

-- an accepted log has a step
pub accepted_some : (f : Formula) (steps : List Step) → IsAccepted f steps → 0 < length steps
accepted_some f [] accepted = absurd accepted.ends
accepted_some f (s ∷ steps) accepted = omega arith

-- what is left of an accepted log
pub record IsLeftOf (f : Formula) (steps left : List Step) : Type 0 where
  pub accepted : IsAccepted f left
  pub trimmed : IsTrimmedOf (record { formula = f; steps = steps }) (record { formula = f; steps = left })
  pub fewer : length left ≤ length steps

-- the marked steps with their new numbers are such
pub left_of : (f : Formula) (steps : List Step) (marks : List Bool) → IsAccepted f steps → AreMarkedFrom (length f.clauses) steps 0 marks
    → IsLeftOf f steps (kept (new_number (length f.clauses) (numbers_from (length f.clauses) marks)) steps marks)
left_of f steps marks accepted marked = record {
  accepted = kept_accepted f steps marks accepted marked;
  trimmed = kept_trimmed f steps marks accepted marked;
  fewer = kept_fewer (new_number (length f.clauses) (numbers_from (length f.clauses) marks)) steps marks;
}

module _ (f : Formula) (steps slice left : List Step) (n : ℕ) (marks seen : List Bool) (numbers : List ℕ) (accepted : IsAccepted f steps) (count : n ≡ length f.clauses) (is : slice ≡ steps)
    (marked : AreMarkedFrom n slice 0 marks) (same : seen ≡ marks) (renewed : numbers ≡ numbers_from n marks) (written : left ≡ kept (new_number n numbers) slice seen) where
  -- what the code keeps is what is left
  pub code_left : IsLeftOf f steps left
  code_left =
      subst (IsLeftOf f steps)
      (sym (written ∙ (λ k. kept (new_number (count k) ((renewed ∙ ap (λ m. numbers_from m marks) count) k)) (is k) (same k))))
      (left_of f steps marks accepted (subst (λ m. AreMarkedFrom m steps 0 marks) count (subst (λ ss. AreMarkedFrom n ss 0 marks) is marked)))

-- ---- writing them one by one
-- a step is written if it is marked
kept_first : (ren : ℕ → ℕ) (s : Step) (steps : List Step) (b : Bool) (marks : List Bool) → (if b then renamed_step ren s ∷ [] else []) ++ kept ren steps marks ≡ kept ren (s ∷ steps) (b ∷ marks)
kept_first ren s steps true marks = refl
kept_first ren s steps false marks = refl

-- what was written, and what is written of the next step, with what is written of the others
pub kept_more : (ren : ℕ → ℕ) (steps left new all : List Step) (marks : List Bool) (i : ℕ) (s : Step) (b : Bool) → i < length steps → length marks ≡ length steps
    → s ≡ get_or steps i s → b ≡ get_or marks i false → new ≡ left ++ (if b then renamed_step ren s ∷ [] else []) → left ++ kept ren (drop i steps) (drop i marks) ≡ all
    → new ++ kept ren (drop (i + 1) steps) (drop (i + 1) marks) ≡ all
kept_more ren steps left new all marks i s b low long at on is before =
    let this = if b then renamed_step ren s ∷ [] else [] in
    let others = kept ren (drop (i + 1) steps) (drop (i + 1) marks) in
    ap (λ xs. xs ++ others) is
    ∙ append_assoc left this others
    ∙ ap (λ xs. left ++ xs)
    (kept_first ren s (drop (i + 1) steps) b (drop (i + 1) marks)
    ∙ sym (λ k. kept ren ((drop_more steps i s low ∙ ap (λ x. x ∷ drop (i + 1) steps) (sym at)) k) ((drop_more marks i false (omega arith) ∙ ap (λ x. x ∷ drop (i + 1) marks) (sym on)) k)))
    ∙ before
