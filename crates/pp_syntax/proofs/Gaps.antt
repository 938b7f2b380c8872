-- Blanks and comments: what is passed is one, and each is passed.
use Rattle.std.proofs.Common.{◌≡◌, ◌≢◌, inl, inr, ℕ, Bool, true, false, cond, ◌&&◌, ◌||◌, ◌==◌, not, List, [], ◌∷◌, ◌++◌, Some, None, refl, sym, ap, subst, ◌∙◌}
use Rattle.std.proofs.lemmas.Bool.{and_parts, and_from, or_cases, eqb-true, eq-eqb, both_ways}
use Rattle.pp_syntax.specs.Bytes.{is_blank}
use Rattle.pp_syntax.specs.Spelling.{ToClose, close, more, AtLineEnd, IsGap, blank, line, block}
use Rattle.pp_syntax.specs.Scanning.{Found, after_all, begins_with, behind_first, after_close, after_block, gap_of, sign_of, sign_found, sign, one_byte, two_bytes, three_bytes, scoped, scoped_or_sign, or_else, code_token, opens_comment, found_at}
use Rattle.pp_syntax.proofs.Steps.{Takes, all_takes, all_append}
use Rattle.pp_syntax.proofs.Escapes.{begins_is}
use Rattle.pp_syntax.proofs.Names.{no_colons}

-- ---- block comments

-- what is passed up to the first `*/` is the rest of a block comment
close_takes : (text rest : List ℕ) → after_close text ≡ Some rest → Takes ToClose text rest
close_takes [] rest h = cc
close_takes (b ∷ text) rest h = elim ((b == 42) && begins_with 47 text) as (λ v. ((b == 42) && begins_with 47 text) ≡ v → cond v (Some (behind_first text)) (after_close text) ≡ Some rest → Takes ToClose (b ∷ text) rest) [
  | true ↦ λ e k.
      let p = and_parts (b == 42) (begins_with 47 text) e in
      let tail = begins_is 47 text p.1 in
      let same : behind_first text ≡ rest = cc in
      record { front = 42 ∷ 47 ∷ []; spelled = close refl; whole = ap (λ c. c ∷ text) (eqb-true b 42 p.0) ∙ ap (λ t. 42 ∷ t) (tail.1 ∙ ap (λ t. 47 ∷ t) (sym (ap behind_first tail.1) ∙ same)) }
  | false ↦ λ e k.
      let t = close_takes text rest k in
      record { front = b ∷ t.front; spelled = more b t.front refl (λ tail f. no_close b text t.front rest tail e t.whole f) t.spelled; whole = ap (λ u. b ∷ u) t.whole }
] refl h
  where
    no_close : (b : ℕ) (text front rest tail : List ℕ) → ((b == 42) && begins_with 47 text) ≡ false → text ≡ front ++ rest → ◌≡◌ {A = List ℕ} (b ∷ front) (42 ∷ 47 ∷ tail) → ⊥
    no_close b text front rest tail e w f =
        let first : b ≡ 42 = cc in
        let second : front ≡ 47 ∷ tail = cc in
        let begins : begins_with 47 text ≡ true = ap (begins_with 47) (w ∙ ap (λ t. t ++ rest) second) ∙ eq-eqb 47 47 refl in
        both_ways ((b == 42) && begins_with 47 text) e (and_from (b == 42) (begins_with 47 text) (eq-eqb b 42 first) begins)

-- the rest of a block comment has two bytes or more
to_close_long : (s : List ℕ) → ToClose s → (b : ℕ) × (c : ℕ) × (t : List ℕ) × (s ≡ b ∷ c ∷ t)
to_close_long s (close e) = (42, 47, [], e)
to_close_long s (more b rest e n h) = let l = to_close_long rest h in (b, l.0, l.1 ∷ l.2, e ∙ ap (λ t. b ∷ t) l.3)

-- the rest of a block comment is passed
close_reads : (s rest : List ℕ) → ToClose s → after_close (s ++ rest) ≡ Some rest
close_reads s rest (close e) = ap (λ t. after_close (t ++ rest)) e
close_reads s rest (more b tail e n h) =
    let l = to_close_long tail h in
    ap (λ t. after_close (t ++ rest)) e
    ∙ ap (λ v. cond v (Some (behind_first (tail ++ rest))) (after_close (tail ++ rest))) (not_here b tail rest l.0 (l.1 ∷ l.2) l.3 (λ u f. n u (e ∙ f)))
    ∙ close_reads tail rest h
  where
    not_here : (b : ℕ) (tail rest : List ℕ) (c : ℕ) (t : List ℕ) → tail ≡ c ∷ t → ((u : List ℕ) → ◌≢◌ {A = List ℕ} (b ∷ tail) (42 ∷ 47 ∷ u)) → ((b == 42) && begins_with 47 (tail ++ rest)) ≡ false
    not_here b tail rest c t e n = elim ((b == 42) && begins_with 47 (tail ++ rest)) as (λ v. ((b == 42) && begins_with 47 (tail ++ rest)) ≡ v → v ≡ false) [
      | true ↦ λ f.
          let p = and_parts (b == 42) (begins_with 47 (tail ++ rest)) f in
          let second : c ≡ 47 = eqb-true c 47 (sym (ap (λ u. begins_with 47 (u ++ rest)) e) ∙ p.1) in
          let first = eqb-true b 42 p.0 in
          absurd (n t (ap (λ d. d ∷ tail) first ∙ ap (λ u. 42 ∷ u) (e ∙ ap (λ d. d ∷ t) second)))
      | false ↦ λ f. refl
    ] refl

-- ---- each gap

-- what is left behind a line comment is the end of a line
line_end : (text : List ℕ) → AtLineEnd (after_all (λ c. not (c == 10)) text)
line_end [] = tt
line_end (b ∷ text) = elim (b == 10) as (λ v. (b == 10) ≡ v → AtLineEnd (cond (not v) (after_all (λ c. not (c == 10)) text) (b ∷ text))) [
  | true ↦ λ e. eqb-true b 10 e
  | false ↦ λ e. line_end text
] refl

-- what is passed behind a `/` is a `*` and the rest of a block comment
block_takes : (text rest : List ℕ) → after_block text ≡ Some rest → (body : List ℕ) × ToClose body × (text ≡ 42 ∷ body ++ rest)
block_takes [] rest h = cc
block_takes (b ∷ text) rest h = elim (b == 42) as (λ v. (b == 42) ≡ v → cond v (after_close text) None ≡ Some rest → (body : List ℕ) × ToClose body × (b ∷ text ≡ 42 ∷ body ++ rest)) [
  | true ↦ λ e k. let t = close_takes text rest k in (t.front, t.spelled, ap (λ c. c ∷ text) (eqb-true b 42 e) ∙ ap (λ u. 42 ∷ u) t.whole)
  | false ↦ λ e k. cc
] refl h

-- what is passed as a gap is a blank or a comment
pub gap_takes : (text rest : List ℕ) → gap_of text ≡ Some rest → Takes (λ s. IsGap s rest) text rest
unfolding gap_of
gap_takes [] rest h = cc
gap_takes (b ∷ text) rest h = elim (is_blank b) as (λ v. is_blank b ≡ v → cond v (Some text) (cond (b == 35) (Some (after_all (λ c. not (c == 10)) text)) (cond (b == 47) (after_block text) None)) ≡ Some rest → Takes (λ s. IsGap s rest) (b ∷ text) rest) [
  | true ↦ λ e k. let same : text ≡ rest = cc in record { front = b ∷ []; spelled = blank b refl e; whole = ap (λ t. b ∷ t) same }
  | false ↦ λ e k. elim (b == 35) as (λ v. (b == 35) ≡ v → cond v (Some (after_all (λ c. not (c == 10)) text)) (cond (b == 47) (after_block text) None) ≡ Some rest → Takes (λ s. IsGap s rest) (b ∷ text) rest) [
    | true ↦ λ f l.
        let t = all_takes (λ c. not (c == 10)) text in
        let same : after_all (λ c. not (c == 10)) text ≡ rest = cc in
        subst (λ (r : List ℕ). Takes (λ s. IsGap s r) (b ∷ text) r) same (record { front = 35 ∷ t.front; spelled = line t.front refl t.spelled (line_end text); whole = ap (λ c. c ∷ text) (eqb-true b 35 f) ∙ ap (λ u. 35 ∷ u) t.whole })
    | false ↦ λ f l. elim (b == 47) as (λ v. (b == 47) ≡ v → cond v (after_block text) None ≡ Some rest → Takes (λ s. IsGap s rest) (b ∷ text) rest) [
      | true ↦ λ g m. let t = block_takes text rest m in record { front = 47 ∷ 42 ∷ t.0; spelled = block t.0 refl t.1; whole = ap (λ c. c ∷ text) (eqb-true b 47 g) ∙ ap (λ u. 47 ∷ u) t.2 }
      | false ↦ λ g m. cc
    ] refl l
  ] refl k
] refl h

-- at the end of a line a line comment stops
stops : (rest : List ℕ) → AtLineEnd rest → after_all (λ c. not (c == 10)) rest ≡ rest
stops [] h = refl
stops (b ∷ rest) h = ap (λ v. cond (not v) (after_all (λ c. not (c == 10)) rest) (b ∷ rest)) (eq-eqb b 10 h)

-- a blank and a comment are passed
pub gap_reads : (s rest : List ℕ) → IsGap s rest → gap_of (s ++ rest) ≡ Some rest
unfolding gap_of
gap_reads s rest (blank b e h) = ap (λ t. gap_of (t ++ rest)) e ∙ ap (λ v. cond v (Some rest) (cond (b == 35) (Some (after_all (λ c. not (c == 10)) rest)) (cond (b == 47) (after_block rest) None))) h
gap_reads s rest (line body e h end) = ap (λ t. gap_of (t ++ rest)) e ∙ ap Some (all_append (λ c. not (c == 10)) body rest h ∙ stops rest end)
gap_reads s rest (block body e h) = ap (λ t. gap_of (t ++ rest)) e ∙ close_reads body rest h

-- ---- no token begins with a gap

-- a byte that is no colon and begins no sign begins neither a name behind `::` nor a sign
no_token_with : (c : ℕ) (text : List ℕ) → c ≢ 58 → sign_of (c ∷ []) ≡ None → ((b : ℕ) → sign_of (c ∷ b ∷ []) ≡ None) → ((b d : ℕ) → sign_of (c ∷ b ∷ d ∷ []) ≡ None) → scoped_or_sign (c ∷ text) ≡ None
unfolding sign one_byte two_bytes three_bytes
no_token_with c [] n one two three = ap (λ u. or_else (scoped u) (sign (c ∷ []))) (no_colons c [] n) ∙ ap (sign_found []) one
no_token_with c (b ∷ []) n one two three =
    ap (λ u. or_else (scoped u) (sign (c ∷ b ∷ []))) (no_colons c (b ∷ []) n) ∙ ap (λ k. or_else (sign_found [] k) (sign_found (b ∷ []) (sign_of (c ∷ [])))) (two b) ∙ ap (sign_found (b ∷ [])) one
no_token_with c (b ∷ d ∷ text) n one two three =
    ap (λ u. or_else (scoped u) (sign (c ∷ b ∷ d ∷ text))) (no_colons c (b ∷ d ∷ text) n)
    ∙ ap (λ k. or_else (sign_found text k) (or_else (sign_found (d ∷ text) (sign_of (c ∷ b ∷ []))) (sign_found (b ∷ d ∷ text) (sign_of (c ∷ []))))) (three b d)
    ∙ ap (λ k. or_else (sign_found (d ∷ text) k) (sign_found (b ∷ d ∷ text) (sign_of (c ∷ [])))) (two b) ∙ ap (sign_found (b ∷ d ∷ text)) one

-- no token begins with a space
no_space : (text : List ℕ) → code_token (32 ∷ text) ≡ None
unfolding code_token
no_space text = no_token_with 32 text (λ e. both_ways (32 == 58) refl (eq-eqb 32 58 e)) refl (λ b. refl) (λ b d. refl)

-- none begins with a tab
no_tab : (text : List ℕ) → code_token (9 ∷ text) ≡ None
unfolding code_token
no_tab text = no_token_with 9 text (λ e. both_ways (9 == 58) refl (eq-eqb 9 58 e)) refl (λ b. refl) (λ b d. refl)

-- none begins with a CR
no_return : (text : List ℕ) → code_token (13 ∷ text) ≡ None
unfolding code_token
no_return text = no_token_with 13 text (λ e. both_ways (13 == 58) refl (eq-eqb 13 58 e)) refl (λ b. refl) (λ b d. refl)

-- none begins with a LF
no_feed : (text : List ℕ) → code_token (10 ∷ text) ≡ None
unfolding code_token
no_feed text = no_token_with 10 text (λ e. both_ways (10 == 58) refl (eq-eqb 10 58 e)) refl (λ b. refl) (λ b d. refl)

-- none begins with a `#`
no_hash : (text : List ℕ) → code_token (35 ∷ text) ≡ None
unfolding code_token
no_hash text = no_token_with 35 text (λ e. both_ways (35 == 58) refl (eq-eqb 35 58 e)) refl (λ b. refl) (λ b d. refl)

-- no token begins with a blank
no_blank : (b : ℕ) (text : List ℕ) → is_blank b ≡ true → code_token (b ∷ text) ≡ None
no_blank b text h = elim (or_cases ((b == 32) || (b == 9) || (b == 13)) (b == 10) h) [
  | inl e ↦ elim (or_cases ((b == 32) || (b == 9)) (b == 13) e) [
    | inl f ↦ elim (or_cases (b == 32) (b == 9) f) [
      | inl g ↦ ap (λ c. code_token (c ∷ text)) (eqb-true b 32 g) ∙ no_space text
      | inr g ↦ ap (λ c. code_token (c ∷ text)) (eqb-true b 9 g) ∙ no_tab text
    ]
    | inr f ↦ ap (λ c. code_token (c ∷ text)) (eqb-true b 13 f) ∙ no_return text
  ]
  | inr e ↦ ap (λ c. code_token (c ∷ text)) (eqb-true b 10 e) ∙ no_feed text
]

-- where one case finds nothing and the other finds nothing, nothing is found
none_either : (v : Bool) (f : Found) → f ≡ None → cond v None f ≡ None
none_either true f h = refl
none_either false f h = h

-- where a blank or a comment stands there is no token
pub gap_no_token : (s rest : List ℕ) → IsGap s rest → found_at false (s ++ rest) ≡ None
gap_no_token s rest (blank b e h) = ap (λ t. found_at false (t ++ rest)) e ∙ none_either (opens_comment (b ∷ rest)) (code_token (b ∷ rest)) (no_blank b rest h)
gap_no_token s rest (line body e h end) = ap (λ t. found_at false (t ++ rest)) e ∙ none_either (opens_comment (35 ∷ body ++ rest)) (code_token (35 ∷ body ++ rest)) (no_hash (body ++ rest))
gap_no_token s rest (block body e h) = ap (λ t. found_at false (t ++ rest)) e
