-- Laws of the text of proofs, piece by piece.
use Rattle.std.proofs.Common.{◌≡◌, ℕ, ◌+◌, ◌<◌, List, [], ◌∷◌, ◌++◌, length, map, take, get_or, refl, sym, ap, ◌∙◌, arith, append_assoc, slice_get, unwrap_or, Some, ◌-◌}
use Rattle.std.proofs.lemmas.List.{append-nil, take_more, map-append}
use Rattle.std.proofs.lemmas.List.Concat.{flat_map-append}
use Rattle.std.proofs.lemmas.Option.{slice_get_within, slice_get-get_or, get_or_from_slice_get}
use Rattle.std.specs.Prelude.{codes, decimal}
use Rattle.std.specs.List.{flat_map}
use Rattle.cnf.specs.declared.lit.Lit.{Lit}
use Rattle.cnf.specs.declared.log.Link.{Link}
use Rattle.cnf.specs.declared.log.Step.{Step}
use Rattle.cnf.specs.ProofText.{Word, lit_word, clause_words, link_words, chain_words, step_words, line_text}

-- words, each with a space behind it
abbrev pub spaced : List Word → List ℕ
spaced ws = flat_map (λ w. w ++ 32 ∷ []) ws

-- a line begins with words that have a space behind them
pub line_text-append : (ws : List Word) (v : Word) (vs : List Word) → line_text (ws ++ v ∷ vs) ≡ spaced ws ++ line_text (v ∷ vs)
line_text-append [] v vs = refl
line_text-append (w ∷ []) v vs = sym (append_assoc w (32 ∷ []) (line_text (v ∷ vs))) ∙ ap (λ t. t ++ line_text (v ∷ vs)) (sym (append-nil (w ++ 32 ∷ [])))
line_text-append (w ∷ x ∷ ws) v vs =
    ap (λ t. w ++ 32 ∷ t) (line_text-append (x ∷ ws) v vs)
    ∙ sym (append_assoc w (32 ∷ []) (spaced (x ∷ ws) ++ line_text (v ∷ vs)))
    ∙ sym (append_assoc (w ++ 32 ∷ []) (spaced (x ∷ ws)) (line_text (v ∷ vs)))

-- words of two lists, each with a space behind it, one behind the other
pub spaced-append : (ws vs : List Word) → spaced (ws ++ vs) ≡ spaced ws ++ spaced vs
spaced-append [] vs = refl
spaced-append (w ∷ ws) vs = ap (λ t. (w ++ 32 ∷ []) ++ t) (spaced-append ws vs) ∙ sym (append_assoc (w ++ 32 ∷ []) (spaced ws) (spaced vs))

-- the literals of a clause, as they are written one by one
abbrev pub lit_piece : Lit → List ℕ
lit_piece l = lit_word l ++ 32 ∷ []

-- the words of literals with spaces are those of each literal, one behind the other
pub spaced_lits : (c : List Lit) → spaced (map lit_word c) ≡ flat_map lit_piece c
spaced_lits [] = refl
spaced_lits (l ∷ c) = ap (λ t. (lit_word l ++ 32 ∷ []) ++ t) (spaced_lits c)

-- and the links of a chain
abbrev pub link_piece : Link → List ℕ
link_piece link = decimal link.number ++ (32 ∷ (lit_word link.pivot ++ 32 ∷ []))

-- the words of links with spaces are those of each link, one behind the other
pub spaced_links : (chain : List Link) → spaced (flat_map link_words chain) ≡ flat_map link_piece chain
spaced_links [] = refl
spaced_links (k ∷ chain) =
    ap (λ t. (decimal k.number ++ 32 ∷ []) ++ ((lit_word k.pivot ++ 32 ∷ []) ++ t)) (spaced_links chain)
    ∙ sym (append_assoc (decimal k.number ++ 32 ∷ []) (lit_word k.pivot ++ 32 ∷ []) (flat_map link_piece chain))
    ∙ ap (λ t. t ++ flat_map link_piece chain) (append_assoc (decimal k.number) (32 ∷ []) (lit_word k.pivot ++ 32 ∷ []))

-- the line of a clause is its literals with spaces, and a 0
pub clause_line : (c : List Lit) → line_text (clause_words c) ≡ flat_map lit_piece c ++ codes "0\n"
clause_line c = line_text-append (map lit_word c) (codes "0") [] ∙ ap (λ t. t ++ codes "0\n") (spaced_lits c)

-- the line of a step is its literals with spaces, a 0, where it begins, its links with spaces, and a 0
pub step_line : (s : Step) → line_text (step_words s) ≡ flat_map lit_piece s.clause ++ (codes "0 " ++ (decimal s.start ++ (32 ∷ (flat_map link_piece s.chain ++ codes "0\n"))))
step_line s =
    ap line_text (append_assoc (map lit_word s.clause) (codes "0" ∷ []) (chain_words s.start s.chain))
    ∙ line_text-append (map lit_word s.clause) (codes "0") (chain_words s.start s.chain)
    ∙ ap (λ t. t ++ line_text (codes "0" ∷ chain_words s.start s.chain)) (spaced_lits s.clause)
    ∙ ap (λ t. flat_map lit_piece s.clause ++ t)
    (line_text-append (codes "0" ∷ decimal s.start ∷ flat_map link_words s.chain) (codes "0") []
    ∙ ap (λ t. (codes "0 " ++ ((decimal s.start ++ 32 ∷ []) ++ t)) ++ codes "0\n") (spaced_links s.chain)
    ∙ ap (λ t. codes "0 " ++ t) (append_assoc (decimal s.start ++ 32 ∷ []) (flat_map link_piece s.chain) (codes "0\n")
    ∙ append_assoc (decimal s.start) (32 ∷ []) (flat_map link_piece s.chain ++ codes "0\n")))

-- one more member of a list is written
pub flat_map-take_more : {X A : Type 0} (f : X → List A) (xs : List X) (k : ℕ) (x : X) → slice_get xs k ≡ Some x → flat_map f (take (k + 1) xs) ≡ flat_map f (take k xs) ++ f x
flat_map-take_more f xs k x at =
    ap (flat_map f) (take_more xs k x (slice_get_within xs k x at) ∙ ap (λ y. take k xs ++ y ∷ []) (get_or_from_slice_get xs k x x at))
    ∙ flat_map-append f (take k xs) (x ∷ [])
    ∙ ap (λ t. flat_map f (take k xs) ++ t) (append-nil (f x))

-- the lines of one clause more are those from before and its line
pub lines_more : (cs : List (List Lit)) (k : ℕ) → k < length cs
    → flat_map line_text (map clause_words (take (k + 1) cs)) ≡ flat_map line_text (map clause_words (take k cs)) ++ line_text (clause_words (unwrap_or (slice_get cs (k + 1 - 1)) []))
lines_more cs k h =
    let c = get_or cs k [] in
    let at = slice_get-get_or cs k [] h in
    let e : k + 1 - 1 ≡ k = omega arith in
    ap (λ t. flat_map line_text (map clause_words t)) (take_more cs k [] h)
    ∙ ap (flat_map line_text) (map-append clause_words (take k cs) (c ∷ []))
    ∙ flat_map-append line_text (map clause_words (take k cs)) (clause_words c ∷ [])
    ∙ ap (λ t. flat_map line_text (map clause_words (take k cs)) ++ t) (append-nil (line_text (clause_words c)))
    ∙ ap (λ o. flat_map line_text (map clause_words (take k cs)) ++ line_text (clause_words (unwrap_or o []))) (sym (ap (slice_get cs) e ∙ at))

-- six pieces behind another
pub six_pieces : (o a b c d e : List ℕ) → (((((o ++ a) ++ b) ++ c) ++ 32 ∷ []) ++ d) ++ e ≡ o ++ (a ++ (b ++ (c ++ (32 ∷ (d ++ e)))))
six_pieces o a b c d e = simp append_assoc
