-- What is read as a reference is one, both ways.
use Rattle.std.proofs.Common.{◌≡◌, ◌≢◌, ◌↔◌, ℕ, suc, ◌==◌, ◌<◌, Bool, true, false, true≢false, cond, ◌&&◌, not, List, [], ◌∷◌, ◌++◌, length, get_or, Option, Some, None, option_map, MatchOption, Bor, refl, sym, ap, ap₂, ◌∙◌, eqb-true, arith}
use Rattle.std.specs.List.{AllByRecursion}
use Rattle.std.proofs.lemmas.Bool.{ne_eqb, and_parts, not-true}
use Rattle.rh_base.specs.Reading.{◌>>=◌}
use Rattle.pp_value.specs.declared.value.Ref.{Ref}
use Rattle.pp_eval.specs.References.{ref_of}
use Rattle.compiled_text.specs.Names.{IsReference}
use Rattle.compiled_text.specs.Reading.{is_type, around_bracket, before_bracket, is_empty, named, reference_of}
use Rattle.compiled_text.proofs.TypeLaws.{type_where, no_bracket}
use Rattle.rh_base.proofs.Options.{bind_some, map_some, if_some, bind_goes}
use Rattle.std.proofs.lemmas.Option.{none-some, same_Some}

-- ---- the first bracket

-- what is cut at the first `[` stands before and behind it
abbrev Around : List ℕ → Type 0
Around text = (front rest : List ℕ) → around_bracket text ≡ Some (front, rest) → text ≡ front ++ 91 ∷ rest

-- so it is with one more byte in front
around_more : (c : ℕ) (text : List ℕ) → Around text → Around (c ∷ text)
around_more c text again front rest h = at (c == 91) refl h
  where
    here : (front rest : List ℕ) → ◌≡◌ {A = Option (List ℕ × List ℕ)} (Some ([], text)) (Some (front, rest)) → ([] ≡ front) × (text ≡ rest)
    here front rest k = let same : ◌≡◌ {A = List ℕ × List ℕ} ([], text) (front, rest) = same_Some ([], text) (front, rest) k in (ap (λ x. x.0) same, ap (λ x. x.1) same)

    later : (x : List ℕ × List ℕ) → around_bracket text ≡ Some x → ◌≡◌ {A = List ℕ × List ℕ} (c ∷ x.0, x.1) (front, rest) → c ∷ text ≡ front ++ 91 ∷ rest
    later x k same = ap (λ l. c ∷ l) (again x.0 x.1 k) ∙ ap (λ y. y.0 ++ 91 ∷ y.1) same

    at : (t : Bool) → (c == 91) ≡ t → cond {A = Option (List ℕ × List ℕ)} t (Some ([], text)) (option_map (λ x. (c ∷ x.0, x.1)) (around_bracket text)) ≡ Some (front, rest) → c ∷ text ≡ front ++ 91 ∷ rest
    at true e k = let two = here front rest k in ap (λ d. d ∷ text) (eqb-true c 91 e) ∙ (λ i. two.0 i ++ 91 ∷ two.1 i)
    at false e k = let x = map_some (λ x. (c ∷ x.0, x.1)) (around_bracket text) (front, rest) k in later x.0 x.1 x.2

-- so it is of each text
around_found : (text : List ℕ) → Around text
around_found [] front rest h = absurd (none-some (front, rest) h)
around_found (c ∷ text) front rest h = around_more c text (around_found text) front rest h

-- a text is cut at its first `[`
around_here : (front rest : List ℕ) → AllByRecursion (λ c. c ≢ 91) front → around_bracket (front ++ 91 ∷ rest) ≡ Some (front, rest)
around_here [] rest h = refl
around_here (c ∷ front) rest h =
    ap (λ t. cond {A = Option (List ℕ × List ℕ)} t (Some ([], front ++ 91 ∷ rest)) (option_map (λ x. (c ∷ x.0, x.1)) (around_bracket (front ++ 91 ∷ rest)))) (ne_eqb c 91 h.0)
    ∙ ap (option_map (λ x. (c ∷ x.0, x.1))) (around_here front rest h.1)

-- one without a `[` isn't cut
no_bracket_around : (text : List ℕ) → AllByRecursion (λ c. c ≢ 91) text → around_bracket text ≡ None
no_bracket_around [] h = refl
no_bracket_around (c ∷ text) h =
    ap (λ t. cond {A = Option (List ℕ × List ℕ)} t (Some ([], text)) (option_map (λ x. (c ∷ x.0, x.1)) (around_bracket text))) (ne_eqb c 91 h.0) ∙ ap (option_map (λ x. (c ∷ x.0, x.1))) (no_bracket_around text h.1)

-- each byte differs, where each does at its index
each_differs : (text : List ℕ) → ((i : ℕ) → i < length text → get_or text i 0 ≢ 91) → AllByRecursion (λ c. c ≢ 91) text
each_differs [] h = tt
each_differs (c ∷ text) h = (h 0 (omega arith), each_differs text (λ i k. h (suc i) (omega arith)))

-- what the library cuts at the first `[` is that
pub split_at : (text : List ℕ) (r : Option (Bor (List ℕ) × Bor (List ℕ)))
    → MatchOption r ((i : ℕ) → i < length text → get_or text i 0 ≢ 91) (λ x. (text ≡ x.0.now ++ (91 ∷ x.1.now)) × ((i : ℕ) → i < length x.0.now → get_or x.0.now i 0 ≢ 91))
    → option_map (λ x. (x.0.now, x.1.now)) r ≡ around_bracket text
split_at text None h = sym (no_bracket_around text (each_differs text h))
split_at text (Some x) h = sym (ap around_bracket h.0 ∙ around_here x.0.now x.1.now (each_differs x.0.now h.1))

-- ---- a bracket at the end

-- what stands before a `]` at the end is found
before_here : (front : List ℕ) → before_bracket (front ++ 93 ∷ []) ≡ Some front
before_here [] = refl
before_here (c ∷ []) = refl
before_here (c ∷ d ∷ front) = ap (option_map (λ l. c ∷ l)) (before_here (d ∷ front))

-- and what is found stands there
before_found : (text front : List ℕ) → before_bracket text ≡ Some front → text ≡ front ++ 93 ∷ []
before_found [] front h = absurd (none-some front h)
before_found (c ∷ []) front h = at (c == 93) refl h
  where
    at : (t : Bool) → (c == 93) ≡ t → cond t (Some []) None ≡ Some front → c ∷ [] ≡ front ++ 93 ∷ []
    at true e k = ap (λ d. d ∷ []) (eqb-true c 93 e) ∙ ap (λ l. l ++ 93 ∷ []) (same_Some [] front k)
    at false e k = absurd (none-some front k)
before_found (c ∷ d ∷ text) front h =
    let more = map_some (λ l. c ∷ l) (before_bracket (d ∷ text)) front h in
    ap (λ l. c ∷ l) (before_found (d ∷ text) more.0 more.1) ∙ ap (λ l. l ++ 93 ∷ []) more.2

-- what the library finds before a `]` at the end is what stands before it
pub suffix_at : (text : List ℕ) (r : Option (Bor (List ℕ))) → MatchOption r ((front : List ℕ) → text ≢ front ++ (93 ∷ [])) (λ x. text ≡ x.now ++ (93 ∷ [])) → option_map (λ x. x.now) r ≡ before_bracket text
suffix_at text None h = at (before_bracket text) refl
  where
    at : (o : Option (List ℕ)) → before_bracket text ≡ o → None ≡ o
    at None e = refl
    at (Some front) e = absurd (h front (before_found text front e))
suffix_at text (Some x) h = sym (ap before_bracket h ∙ before_here x.now)

-- ---- references

-- a text that is told not to be empty isn't
pub not_empty : (text : List ℕ) → is_empty text ≡ false → text ≢ []
not_empty text h e = true≢false (sym (ap is_empty e) ∙ h)

-- and one that isn't is told so
pub empty_not : (text : List ℕ) → text ≢ [] → is_empty text ≡ false
empty_not [] h = absurd (h refl)
empty_not (c ∷ text) h = refl

-- a reference that is named has a type and a title, and is that of them
pub named_by : (type_text title_text : List ℕ) (r : Ref) → named type_text title_text ≡ Some r → (is_type type_text ≡ true) × (title_text ≢ []) × (r ≡ ref_of type_text title_text)
named_by type_text title_text r h =
    let both = if_some (is_type type_text && not (is_empty title_text)) (Some (ref_of type_text title_text)) r h in
    let tests = and_parts (is_type type_text) (not (is_empty title_text)) both.0 in
    (tests.0, not_empty title_text (not-true (is_empty title_text) tests.1), sym (same_Some (ref_of type_text title_text) r both.1))

-- a type and a title that isn't empty name their reference
names : (type_text title_text : List ℕ) → is_type type_text ≡ true → title_text ≢ [] → named type_text title_text ≡ Some (ref_of type_text title_text)
names type_text title_text is some =
    ap₂ (λ a b. cond (a && not b) (Some (ref_of type_text title_text)) None) is (empty_not title_text some)

-- what is read as a reference is one
pub reference_read : (text : List ℕ) (r : Ref) → reference_of text ≡ Some r → IsReference text r
reference_read text r h =
    let x = bind_some (around_bracket text) (λ x. before_bracket x.1 >>= named x.0) r h in
    let title = bind_some (before_bracket x.0.1) (named x.0.0) r x.2 in
    let parts = named_by x.0.0 title.0 r title.2 in record {
      type_text = x.0.0;
      title_text = title.0;
      spelled = around_found text x.0.0 x.0.1 x.1 ∙ ap (λ l. x.0.0 ++ 91 ∷ l) (before_found x.0.1 title.0 title.1);
      is_type = (type_where x.0.0).0 parts.0;
      some_title = parts.1;
      names = parts.2;
    }

-- and a reference is read
pub reference_back : (text : List ℕ) (r : Ref) → IsReference text r → reference_of text ≡ Some r
reference_back text r h =
    let is = (type_where h.type_text).1 h.is_type in
    ap reference_of h.spelled
    ∙ (bind_goes (around_bracket (h.type_text ++ 91 ∷ (h.title_text ++ 93 ∷ []))) (λ x. before_bracket x.1 >>= named x.0) (h.type_text, h.title_text ++ 93 ∷ [])
    (around_here h.type_text (h.title_text ++ 93 ∷ []) (no_bracket h.type_text is))
    ∙ (bind_goes (before_bracket (h.title_text ++ 93 ∷ [])) (named h.type_text) h.title_text (before_here h.title_text)
    ∙ (names h.type_text h.title_text is h.some_title ∙ ap (λ q. Some q) (sym h.names))))

-- a text is read as a reference exactly where it is one
pub references : (text : List ℕ) (r : Ref) → (reference_of text ≡ Some r) ↔ IsReference text r
references text r = (reference_read text r, reference_back text r)
