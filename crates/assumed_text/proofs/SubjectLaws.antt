-- What a key names, both ways.
use Rattle.std.proofs.Common.{◌≡◌, ◌≢◌, ◌↔◌, ℕ, ◌==◌, Bool, true, false, true≢false, cond, ◌||◌, ◌&&◌, List, [], ◌∷◌, ◌++◌, Some, option_map, codes, refl, sym, ap, subst, ◌∙◌}
use Rattle.std.specs.Char.{is_ascii_alphabetic}
use Rattle.std.specs.List.{AllByRecursion}
use Rattle.std.proofs.lemmas.Bool.{ne_eqb, or_parts, or_right}
use Rattle.pp_value.specs.declared.value.Ref.{Ref}
use Rattle.pp_value.specs.Texts.{lowered}
use Rattle.pp_eval.specs.Names.{is_colon, unrooted}
use Rattle.pp_eval.specs.References.{ref_of}
use Rattle.compiled_text.specs.Names.{is_word_byte, IsTypeSegment, behind_colons, IsType, IsReference}
use Rattle.compiled_text.specs.Reading.{reference_of}
use Rattle.assumed_text.specs.declared.assumed.Subject.{Subject}
use Rattle.assumed_text.specs.declared.assumed.Subject.TheVariants.{One, EachOf}
use Rattle.assumed_text.specs.Form.{IsSubject}
use Rattle.assumed_text.specs.Reading.{has_bracket, type_of, subject_of}
use Rattle.rh_base.proofs.Options.{map_some}

-- a text is read as a reference exactly where it is one
abbrev pub ReferencesWhere : Type 0
ReferencesWhere = (text : List ℕ) (r : Ref) → (reference_of text ≡ Some r) ↔ IsReference text r

-- ---- brackets

-- no `[` stands in the text
abbrev HaveNone : List ℕ → Type 0
HaveNone text = AllByRecursion (λ c. c ≢ 91) text

-- two texts without a `[` have none together
both_have_none : (a b : List ℕ) → HaveNone a → HaveNone b → HaveNone (a ++ b)
both_have_none [] b h k = k
both_have_none (c ∷ a) b h k = (h.0, both_have_none a b h.1 k)

-- a text without a `[` is told to have none
no_bracket : (text : List ℕ) → HaveNone text → has_bracket text ≡ false
no_bracket [] h = refl
no_bracket (c ∷ text) h = ap (λ t. t || has_bracket text) (ne_eqb c 91 h.0) ∙ no_bracket text h.1

-- and one that is told to have none has none
none_stands : (text : List ℕ) → has_bracket text ≡ false → HaveNone text
none_stands [] h = tt
none_stands (c ∷ text) h =
    let two = or_parts (c == 91) (has_bracket text) h in
    ((λ e. true≢false (sym (ap (λ d. d == 91) e) ∙ two.0)), none_stands text two.1)

-- a text with a `[` is told to have one
one_stands : (a r : List ℕ) → has_bracket (a ++ 91 ∷ r) ≡ true
one_stands [] r = refl
one_stands (c ∷ a) r = or_right (c == 91) (has_bracket (a ++ 91 ∷ r)) (one_stands a r)

-- what stands before the first bracket
front_same : (a b r s : List ℕ) → HaveNone a → HaveNone b → a ++ 91 ∷ r ≡ b ++ 91 ∷ s → a ≡ b
front_same [] [] r s h k e = refl
front_same [] (d ∷ b) r s h k e = absurd (k.0 (first d r (b ++ 91 ∷ s) e))
  where
    first : (d : ℕ) (r s : List ℕ) → 91 ∷ r ≡ d ∷ s → d ≡ 91
    first d r s e = cc
front_same (c ∷ a) [] r s h k e = absurd (h.0 (first c (a ++ 91 ∷ r) s e))
  where
    first : (c : ℕ) (r s : List ℕ) → c ∷ r ≡ 91 ∷ s → c ≡ 91
    first c r s e = cc
front_same (c ∷ a) (d ∷ b) r s h k e =
    let two = parts c d (a ++ 91 ∷ r) (b ++ 91 ∷ s) e in
    let rest = front_same a b r s h.1 k.1 two.1 in cc
  where
    parts : (c d : ℕ) (x y : List ℕ) → c ∷ x ≡ d ∷ y → (c ≡ d) × (x ≡ y)
    parts c d x y e = (cc, cc)

-- ---- types

-- a byte of a word is no `[`
word_differs : (c : ℕ) → is_word_byte c ≡ true → c ≢ 91
word_differs c h e = true≢false (sym h ∙ ap is_word_byte e)

-- and so a word has none
words_differ : (text : List ℕ) → AllByRecursion (λ c. is_word_byte c ≡ true) text → HaveNone text
words_differ [] h = tt
words_differ (c ∷ text) h = (word_differs c h.0, words_differ text h.1)

-- and a segment of a type
segment_has_none : (s : List ℕ) → IsTypeSegment s → HaveNone s
segment_has_none [] h = absurd h
segment_has_none (c ∷ s) h = ((λ e. true≢false (sym h.0 ∙ ap is_ascii_alphabetic e)), words_differ s h.1)

-- a colon is no `[`
colon_differs : ◌≢◌ {A = ℕ} 58 91
colon_differs e = true≢false (ap (λ c. c == 58) e)

-- and so segments behind colons have none
segments_have_none : (segments : List (List ℕ)) → AllByRecursion IsTypeSegment segments → HaveNone (behind_colons segments)
segments_have_none [] h = tt
segments_have_none (s ∷ segments) h =
    (colon_differs, (colon_differs, both_have_none s (behind_colons segments) (segment_has_none s h.0) (segments_have_none segments h.1)))

-- and neither has a type
type_has_none : (text : List ℕ) → IsType text → HaveNone text
type_has_none text t =
    subst HaveNone (sym t.joined)
    (both_have_none t.first (behind_colons t.others) (segment_has_none t.first t.are_segments.0) (segments_have_none t.others t.are_segments.1))

-- a text that begins with a letter has no root to be left out
letter_first : (c : ℕ) (rest : List ℕ) → is_ascii_alphabetic c ≡ true → unrooted (c ∷ rest) ≡ c ∷ rest
letter_first c [] h = refl
letter_first c (d ∷ rest) h =
    ap (λ t. cond (t && is_colon d) rest (c ∷ d ∷ rest)) (ne_eqb c 58 (λ e. true≢false (sym h ∙ ap is_ascii_alphabetic e)))

-- and so has one that begins with a segment of a type
rooted : (first rest : List ℕ) → IsTypeSegment first → unrooted (first ++ rest) ≡ first ++ rest
rooted [] rest h = absurd h
rooted (c ∷ first) rest h = letter_first c (first ++ rest) h.0

-- and so has a type
type_rooted : (text : List ℕ) → IsType text → unrooted text ≡ text
type_rooted text t = ap unrooted t.joined ∙ (rooted t.first (behind_colons t.others) t.are_segments.0 ∙ sym t.joined)

-- a key without a `[` that gives a type is of each of its resources
type_found : ReferencesWhere → (key kind : List ℕ) → HaveNone key → type_of key ≡ Some kind → IsSubject (EachOf kind) key
type_found references key kind none h =
    let r = map_some (λ (r : Ref). r.kind) (reference_of (key ++ codes "[x]")) kind h in
    let is = (references (key ++ codes "[x]") r.0).0 r.1 in
    let same = front_same key is.type_text (120 ∷ 93 ∷ []) (is.title_text ++ 93 ∷ []) none (type_has_none is.type_text is.is_type) is.spelled in
    (subst IsType (sym same) is.is_type, sym r.2 ∙ (ap (λ (q : Ref). q.kind) is.names ∙ ap lowered (type_rooted is.type_text is.is_type ∙ sym same)))

-- and a key of a type gives it
type_back : ReferencesWhere → (key kind : List ℕ) → IsSubject (EachOf kind) key → type_of key ≡ Some kind
type_back references key kind h =
    let is : IsReference (key ++ codes "[x]") (ref_of key (codes "x")) = record { type_text = key; title_text = codes "x"; spelled = refl; is_type = h.0; some_title = some 120 []; names = refl } in
    ap (option_map (λ (r : Ref). r.kind)) ((references (key ++ codes "[x]") (ref_of key (codes "x"))).1 is)
    ∙ ap (λ k. Some k) (ap lowered (type_rooted key h.0) ∙ sym h.1)
  where
    some : (c : ℕ) (text : List ℕ) → c ∷ text ≢ []
    some c text e = cc

-- ---- subjects

-- the subject that is read of a key is the one that it names
subject_found : ReferencesWhere → (key : List ℕ) (s : Subject) → subject_of key ≡ Some s → IsSubject s key
subject_found references key s h = at (has_bracket key) refl h
  where
    at : (t : Bool) → has_bracket key ≡ t → cond t (option_map One (reference_of key)) (option_map EachOf (type_of key)) ≡ Some s → IsSubject s key
    at true e k = let r = map_some One (reference_of key) s k in subst (λ q. IsSubject q key) r.2 ((references key r.0).0 r.1)
    at false e k = let kind = map_some EachOf (type_of key) s k in subst (λ q. IsSubject q key) kind.2 (type_found references key kind.0 (none_stands key e) kind.1)

-- and the one that it names is read
subject_back : ReferencesWhere → (key : List ℕ) (s : Subject) → IsSubject s key → subject_of key ≡ Some s
subject_back references key (One r) h =
    ap (λ t. cond t (option_map One (reference_of key)) (option_map EachOf (type_of key))) (ap has_bracket h.spelled ∙ one_stands h.type_text (h.title_text ++ 93 ∷ []))
    ∙ ap (option_map One) ((references key r).1 h)
subject_back references key (EachOf kind) h =
    ap (λ t. cond t (option_map One (reference_of key)) (option_map EachOf (type_of key))) (no_bracket key (type_has_none key h.0))
    ∙ ap (option_map EachOf) (type_back references key kind h)

-- a subject is read of a key exactly where the key names it
pub subject_where : ReferencesWhere → (key : List ℕ) (s : Subject) → (subject_of key ≡ Some s) ↔ IsSubject s key
subject_where references key s = (subject_found references key s, subject_back references key s)
