-- The words of a type spell it again.
use Rattle.std.proofs.Common.{◌≡◌, ℕ, zero, suc, ◌≤◌, ◌<◌, ◌^◌, ◌==◌, cond, true, false, List, [], ◌∷◌, ◌++◌, ◌+◌, length, map, refl, sym, ap, subst, ◌∙◌, append_assoc, arith}
use Rattle.std.specs.Prelude.{ℤ, pos, Option, codes, decimal}
use Rattle.std.specs.Prelude as prelude
use Rattle.std.proofs.lemmas.Bool.{eqb-true}
use Rattle.pp_syntax.specs.declared.token.Kind.TheVariants as kind
use Rattle.pp_syntax.specs.declared.tree.TypeName.{TypeName}
use Rattle.pp_syntax.specs.Tokens.{Lexeme, int_value}
use Rattle.pp_syntax.specs.Phrases.{◌then◌, Some, Sign, Tight, Comma, Listed}
use Rattle.pp_syntax.specs.Statements.{TextBounds, NumberBounds, TypeWord, QuotedText, TypeOf, IsTypeAt, IsType}
use Rattle.pp_syntax.specs.Statements as rule
use Rattle.pp_print.specs.declared.words.Word.{Word}
use Rattle.pp_print.specs.Words.{word, sign, comma, quoted, number, in_tight, listed}
use Rattle.pp_print.specs.Statements.{text_bounds, number_bounds, type_word, type_words}
use Rattle.pp_print.proofs.Blocks.{type_any, type_boolean, type_hash, type_str, type_int, type_array, type_optional, type_enum, type_variant}
use Rattle.pp_print.proofs.Escapes.{quoted_is}
use Rattle.pp_print.proofs.Decimals.{int_decimal}
use Rattle.pp_print.proofs.Phrases.{words_in, parts, no_word, one_word, together, AllStand, Small, parts_stand, listed_again}

-- a list in which nothing is changed is the same
map_same : {X : Type 0} (xs : List X) → map (λ (x : X). x) xs ≡ xs
map_same [] = refl
map_same (x ∷ xs) = ap (λ r. x ∷ r) (map_same xs)

-- ---- in tight brackets

-- the words of something in a tight bracket spell it again there
tight_again : (A : List Lexeme → Type 0) (us : List Lexeme) (ws : List Word) → ((vs : List Lexeme) → words_in vs ≡ ws → A vs) → words_in us ≡ in_tight ws → (Tight then A then Sign (codes "]")) us
tight_again A us ws again w =
    let p = parts us (word kind.Tight (codes "[")) (ws ++ sign (codes "]")) w in
    let q = parts p.back ws (sign (codes "]")) p.second in
    together Tight (A then Sign (codes "]")) us (word kind.Tight (codes "[")) (ws ++ sign (codes "]")) p (one_word kind.Tight (codes "[") p.front p.first)
    (together A (Sign (codes "]")) p.back ws (sign (codes "]")) q (again q.front q.first) (one_word kind.Sign (codes "]") q.back q.second))

-- the words of a type's name and something behind it spell them again
named_again : (name : List ℕ) (B : List Lexeme → Type 0) (us : List Lexeme) (ws : List Word) → ((vs : List Lexeme) → words_in vs ≡ ws → B vs) → words_in us ≡ type_word name ++ ws → (TypeWord name then B) us
named_again name B us ws again w =
    let p = parts us (type_word name) ws w in
    together (TypeWord name) B us (type_word name) ws p (one_word kind.Ref name p.front p.first) (again p.back p.second)

-- ---- bounds

module _ (n0 : ℕ) where
  -- The number of a token fits 64 bits with a sign.
  one_stands : (s : List ℕ) (ts : List Lexeme) → Some kind.Int s ts → Small n0 ts → int_value s < 2 ^ 63
  one_stands s ts d good = (subst (λ (r : List Lexeme). Small n0 r) d.1 good).0.0

  -- the word of a number spells it again, in decimal
  number_again : (s : List ℕ) (us : List Lexeme) → int_value s < 2 ^ 63 → words_in us ≡ number (pos (int_value s)) → Some kind.Int (decimal (int_value s)) us
  number_again s us h w = one_word kind.Int (decimal (int_value s)) us w

  -- the words of two numbers with a comma spell them again
  pair_again : (low high : List ℕ) (us : List Lexeme) → words_in us ≡ number (pos (int_value low)) ++ (comma ++ number (pos (int_value high)))
      → (Some kind.Int (decimal (int_value low)) then Comma then Some kind.Int (decimal (int_value high))) us
  pair_again low high us w =
      let p = parts us (number (pos (int_value low))) (comma ++ number (pos (int_value high))) w in
      let q = parts p.back comma (number (pos (int_value high))) p.second in
      together (Some kind.Int (decimal (int_value low))) (Comma then Some kind.Int (decimal (int_value high))) us (number (pos (int_value low))) (comma ++ number (pos (int_value high))) p
      (one_word kind.Int (decimal (int_value low)) p.front p.first)
      (together Comma (Some kind.Int (decimal (int_value high))) p.back comma (number (pos (int_value high))) q (one_word kind.Sign (codes ",") q.front q.first) (one_word kind.Int (decimal (int_value high)) q.back q.second))

  -- the same, with the bracket behind it
  flat_pair : (A B C D : List Lexeme → Type 0) (us : List Lexeme) → ((A then B then C) then D) us → (A then B then C then D) us
  flat_pair A B C D us h = record {
    front = h.first.front;
    back = h.first.second.front ++ (h.first.second.back ++ h.back);
    first = h.first.first;
    second = record { front = h.first.second.front; back = h.first.second.back ++ h.back; first = h.first.second.first; second = record { front = h.first.second.back; back = h.back; first = h.first.second.second; second = h.second; whole = refl }; whole = refl };
    whole = h.whole ∙ ap (λ (r : List Lexeme). r ++ h.back) h.first.whole ∙ append_assoc h.first.front h.first.back h.back
        ∙ ap (λ (r : List Lexeme). h.first.front ++ r) (ap (λ (r : List Lexeme). r ++ h.back) h.first.second.whole ∙ append_assoc h.first.second.front h.first.second.back h.back);
  }

  -- the words of two bounds in a tight bracket spell them again
  bracketed_pair : (low high : List ℕ) (us : List Lexeme) → words_in us ≡ in_tight (number (pos (int_value low)) ++ (comma ++ number (pos (int_value high))))
      → (Tight then Some kind.Int (decimal (int_value low)) then Comma then Some kind.Int (decimal (int_value high)) then Sign (codes "]")) us
  bracketed_pair low high us w =
      let t = tight_again (Some kind.Int (decimal (int_value low)) then Comma then Some kind.Int (decimal (int_value high))) us (number (pos (int_value low)) ++ (comma ++ number (pos (int_value high)))) (pair_again low high) w in
      record { front = t.front; back = t.back; first = t.first; second = flat_pair (Some kind.Int (decimal (int_value low))) Comma (Some kind.Int (decimal (int_value high))) (Sign (codes "]")) t.back t.second; whole = t.whole }

  -- a number that fits is that of its decimal text
  back_to : (s : List ℕ) → int_value s < 2 ^ 63 → ◌≡◌ {A = ℤ} (pos (int_value s)) (pos (int_value (decimal (int_value s))))
  back_to s h = ap pos (sym (int_decimal (int_value s) h))

  -- a lower bound of small tokens fits
  low_stands : (s : List ℕ) (ts : List Lexeme) → (Tight then Some kind.Int s then Sign (codes "]")) ts → Small n0 ts → int_value s < 2 ^ 63
  low_stands s ts d good = let g = parts_stand n0 Tight (Some kind.Int s then Sign (codes "]")) ts d good in let k = parts_stand n0 (Some kind.Int s) (Sign (codes "]")) d.back d.second g.1 in one_stands s d.second.front d.second.first k.0

  -- so do both bounds
  both_bounds : (s t : List ℕ) (ts : List Lexeme) → (Tight then Some kind.Int s then Comma then Some kind.Int t then Sign (codes "]")) ts → Small n0 ts → (int_value s < 2 ^ 63) × (int_value t < 2 ^ 63)
  both_bounds s t ts d good =
      let g = parts_stand n0 Tight (Some kind.Int s then Comma then Some kind.Int t then Sign (codes "]")) ts d good in
      let k = parts_stand n0 (Some kind.Int s) (Comma then Some kind.Int t then Sign (codes "]")) d.back d.second g.1 in
      let m = parts_stand n0 Comma (Some kind.Int t then Sign (codes "]")) d.second.back d.second.second k.1 in
      let n = parts_stand n0 (Some kind.Int t) (Sign (codes "]")) d.second.second.back d.second.second.second m.1 in
      (one_stands s d.second.front d.second.first k.0, one_stands t d.second.second.second.front d.second.second.second.first n.0)

  -- the words of the bounds of `String` spell them again
  text_again : (least : ℤ) (most : Option ℤ) (ts : List Lexeme) → TextBounds least most ts → Small n0 ts → (us : List Lexeme) → words_in us ≡ text_bounds least most → TextBounds least most us
  text_again least most ts (rule.none e f d) good us w = rule.none e f (no_word us (w ∙ ap (λ (b : ℤ). text_bounds b most) e ∙ ap (λ (m : Option ℤ). text_bounds (pos 0) m) f))
  text_again least most ts (rule.lower low e f d) good us w =
      let words : words_in us ≡ text_bounds (pos (int_value low)) prelude.None = w ∙ ap (λ (b : ℤ). text_bounds b most) e ∙ ap (λ (m : Option ℤ). text_bounds (pos (int_value low)) m) f in
      let h = low_stands low ts d good in
      elim (int_value low == 0) as (λ v. (int_value low == 0) ≡ v → words_in us ≡ cond v [] (in_tight (number (pos (int_value low)))) → TextBounds least most us) [
        | true ↦ λ is k. rule.none (e ∙ ap pos (eqb-true (int_value low) 0 is)) f (no_word us k)
        | false ↦ λ is k. rule.lower (decimal (int_value low)) (e ∙ back_to low h) f (tight_again (Some kind.Int (decimal (int_value low))) us (number (pos (int_value low))) (λ vs. number_again low vs h) k)
      ] refl words
  text_again least most ts (rule.both low high e f d) good us w =
      let h = both_bounds low high ts d good in
      rule.both (decimal (int_value low)) (decimal (int_value high)) (e ∙ back_to low h.0) (f ∙ ap (λ (m : ℤ). prelude.Some m) (back_to high h.1))
      (bracketed_pair low high us (w ∙ ap (λ (b : ℤ). text_bounds b most) e ∙ ap (λ (m : Option ℤ). text_bounds (pos (int_value low)) m) f))

  -- the words of the bounds of `Integer` spell them again
  bounds_again : (least most : Option ℤ) (ts : List Lexeme) → NumberBounds least most ts → Small n0 ts → (us : List Lexeme) → words_in us ≡ number_bounds least most → NumberBounds least most us
  bounds_again least most ts (rule.none e f d) good us w = rule.none e f (no_word us (w ∙ ap (λ (b : Option ℤ). number_bounds b most) e))
  bounds_again least most ts (rule.lower low e f d) good us w =
      let h = low_stands low ts d good in
      rule.lower (decimal (int_value low)) (e ∙ ap (λ (m : ℤ). prelude.Some m) (back_to low h)) f
      (tight_again (Some kind.Int (decimal (int_value low))) us (number (pos (int_value low))) (λ vs. number_again low vs h) (w ∙ ap (λ (b : Option ℤ). number_bounds b most) e ∙ ap (λ (m : Option ℤ). number_bounds (prelude.Some (pos (int_value low))) m) f))
  bounds_again least most ts (rule.both low high e f d) good us w =
      let h = both_bounds low high ts d good in
      rule.both (decimal (int_value low)) (decimal (int_value high)) (e ∙ ap (λ (m : ℤ). prelude.Some m) (back_to low h.0)) (f ∙ ap (λ (m : ℤ). prelude.Some m) (back_to high h.1))
      (bracketed_pair low high us (w ∙ ap (λ (b : Option ℤ). number_bounds b most) e ∙ ap (λ (m : Option ℤ). number_bounds (prelude.Some (pos (int_value low))) m) f))

  -- ---- types

  -- the word of a text in single quotes spells it again
  quoted_again : (v : List ℕ) (ts : List Lexeme) → QuotedText v ts → Small n0 ts → (us : List Lexeme) → words_in us ≡ quoted v → (u : List ℕ) × QuotedText u us × (v ≡ u)
  quoted_again v ts d good us w = (v, (_, one_word kind.Sq _ us w, quoted_is v), refl)

  module _ (S T : TypeName → List Lexeme → Type 0) (again : (t : TypeName) (ts : List Lexeme) → S t ts → Small n0 ts → (us : List Lexeme) → words_in us ≡ type_words t → T t us) where
    -- what stands in the brackets of a type is small where the type is
    member_stands : (name : List ℕ) (A : List Lexeme → Type 0) (ts : List Lexeme) (d : (TypeWord name then Tight then A then Sign (codes "]")) ts) → Small n0 ts → Small n0 d.second.second.front
    member_stands name A ts d good =
        let g = parts_stand n0 (TypeWord name) (Tight then A then Sign (codes "]")) ts d good in
        let k = parts_stand n0 Tight (A then Sign (codes "]")) d.back d.second g.1 in
        (parts_stand n0 A (Sign (codes "]")) d.second.back d.second.second k.1).0

    -- the words of a type's name and something in brackets spell them again, where those of the latter do
    in_brackets : (name : List ℕ) (A B : List Lexeme → Type 0) (ws : List Word) (ts us : List Lexeme) (d : (TypeWord name then Tight then A then Sign (codes "]")) ts) → Small n0 ts
        → ((vs xs : List Lexeme) → A vs → Small n0 vs → words_in xs ≡ ws → B xs) → words_in us ≡ type_word name ++ in_tight ws → (TypeWord name then Tight then B then Sign (codes "]")) us
    in_brackets name A B ws ts us d good more w = named_again name (Tight then B then Sign (codes "]")) us (in_tight ws)
        (λ vs. tight_again B vs ws (λ xs. more d.second.second.front xs d.second.second.first (member_stands name A ts d good))) w

    -- the words of a type spell it again, where those in its brackets do
    type_again : (y : TypeName) (ts : List Lexeme) → TypeOf S y ts → Small n0 ts → (us : List Lexeme) → words_in us ≡ type_words y → TypeOf T y us
    type_again y ts (rule.any e d) good us w = rule.any e (one_word kind.Ref (codes "Any") us (w ∙ ap type_words e ∙ type_any))
    type_again y ts (rule.boolean e d) good us w = rule.boolean e (one_word kind.Ref (codes "Boolean") us (w ∙ ap type_words e ∙ type_boolean))
    type_again y ts (rule.hash e d) good us w = rule.hash e (one_word kind.Ref (codes "Hash") us (w ∙ ap type_words e ∙ type_hash))
    type_again y ts (rule.text least most e d) good us w = rule.text least most e (named_again (codes "String") (TextBounds least most) us (text_bounds least most)
        (text_again least most d.back d.second (parts_stand n0 (TypeWord (codes "String")) (TextBounds least most) ts d good).1) (w ∙ ap type_words e ∙ type_str least most))
    type_again y ts (rule.number least most e d) good us w = rule.number least most e (named_again (codes "Integer") (NumberBounds least most) us (number_bounds least most)
        (bounds_again least most d.back d.second (parts_stand n0 (TypeWord (codes "Integer")) (NumberBounds least most) ts d good).1) (w ∙ ap type_words e ∙ type_int least most))
    type_again y ts (rule.array e d) good us w = rule.array e (one_word kind.Ref (codes "Array") us (w ∙ ap type_words e ∙ type_array prelude.None))
    type_again y ts (rule.array_of member e d) good us w = rule.array_of member e (in_brackets (codes "Array") (S member) (T member) (type_words member) ts us d good (λ vs xs s g. again member vs s g xs) (w ∙ ap type_words e ∙ type_array (prelude.Some member)))
    type_again y ts (rule.optional member e d) good us w = rule.optional member e (in_brackets (codes "Optional") (S member) (T member) (type_words member) ts us d good (λ vs xs s g. again member vs s g xs) (w ∙ ap type_words e ∙ type_optional member))
    type_again y ts (rule.enum texts e d) good us w = rule.enum texts e (in_brackets (codes "Enum") (Listed QuotedText texts) (Listed QuotedText texts) (listed quoted texts) ts us d good texts_again (w ∙ ap type_words e ∙ type_enum texts))
      where
        texts_again : (vs xs : List Lexeme) → Listed QuotedText texts vs → Small n0 vs → words_in xs ≡ listed quoted texts → Listed QuotedText texts xs
        texts_again vs xs s g h =
            let r = listed_again n0 QuotedText QuotedText quoted (λ (v : List ℕ). v) quoted_again texts vs s g xs h in
            subst (λ (l : List (List ℕ)). Listed QuotedText l xs) (sym (sym (map_same texts) ∙ r.2 ∙ map_same r.0)) r.1
    type_again y ts (rule.variant members e d) good us w = rule.variant members e (in_brackets (codes "Variant") (Listed S members) (Listed T members) (listed type_words members) ts us d good (members_again members) (w ∙ ap type_words e ∙ type_variant members))
      where
        members_again : (members : List TypeName) (vs xs : List Lexeme) → Listed S members vs → Small n0 vs → words_in xs ≡ listed type_words members → Listed T members xs
        members_again members vs xs s g h =
            let r = listed_again n0 S T type_words (λ (t : TypeName). t) (λ t ts d good us w. (t, again t ts d good us w, refl)) members vs s g xs h in
            subst (λ (l : List TypeName). Listed T l xs) (sym (sym (map_same members) ∙ r.2 ∙ map_same r.0)) r.1

  -- so do those of one with brackets nested less deep than this
  types_again : (m n : ℕ) (y : TypeName) (ts : List Lexeme) → m ≤ n → IsTypeAt m y ts → Small n0 ts → (us : List Lexeme) → words_in us ≡ type_words y → IsTypeAt n y us
  types_again zero n y ts below d good us w = absurd d
  types_again (suc m) zero y ts below d good us w = absurd (omega arith)
  types_again (suc m) (suc n) y ts below d good us w = type_again (IsTypeAt m) (IsTypeAt n) (λ t vs s g xs h. types_again m n t vs (omega arith) s g xs h) y ts d good us w

-- Any tokens with the words of a type that tokens of a text spell, spell it.
pub type_reads : (y : TypeName) (ts : List Lexeme) → IsType y ts → AllStand ts → (us : List Lexeme) → words_in us ≡ type_words y → IsType y us
type_reads y ts d good us w = (d.0, types_again (length ts + 1) d.0 d.0 y ts (omega arith) d.1 (good, omega arith) us w)
