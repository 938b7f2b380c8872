-- Names: what is read is spelled, and what is spelled is read, or more.
use Rattle.std.proofs.Common.{◌≡◌, ◌≢◌, ◌⊎◌, inl, inr, ℕ, zero, suc, ◌≤◌, Bool, true, false, cond, ◌&&◌, ◌||◌, ◌==◌, List, [], ◌∷◌, ◌++◌, length, Some, None, refl, sym, ap, subst, ◌∙◌, arith, append_assoc, append-nil}
use Rattle.std.specs.Option.{option_map}
use Rattle.std.proofs.lemmas.Bool.{ne_eqb, and_parts, and_from, or_left, or_right, eqb-true, both_ways}
use Rattle.pp_syntax.specs.declared.lexer.bytes.Style.{Style}
use Rattle.pp_syntax.specs.declared.lexer.bytes.Style.TheVariants as style
use Rattle.pp_syntax.specs.Bytes.{is_name}
use Rattle.pp_syntax.specs.Tokens.{Of, begins, goes_on, NoDashLast, Segment, Joined, one, another, Name}
use Rattle.pp_syntax.specs.Scanning.{has_dashes, tail_from, segment, after_colons, next_segment, go_on, more_segments, all_segments, joined, name_behind, name}
use Rattle.pp_syntax.proofs.Steps.{Takes, takes_short, Leaves, takes_leaves, leaves_along}
use Rattle.rh_base.proofs.Options.{bind_some}

-- two texts over a set make a text over it
pub Of-append : (test : ℕ → Bool) (xs ys : List ℕ) → Of test xs → Of test ys → Of test (xs ++ ys)
Of-append test [] ys a b = b
Of-append test (x ∷ xs) ys a b = (a.0, Of-append test xs ys a.1 b)

-- ---- the tail of a segment

-- letters, digits and `_` go on with each name
goes_on_name : (how : Style) (b : ℕ) → is_name b ≡ true → goes_on how b ≡ true
goes_on_name style.Word b h = or_left (is_name b) (b == 45) h
goes_on_name style.Ref b h = h
goes_on_name style.Var b h = h

-- a dash goes on with a name that may have dashes
goes_on_dash : (how : Style) (b : ℕ) → ((b == 45) && has_dashes how) ≡ true → goes_on how b ≡ true
goes_on_dash style.Word b h = or_right (is_name b) (b == 45) (and_parts _ _ h).0
goes_on_dash style.Ref b h = let p = (and_parts (b == 45) false h).1 in cc
goes_on_dash style.Var b h = let p = (and_parts (b == 45) false h).1 in cc

-- what else goes on with a name is a dash, where it may have dashes
only_dash : (how : Style) (b : ℕ) → goes_on how b ≡ true → is_name b ≡ false → (b ≡ 45) × (((b == 45) && has_dashes how) ≡ true)
only_dash style.Word b h n = let d : (b == 45) ≡ true = sym (ap (λ v. v || (b == 45)) n) ∙ h in (eqb-true b 45 d, and_from (b == 45) true d refl)
only_dash style.Ref b h n = absurd (both_ways (is_name b) n h)
only_dash style.Var b h n = absurd (both_ways (is_name b) n h)

-- a letter, a digit and `_` are no dash
name_no_dash : (b : ℕ) → is_name b ≡ true → b ≢ 45
name_no_dash b h e = both_ways (is_name b) (ap is_name e) h

-- a byte in front that is no dash leaves the last byte no dash
no_dash_more : (b : ℕ) (s : List ℕ) → b ≢ 45 → NoDashLast s → NoDashLast (b ∷ s)
no_dash_more b [] n h = n
no_dash_more b (c ∷ s) n h = h

-- and so do any bytes in front
no_dash_behind : (mid : List ℕ) (b : ℕ) (s : List ℕ) → NoDashLast (b ∷ s) → NoDashLast (mid ++ b ∷ s)
no_dash_behind [] b s h = h
no_dash_behind (m ∷ []) b s h = h
no_dash_behind (m ∷ c ∷ mid) b s h = no_dash_behind (c ∷ mid) b s h

-- what may follow the first byte of a segment
abbrev pub Tail : Style → List ℕ → Type 0
Tail how s = Of (goes_on how) s × NoDashLast s

-- a byte of a name between two such parts makes one such part
tail_joined : (how : Style) (mid : List ℕ) (b : ℕ) (text rest : List ℕ) → Of (goes_on how) mid → is_name b ≡ true → Takes (Tail how) text rest → Takes (Tail how) (mid ++ b ∷ text) rest
tail_joined how mid b text rest all n more = record {
  front = mid ++ b ∷ more.front;
  spelled = (Of-append (goes_on how) mid (b ∷ more.front) all (goes_on_name how b n, more.spelled.0), no_dash_behind mid b more.front (no_dash_more b more.front (name_no_dash b n) more.spelled.1));
  whole = ap (λ t. mid ++ b ∷ t) more.whole ∙ sym (append_assoc mid (b ∷ more.front) rest);
}

-- one step of reading a segment takes such a part, if the steps behind it do
tail_step : (how : Style) (mid : List ℕ) (b : ℕ) (text : List ℕ) (v w : Bool) → Of (goes_on how) mid → is_name b ≡ v → ((b == 45) && has_dashes how) ≡ w
    → Takes (Tail how) text (tail_from how text text) → (Of (goes_on how) (mid ++ b ∷ []) → Takes (Tail how) ((mid ++ b ∷ []) ++ text) (tail_from how ((mid ++ b ∷ []) ++ text) text))
    → Takes (Tail how) (mid ++ b ∷ text) (cond v (tail_from how text text) (cond w (tail_from how (mid ++ b ∷ text) text) (mid ++ b ∷ text)))
tail_step how mid b text true w all n d fresh on = tail_joined how mid b text (tail_from how text text) all n fresh
tail_step how mid b text false true all n d fresh on =
    subst (λ (t : List ℕ). Takes (Tail how) t (tail_from how t text)) (append_assoc mid (b ∷ []) text) (on (Of-append (goes_on how) mid (b ∷ []) all (goes_on_dash how b d, tt)))
tail_step how mid b text false false all n d fresh on = record { front = []; spelled = (tt, tt); whole = refl }

-- what is taken behind bytes that were passed is such a part with them
tail_after : (how : Style) (mid text : List ℕ) → Of (goes_on how) mid → Takes (Tail how) (mid ++ text) (tail_from how (mid ++ text) text)
tail_after how mid [] all = record { front = []; spelled = (tt, tt); whole = refl }
tail_after how mid (b ∷ text) all = tail_step how mid b text (is_name b) ((b == 45) && has_dashes how) all refl refl (tail_after how [] text tt) (tail_after how (mid ++ b ∷ []) text)

-- what is taken behind the first byte of a segment is such a part
pub tail_takes : (how : Style) (text : List ℕ) → Takes (Tail how) text (tail_from how text text)
tail_takes how text = tail_after how [] text tt

-- without its first byte a text still has no dash last
no_dash_tail : (b : ℕ) (s : List ℕ) → NoDashLast (b ∷ s) → NoDashLast s
no_dash_tail b [] h = tt
no_dash_tail b (c ∷ s) h = h

-- reading goes to the end of such a part, and on from there
pub tail_append : (how : Style) (best more r : List ℕ) → Of (goes_on how) more → NoDashLast more → (more ≡ [] → best ≡ r) → tail_from how best (more ++ r) ≡ tail_from how r r
tail_append how best [] r all last start = ap (λ x. tail_from how x r) (start refl)
tail_append how best (b ∷ more) r all last start = elim (is_name b) as (λ v. is_name b ≡ v → cond v (tail_from how (more ++ r) (more ++ r)) (cond ((b == 45) && has_dashes how) (tail_from how best (more ++ r)) best) ≡ tail_from how r r) [
  | true ↦ λ e. tail_append how (more ++ r) more r all.1 (no_dash_tail b more last) (λ none. ap (λ m. m ++ r) none)
  | false ↦ λ e.
      let d = only_dash how b all.0 e in
      ap (λ v. cond v (tail_from how best (more ++ r)) best) d.1
      ∙ tail_append how best more r all.1 (no_dash_tail b more last) (λ none. absurd (subst (λ (m : List ℕ). NoDashLast (b ∷ m)) none last d.0))
] refl

-- ---- segments

-- what is taken as a segment is one
pub segment_takes : (how : Style) (text rest : List ℕ) → segment how text ≡ Some rest → Takes (Segment how) text rest
segment_takes how [] rest h = cc
segment_takes how (b ∷ text) rest h = elim (begins how b) as (λ v. begins how b ≡ v → cond v (Some (tail_from how text text)) None ≡ Some rest → Takes (Segment how) (b ∷ text) rest) [
  | true ↦ λ e k.
      let more = tail_takes how text in
      let same : tail_from how text text ≡ rest = cc in
      subst (λ (r : List ℕ). Takes (Segment how) (b ∷ text) r) same (record { front = b ∷ more.front; spelled = (e, more.spelled.0, more.spelled.1); whole = ap (λ t. b ∷ t) more.whole })
  | false ↦ λ e k. cc
] refl h

-- a segment is read, and reading goes on behind it
pub segment_reads : (how : Style) (s r : List ℕ) → Segment how s → segment how (s ++ r) ≡ Some (tail_from how r r)
segment_reads how [] r h = absurd h
segment_reads how (b ∷ more) r h = ap (λ v. cond v (Some (tail_from how (more ++ r) (more ++ r))) None) h.0 ∙ ap Some (tail_append how (more ++ r) more r h.1 h.2 (λ none. ap (λ m. m ++ r) none))

-- ---- segments behind `::`

-- what stands before the rest behind a `::` is the `::`
pub colons_are : (text rest : List ℕ) → after_colons text ≡ Some rest → text ≡ 58 ∷ 58 ∷ rest
colons_are [] rest h = cc
colons_are (b ∷ []) rest h = cc
colons_are (b ∷ c ∷ text) rest h = elim ((b == 58) && (c == 58)) as (λ v. ((b == 58) && (c == 58)) ≡ v → cond v (Some text) None ≡ Some rest → b ∷ c ∷ text ≡ 58 ∷ 58 ∷ rest) [
  | true ↦ λ e k.
      let p = and_parts (b == 58) (c == 58) e in
      let first = eqb-true b 58 p.0 in
      let second = eqb-true c 58 p.1 in
      cc
  | false ↦ λ e k. cc
] refl h

-- nothing, or `::` and segments
abbrev MoreOf : Style → List ℕ → Type 0
MoreOf how s = (s ≡ []) ⊎ ((t : List ℕ) × (s ≡ 58 ∷ 58 ∷ t) × Joined how t)

-- a segment and what follows it are segments with `::` between them
joined_more : (how : Style) (text mid rest : List ℕ) → Takes (Segment how) text mid → Takes (MoreOf how) mid rest → Takes (Joined how) text rest
joined_more how text mid rest a b = record {
  front = a.front ++ b.front;
  spelled = elim b.spelled [
    | inl e ↦ subst (λ (t : List ℕ). Joined how t) (sym (ap (λ t. a.front ++ t) e ∙ append-nil a.front)) (one a.spelled)
    | inr m ↦ another a.front m.0 a.spelled m.2 (ap (λ t. a.front ++ t) m.1)
  ];
  whole = a.whole ∙ ap (λ t. a.front ++ t) b.whole ∙ sym (append_assoc a.front b.front rest);
}

-- what is taken as more segments is nothing, or `::` and segments
more_takes : (n : ℕ) (how : Style) (text : List ℕ) → Takes (MoreOf how) text (more_segments n how text)
unfolding next_segment
more_takes zero how text = record { front = []; spelled = inl refl; whole = refl }
more_takes (suc n) how text = elim (next_segment how text) as (λ r. next_segment how text ≡ r → Takes (MoreOf how) text (go_on (more_segments n how) text r)) [
  | None ↦ λ e. record { front = []; spelled = inl refl; whole = refl }
  | Some next ↦ λ e.
      let a = bind_some (after_colons text) (segment how) next e in
      let all = joined_more how a.0 next (more_segments n how next) (segment_takes how a.0 next a.2) (more_takes n how next) in
      record {
        front = 58 ∷ 58 ∷ all.front;
        spelled = inr (all.front, refl, all.spelled);
        whole = colons_are text a.0 a.1 ∙ ap (λ t. 58 ∷ 58 ∷ t) all.whole;
      }
] refl

-- what is taken as segments with `::` between them is such
pub joined_takes : (how : Style) (text rest : List ℕ) → joined how text ≡ Some rest → Takes (Joined how) text rest
unfolding joined
joined_takes how text rest h = elim (segment how text) as (λ r. segment how text ≡ r → option_map (all_segments how) r ≡ Some rest → Takes (Joined how) text rest) [
  | None ↦ λ e k. cc
  | Some mid ↦ λ e k.
      let same : all_segments how mid ≡ rest = cc in
      subst (λ (r : List ℕ). Takes (Joined how) text r) same (joined_more how text mid (all_segments how mid) (segment_takes how text mid e) (more_takes (length mid) how mid))
] refl h

-- What is spelled is read, up to its end or further.
joined_goes : (how : Style) (s : List ℕ) (r : List ℕ) → Joined how s → (x : List ℕ) × (segment how (s ++ r) ≡ Some x) × ((n : ℕ) → length x ≤ n → Leaves r (more_segments n how x))
unfolding next_segment
joined_goes how s r (one h) = (
  tail_from how r r,
  segment_reads how s r h,
  λ n below. leaves_along r (tail_from how r r) (more_segments n how (tail_from how r r))
      (takes_leaves (Tail how) r (tail_from how r r) (tail_takes how r)) (takes_leaves (MoreOf how) (tail_from how r r) (more_segments n how (tail_from how r r)) (more_takes n how (tail_from how r r))),
)
joined_goes how s r (another front back h more e) =
    let next = joined_goes how back r more in
    let colons : List ℕ = 58 ∷ 58 ∷ (back ++ r) in
    let read : segment how (s ++ r) ≡ Some colons = ap (λ t. segment how (t ++ r)) e ∙ ap (segment how) (append_assoc front (58 ∷ 58 ∷ back) r) ∙ segment_reads how front colons h in
    let shorter : length next.0 ≤ length (back ++ r) = takes_short (Segment how) (back ++ r) next.0 (segment_takes how (back ++ r) next.0 next.1) in (
      colons,
      read,
      λ n. elim n as (λ k. length colons ≤ k → Leaves r (more_segments k how colons)) [
        | zero ↦ λ below. absurd (omega arith)
        | suc m ↦ λ below. subst (λ (t : List ℕ). Leaves r t) (sym (ap (go_on (more_segments m how) colons) next.1)) (next.2 m (omega arith))
      ],
    )

-- segments with `::` between them are read to their end or further
pub joined_reaches : (how : Style) (s r : List ℕ) → Joined how s → (rest : List ℕ) × (joined how (s ++ r) ≡ Some rest) × Leaves r rest
unfolding joined
joined_reaches how s r h = let g = joined_goes how s r h in (all_segments how g.0, ap (option_map (all_segments how)) g.1, g.2 (length g.0) (omega arith))

-- ---- and a `::` in front

-- the first byte of a name begins a segment
pub joined_first : (how : Style) (s : List ℕ) → Joined how s → (b : ℕ) × (more : List ℕ) × (s ≡ b ∷ more) × (begins how b ≡ true)
joined_first how [] (one h) = absurd h
joined_first how (b ∷ s) (one h) = (b, s, refl, h.0)
joined_first how s (another [] back h more e) = absurd h
joined_first how s (another (b ∷ front) back h more e) = (b, front ++ (58 ∷ 58 ∷ back), e, h.0)

-- a byte that begins a segment is no colon
begins_no_colon : (how : Style) (b : ℕ) → begins how b ≡ true → b ≢ 58
begins_no_colon style.Word b h e = both_ways (begins style.Word b) (ap (begins style.Word) e) h
begins_no_colon style.Ref b h e = both_ways (begins style.Ref b) (ap (begins style.Ref) e) h
begins_no_colon style.Var b h e = both_ways (begins style.Var b) (ap (begins style.Var) e) h

-- where the first byte is no colon there is no `::`
pub no_colons : (b : ℕ) (text : List ℕ) → b ≢ 58 → after_colons (b ∷ text) ≡ None
no_colons b [] n = refl
no_colons b (c ∷ text) n = ap (λ v. cond (v && (c == 58)) (Some text) None) (ne_eqb b 58 n)

-- no `::` stands in front of segments
pub joined_no_colons : (how : Style) (s r : List ℕ) → Joined how s → after_colons (s ++ r) ≡ None
joined_no_colons how s r h = let f = joined_first how s h in ap (λ t. after_colons (t ++ r)) f.2 ∙ no_colons f.0 (f.1 ++ r) (begins_no_colon how f.0 f.3)

-- what is taken as a name is one
pub name_takes : (how : Style) (text rest : List ℕ) → name how text ≡ Some rest → Takes (Name how) text rest
unfolding name
name_takes how text rest h = elim (after_colons text) as (λ r. after_colons text ≡ r → name_behind how text r ≡ Some rest → Takes (Name how) text rest) [
  | None ↦ λ e k. let t = joined_takes how text rest k in record { front = t.front; spelled = inl t.spelled; whole = t.whole }
  | Some more ↦ λ e k. let t = joined_takes how more rest k in record { front = 58 ∷ 58 ∷ t.front; spelled = inr (t.front, refl, t.spelled); whole = colons_are text more e ∙ ap (λ u. 58 ∷ 58 ∷ u) t.whole }
] refl h

-- a name is read to its end or further
pub name_reaches : (how : Style) (s r : List ℕ) → Name how s → (rest : List ℕ) × (name how (s ++ r) ≡ Some rest) × Leaves r rest
unfolding name
name_reaches how s r (inl h) = let g = joined_reaches how s r h in (g.0, ap (name_behind how (s ++ r)) (joined_no_colons how s r h) ∙ g.1, g.2)
name_reaches how s r (inr h) = let g = joined_reaches how h.0 r h.2 in (g.0, ap (λ t. name how (t ++ r)) h.1 ∙ g.1, g.2)

-- segments leave no more than there was
pub joined_short : (how : Style) (text rest : List ℕ) → Some rest ≡ joined how text → length rest ≤ length text
joined_short how text rest h = takes_short (Joined how) text rest (joined_takes how text rest (sym h))
