-- What follows a shadow is one, and trees that are reached from one tree differ where those do that are reached from its shadow.
use Rattle.std.proofs.Common.{◌≡◌, ℕ, zero, suc, List, [], ◌∷◌, get_or, Option, Some, None, inl, inr, refl, sym, ap, subst, subst₂, ◌∙◌}
use Rattle.std.specs.Prelude.{is_some, IsTrue}
use Rattle.std.specs.FinMap as map
use Rattle.std.specs.FinMap.{same_map}
use Rattle.std.proofs.lemmas.Bool.{cases_Bool, or_left}
use Rattle.fs_semantics.specs.FileTree.{Entry, Folder, File, Link as LinkTo, Tree, parent, HasText}
use Rattle.fs_semantics.specs.Programs.{Program, Id, Outcome, run}
use Rattle.fs_semantics.specs.Orders.{outcome}
use Rattle.fs_semantics.proofs.Trees.{path_total, path_same}
use Rattle.finite_domain.specs.Mentions.{Matter, Mentions, AnyMentions}
use Rattle.finite_domain.specs.Domains.{Domain, is_known, is_text_among, IsDomain}
use Rattle.finite_domain.specs.Shadows.{IsOver, mapped, IsTextOf, IsShadow, EndAsShadows, StandsFor}
use Rattle.fs_semantics.proofs.Keys.{same_bool}
use Rattle.finite_domain.proofs.Paths.{fresh_unknown}
use Rattle.finite_domain.proofs.Runs.{other_over, Follows, EndAlike, starts, then_alike, runs_alike}

-- the text of a mapped entry is the image of the entry's
pub text_of_mapped : (m : List ℕ → List ℕ) (r : Option Entry) (c : List ℕ) → HasText (mapped m r) c → (b : List ℕ) × HasText r b × (c ≡ m b)
text_of_mapped m None c h = absurd h
text_of_mapped m (Some Folder) c h = absurd h
text_of_mapped m (Some (File content)) c h = (content, refl, h)
text_of_mapped m (Some (LinkTo target)) c h = (target, refl, h)

-- and the image of an entry's text is the mapped one's
mapped_text : (m : List ℕ → List ℕ) (r : Option Entry) (c : List ℕ) → HasText r c → HasText (mapped m r) (m c)
mapped_text m None c h = h
mapped_text m (Some Folder) c h = h
mapped_text m (Some (File content)) c h = ap m h
mapped_text m (Some (LinkTo target)) c h = ap m h

-- entries with one image are equal
unmapped : (m : List ℕ → List ℕ) (r q : Option Entry) → ((b c : List ℕ) → HasText r b → HasText q c → m b ≡ m c → b ≡ c) → mapped m r ≡ mapped m q → r ≡ q
unmapped m None None h e = refl
unmapped m None (Some x) h e = cc
unmapped m (Some x) None h e = cc
unmapped m (Some Folder) (Some Folder) h e = refl
unmapped m (Some Folder) (Some (File d)) h e = cc
unmapped m (Some Folder) (Some (LinkTo d)) h e = cc
unmapped m (Some (File c)) (Some Folder) h e = cc
unmapped m (Some (File c)) (Some (File d)) h e = ap (λ x. Some (File x)) (h c d refl refl (cc))
unmapped m (Some (File c)) (Some (LinkTo d)) h e = cc
unmapped m (Some (LinkTo c)) (Some Folder) h e = cc
unmapped m (Some (LinkTo c)) (Some (File d)) h e = cc
unmapped m (Some (LinkTo c)) (Some (LinkTo d)) h e = ap (λ x. Some (LinkTo x)) (h c d refl refl (cc))

-- what the program with a number mentions, the programs do
one_of : (es : List Program) (i : ℕ) (x : Matter) → Mentions (get_or es i Id) x → AnyMentions es x
one_of [] i x h = absurd h
one_of (e ∷ es) zero x h = inl h
one_of (e ∷ es) (suc i) x h = inr (one_of es i x h)

module _ (es : List Program) (d : Domain) (dom : IsDomain es d) (m : List ℕ → List ℕ) (t0 s0 : Tree) (shadow : IsShadow es d m t0 s0) where
  -- the texts of a tree that was reached are those of the first tree, or constants
  text_back : (u v : Tree) (c : List ℕ) → Follows es d dom m t0 s0 shadow u v → IsTextOf es d u c → IsTextOf es d t0 c
  text_back u v c f (inl constant) = inl constant
  text_back u v c f (inr place) = f.texts place.0 c place.1 place.2

  -- what a text becomes is a text of the domain
  image_over : (c : List ℕ) → IsTextOf es d t0 c → IsTrue (is_text_among (m c) d.contents)
  image_over c (inl constant) = subst (λ b. IsTrue (is_text_among b d.contents)) (sym (shadow.constants c constant)) ((dom.contents c).1 (inr (inl constant)))
  image_over c (inr place) = shadow.over.contents place.0 (m c)
      (subst (λ r. HasText r (m c)) (sym (shadow.entries place.0 place.1)) (mapped_text m (map.get t0 place.0) c place.2))

  -- a tree that was reached from the shadow is over the domain
  still_over : (u v : Tree) → Follows es d dom m t0 s0 shadow u v → IsOver d v
  still_over u v f = record {
    paths = λ p h. elim (cases_Bool (is_known d p)) [
      | inl named ↦ or_left _ _ named
      | inr other ↦ shadow.over.paths p (subst (λ r. IsTrue (is_some r)) (f.rest_too p other) h)
    ];
    contents = λ p c h. elim (cases_Bool (is_known d p)) [
      | inl named ↦
          let from = text_of_mapped m (map.get u p) c (subst (λ r. HasText r c) (f.entries p named) h) in
          subst (λ b. IsTrue (is_text_among b d.contents)) (sym from.2) (image_over from.0 (f.texts p from.0 named from.1))
      | inr other ↦ shadow.over.contents p c (subst (λ r. HasText r c) (f.rest_too p other) h)
    ];
  }

  -- a tree that was reached from the shadow is a shadow of the one that was reached from the tree
  pub still_shadow : (u v : Tree) → Follows es d dom m t0 s0 shadow u v → IsShadow es d m u v
  still_shadow u v f = record {
    over = still_over u v f;
    constants = shadow.constants;
    one_to_one = λ b c h k e. shadow.one_to_one b c (text_back u v b f h) (text_back u v c f k) e;
    entries = f.entries;
    others = λ q h. ap is_some (f.rest_too q (fresh_unknown es d dom q h)) ∙ shadow.others q h
        ∙ same_bool _ _ (other_over d t0 u (parent q) (λ p k. sym (f.rest p k))) (other_over d u t0 (parent q) f.rest);
  }

  -- runs that end alike end as a tree and its shadow
  end_as_shadows : (r q : Outcome) → EndAlike es d dom m t0 s0 shadow r q → EndAsShadows es d m t0 s0 r q
  end_as_shadows None None h = tt
  end_as_shadows None (Some v) h = h
  end_as_shadows (Some u) None h = h
  end_as_shadows (Some u) (Some v) h = record { shadow = still_shadow u v h; kept = h.rest; kept_too = h.rest_too }

  -- each program ends from a tree and from its shadow in a tree and its shadow, or in Error both times
  pub shadow_runs : (i : ℕ) → EndAsShadows es d m t0 s0 (run (get_or es i Id) t0) (run (get_or es i Id) s0)
  shadow_runs i = end_as_shadows _ _ (runs_alike es d dom m t0 s0 shadow (get_or es i Id) t0 s0 (one_of es i) (starts es d dom m t0 s0 shadow))

  -- each order ends alike from both
  orders_alike : (o : List ℕ) (u v : Tree) → Follows es d dom m t0 s0 shadow u v → EndAlike es d dom m t0 s0 shadow (outcome es o u) (outcome es o v)
  orders_alike [] u v f = f
  orders_alike (i ∷ o) u v f = then_alike es d dom m t0 s0 shadow _ _ (outcome es o) (outcome es o)
      (runs_alike es d dom m t0 s0 shadow (get_or es i Id) u v (one_of es i) f) (orders_alike o)

  -- ---- which trees are equal

  -- where runs from the tree reach one tree, those from the shadow do
  forth : (u v u' v' : Tree) → Follows es d dom m t0 s0 shadow u v → Follows es d dom m t0 s0 shadow u' v' → u ≡ u' → v ≡ v'
  forth u v u' v' f g e = same_map path_total path_same _ _ (λ q. elim (cases_Bool (is_known d q)) [
    | inl named ↦ f.entries q named ∙ ap (λ w. mapped m (map.get w q)) e ∙ sym (g.entries q named)
    | inr other ↦ f.rest_too q other ∙ sym (g.rest_too q other)
  ])

  -- and the other way round
  back : (u v u' v' : Tree) → Follows es d dom m t0 s0 shadow u v → Follows es d dom m t0 s0 shadow u' v' → v ≡ v' → u ≡ u'
  back u v u' v' f g e = same_map path_total path_same _ _ (λ q. elim (cases_Bool (is_known d q)) [
    | inl named ↦ unmapped m (map.get u q) (map.get u' q)
        (λ b c h k. shadow.one_to_one b c (f.texts q b named h) (g.texts q c named k))
        (sym (f.entries q named) ∙ ap (λ w. map.get w q) e ∙ g.entries q named)
    | inr other ↦ f.rest q other ∙ sym (g.rest q other)
  ])

  -- where two orders end in the same from the tree, they do from the shadow
  ends_forth : (r q r' q' : Outcome) → EndAlike es d dom m t0 s0 shadow r q → EndAlike es d dom m t0 s0 shadow r' q' → r ≡ r' → q ≡ q'
  ends_forth None None None None h k e = refl
  ends_forth None None None (Some v') h k e = absurd k
  ends_forth None None (Some u') q' h k e = cc
  ends_forth None (Some v) r' q' h k e = absurd h
  ends_forth (Some u) None r' q' h k e = absurd h
  ends_forth (Some u) (Some v) None q' h k e = cc
  ends_forth (Some u) (Some v) (Some u') None h k e = absurd k
  ends_forth (Some u) (Some v) (Some u') (Some v') h k e = ap (λ w. Some w) (forth u v u' v' h k (cc))

  -- and the other way round
  ends_back : (r q r' q' : Outcome) → EndAlike es d dom m t0 s0 shadow r q → EndAlike es d dom m t0 s0 shadow r' q' → q ≡ q' → r ≡ r'
  ends_back None None None None h k e = refl
  ends_back None None (Some u') None h k e = absurd k
  ends_back None None r' (Some v') h k e = cc
  ends_back None (Some v) r' q' h k e = absurd h
  ends_back (Some u) None r' q' h k e = absurd h
  ends_back (Some u) (Some v) r' None h k e = cc
  ends_back (Some u) (Some v) None (Some v') h k e = absurd k
  ends_back (Some u) (Some v) (Some u') (Some v') h k e = ap (λ w. Some w) (back u v u' v' h k (cc))

  -- an order ends in a tree from both or from neither
  both_end : (r q : Outcome) → EndAlike es d dom m t0 s0 shadow r q → is_some r ≡ is_some q
  both_end None None h = refl
  both_end None (Some v) h = absurd h
  both_end (Some u) None h = absurd h
  both_end (Some u) (Some v) h = refl

  -- a shadow stands for its tree
  pub stands_for : StandsFor es s0 t0
  stands_for =
      let start = starts es d dom m t0 s0 shadow in
      record {
        alike = λ o p. (ends_forth _ _ _ _ (orders_alike o t0 s0 start) (orders_alike p t0 s0 start), ends_back _ _ _ _ (orders_alike o t0 s0 start) (orders_alike p t0 s0 start));
        ends = λ o. both_end _ _ (orders_alike o t0 s0 start);
        again = λ o p u v h k.
            let first : Follows es d dom m t0 s0 shadow u v = subst₂ (EndAlike es d dom m t0 s0 shadow) h k (orders_alike o t0 s0 start) in
            (ends_forth _ _ (Some u) (Some v) (orders_alike p u v first) first, ends_back _ _ (Some u) (Some v) (orders_alike p u v first) first);
      }
