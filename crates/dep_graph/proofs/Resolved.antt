-- What relations between nodes come from, and the first reference to nothing.
use Rattle.std.proofs.Common.{◌≡◌, ℕ, List, [], ◌∷◌, ◌++◌, map, cond, Option, Some, None, ◌⊎◌, inl, inr, refl, sym, ap, subst, ◌∙◌}
use Rattle.std.specs.Prelude.{Ok, Err, is_some}
use Rattle.std.specs.List.{Contains}
use Rattle.std.proofs.lemmas.List.Elements.{Contains-append_left, Contains-push, Contains-push_cases}
use Rattle.rh_base.specs.declared.fault.Refusal.{Refusal}
use Rattle.pp_value.specs.declared.value.Ref.{Ref}
use Rattle.pp_value.specs.Shown.{shown_ref}
use Rattle.pp_eval.specs.Evaluating.{◌>>=◌, refusal}
use Rattle.catalog_semantics.specs.Catalogs.{Catalog}
use Rattle.graph_semantics.specs.Relations.{target_of, first_missing}
use Rattle.dep_graph.specs.Links.{side_number, numbered, with_nodes}
use Rattle.dep_graph.specs.declared.targets.Side.{Side}
use Rattle.graph_semantics.proofs.Elements.{either_way, none_in, head_in, tail_in, in_cases}
use Rattle.graph_semantics.proofs.Basics.{err_ok, ok_same}
use Rattle.std.proofs.lemmas.Option.{same_Some}

-- a reference among some names this place, and this is the place's number
pub record IsNodeOf (s : Side) (c : Catalog) (refs : List Ref) (n : ℕ) : Type 0 where
  pub ref : Ref
  pub place : ℕ
  pub among : Contains refs ref
  pub names : target_of c ref ≡ Some place
  pub is : n ≡ side_number s c place

-- what is of some references is of more
weaker : (s : Side) (c : Catalog) (ref : Ref) (refs : List Ref) (n : ℕ) → IsNodeOf s c refs n → IsNodeOf s c (ref ∷ refs) n
weaker s c ref refs n h = record { ref = h.ref; place = h.place; among = tail_in ref h.ref refs h.among; names = h.names; is = h.is }

-- ---- the nodes of references

module _ (s : Side) (c : Catalog) (at : ℕ) where
  -- each node comes from a reference, or was there, where it is so of the others
  come_step : (ref : Ref) (refs : List Ref) (old ns : List ℕ) (t : Option ℕ) → target_of c ref ≡ t → numbered s c at ref t >>= (λ n. with_nodes s c at refs (old ++ n ∷ [])) ≡ Ok ns
      → ((m : ℕ) → with_nodes s c at refs (old ++ m ∷ []) ≡ Ok ns → (n : ℕ) → Contains ns n → Contains (old ++ m ∷ []) n ⊎ IsNodeOf s c refs n)
      → (n : ℕ) → Contains ns n → Contains old n ⊎ IsNodeOf s c (ref ∷ refs) n
  come_step ref refs old ns None is h rest n k = absurd (err_ok _ ns h)
  come_step ref refs old ns (Some place) is h rest n k =
      either_way
      (λ front. either_way (λ was. inl was) (λ same. inr (record { ref = ref; place = place; among = head_in ref refs; names = is; is = sym same }))
      (Contains-push_cases old (side_number s c place) n front))
      (λ more. inr (weaker s c ref refs n more))
      (rest (side_number s c place) h n k)

  -- each node comes from a reference, or was there
  pub nodes_come : (refs : List Ref) (old ns : List ℕ) → with_nodes s c at refs old ≡ Ok ns → (n : ℕ) → Contains ns n → Contains old n ⊎ IsNodeOf s c refs n
  nodes_come [] old ns h n k = inl (subst (λ xs. Contains xs n) (sym (ok_same old ns h)) k)
  nodes_come (ref ∷ refs) old ns h n k = come_step ref refs old ns (target_of c ref) refl h (λ m. nodes_come refs (old ++ m ∷ []) ns) n k

  -- all that was there is there, and so is the node of each reference
  pub record AreThere (refs : List Ref) (old ns : List ℕ) : Type 0 where
    pub stay : (n : ℕ) → Contains old n → Contains ns n
    pub there : (ref : Ref) (place : ℕ) → Contains refs ref → target_of c ref ≡ Some place → Contains ns (side_number s c place)

  -- each reference has its node, where it is so of the others
  there_step : (ref : Ref) (refs : List Ref) (old ns : List ℕ) (t : Option ℕ) → target_of c ref ≡ t → numbered s c at ref t >>= (λ n. with_nodes s c at refs (old ++ n ∷ [])) ≡ Ok ns
      → ((m : ℕ) → with_nodes s c at refs (old ++ m ∷ []) ≡ Ok ns → AreThere refs (old ++ m ∷ []) ns) → AreThere (ref ∷ refs) old ns
  there_step ref refs old ns None is h rest = absurd (err_ok _ ns h)
  there_step ref refs old ns (Some place) is h rest =
      let more = rest (side_number s c place) h in
      record {
        stay = λ n k. more.stay n (Contains-append_left old (side_number s c place ∷ []) n k);
        there = λ r p k names. either_way
            (λ same. subst (λ q. Contains ns (side_number s c q)) (same_Some place p (sym is ∙ ap (target_of c) same ∙ names)) (more.stay (side_number s c place) (Contains-push old (side_number s c place))))
            (λ tail. more.there r p tail names)
            (in_cases ref r refs k);
      }

  -- each reference has its node, and what was there stays
  pub nodes_there : (refs : List Ref) (old ns : List ℕ) → with_nodes s c at refs old ≡ Ok ns → AreThere refs old ns
  nodes_there [] old ns h = record { stay = λ n k. subst (λ xs. Contains xs n) (ok_same old ns h) k; there = λ ref place k. absurd (none_in ref k) }
  nodes_there (ref ∷ refs) old ns h = there_step ref refs old ns (target_of c ref) refl h (λ m. nodes_there refs (old ++ m ∷ []) ns)

  -- ---- the first reference to nothing

  -- the references with this place in the text
  abbrev marks : List Ref → List (Ref × ℕ)
  marks refs = map (λ ref. (ref, at)) refs

  -- a reference that names something isn't the first that doesn't
  none_step : (ref : Ref) (refs : List Ref) (old ns : List ℕ) (w x : Option Refusal) (t : Option ℕ) → numbered s c at ref t >>= (λ n. with_nodes s c at refs (old ++ n ∷ [])) ≡ Ok ns
      → ((m : ℕ) → with_nodes s c at refs (old ++ m ∷ []) ≡ Ok ns → w ≡ x) → cond (is_some t) w (Some (refusal 40 at (shown_ref ref))) ≡ x
  none_step ref refs old ns w x None h rest = absurd (err_ok _ ns h)
  none_step ref refs old ns w x (Some place) h rest = rest (side_number s c place) h

  -- where nodes are found of all references, the first to nothing is further on
  pub none_missing : (refs : List Ref) (old ns : List ℕ) (more : List (Ref × ℕ)) → with_nodes s c at refs old ≡ Ok ns → first_missing c (marks refs ++ more) ≡ first_missing c more
  none_missing [] old ns more h = refl
  none_missing (ref ∷ refs) old ns more h =
      none_step ref refs old ns (first_missing c (marks refs ++ more)) (first_missing c more) (target_of c ref) h (λ m. none_missing refs (old ++ m ∷ []) ns more)

  -- the refusal is at this reference, or at one of the others
  one_step : (ref : Ref) (refs : List Ref) (old : List ℕ) (r : Refusal) (w : Option Refusal) (t : Option ℕ) → numbered s c at ref t >>= (λ n. with_nodes s c at refs (old ++ n ∷ [])) ≡ Err r
      → ((m : ℕ) → with_nodes s c at refs (old ++ m ∷ []) ≡ Err r → w ≡ Some r) → cond (is_some t) w (Some (refusal 40 at (shown_ref ref))) ≡ Some r
  one_step ref refs old r w None h rest = let same : refusal 40 at (shown_ref ref) ≡ r = cc in ap (λ (y : Refusal). Some y) same
  one_step ref refs old r w (Some place) h rest = rest (side_number s c place) h

  -- where nodes aren't found, the refusal is that of the first reference to nothing
  pub one_missing : (refs : List Ref) (old : List ℕ) (r : Refusal) (more : List (Ref × ℕ)) → with_nodes s c at refs old ≡ Err r → first_missing c (marks refs ++ more) ≡ Some r
  one_missing [] old r more h = absurd (err_ok r old (sym h))
  one_missing (ref ∷ refs) old r more h =
      one_step ref refs old r (first_missing c (marks refs ++ more)) (target_of c ref) h (λ m. one_missing refs (old ++ m ∷ []) r more)
