-- Members of objects.
use Rattle.std.proofs.Common.{◌≡◌, ◌≢◌, ◌⊎◌, inl, inr, ℕ, List, [], ◌∷◌, ◌++◌, refl, sym, ◌∙◌}
use Rattle.std.specs.declared.cmp.Ordering.{Ordering}
use Rattle.std.specs.declared.cmp.Ordering.TheVariants.{Less, Equal, Greater}
use Rattle.std.specs.Ordering.{nat_cmp, match_ordering}
use Rattle.std.specs.Cmp.Lexicographic.{slice_cmp}
use Rattle.std.specs.FinMap.{nat_cmp-IsAntisymmetric, slice_cmp-IsAntisymmetric}
use Rattle.serde_json.specs.Data.{Data, Members, no_members, member, put}
use Rattle.serde_json.specs.View.{members_view}
use Rattle.serde_json.proofs.Views.{Entry}
use Rattle.tree_text.specs.TreeText.{HasMember}

-- keys that compare equal are the same
pub same_key : (k l : List ℕ) → slice_cmp nat_cmp k l ≡ Equal → k ≡ l
same_key = slice_cmp-IsAntisymmetric nat_cmp-IsAntisymmetric

-- ---- what is put

-- a member that was put is there
pub has_put : (k : List ℕ) (d : Data) (ms : Members) → HasMember k d (put k d ms)
has_put k d no_members = inl (refl, refl)
has_put k d (member l e ms) = at (slice_cmp nat_cmp k l) refl (has_put k d ms)
  where
    at : (o : Ordering) → slice_cmp nat_cmp k l ≡ o → HasMember k d (put k d ms) → HasMember k d (match_ordering o (member k d (member l e ms)) (member l d ms) (member l e (put k d ms)))
    at Less s later = inl (refl, refl)
    at Equal s later = inl (same_key k l s, refl)
    at Greater s later = inr later

-- and each with another key is still there
pub has_kept : (q : List ℕ) (c : Data) (k : List ℕ) (d : Data) (ms : Members) → q ≢ k → HasMember q c ms → HasMember q c (put k d ms)
has_kept q c k d no_members n h = absurd h
has_kept q c k d (member l e ms) n h = at (slice_cmp nat_cmp k l) refl (has_kept q c k d ms n) h
  where
    at : (o : Ordering) → slice_cmp nat_cmp k l ≡ o → (HasMember q c ms → HasMember q c (put k d ms)) → HasMember q c (member l e ms)
        → HasMember q c (match_ordering o (member k d (member l e ms)) (member l d ms) (member l e (put k d ms)))
    at Less s later h = inr h
    at Equal s later (inl h) = absurd (n (h.0 ∙ sym (same_key k l s)))
    at Equal s later (inr h) = inr h
    at Greater s later (inl h) = inl h
    at Greater s later (inr h) = inr (later h)

-- and no others are
pub has_only : (q : List ℕ) (c : Data) (k : List ℕ) (d : Data) (ms : Members) → HasMember q c (put k d ms) → ((q ≡ k) × (c ≡ d)) ⊎ HasMember q c ms
has_only q c k d no_members h = h
has_only q c k d (member l e ms) h = at (slice_cmp nat_cmp k l) refl (has_only q c k d ms) h
  where
    at : (o : Ordering) → slice_cmp nat_cmp k l ≡ o → (HasMember q c (put k d ms) → ((q ≡ k) × (c ≡ d)) ⊎ HasMember q c ms)
        → HasMember q c (match_ordering o (member k d (member l e ms)) (member l d ms) (member l e (put k d ms))) → ((q ≡ k) × (c ≡ d)) ⊎ HasMember q c (member l e ms)
    at Less s later h = h
    at Equal s later (inl h) = inl (h.0 ∙ sym (same_key k l s), h.1)
    at Equal s later (inr h) = inr (inr h)
    at Greater s later (inl h) = inr (inl h)
    at Greater s later (inr h) = elim (later h) [ inl x ↦ inl x | inr x ↦ inr (inr x) ]

-- ---- members as they are stored

-- a member of the first entries is one of all
pub has_left : (q : List ℕ) (c : Data) (es fs : List Entry) → HasMember q c (members_view es) → HasMember q c (members_view (es ++ fs))
has_left q c [] fs h = absurd h
has_left q c (e ∷ es) fs (inl h) = inl h
has_left q c (e ∷ es) fs (inr h) = inr (has_left q c es fs h)

-- a member of the later entries is one of all
pub has_right : (q : List ℕ) (c : Data) (es fs : List Entry) → HasMember q c (members_view fs) → HasMember q c (members_view (es ++ fs))
has_right q c [] fs h = h
has_right q c (e ∷ es) fs h = inr (has_right q c es fs h)

-- and a member of all is one of the first or of the later ones
pub has_either : (q : List ℕ) (c : Data) (es fs : List Entry) → HasMember q c (members_view (es ++ fs)) → HasMember q c (members_view es) ⊎ HasMember q c (members_view fs)
has_either q c [] fs h = inr h
has_either q c (e ∷ es) fs (inl h) = inl (inl h)
has_either q c (e ∷ es) fs (inr h) = elim (has_either q c es fs h) [ inl x ↦ inl (inr x) | inr x ↦ inr x ]
