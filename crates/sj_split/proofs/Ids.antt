-- The home of tags tells the tags, since no id holds a space.
use Rattle.std.proofs.Common.{◌≡◌, ℕ, Bool, true, false, List, [], ◌∷◌, Contains, refl, sym, ap, ◌∙◌, subst, inl, inr, arith, eqb}
use Rattle.std.specs.Prelude.{◌↔◌, ◌&&◌, All, Some, length, nat_le}
use Rattle.std.specs.List.{list_all, join_with_byte, slice_split}
use Rattle.std.proofs.lemmas.Bool.{and_parts}
use Rattle.std.proofs.lemmas.Bool.Decides.{nat_tests}
use Rattle.std.proofs.lemmas.List.Elements.{All-nil, All-cons}
use Rattle.std.proofs.lemmas.List.Splits.{slice_split_none, slice_split_at}
use Rattle.sj_names.specs.EntryPoints.{is_id_byte, is_public_id, is_entry}
use Rattle.sj_names.specs.declared.entry_points.EntryPoint.{EntryPoint}
use Rattle.worklist.proofs.Inserted.{nothing_in}
use Rattle.sj_split.specs.declared.homes.Home.{Home}
use Rattle.sj_split.specs.Walks.{Name, Id, Reaches}
use Rattle.sj_split.specs.Homes.{home_of_tags}
use Rattle.sj_split.specs.Laws.{HomesTellTags}
use Rattle.sj_split.proofs.Members.{at_first, further, cons_cases}
use Rattle.sj_split.proofs.Walked.{then_both}

abbrev is_space : ℕ → Bool
is_space byte = eqb byte 32

abbrev IsFree : Id → Type 0
IsFree id = All (λ byte. is_space byte ≡ false) id

not_space : (byte : ℕ) → is_id_byte byte ≡ true → is_space byte ≡ false
not_space byte h = grind (arith, nat_tests)

free : (id : Id) → list_all is_id_byte id ≡ true → IsFree id
free [] h = All-nil (λ byte. is_space byte ≡ false)
free (byte ∷ bytes) h = let p = and_parts (is_id_byte byte) (list_all is_id_byte bytes) h in All-cons (λ b. is_space b ≡ false) byte bytes (not_space byte p.0) (free bytes p.1)

pub each_passes : {X : Type 0} (test : X → Bool) (xs : List X) (x : X) → list_all test xs ≡ true → Contains xs x → test x ≡ true
each_passes test [] x h there = nothing_in x there
each_passes {X} test (y ∷ ys) x h there = let p = and_parts (test y) (list_all test ys) h in elim (cons_cases y x ys there) [ inl e ↦ subst (λ (z : X). test z ≡ true) e p.0 | inr later ↦ each_passes test ys x p.1 later ]

-- the id of an entry has no space
free_id : (entry : EntryPoint) → is_entry entry ≡ true → IsFree entry.module
free_id entry h = free entry.module (id_bytes entry.module (and_parts (is_public_id entry.module) _ h).0)
  where
    id_bytes : (id : Id) → is_public_id id ≡ true → list_all is_id_byte id ≡ true
    id_bytes id e = (and_parts (nat_le 1 (length id) && nat_le (length id) 64) (list_all is_id_byte id) (and_parts _ _ (and_parts _ _ e).0).0).1

split_joined : (id : Id) (ids : List Id) → ((one : Id) → Contains (id ∷ ids) one → IsFree one) → slice_split is_space (join_with_byte 32 (id ∷ ids)) ≡ id ∷ ids
split_joined id [] each = slice_split_none is_space id (each id (at_first id []))
split_joined id (other ∷ ids) each = slice_split_at is_space id 32 (join_with_byte 32 (other ∷ ids)) (each id (at_first id (other ∷ ids))) refl ∙ ap (λ l. id ∷ l) (split_joined other ids (λ one h. each one (further id one (other ∷ ids) h)))

same_tags : (p q : List Id) (home : Home) → ((one : Id) → Contains p one → IsFree one) → ((one : Id) → Contains q one → IsFree one) → home_of_tags p ≡ Some home → home_of_tags q ≡ Some home → p ≡ q
same_tags [] q home f g h k = cc
same_tags (x ∷ []) [] home f g h k = cc
same_tags (x ∷ []) (y ∷ []) home f g h k = let e : x ≡ y = cc in ap (λ (id : Id). id ∷ []) e
same_tags (x ∷ []) (y ∷ z ∷ zs) home f g h k = cc
same_tags (x ∷ w ∷ ws) [] home f g h k = cc
same_tags (x ∷ w ∷ ws) (y ∷ []) home f g h k = cc
same_tags (x ∷ w ∷ ws) (y ∷ z ∷ zs) home f g h k =
    let e : join_with_byte 32 (x ∷ w ∷ ws) ≡ join_with_byte 32 (y ∷ z ∷ zs) = cc in
    sym (split_joined x (w ∷ ws) f) ∙ ap (λ l. slice_split is_space l) e ∙ split_joined y (z ∷ zs) g

pub homes_tell_tags : HomesTellTags
homes_tell_tags references entries valid a b home p q id =
    let tags : p.tags ≡ q.tags = same_tags p.tags q.tags home (λ one h. free_of one a ((p.are_tags.exact one).0 h)) (λ one h. free_of one b ((q.are_tags.exact one).0 h)) p.is_home q.is_home in
    then_both ((p.are_tags.exact id).1, (p.are_tags.exact id).0) (then_both (subst (λ (l : List Id). Contains p.tags id ↔ Contains l id) tags (λ h. h, λ h. h)) (q.are_tags.exact id))
  where
    free_of : (one : Id) (class : Name) → Reaches references entries one class → IsFree one
    free_of one class r = subst (λ (i : Id). IsFree i) r.in_module (free_id r.entry (each_passes is_entry entries r.entry valid.each r.among))
